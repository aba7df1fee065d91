-- A listener or a link is asked: for a connection, for the answer to a connect, for bytes.
use Rattle.std.specs.Prelude.{◌≡◌, ◌⊎◌, ℕ, ◌<◌, ◌≤◌, List, [], ◌∷◌, Bool, true, false}
use Rattle.std.specs.Prelude.{Option, Some, None, Ok}
use Rattle.px_bytes.specs.declared.addr.Side.{Side}
use Rattle.px_bytes.specs.declared.addr.Side.TheVariants.{Client, Server}
use Rattle.px_outside.specs.declared.answers.ReadyAt.{ReadyAt}
use Rattle.px_outside.specs.declared.answers.ReadyAt.TheVariants as ready
use Rattle.px_outside.specs.declared.answers.Accepted.TheVariants as accepted
use Rattle.px_outside.specs.declared.answers.ConnectAnswer.{ConnectAnswer}
use Rattle.px_outside.specs.declared.answers.ConnectAnswer.TheVariants as connect
use Rattle.px_outside.specs.declared.answers.ReadAnswer.{ReadAnswer}
use Rattle.px_outside.specs.declared.answers.ReadAnswer.TheVariants as read
use Rattle.px_outside.specs.Net.{Call, Accept, Ask, Read}
use Rattle.serve_loop.specs.declared.link_owner.LinkOwner.{LinkOwner}
use Rattle.serve_loop.specs.Links.{owner_in}
use Rattle.serve_loop.specs.declared.polled.Polled.{Polled}
use Rattle.serve_loop.specs.declared.polled.Polled.TheVariants as is
use Rattle.core_events.specs.Face.{Face, MayCome}
use Rattle.serve_loop.specs.Often.{NotAsked}
use Rattle.serve_loop.specs.Walk.{Around, Given, Step, Asked as Asks, Calls}

-- the call asks this listener or link
abbrev pub IsOn : ReadyAt → Call → Type 0
IsOn (ready.Listener slot) (Accept at answer) = at ≡ slot
IsOn (ready.Link link) (Ask at answer) = at ≡ link
IsOn (ready.Link link) (Read at room answer bytes) = at ≡ link
IsOn at call = ⊥

-- a connect that isn't answered yet or is refused
abbrev pub connect_over : ConnectAnswer → Bool
connect_over connect.Connected = false
connect_over other = true

abbrev pub read_over : ReadAnswer → Bool
read_over (read.Got n) = false
read_over other = true

-- it gives no more by now: NotYet, an end, a reset, a refusal
abbrev pub takes_back : Call → Bool
takes_back (Accept slot (Ok accepted.NotYet)) = true
takes_back (Ask link answer) = connect_over answer
takes_back (Read link room answer bytes) = read_over answer
takes_back call = false

-- it is asked once, and gives more or no more by now
pub record OneCall {C : Type 0} (face : Face C) (conns : ℕ) (at : ReadyAt) (over : Bool)
    (a : Around C) (steps : List Step) (b : Around C) : Type 0 where
  pub call : Call
  pub given : Option Given
  pub steps_are : steps ≡ Asks call given ∷ []
  pub on : IsOn at call
  pub over_is : takes_back call ≡ over
  pub calls : Calls face conns a call given b

-- the connect of that side isn't waited for
abbrev pub NotConnecting : {C : Type 0} → Face C → Around C → ℕ → Side → Type 0
NotConnecting face a c Client = Unit {0}
NotConnecting face a c Server = face.connecting a.core c false

-- nothing more is wanted of the link
pub record NotWanted {C : Type 0} (face : Face C) (a : Around C) (link : ℕ) : Type 0 where
  pub row : LinkOwner
  pub owned : owner_in a.links link ≡ Some row
  pub waits : NotConnecting face a row.conn row.side
  pub wants : face.wants a.core row.conn row.side 0

-- no connection may be accepted; nothing more is wanted
abbrev pub MayNot : {C : Type 0} → Face C → ℕ → Around C → ReadyAt → Type 0
MayNot face conns a (ready.Listener slot) = face.next a.core None
    ⊎ ((number : ℕ) × face.next a.core (Some number) × (conns < number))
MayNot face conns a (ready.Link link) = NotWanted face a link

-- no virtual server listens there, the link isn't open
abbrev pub IsUnknown : {C : Type 0} → Face C → Around C → ReadyAt → Type 0
IsUnknown face a (ready.Listener slot) = face.name a.core slot None
IsUnknown face a (ready.Link link) = owner_in a.links link ≡ None

abbrev pub AskedOnce : {C : Type 0} → Face C → ℕ → ReadyAt → Polled
    → Around C → List Step → Around C → Type 0
AskedOnce face conns at is.Again a steps b = OneCall face conns at false a steps b
AskedOnce face conns at is.Stays a steps b = NotAsked (λ x. MayNot face conns x at) a steps b
AskedOnce face conns at is.Over a steps b = OneCall face conns at true a steps b
    ⊎ NotAsked (λ x. IsUnknown face x at) a steps b

-- so many bytes of a side are wanted, or more
pub record IsWanted {C : Type 0} (face : Face C) (core : C) (c : ℕ) (side : Side) (n : ℕ)
    : Type 0 where
  pub wanted : ℕ
  pub wants : face.wants core c side wanted
  pub within : n ≤ wanted
  pub may : MayCome (face.takes core) c side wanted
