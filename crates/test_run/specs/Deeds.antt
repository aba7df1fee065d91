-- What a line of a test does.
use Rattle.std.specs.Prelude.{◌≡◌, ◌⊎◌, ℕ, ◌+◌, ◌^◌, ◌≤◌, List, [], ◌∷◌, ◌++◌, Option, Some, None}
use Rattle.core_events.specs.Face.{Face, end_event, from_event, reset_event}
use Rattle.core_events.specs.declared.event.Event.{Event}
use Rattle.core_events.specs.declared.event.Event.TheVariants as event
use Rattle.px_bytes.specs.declared.addr.Addr.{Addr}
use Rattle.px_bytes.specs.declared.addr.Side.{Side}
use Rattle.test_past.specs.Standing.{conn_of}
use Rattle.test_past.specs.declared.entry.ClientConn.{ClientConn}
use Rattle.test_run.specs.Stand.{Gives, Refuses, Stand}
use Rattle.test_run.specs.declared.known.Amount.{Amount}
use Rattle.test_run.specs.declared.known.Meets.{Meets}
use Rattle.test_text.specs.declared.deed.Deed.{Deed}
use Rattle.test_text.specs.declared.deed.Deed.TheVariants as deed
use Rattle.test_text.specs.declared.deed.PeerDeed.{PeerDeed}
use Rattle.test_text.specs.declared.deed.PeerDeed.TheVariants as peer

-- a client more came
abbrev pub with_came : {S : Type 0} → ClientConn → Stand S → Stand S
with_came one s = record s { known = record (s.known) { came = s.known.came ++ one ∷ [] } }

-- it is said how many bytes a side takes, or how a server meets those that connect
abbrev pub with_amount : {S : Type 0} → Amount → Stand S → Stand S
with_amount one s = record s { known = record (s.known) { amounts = s.known.amounts ++ one ∷ [] } }

abbrev pub with_meets : {S : Type 0} → Meets → Stand S → Stand S
with_meets one s = record s { known = record (s.known) { meets = s.known.meets ++ one ∷ [] } }

-- a client is accepted, as the next connection
pub record Comes {S : Type 0} (face : Face S) (client : ℕ) (from : Addr) (to : List ℕ) (a b : Stand S) : Type 0 where
  pub number : ℕ
  pub next : face.next a.core (Some number)
  pub between : Stand S
  pub gives : Gives face (event.Accept number to from) a between
  pub came : b ≡ with_came (record { client = client; conn = number }) between

-- an event of a client's connection is given
pub record OnConn {S : Type 0} (face : Face S) (client : ℕ) (event : ℕ → Event) (a b : Stand S) : Type 0 where
  pub conn : ℕ
  pub of_client : conn_of client a.known.came ≡ Some conn
  pub gives : Gives face (event conn) a b

abbrev pub DoesPeer : {S : Type 0} → Face S → Side → ℕ → PeerDeed → Stand S → Stand S → Type 0
DoesPeer face side client (peer.Sends bytes) a b = OnConn face client (λ conn. from_event side conn bytes) a b
DoesPeer face side client peer.Ends a b = OnConn face client (end_event side) a b
DoesPeer face side client peer.Resets a b = OnConn face client (reset_event side) a b
DoesPeer face side client (peer.Takes most) a b =
    b ≡ with_amount (record { side = side; client = client; most = most }) a

-- so many milliseconds pass
pub record Ticks {S : Type 0} (face : Face S) (milliseconds : ℕ) (a b : Stand S) : Type 0 where
  pub moment : ℕ
  pub present : face.moment a.core moment
  pub gives : Gives face (event.Tick (moment + milliseconds)) a b

abbrev pub DoesDeed : {S : Type 0} → Face S → Deed → Stand S → Stand S → Type 0
DoesDeed face (deed.Comes client from to) a b = Comes face client from to.name a b
DoesDeed face (deed.Does side client it) a b = DoesPeer face side client it a b
DoesDeed face (deed.Meets server meeting) a b = b ≡ with_meets (record { addr = server.addr; meeting = meeting }) a
DoesDeed face (deed.Marks pool member up) a b = Gives face (event.Mark pool.name member.addr up) a b
DoesDeed face (deed.Waits milliseconds) a b = Ticks face milliseconds a b

-- ---- deeds that can't be done

-- no client more may come, or its connection is refused
abbrev pub RefusesAccept : {S : Type 0} → Face S → Option ℕ → Addr → List ℕ → Stand S → Stand S → Type 0
RefusesAccept face None from to a b = b ≡ a
RefusesAccept face (Some number) from to a b = Refuses face (event.Accept number to from) a b

pub record ComesNot {S : Type 0} (face : Face S) (from : Addr) (to : List ℕ) (a b : Stand S) : Type 0 where
  pub number : Option ℕ
  pub next : face.next a.core number
  pub refuses : RefusesAccept face number from to a b

-- a client hasn't come, or the event of its connection is refused
abbrev pub RefusesOn : {S : Type 0} → Face S → (conn : Option ℕ) → (ℕ → Event) → Stand S → Stand S → Type 0
RefusesOn face None event a b = b ≡ a
RefusesOn face (Some conn) event a b = Refuses face (event conn) a b

abbrev pub RefusesOf : {S : Type 0} → Face S → (client : ℕ) → (ℕ → Event) → Stand S → Stand S → Type 0
RefusesOf face client event a b = RefusesOn face (conn_of client a.known.came) event a b

abbrev pub RefusesPeer : {S : Type 0} → Face S → Side → ℕ → PeerDeed → Stand S → Stand S → Type 0
RefusesPeer face side client (peer.Sends bytes) a b = RefusesOf face client (λ conn. from_event side conn bytes) a b
RefusesPeer face side client peer.Ends a b = RefusesOf face client (end_event side) a b
RefusesPeer face side client peer.Resets a b = RefusesOf face client (reset_event side) a b
RefusesPeer face side client (peer.Takes most) a b = ⊥

-- the moment would be no number of 64 bits, or is refused
pub record TicksNot {S : Type 0} (face : Face S) (milliseconds : ℕ) (a b : Stand S) : Type 0 where
  pub moment : ℕ
  pub present : face.moment a.core moment
  pub refuses : ((2 ^ 64 ≤ moment + milliseconds) × (b ≡ a)) ⊎ Refuses face (event.Tick (moment + milliseconds)) a b

abbrev pub RefusesDeed : {S : Type 0} → Face S → Deed → Stand S → Stand S → Type 0
RefusesDeed face (deed.Comes client from to) a b = ComesNot face from to.name a b
RefusesDeed face (deed.Does side client it) a b = RefusesPeer face side client it a b
RefusesDeed face (deed.Meets server meeting) a b = ⊥
RefusesDeed face (deed.Marks pool member up) a b = Refuses face (event.Mark pool.name member.addr up) a b
RefusesDeed face (deed.Waits milliseconds) a b = TicksNot face milliseconds a b
