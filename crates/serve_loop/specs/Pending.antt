-- In each turn every open link to which something is pending is asked to take it.
use Rattle.std.specs.Prelude.{◌≡◌, ◌⊎◌, ℕ, ◌≤◌, ◌-◌, List, [], ◌∷◌, ◌++◌, length}
use Rattle.std.specs.Prelude.{Bool, true, false, Option, Some, nat_eq}
use Rattle.std.specs.List.{list_any}
use Rattle.px_bytes.specs.declared.addr.Addr.{Addr}
use Rattle.px_bytes.specs.declared.addr.Side.{Side}
use Rattle.px_outside.specs.declared.answers.WriteAnswer.TheVariants as write
use Rattle.px_outside.specs.Net.{Write}
use Rattle.core_events.specs.declared.note.Note.{Note}
use Rattle.core_events.specs.declared.event.Event.{Event}
use Rattle.core_events.specs.declared.event.Event.TheVariants as event
use Rattle.core_events.specs.Face.{Face, took_event, reset_event}
use Rattle.serve_loop.specs.declared.carry.Action.{Action}
use Rattle.serve_loop.specs.declared.carry.Action.TheVariants as does
use Rattle.serve_loop.specs.Carrying.{action}
use Rattle.serve_loop.specs.Links.{link_in}
use Rattle.serve_loop.specs.Walk.{Around, Step, Asked}

-- ---- a core whose connections send in their Runs alone

-- an event that isn't refused moves a core that stands
pub record Moved {C : Type 0} (face : Face C) (a : C) (e : Event) (group : List Note) (b : C)
    : Type 0 where
  pub stands : face.stands a
  pub taken : face.takes a e
  pub moved : face.moved a e group b

-- a Run of this connection
pub record IsRunOf {C : Type 0} (face : Face C) (core : C) (e : Event) (c : ℕ) : Type 0 where
  pub is_run : e ≡ event.Run
  pub ready : face.ready core (Some c)

-- a byte at least is pending to the side
pub record IsPending {C : Type 0} (face : Face C) (core : C) (c : ℕ) (side : Side) : Type 0 where
  pub byte : ℕ
  pub more : List ℕ
  pub queued : face.queue core c side (byte ∷ more)

-- the connections for which notes ask for a server
abbrev pub server_asked : Action → List ℕ
server_asked (does.Connects c to) = c ∷ []
server_asked other = []

abbrev pub servers_asked : List Note → List ℕ
servers_asked [] = []
servers_asked (n ∷ notes) = server_asked (action n) ++ servers_asked notes

-- Something gets pending to a connection in its own Run alone, in which alone it asks for a server.
-- It begins with nothing pending; what a side took isn't pending any more, nor is anything once it
-- was reset. Each question has one answer while the core stands.
pub record SendsInRuns {C : Type 0} (face : Face C) : Type 0 where
  pub stands : (a : C) (e : Event) (group : List Note) (b : C) → Moved face a e group b
      → face.stands b
  pub one_queue : (a : C) (c : ℕ) (side : Side) (x y : List ℕ) → face.stands a
      → face.queue a c side x → face.queue a c side y → x ≡ y
  pub one_ready : (a : C) (x y : Option ℕ) → face.stands a → face.ready a x → face.ready a y
      → x ≡ y
  pub one_next : (a : C) (x y : Option ℕ) → face.stands a → face.next a x → face.next a y → x ≡ y
  pub sends : (a : C) (e : Event) (group : List Note) (b : C) → Moved face a e group b
      → (c : ℕ) (side : Side) → IsPending face b c side
      → IsRunOf face a e c ⊎ IsPending face a c side
  pub asks : (a : C) (e : Event) (group : List Note) (b : C) → Moved face a e group b → (c : ℕ)
      → list_any (nat_eq c) (servers_asked group) ≡ true → IsRunOf face a e c
  pub begins : (a : C) (c : ℕ) (vs : List ℕ) (from : Addr) (group : List Note) (b : C)
      → Moved face a (event.Accept c vs from) group b → (side : Side) → IsPending face b c side → ⊥
  pub takes : (a : C) (c : ℕ) (side : Side) (n : ℕ) (group : List Note) (b : C)
      → Moved face a (took_event side c n) group b → (x y : List ℕ) → face.queue a c side x
      → face.queue b c side y → length y ≤ length x - n
  pub resets : (a : C) (c : ℕ) (side : Side) (group : List Note) (b : C)
      → Moved face a (reset_event side c) group b → IsPending face b c side → ⊥

-- ---- what is pending is asked for

-- the side has an open link, and something is pending to it
pub record PendingOn {C : Type 0} (face : Face C) (a : Around C) (c : ℕ) (side : Side) (link : ℕ)
    : Type 0 where
  pub linked : link_in a.links c side ≡ Some link
  pub pending : IsPending face a.core c side

-- each connection with such a link is among these
abbrev pub AllAmong : {C : Type 0} → Face C → Around C → List ℕ → Type 0
AllAmong face a numbers = (c : ℕ) (side : Side) (link : ℕ) → PendingOn face a c side link
    → list_any (nat_eq c) numbers ≡ true

-- the link was asked to take bytes, and took no more by now
abbrev pub takes_no_more : ℕ → Step → Bool
takes_no_more link (Asked (Write at bytes write.NotYet) given) = nat_eq link at
takes_no_more link other = false

abbrev pub IsWrite : Step → Type 0
IsWrite (Asked (Write link bytes answer) given) = Unit {0}
IsWrite other = ⊥
