-- One call on a net, with its answer, and the calls of a run.
use Rattle.std.specs.Prelude.{◌≡◌, ℕ, ◌<◌, ◌≤◌, List, [], ◌∷◌, take, All, Result}
use Rattle.px_bytes.specs.declared.addr.Addr.{Addr}
use Rattle.px_outside.specs.declared.failed.Failed.{Failed}
use Rattle.px_outside.specs.declared.answers.ReadyAt.{ReadyAt}
use Rattle.px_outside.specs.declared.answers.ReadyAt.TheVariants as ready
use Rattle.px_outside.specs.declared.answers.Accepted.{Accepted}
use Rattle.px_outside.specs.declared.answers.Accepted.TheVariants as accepted
use Rattle.px_outside.specs.declared.answers.ReadAnswer.{ReadAnswer}
use Rattle.px_outside.specs.declared.answers.ReadAnswer.TheVariants as read
use Rattle.px_outside.specs.declared.answers.WriteAnswer.{WriteAnswer}
use Rattle.px_outside.specs.declared.answers.WriteAnswer.TheVariants as write
use Rattle.px_outside.specs.declared.answers.ConnectAnswer.{ConnectAnswer}

-- each constructor is a method of a net, with its arguments and its answer
pub data Call : Type 0 where
  Listen : (slot : ℕ) → Addr → Result (Unit {0}) Failed → Call
  Wait : (until : ℕ) → (listed : List ReadyAt) → Result (Unit {0}) Failed → Call
  Accept : (slot : ℕ) → Result Accepted Failed → Call
  Connect : (to : Addr) → Result ℕ Failed → Call
  Ask : (link : ℕ) → ConnectAnswer → Call
  Read : (link room : ℕ) → ReadAnswer → (bytes : List ℕ) → Call
  Write : (link : ℕ) → (bytes : List ℕ) → WriteAnswer → Call
  Finish : (link : ℕ) → Call
  Close : (link : ℕ) → Call

-- each call leads from the state that the one before left
abbrev pub Chain : {S : Type 0} → (S → Call → S → Type 0) → S → List Call → S → Type 0
Chain did old [] new = new ≡ old
Chain {S} did old (c ∷ calls) new = (mid : S) × did old c mid × Chain did mid calls new

-- what a read put into the room
abbrev pub got : ReadAnswer → List ℕ → List ℕ
got (read.Got n) room = take n room
got _ room = []

-- a read gives a byte at least, and no more than the room holds
abbrev pub ReadsWithin : ℕ → ReadAnswer → Type 0
ReadsWithin len (read.Got n) = (0 < n) × (n ≤ len)
ReadsWithin len _ = Unit {0}

-- a write takes a byte at least, and no more than there are
abbrev pub WritesWithin : ℕ → WriteAnswer → Type 0
WritesWithin len (write.Took n) = (0 < n) × (n ≤ len)
WritesWithin len _ = Unit {0}

-- a number that was given stays given, a link that is closed stays closed, and no count falls
pub record Lasts (gave alive : ℕ → Type 0) (faults : ℕ) (link_faults : ℕ → ℕ)
    (gave' alive' : ℕ → Type 0) (faults' : ℕ) (link_faults' : ℕ → ℕ) : Type 0 where
  pub given : (n : ℕ) → gave n → gave' n
  pub closed : (n : ℕ) → gave n → alive' n → alive n
  pub own : faults ≤ faults'
  pub each : (n : ℕ) → link_faults n ≤ link_faults' n

-- the number is given now, and was not before
pub record IsNew (gave gave' : ℕ → Type 0) (n : ℕ) : Type 0 where
  pub before : gave n → ⊥
  pub now : gave' n

abbrev pub GivesNew : (ℕ → Type 0) → (ℕ → Type 0) → Accepted → Type 0
GivesNew gave gave' (accepted.One link from) = IsNew gave gave' link
GivesNew gave gave' accepted.NotYet = Unit {0}

-- where something may be ready, it is no closed link
abbrev pub IsAlive : (ℕ → Type 0) → ReadyAt → Type 0
IsAlive alive (ready.Listener slot) = Unit {0}
IsAlive alive (ready.Link n) = alive n

abbrev pub ListsAlive : (ℕ → Type 0) → List ReadyAt → Type 0
ListsAlive alive list = All (IsAlive alive) list
