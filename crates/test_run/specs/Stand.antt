-- Where a run stands, and an event that is given.
use Rattle.std.specs.Prelude.{◌≡◌, ℕ, List, [], ◌∷◌, ◌++◌, flat_map, take, None}
use Rattle.core_events.specs.declared.event.Event.{Event}
use Rattle.core_events.specs.declared.note.Note.{Note}
use Rattle.core_events.specs.Face.{Face, took_event}
use Rattle.px_bytes.specs.declared.addr.Side.{Side}
use Rattle.test_past.specs.declared.entry.RunEntry.{RunEntry}
use Rattle.test_past.specs.declared.entry.RunEntry.TheVariants.{Given, Took}
use Rattle.test_run.specs.Told.{told}
use Rattle.test_run.specs.declared.known.Known.{Known}
use Rattle.test_run.specs.declared.run.TestRun.{TestRun}

-- the core, what the test said of its peers, and what happened
pub record Stand (S : Type 0) : Type 0 where
  pub core : S
  pub known : Known
  pub entries : List RunEntry

abbrev pub stand : {S : Type 0} → TestRun S → Stand S
stand run = record { core = run.core; known = run.known; entries = run.entries }

-- nothing was said
abbrev pub start_known : Known
start_known = record { came = []; amounts = []; meets = []; sending = None }

-- with an entry more
abbrev pub with_entry : {S : Type 0} → RunEntry → Stand S → Stand S
with_entry entry s = record s { entries = s.entries ++ entry ∷ [] }

-- an event that isn't refused moves the core, and is kept with what its notes tell
pub record Gives {S : Type 0} (face : Face S) (e : Event) (a b : Stand S) : Type 0 where
  pub group : List Note
  pub moved : face.moved a.core e group b.core
  pub known : b.known ≡ a.known
  pub entries : b.entries ≡ (a.entries ++ Given e ∷ []) ++ flat_map told group

-- the first bytes that are pending to a side are kept, so many
pub record Keeps {S : Type 0} (face : Face S) (side : Side) (conn n : ℕ) (a b : Stand S) : Type 0 where
  pub pending : List ℕ
  pub queue : face.queue a.core conn side pending
  pub kept : b ≡ with_entry (Took conn side (take n pending)) a

-- a side takes the first bytes that are pending to it, so many, which are kept
pub record Takes {S : Type 0} (face : Face S) (side : Side) (conn n : ℕ) (a b : Stand S) : Type 0 where
  pub between : Stand S
  pub keeps : Keeps face side conn n a between
  pub gives : Gives face (took_event side conn n) between b

-- ---- an event that is refused

-- A core that stands as it should doesn't take the event. It is kept all the same, without any note.
pub record Refuses {S : Type 0} (face : Face S) (e : Event) (a b : Stand S) : Type 0 where
  pub not_taken : face.stands a.core → face.takes a.core e → ⊥
  pub stands : face.stands a.core → face.stands b.core
  pub known : b.known ≡ a.known
  pub entries : b.entries ≡ a.entries ++ Given e ∷ []

-- a side doesn't take the first bytes that are pending to it, so many, which are kept
pub record RefusesTake {S : Type 0} (face : Face S) (side : Side) (conn n : ℕ) (a b : Stand S) : Type 0 where
  pub between : Stand S
  pub keeps : Keeps face side conn n a between
  pub refuses : Refuses face (took_event side conn n) between b
