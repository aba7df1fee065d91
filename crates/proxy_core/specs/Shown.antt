-- What notes of a connection are: those that show an item, those that close something, why it
-- finishes.
use Rattle.std.specs.Prelude.{List, [], ◌∷◌, Bool, true, false, if◌then◌else◌}
use Rattle.std.specs.List.{flat_map}
use Rattle.core_events.specs.declared.note.Cause.{Cause}
use Rattle.core_events.specs.declared.note.Cause.TheVariants.{Memory}
use Rattle.core_events.specs.declared.note.Note.{Note}
use Rattle.core_events.specs.declared.note.Note.TheVariants as note

-- a note that shows an item
abbrev pub shows : Note → Bool
shows (note.Sleep c until) = false
shows (note.History c moment call reply) = false
shows (note.Finish c Memory) = false
shows (note.HalfClose c side) = false
shows (note.CloseServer c) = false
shows (note.CloseClient c) = false
shows (note.Ended c dropped) = false
shows other = true

-- a note that something is closed for good
abbrev pub closes : Note → Bool
closes (note.CloseServer c) = true
closes (note.CloseClient c) = true
closes (note.Ended c dropped) = true
closes other = false

-- a note that the client's end is, or that it is over
abbrev pub closes_for_good : Note → Bool
closes_for_good (note.CloseClient c) = true
closes_for_good (note.Ended c dropped) = true
closes_for_good other = false

-- a note that it is over
abbrev pub ends_it : Note → Bool
ends_it (note.Ended c dropped) = true
ends_it other = false

-- why a connection finishes, by its notes
abbrev pub cause_told : Note → List Cause
cause_told (note.Finish c cause) = cause ∷ []
cause_told other = []

abbrev pub causes_told : List Note → List Cause
causes_told notes = flat_map cause_told notes

-- a Finish for want of memory, where it found none
abbrev pub causes_behind : Bool → List Cause
causes_behind failed = if failed then Memory ∷ [] else []
