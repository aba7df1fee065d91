-- What a note tells a test.
use Rattle.std.specs.Prelude.{ℕ, List, [], ◌∷◌, codes, if◌then◌else◌}
use Rattle.std.specs.Str.{bytes_eq}
use Rattle.core_events.specs.declared.note.Note.{Note}
use Rattle.core_events.specs.declared.note.Note.TheVariants as note
use Rattle.test_past.specs.declared.entry.RunEntry.{RunEntry}
use Rattle.test_past.specs.declared.entry.RunEntry.TheVariants.{Asked, Logged, Finished, Over, Called}

-- a call of the session table
abbrev pub called : (moment : ℕ) → List (List ℕ) → List RunEntry
called moment [] = []
called moment (first ∷ words) = if bytes_eq first (codes "table") then Called moment words ∷ [] else []

-- which server is asked, what is logged, why a connection finishes, that it is over, a call of the session table
abbrev pub told : Note → List RunEntry
told (note.Connect conn to) = Asked conn to ∷ []
told (note.History conn moment call reply) = called moment call
told (note.Log conn text) = Logged conn text ∷ []
told (note.Finish conn cause) = Finished conn cause ∷ []
told (note.Ended conn dropped) = Over conn ∷ []
told other = []
