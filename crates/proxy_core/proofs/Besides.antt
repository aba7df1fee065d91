-- The replies that notes tell.
use Rattle.std.proofs.Common.{◌≡◌, refl, ap, List, [], ◌∷◌, map}
use Rattle.core_events.specs.declared.note.Note.{Note}
use Rattle.core_events.specs.declared.note.Note.TheVariants as note
use Rattle.conn_trace.specs.Tellings.{tells, replies_told}
use Rattle.record_model.specs.History.{entries_in}

-- the replies that notes tell are those of their entries
pub replies_are : (notes : List Note) → replies_told (map tells notes) ≡ map (λ e. e.reply) (entries_in notes)
replies_are [] = refl
replies_are (note.History c moment call r ∷ notes) = ap (λ x. r ∷ x) (replies_are notes)
replies_are (n ∷ notes) = replies_are notes
