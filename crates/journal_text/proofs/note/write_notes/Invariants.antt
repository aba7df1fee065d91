use Rattle.std.proofs.Common.{◌≡◌, ◌++◌, drop}
use Rattle.journal_text.specs.Notes.{note_lines}
use Rattle.journal_text.proofs.note.write_notes.Given as goal

abbrev pub invariant-loop-note : goal.invariant-loop-note
invariant-loop-note l = l.text ++ note_lines (drop l.note-index l.notes) ≡ note_lines l.notes
