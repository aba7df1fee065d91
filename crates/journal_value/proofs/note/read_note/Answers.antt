use Rattle.journal_value.proofs.NoteTexts.{line_result}
use Rattle.journal_value.proofs.note.read_note.Goals as goal

pub returns : goal.returns
returns c = line_result c.args.line.now c.noted.result c.noted.ensures
