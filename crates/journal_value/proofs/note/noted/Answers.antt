use Rattle.std.proofs.Common.{option_map}
use Rattle.journal_value.specs.Words.{more_words, words_of}
use Rattle.journal_value.proofs.HeadNotes.{head_result}
use Rattle.journal_value.proofs.note.noted.Goals as goal

pub returns-in-Some : goal.returns-in-Some
returns-in-Some c =
    let head = c.in-Some.head in
    head_result (words_of c.args.line.now) head.verb head.conn (more_words (option_map (λ x. x.now) head.rest)) c.note_behind.result c.in-Some.ensures.found c.in-Some.ensures.conn c.note_behind.ensures
