use Rattle.std.proofs.Common.{sym, ◌∙◌}
use Rattle.journal_text.proofs.Failing.{bad_hex}
use Rattle.journal_text.proofs.fields.bytes_words.Goals as goal

pub returns-in-None : goal.returns-in-None
returns-in-None c =
    bad_hex c.args.conn.now c.args.bytes.now c.in-Some.conn c.in-Some.ensures.found.0 c.in-Some.ensures.found.1 (sym c.in_ok-bytes.ensures.value ∙ c.in-None.is)
