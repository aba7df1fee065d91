use Rattle.test_text.proofs.Lines.{not_alone}
use Rattle.test_text.proofs.line.alone.Goals as goal

pub returns-in-len1-up : goal.returns-in-len1-up
returns-in-len1-up c = not_alone _ c.args.rest.now c.in-len1-up.len_at_least
