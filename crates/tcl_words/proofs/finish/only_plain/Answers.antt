use Rattle.tcl_words.proofs.Finishing.{only_one}
use Rattle.tcl_words.proofs.finish.only_plain.Goals as goal

pub returns-in_default : goal.returns-in_default
returns-in_default c = only_one c.args.parts.now c.in_default.len_at_least
