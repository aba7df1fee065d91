use Rattle.tcl_words.proofs.Joined.{one_script_read}
use Rattle.tcl_words.proofs.laws.one_reading.Goals as goal

pub returns : goal.returns
returns c = one_script_read
