use Rattle.tcl_commands.proofs.OneKind.{one_kind}
use Rattle.tcl_commands.proofs.laws.one_kind.Goals as goal

pub returns : goal.returns
returns c = one_kind
