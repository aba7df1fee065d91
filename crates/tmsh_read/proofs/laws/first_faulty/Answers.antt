use Rattle.tmsh_read.proofs.FirstFaulty.{first_faulty}
use Rattle.tmsh_read.specs.declared.gap.Gap.TheVariants.{LineStart}
use Rattle.tmsh_read.proofs.laws.first_faulty.Goals as goal

pub returns : goal.returns
returns c text place fault = first_faulty text place LineStart fault.1
