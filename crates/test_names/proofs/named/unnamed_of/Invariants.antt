use Rattle.std.proofs.Common.{◌≡◌, drop}
use Rattle.test_names.specs.Names as names
use Rattle.test_names.proofs.named.unnamed_of.Given as goal

abbrev pub invariant-loop-placed : goal.invariant-loop-placed
invariant-loop-placed l = names.unnamed_of l.config (drop l.placed-index l.steps) ≡ names.unnamed_of l.config l.steps
