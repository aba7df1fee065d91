use Rattle.std.proofs.Common.{◌≡◌, drop}
use Rattle.test_names.specs.Names as names
use Rattle.test_names.proofs.named.unnamed_among.Given as goal

abbrev pub invariant-loop-placed : goal.invariant-loop-placed
invariant-loop-placed l = names.unnamed_among l.config (drop l.placed-index l.deeds) ≡ names.unnamed_among l.config l.deeds
