use Rattle.std.proofs.Common.{◌≡◌, take}
use Rattle.config.specs.Filled.{numbers_of}
use Rattle.config.proofs.filled.numbers_of.Given as goal

abbrev pub invariant-loop-name : goal.invariant-loop-name
invariant-loop-name l = l.numbers ≡ numbers_of l.rules (take l.name-index l.names)
