use Rattle.std.proofs.Common.{◌≡◌, ◌++◌, drop, option_map}
use Rattle.config.specs.Filled.{made_classes}
use Rattle.config.proofs.made_groups.classes_of.Given as goal

abbrev pub invariant-loop-group : goal.invariant-loop-group
invariant-loop-group l = made_classes l.groups ≡ option_map (λ more. l.classes ++ more) (made_classes (drop l.group-index l.groups))
