use Rattle.std.proofs.Common.{◌≡◌, take, flat_map}
use Rattle.rule_loader.specs.CommandNames.{name_faults}
use Rattle.rule_loader.specs.Faults.{after_faults}
use Rattle.rule_loader.proofs.told.Told.names.Given as goal

abbrev pub invariant-loop-named : goal.invariant-loop-named
invariant-loop-named l =
    l.self ≡ after_faults (flat_map (name_faults l.event) (take l.named-index l.names)) l.initial.self
