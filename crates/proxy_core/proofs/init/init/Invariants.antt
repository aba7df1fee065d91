use Rattle.std.proofs.Common.{◌≡◌}
use Rattle.record_model.specs.Init.{nothing_left, rules_ran}
use Rattle.proxy_core.proofs.init.init.Given as goal

abbrev pub invariant-loop-number : goal.invariant-loop-number
invariant-loop-number l = l.left ≡ rules_ran l.config l.number nothing_left
