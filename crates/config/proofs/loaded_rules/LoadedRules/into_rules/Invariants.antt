use Rattle.std.proofs.Common.{◌≡◌, map}
use Rattle.config.proofs.loaded_rules.LoadedRules.into_rules.Given as goal

abbrev pub invariant-loop-loaded : goal.invariant-loop-loaded
invariant-loop-loaded l = l.rules ≡ map (λ r. r.rule) l.yielded
