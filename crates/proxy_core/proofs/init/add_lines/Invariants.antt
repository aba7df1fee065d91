use Rattle.std.proofs.Common.{◌≡◌, ◌++◌, drop, map}
use Rattle.irule_net.specs.Effects.{effect_of}
use Rattle.record_model.specs.Init.{lines_in}
use Rattle.proxy_core.proofs.init.add_lines.Given as goal

abbrev pub invariant-loop-effect : goal.invariant-loop-effect
invariant-loop-effect l =
    l.lines ++ lines_in (map effect_of (drop l.effect-index l.made)) ≡ l.initial.lines ++ lines_in (map effect_of l.made)
