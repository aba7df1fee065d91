use Rattle.std.proofs.Common.{w64, sym, ◌∙◌}
use Rattle.std.proofs.lemmas.Int.{to_z-of_z}
use Rattle.tcl_vars.specs.Changed.{by_sum}
use Rattle.tcl_vars.proofs.InPlace.{changed_vars}
use Rattle.tcl_vars.proofs.vars.Vars.add_whole.Goals as goal
use Rattle.tcl_vars.proofs.vars.Vars.add_whole.Goals.{then-not-is_static, else-not-is_static}

pub returns-then-has_room-clause-changed : goal.returns-then-has_room-clause-changed
returns-then-has_room-clause-changed c =
    let level = rw (to_z-of_z w64 c.args.more c.ranges.more) at c.add_whole.ensures.changed in
    elim c.if-not-is_static.branch [
      | then-not-is_static w ↦
          rw (← c.self-2.view_is) (changed_vars (by_sum c.args.more) 22 c.args.name.now c.self-2.inside.statics c.self-2.inside.innermost c.add_whole.new.self _ c.add_whole.result (sym c.is_static.ensures ∙ w.if-not-is_static.true) level)
      | else-not-is_static w ↦ absurd cc
    ]
