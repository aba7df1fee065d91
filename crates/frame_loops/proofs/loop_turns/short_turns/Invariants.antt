use Rattle.std.proofs.Common.{◌≤◌, ◌+◌}
use Rattle.std.specs.Prelude.{option_map}
use Rattle.frame_loops.specs.AtOnce.{DoesTurns}
use Rattle.frame_loops.specs.LoopParts.{parts_view}
use Rattle.frame_loops.specs.declared.loop_turns.Part.TheVariants as code
use Rattle.frame_loops.proofs.loop_turns.short_turns.Given as goal

abbrev pub invariant-loop-ticks : goal.invariant-loop-ticks
invariant-loop-ticks g l = record {
  does : DoesTurns (option_map (λ v. v.now.statics) l.fn.statics) (parts_view l.fn.parts) l.fn.from code.Test l.fn.left l.left
      l.fn.vars l.fn.budget l.fn.paid l.vars l.budget l.paid;
  pays : l.ticks + l.fn.paid ≤ l.paid;
  few : l.ticks ≤ 9;
  once : l.turn_ticks ≤ 1;
}

abbrev pub decreases-loop-ticks : goal.decreases-loop-ticks
decreases-loop-ticks g l = l.left
