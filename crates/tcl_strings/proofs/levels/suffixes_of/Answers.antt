use Rattle.std.proofs.Common.{subst, arith}
use Rattle.std.specs.List.{All}
use Rattle.tcl_strings.specs.declared.levels.Climb.{Climb}
use Rattle.tcl_strings.specs.Levels.{IsOnItsWay}
use Rattle.tcl_strings.specs.Suffixes.{texts}
use Rattle.tcl_strings.proofs.Climbing.{way_on, way_ended, within_longest}
use Rattle.tcl_strings.proofs.levels.suffixes_of.Goals as goal

pub loop-depth-preserved : goal.loop-depth-preserved
loop-depth-preserved c =
    let made = c.in_ok-level-2.ensures in
    let whole = subst (All (λ (x : Climb). IsOnItsWay (texts c.next_level.new.suffixes) c.in_ok-level-2.level.items x.key.now)) c.deref.ensures.value made.whole in
    record {
      sound = made.sound;
      tallest = made.tallest;
      level = made.depth;
      keys = λ k d kn. way_on (texts c.loop-depth.suffixes) (texts c.next_level.new.suffixes) made.grows c.loop-depth.level.items c.in_ok-level-2.level.items whole _ (c.loop-depth.invariant.keys k d kn);
    }

pub returns-clause-keys : goal.returns-clause-keys
returns-clause-keys c = λ k d kn.
    way_ended (texts c.loop-depth.suffixes) c.loop-depth.depth c.loop-depth.level.items c.loop-depth.invariant.level _
    (omega (arith, c.longest-depth-end.ensures, within_longest c.args.keys.now k d kn, c.loop-depth-test.false)) (c.loop-depth.invariant.keys k d kn)
