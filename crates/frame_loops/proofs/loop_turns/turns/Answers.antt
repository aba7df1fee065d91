use Rattle.std.specs.Prelude.{option_map}
use Rattle.frame_loops.specs.LoopParts.{parts_view}
use Rattle.frames.specs.Reads.{known}
use Rattle.frame_loops.proofs.TurnsMade.{next_first, next_later, ok_made, spends_now, test_first, test_later, turns_made}
use Rattle.frame_loops.proofs.loop_turns.turns.Goals as goal

pub returns-in-Over-clause-did : goal.returns-in-Over-clause-did
returns-in-Over-clause-did g c = turns_made c.short_turns-part.new.ticks c.in-Over.ensures.does c.in-Over.ensures.pays c.add.ensures (spends_now (cc))

pub returns-in-Body-clause-did : goal.returns-in-Body-clause-did
returns-in-Body-clause-did g c =
    ok_made c.above.result _ _ c.above.ensures (λ n e. turns_made c.short_turns-part.new.ticks c.in-Body.ensures.does c.in-Body.ensures.pays c.add.ensures
    (spends_now e))

pub returns-in-Next-clause-did : goal.returns-in-Next-clause-did
returns-in-Next-clause-did g c =
    ok_made c.next.result _ _ c.next.ensures.did (λ n e. turns_made c.short_turns-part.new.ticks c.in-Next.ensures.does c.in-Next.ensures.pays c.add.ensures
    (next_first (known (option_map (λ v. v.now.statics) c.args.statics) c.short_turns-part.new.vars)
    (parts_view c.args.parts.now) c.short_turns-part.new.left c.short_turns-part.new.budget c.if-ticks-eq0.true e))

pub returns-in-Next-2-clause-did : goal.returns-in-Next-2-clause-did
returns-in-Next-2-clause-did g c =
    ok_made c.above-in-Next-2.result _ _ c.above-in-Next-2.ensures
    (λ n e. turns_made c.short_turns-part.new.ticks c.in-Next-2.ensures.does c.in-Next-2.ensures.pays c.add.ensures
    (next_later (known (option_map (λ v. v.now.statics) c.args.statics) c.short_turns-part.new.vars)
    (parts_view c.args.parts.now) c.short_turns-part.new.left c.if-ticks-eq0.false e))

pub returns-in-Test-clause-did : goal.returns-in-Test-clause-did
returns-in-Test-clause-did g c =
    ok_made c.test.result _ _ c.test.ensures.did (λ n e. turns_made c.short_turns-part.new.ticks c.in-Test.ensures.does c.in-Test.ensures.pays c.add.ensures
    (test_first (known (option_map (λ v. v.now.statics) c.args.statics) c.short_turns-part.new.vars)
    (parts_view c.args.parts.now) c.short_turns-part.new.left c.short_turns-part.new.budget c.if-ticks-eq0-2.true e))

pub returns-in-Test-2-clause-did : goal.returns-in-Test-2-clause-did
returns-in-Test-2-clause-did g c =
    turns_made c.short_turns-part.new.ticks c.in-Test-2.ensures.does c.in-Test-2.ensures.pays c.add.ensures
    (test_later (known (option_map (λ v. v.now.statics) c.args.statics) c.short_turns-part.new.vars)
    (parts_view c.args.parts.now) c.short_turns-part.new.left c.if-ticks-eq0-2.false (cc))
