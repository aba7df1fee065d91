use Rattle.std.proofs.Common.{arith}
use Rattle.frame_loops.specs.LoopParts.{parts_view}
use Rattle.frames.proofs.ShortCosts.{front_pays}
use Rattle.frame_loops.proofs.ShortParts.{body_done, both_scripts, does_join, ends_at, next_done, start_next, start_test}
use Rattle.frame_loops.proofs.loop_turns.short_turns.Goals as goal
use Rattle.frame_loops.proofs.loop_turns.short_turns.Goals.{in-Next+else-not-short_part, in_default}

pub loop-ticks-init : goal.loop-ticks-init
loop-ticks-init g c =
    let none = c.requires.unticked in
    let s = both_scripts (parts_view c.args.parts.now) (cc) (cc) in
    elim c.match-from.branch [
      | in-Next+else-not-short_part w ↦
          let e = w.if-not-short_part.ensures in
          let p = front_pays e.done in
          let t = e.ticks in
          let f = e.few in
          let u = w.ticks-is in
          let q = w.paid-is in
          record {
            does = start_next c.args.from w.in-Next.is s e.done w.vars-is w.budget-is w.paid-is;
            pays = omega (arith, none, p, t, u, q);
            few = omega (arith, none, t, u, f);
            once = omega arith;
          }
      | in_default w ↦
          let u = w.ticks-is in
          let q = w.paid-is in
          record {
            does = start_test c.args.from c.requires.start w.in_default.not-Next w.vars-is w.budget-is w.paid-is;
            pays = omega (arith, none, u, q);
            few = omega (arith, none, u);
            once = omega arith;
          }
    ]

pub returns-in_default-begin_turn : goal.returns-in_default-begin_turn
returns-in_default-begin_turn g c =
    let i = c.loop-ticks.invariant in
    let p = c.begin_turn.ensures.pays in
    let k = i.pays in
    record {
      does = does_join i.does c.begin_turn.ensures.does;
      pays = omega (arith, p, k);
      few = i.few;
    }

pub returns-then-not-short_part-2-clause-does : goal.returns-then-not-short_part-2-clause-does
returns-then-not-short_part-2-clause-does g c =
    let e = c.if-not-short_part-2.ensures in
    ends_at (does_join c.loop-ticks.invariant.does c.in-Body.ensures.does) e.same_variables e.same_budget e.nothing_paid

pub returns-then-not-short_part-3-clause-does : goal.returns-then-not-short_part-3-clause-does
returns-then-not-short_part-3-clause-does g c =
    let s = both_scripts (parts_view c.args.parts.now) (cc) (cc) in
    let e = c.if-not-short_part-3.ensures in
    ends_at (does_join (does_join c.loop-ticks.invariant.does c.in-Body.ensures.does) (body_done s c.if-not-short_part-2.ensures.done))
    e.same_variables e.same_budget e.nothing_paid

pub returns-then-not-short_part-3-clause-pays : goal.returns-then-not-short_part-3-clause-pays
returns-then-not-short_part-3-clause-pays g c =
    let i = c.loop-ticks.invariant in
    let k = i.pays in
    let o = i.once in
    let b = c.in-Body.ensures.pays in
    let p = front_pays c.if-not-short_part-2.ensures.done in
    let t = c.if-not-short_part-2.ensures.ticks in
    let u = c.if-not-short_part-3.ensures.same_ticks in
    let q = c.if-not-short_part-3.ensures.nothing_paid in
    omega (arith, k, o, b, p, t, u, q)

pub loop-ticks-preserved : goal.loop-ticks-preserved
loop-ticks-preserved g c =
    let s = both_scripts (parts_view c.args.parts.now) (cc) (cc) in
    let i = c.loop-ticks.invariant in
    let k = i.pays in
    let o = i.once in
    let b = c.in-Body.ensures.pays in
    let two = c.if-not-short_part-2.ensures in
    let three = c.if-not-short_part-3.ensures in
    let p = front_pays two.done in
    let t = two.ticks in
    let f = two.few in
    let q = front_pays three.done in
    let u = three.ticks in
    let v = three.few in
    let test = c.loop-ticks-test.true in
    record {
      does = does_join (does_join (does_join i.does c.in-Body.ensures.does) (body_done s two.done)) (next_done s three.done);
      pays = omega (arith, k, o, b, p, t, q, u);
      few = omega (arith, o, t, f, u, v, test);
      once = omega arith;
    }
