use Rattle.std.proofs.Common.{◌≡◌, ◌+◌, ap, refl, rules, arith}
use Rattle.std.specs.Prelude.{IsFalse, IsTrue}
use Rattle.test_run.specs.Due.{Stays, Then}
use Rattle.test_run.specs.Stand.{stand}
use Rattle.test_run.proofs.run.TestRun.go.Goals as goal

pub loop-init : goal.loop-init
loop-init g c = (Stays, refl, omega arith)

pub loop-preserved : goal.loop-preserved
loop-preserved g c =
    let taken : IsTrue c.in_ok-do_due.field-0 = search rules in (
      Then (stand c.loop.self) c.in-Some.due c.loop.invariant.0 c.in-Some.ensures.some (c.in_ok-do_due.ensures.does taken),
      ap (λ n. n + 1) c.loop.invariant.1,
      omega (arith, c.loop-test.true),
    )

pub returns-then-not-branch : goal.returns-then-not-branch
returns-then-not-branch g c =
    let refused : IsFalse c.in_ok-do_due.field-0 = search rules in
    record {
      between = stand c.loop.self;
      goes = c.loop.invariant.0;
      few = omega (arith, c.loop.invariant.1, c.loop-test.true);
      it = c.in-Some.due;
      is_due = c.in-Some.ensures.some;
      refuses = c.in_ok-do_due.ensures.refused refused;
    }
