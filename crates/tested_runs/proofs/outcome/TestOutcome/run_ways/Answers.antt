use Rattle.std.proofs.Common.{rules, arith, ◌≡◌, true, false}
use Rattle.tested_runs.specs.Runs.{CutsCome}
use Rattle.tested_runs.proofs.Comes.{At, ends}
use Rattle.tested_runs.proofs.Ways.{all_pass, kept_way, told_way}
use Rattle.tested_runs.proofs.outcome.TestOutcome.run_ways.Goals as goal

pub returns-then-not-branch-clause-schedule : goal.returns-then-not-branch-clause-schedule
returns-then-not-branch-clause-schedule g c =
    let failed : c.in_ok-run_cuts.field-0 ≡ false = search rules in
    let at : At c.args.ways.now c.loop-orders.orders-index c.orders-item.result =
    record { within = c.loop-orders-test.true; is = c.orders-item.is } in
    told_way _ _ c.args.config.now c.args.test.now.steps c.args.cuts.now c.args.ways.now c.loop-orders.orders-index
    c.orders-item.result c.as_slice.result.now c.in_ok-run_cuts.field-0 c.args.self.now.schedule c.loop-orders.self.schedule
    c.run_cuts.new.self.schedule c.loop-orders.invariant.same_files failed c.as_slice.ensures at c.in_ok-run_cuts.ensures.schedule

pub loop-orders-preserved : goal.loop-orders-preserved
loop-orders-preserved g c =
    let passed : c.in_ok-run_cuts.field-0 ≡ true = search rules in
    let at : At c.args.ways.now c.loop-orders.orders-index c.orders-item.result =
    record { within = c.loop-orders-test.true; is = c.orders-item.is } in record {
      passed = all_pass _ _ c.args.config.now c.args.test.now.steps c.args.cuts.now c.args.ways.now c.loop-orders.orders-index
          c.orders-item.result c.as_slice.result.now c.in_ok-run_cuts.field-0 c.loop-orders.invariant.same_files passed
          c.as_slice.ensures at c.loop-orders.invariant.passed c.in_ok-run_cuts.ensures.comes;
      kept = search rules;
      schedule = kept_way _ _ c.args.config.now c.args.test.now.steps c.args.cuts.now c.args.ways.now c.loop-orders.orders-index
          c.orders-item.result c.as_slice.result.now c.in_ok-run_cuts.field-0 c.args.self.now.schedule c.loop-orders.self.schedule
          c.run_cuts.new.self.schedule c.loop-orders.invariant.same_files passed c.as_slice.ensures at
          c.loop-orders.invariant.schedule c.in_ok-run_cuts.ensures.schedule;
      there = λ cuts more. c.in_ok-run_cuts.ensures.there cuts;
      same_files = search rules;
    }

pub returns-clause-comes : goal.returns-clause-comes
returns-clause-comes g c =
    ends (CutsCome (g.F.Files.told c.args.files.now) c.args.config.now c.args.test.now.steps c.args.cuts.now) c.args.ways.now
    c.loop-orders.orders-index true c.loop-orders-test.false c.loop-orders.invariant.passed

pub returns-clause-there : goal.returns-clause-there
returns-clause-there g c cuts more = c.loop-orders.invariant.there cuts (omega (arith, more, c.loop-orders-test.false))
