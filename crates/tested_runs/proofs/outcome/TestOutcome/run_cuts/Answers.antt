use Rattle.std.proofs.Common.{rules, arith, ◌≡◌, true, false}
use Rattle.tested_runs.specs.Runs.{RunComes}
use Rattle.tested_runs.proofs.Comes.{ends}
use Rattle.tested_runs.proofs.Cuts.{all_pass, kept_cut, told_cut}
use Rattle.tested_runs.proofs.outcome.TestOutcome.run_cuts.Goals as goal

pub returns-then-not-branch-clause-schedule : goal.returns-then-not-branch-clause-schedule
returns-then-not-branch-clause-schedule g c =
    let failed : c.in_ok-run_way.field-0 ≡ false = search rules in
    told_cut _ _ c.args.config.now c.args.test.now.steps c.args.orders.now c.args.cuts.now c.loop-cut.cut-index _
    c.in_ok-run_way.field-0 c.args.self.now.schedule c.loop-cut.self.schedule c.run_way.new.self.schedule
    c.loop-cut.invariant.same_files failed c.loop-cut-test.true c.in_ok-run_way.ensures.schedule

pub loop-cut-preserved : goal.loop-cut-preserved
loop-cut-preserved g c =
    let passed : c.in_ok-run_way.field-0 ≡ true = search rules in
    record {
      passed = all_pass _ _ c.args.config.now c.args.test.now.steps c.args.orders.now c.args.cuts.now c.loop-cut.cut-index _
          c.in_ok-run_way.field-0 c.loop-cut.invariant.same_files passed c.loop-cut-test.true c.loop-cut.invariant.passed
          c.in_ok-run_way.ensures.comes;
      kept = search rules;
      schedule = kept_cut _ _ c.args.config.now c.args.test.now.steps c.args.orders.now c.args.cuts.now c.loop-cut.cut-index _
          c.in_ok-run_way.field-0 c.args.self.now.schedule c.loop-cut.self.schedule c.run_way.new.self.schedule
          c.loop-cut.invariant.same_files passed c.loop-cut-test.true c.loop-cut.invariant.schedule c.in_ok-run_way.ensures.schedule;
      there = λ more. c.in_ok-run_way.ensures.there;
      same_files = search rules;
    }

pub returns-clause-comes : goal.returns-clause-comes
returns-clause-comes g c =
    ends (RunComes (g.F.Files.told c.args.files.now) c.args.config.now c.args.test.now.steps c.args.orders.now) c.args.cuts.now
    c.loop-cut.cut-index true c.loop-cut-test.false c.loop-cut.invariant.passed

pub returns-clause-there : goal.returns-clause-there
returns-clause-there g c more = c.loop-cut.invariant.there (omega (arith, more, c.loop-cut-test.false))
