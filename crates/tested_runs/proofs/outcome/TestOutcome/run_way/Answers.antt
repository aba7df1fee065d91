use Rattle.std.proofs.Common.{◌≡◌, refl, subst, sym, List}
use Rattle.test_text.specs.declared.test_file.PlacedStep.{PlacedStep}
use Rattle.tested_runs.specs.Runs.{IsJudged}
use Rattle.tested_runs.specs.Schedules.{RunTold, schedule_in}
use Rattle.tested_runs.proofs.Kept.{tells_run}
use Rattle.tested_runs.proofs.outcome.TestOutcome.run_way.Goals as goal

pub returns-clause-comes : goal.returns-clause-comes
returns-clause-comes g c = record {
  run = c.in_ok-run.run';
  judged = subst (λ (steps : List PlacedStep). IsJudged (g.F.Files.told c.args.files.now) c.args.config.now steps c.args.way.cut
      c.args.way.orders.now c.in_ok-run.run') c.as_slice.ensures c.in_ok-run.ensures.judged;
  comes = sym c.in_ok-added.ensures.passed;
}

pub returns-clause-schedule : goal.returns-clause-schedule
returns-clause-schedule g c =
    tells_run (λ text. RunTold (g.F.Files.told c.args.files.now) c.args.config.now c.args.test.now.steps c.args.way.orders.now
    c.in_ok-added.field-0 text c.args.way.cut) c.in_ok-added.field-0 c.args.self.now.schedule c.add-added.new.self.schedule
    (schedule_in c.in_ok-run.run') c.in_ok-added.ensures.schedule
    (record {
      run = c.in_ok-run.run';
      judged = subst (λ (steps : List PlacedStep). IsJudged (g.F.Files.told c.args.files.now) c.args.config.now steps c.args.way.cut
          c.args.way.orders.now c.in_ok-run.run') c.as_slice.ensures c.in_ok-run.ensures.judged;
      comes = sym c.in_ok-added.ensures.passed;
      text_is = refl;
    })
