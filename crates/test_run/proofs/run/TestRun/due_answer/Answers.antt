use Rattle.std.proofs.Common.{get_or, subst}
use Rattle.std.specs.Prelude.{Bool, Option}
use Rattle.std.proofs.lemmas.List.Elements.{All-more}
use Rattle.test_run.specs.Due.{Answers, AnswersNone}
use Rattle.test_run.specs.Stand.{stand}
use Rattle.test_run.proofs.Making.{all_of, none_of}
use Rattle.test_run.proofs.run.TestRun.due_answer.Goals as goal

pub loop-one-preserved : goal.loop-one-preserved
loop-one-preserved g c =
    All-more (AnswersNone g.C.EventCore.face (stand c.args.self.now)) c.as_slice-one-items.result.now c.loop-one.one-index
    (record { client = 0; conn = 0 }) c.loop-one-test.true c.loop-one.invariant
    (subst (λ (o : Option Bool). Answers g.C.EventCore.face (stand c.args.self.now) (get_or c.as_slice-one-items.result.now c.loop-one.one-index (record { client = 0; conn = 0 })).conn o) (none_of c.answer.result c.in_default.not-Some)
    c.answer.ensures)

pub returns-clause-none : goal.returns-clause-none
returns-clause-none g c =
    all_of (AnswersNone g.C.EventCore.face (stand c.args.self.now)) c.as_slice-one-items.result.now c.args.self.now.known.came
    c.loop-one.one-index c.loop-one.invariant c.loop-one-test.false c.as_slice-one-items.ensures
