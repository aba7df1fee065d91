use Rattle.std.proofs.Common.{◌∙◌}
use Rattle.tested_core.specs.Runs.{Followed, Ran}
use Rattle.tested_core.proofs.Kept.{if_ok_then, ran_by}
use Rattle.tested_core.proofs.runs.run_moves.Goals as goal

pub returns : goal.returns
returns c =
    if_ok_then c.follow.result (Followed c.in_ok-run.run' c.args.steps.now c.args.moves.now) (Ran c.args.config c.args.steps.now c.args.moves.now)
    (ran_by c.args.config c.args.steps.now c.args.moves.now c.in_ok-core.core c.in_ok-run.run' c.as_slice.result.now c.in_ok-core.ensures.stands
    (c.as_slice.ensures ∙ c.in_ok-core.ensures.notes) c.in_ok-run.ensures)
    c.follow.ensures
