use Rattle.std.proofs.Common.{ap, map, subst, sym, ◌∙◌}
use Rattle.test_text.specs.Deeds.{GivesBehind}
use Rattle.test_text.specs.Files.{steps_read}
use Rattle.test_text.specs.Line.{command_line}
use Rattle.test_text.proofs.reader.steps_in.Goals as goal

pub returns : goal.returns
returns c =
    let all = c.in_ok-commands.ensures ∙ ap (λ cs. (map command_line cs, c.in_ok-commands.fault)) (sym c.as_slice.ensures.value) in
    subst (λ r. GivesBehind c.judged.result c.steps.new.clients (steps_read c.args.text.now c.args.clients.now r)) (sym all)
    (c.judged.ensures.behind _ _ c.steps.ensures)
