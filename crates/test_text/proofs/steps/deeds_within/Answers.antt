use Rattle.std.proofs.Common.{ap, map, subst, sym, ◌∙◌}
use Rattle.test_text.specs.Deeds.{GivesBehind}
use Rattle.test_text.specs.Files.{deeds_read}
use Rattle.test_text.specs.Line.{command_line}
use Rattle.test_text.proofs.steps.deeds_within.Goals as goal

pub returns : goal.returns
returns c =
    let all = c.in_ok-commands.ensures ∙ ap (λ cs. (map command_line cs, c.in_ok-commands.fault)) (sym c.as_slice.ensures.value) in
    subst (λ r. GivesBehind c.judged.result c.deeds.new.clients (deeds_read c.args.clients.now r)) (sym all)
    (c.judged.ensures.behind _ _ c.deeds.ensures)
