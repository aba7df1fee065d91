use Rattle.std.proofs.Common.{ap, map, subst, sym, ◌∙◌}
use Rattle.test_text.specs.Faults.{Gives}
use Rattle.test_text.specs.Files.{file_read}
use Rattle.test_text.specs.Line.{command_line}
use Rattle.test_text.proofs.reader.read_test_file.Goals as goal

pub returns : goal.returns
returns c =
    let all = c.in_ok-commands.ensures ∙ ap (λ cs. (map command_line cs, c.in_ok-commands.fault)) (sym c.as_slice.ensures.value) in
    subst (λ r. Gives c.judged.result (file_read c.args.text.now r)) (sym all) (c.judged.ensures.alone _ c.file.ensures)
