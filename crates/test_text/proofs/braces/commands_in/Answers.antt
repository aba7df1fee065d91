use Rattle.std.proofs.Common.{map, ap, ◌∙◌}
use Rattle.tcl_trees.proofs.PieceLists.{script_commands}
use Rattle.tcl_trees.specs.Pieces.{all_commands}
use Rattle.test_text.specs.Line.{line_of}
use Rattle.test_text.proofs.Lines.{lines_are}
use Rattle.test_text.proofs.braces.commands_in.Goals as goal

pub returns : goal.returns
returns c = ap (λ r. (map line_of (all_commands r.0), r.1)) c.in_ok-script.ensures
    ∙ ap (λ cs. (map line_of cs, c.in_ok-script.fault)) (script_commands c.in_ok-script.script)
    ∙ ap (λ ls. (ls, c.in_ok-script.fault)) (lines_are _)
