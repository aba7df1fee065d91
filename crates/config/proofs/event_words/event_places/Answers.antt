use Rattle.std.proofs.Common.{true, false, map, sym, ap, ◌∙◌}
use Rattle.tcl_trees.proofs.PieceLists.{script_commands}
use Rattle.tcl_words.specs.View.{command_view, script_view}
use Rattle.config.proofs.MisplacedWords.{misplaced_found}
use Rattle.config.proofs.event_words.event_places.Goals as goal

pub returns-clause-of_http : goal.returns-clause-of_http
returns-clause-of_http c =
    let script = c.in_ok-script.script in
    let seen = sym (script_commands script ∙ ap (map command_view) (sym c.as_slice-commands.ensures.value)) in
    misplaced_found false c.args.text.now (script_view script) (map command_view c.as_slice-commands.result.now) c.first_misplaced.result c.in_ok-script.ensures seen c.first_misplaced.ensures

pub returns-clause-of_bytes : goal.returns-clause-of_bytes
returns-clause-of_bytes c =
    let script = c.in_ok-script.script in
    let seen = sym (script_commands script ∙ ap (map command_view) (sym c.as_slice-commands.ensures.value)) in
    misplaced_found true c.args.text.now (script_view script) (map command_view c.as_slice-commands.result.now) c.first_misplaced-2.result c.in_ok-script.ensures seen c.first_misplaced-2.ensures
