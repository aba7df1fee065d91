use Rattle.std.specs.Prelude.{option_map}
use Rattle.tcl_vars.specs.Names.{name_of}
use Rattle.tcl_var_commands.specs.Assigning.{assigned}
use Rattle.rule_model.specs.Control.{code_number, code_text}
use Rattle.rule_nodes.proofs.Numbers.{number_after}
use Rattle.rule_nodes.proofs.caught.catch_code.Goals as goal

pub returns : goal.returns
returns c =
    let level = option_map (λ v. v.now.statics) c.args.statics in
    let done = rw c.code_text.ensures at c.in_ok-assign_named.ensures.change in
    number_after (assigned level (name_of c.args.name.now) (code_text c.args.code.now) c.args.vars.now) c.assign_named.new.vars (code_number c.args.code.now) c.code_number.result done c.code_number.ensures
