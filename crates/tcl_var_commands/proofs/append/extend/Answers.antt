use Rattle.std.proofs.Common.{option_map}
use Rattle.tcl_vars.specs.Appended.{appended}
use Rattle.tcl_vars.specs.Names.{name_of}
use Rattle.tcl_var_commands.specs.Assigning.{assigned}
use Rattle.tcl_var_commands.proofs.Steps.{wanted_residual, told_for}
use Rattle.tcl_var_commands.proofs.append.extend.Goals as goal

pub returns-in_err-add_behind-clause-change : goal.returns-in_err-add_behind-clause-change
returns-in_err-add_behind-clause-change c =
    let level = option_map (λ v. v.now.statics) c.args.statics in
    let name = name_of c.args.text.now in
    let stops = rw (c.name_of-named.ensures.name, c.name_of-named.ensures.index) at c.in_err-add_behind.ensures.change in
    wanted_residual c.args.wanted (assigned level name (appended c.args.vars.now name.name name.index c.args.more.now) c.args.vars.now) c.from_residual-in_err-add_behind.result c.in_err-add_behind.field-0.0 c.add_behind.new.vars stops c.from_residual-in_err-add_behind.ensures

pub returns-clause-change : goal.returns-clause-change
returns-clause-change c =
    let level = option_map (λ v. v.now.statics) c.args.statics in
    let name = name_of c.args.text.now in
    let told = rw (c.name_of-named.ensures.name, c.name_of-named.ensures.index) at c.in_ok-told.ensures in
    let done = rw (c.name_of-named.ensures.name, c.name_of-named.ensures.index) at c.in_ok-add_behind.ensures.change in
    told_for c.args.wanted level name (appended c.args.vars.now name.name name.index c.args.more.now) c.in_ok-told.told c.args.vars.now c.add_behind.new.vars told done
