use Rattle.std.proofs.Common.{option_map, unwrap_or, [], subst, ap, ◌++◌, ◌∙◌}
use Rattle.tcl_vars.specs.Names.{name_of}
use Rattle.tcl_vars.specs.Scopes.{value_at}
use Rattle.tcl_var_commands.specs.Assigning.{assigned}
use Rattle.tcl_var_commands.specs.Changed.{ChangesFor}
use Rattle.tcl_var_commands.proofs.lappend.lengthen.Goals as goal

pub returns-clause-change : goal.returns-clause-change
returns-clause-change c =
    let level = option_map (λ v. v.now.statics) c.args.statics in
    let name = name_of c.args.text.now in
    let old = unwrap_or (value_at c.args.vars.now name.name name.index) [] in
    let has = rw (c.name_of-named.ensures.name, c.name_of-named.ensures.index) at c.has_text-has_text.ensures in
    let all = ap (λ t. old ++ t) c.as_bytes.ensures ∙ c.in_ok-more.ensures old has in
    subst (λ text. ChangesFor c.args.wanted (assigned level name text c.args.vars.now) c.extend.result c.extend.new.vars) all c.extend.ensures.change
