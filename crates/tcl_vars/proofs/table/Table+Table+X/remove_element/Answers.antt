use Rattle.std.proofs.Common.{[], ap, sym, ◌∙◌, unwrap_or}
use Rattle.tcl_vars.specs.Scopes.{find_in, take_out, replace_in}
use Rattle.tcl_vars.proofs.Named.{named, found_in}
use Rattle.tcl_vars.proofs.TakenOut.{take_out-named, replace_in-named, take_out-replaced}
use Rattle.tcl_vars.proofs.TakenOut.{without_no_array, without_last_element, without_one_element}
use Rattle.tcl_vars.proofs.table.Table+Table+X.remove_element.Goals as goal
use Rattle.tcl_vars.proofs.table.Table+Table+X.remove_element.Goals.{in-Some-1, in-None-1}

pub returns-in_err-elements-clause-value : goal.returns-in_err-elements-clause-value
returns-in_err-elements-clause-value g c =
    let none = found_in (λ k. k.items) c.args.name.now c.self.inside.tree.entries c.self.view_is c.in_err-elements.ensures.value in
    c.from_residual.ensures ∙ ap (λ o. find_in c.args.index.now (unwrap_or o [])) (sym none)

pub returns-in_err-elements-clause-left : goal.returns-in_err-elements-clause-left
returns-in_err-elements-clause-left g c =
    let none = found_in (λ k. k.items) c.args.name.now c.self.inside.tree.entries c.self.view_is c.in_err-elements.ensures.value in
    ap (λ t. named (λ k. k.items) t.entries) c.get_mut.follows.holds-at-none ∙ c.self.view_is ∙ without_no_array c.args.self.now c.args.name.now c.args.index.now none

pub returns-then-is_empty-clause-value : goal.returns-then-is_empty-clause-value
returns-then-is_empty-clause-value g c =
    let found = found_in (λ k. k.items) c.args.name.now c.self.inside.tree.entries c.self.view_is c.in_ok-elements.ensures.value in
    c.remove-old.ensures.value ∙ ap (λ o. find_in c.args.index.now (unwrap_or o [])) (sym found)

pub returns-then-is_empty-clause-left : goal.returns-then-is_empty-clause-left
returns-then-is_empty-clause-left g c =
    let name = c.args.name.now in
    let es = c.self.inside.tree.entries in
    let r = c.remove-old.new.self in
    let found = found_in (λ k. k.items) name es c.self.view_is c.in_ok-elements.ensures.value in
    let replaced = ap (named (λ k. k.items)) (c.get_mut.follows.holds r).0 ∙ replace_in-named (λ k. k.items) name es r ∙ ap (λ t. replace_in name r t) c.self.view_is in
    let left = ap (named (λ k. k.items)) c.remove.ensures.entries
    ∙ take_out-named (λ k. k.items) name (c.get_mut.follows.lender r).entries
    ∙ ap (λ t. take_out name t) replaced
    ∙ take_out-replaced name c.args.self.now r
    ∙ without_last_element c.args.self.now name c.args.index.now c.in_ok-elements.elements.now r found c.remove-old.ensures.left (c.is_empty.ensures.0 c.if-is_empty.true) in
    elim c.match-remove.branch [ in-Some-1 w ↦ w.self-is ∙ left | in-None-1 w ↦ w.self-is ∙ left ]

pub returns-else-is_empty-clause-value : goal.returns-else-is_empty-clause-value
returns-else-is_empty-clause-value g c =
    let found = found_in (λ k. k.items) c.args.name.now c.self.inside.tree.entries c.self.view_is c.in_ok-elements.ensures.value in
    c.remove-old.ensures.value ∙ ap (λ o. find_in c.args.index.now (unwrap_or o [])) (sym found)

pub returns-else-is_empty-clause-left : goal.returns-else-is_empty-clause-left
returns-else-is_empty-clause-left g c =
    let name = c.args.name.now in
    let es = c.self.inside.tree.entries in
    let r = c.remove-old.new.self in
    let found = found_in (λ k. k.items) name es c.self.view_is c.in_ok-elements.ensures.value in
    ap (named (λ k. k.items)) (c.get_mut.follows.holds r).0 ∙ replace_in-named (λ k. k.items) name es r ∙ ap (λ t. replace_in name r t) c.self.view_is
    ∙ without_one_element c.args.self.now name c.args.index.now c.in_ok-elements.elements.now r found c.remove-old.ensures.left (λ e. let yes = c.is_empty.ensures.1 e in cc)
