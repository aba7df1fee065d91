use Rattle.std.proofs.Common.{[], ap, sym, ◌∙◌, unwrap_or}
use Rattle.std.specs.Map.{set_value}
use Rattle.std.proofs.lemmas.Map.Steps.{set_value_same}
use Rattle.std.proofs.lemmas.Result.{on_ok_weaker, on_err_weaker}
use Rattle.tcl_vars.specs.Scopes.{find_in, put_in}
use Rattle.tcl_vars.proofs.Named.{named, is_named, found_in, set_found-named}
use Rattle.tcl_vars.proofs.table.Table+Table+X.put_element.Goals as goal

pub returns-in-Some-clause-ok : goal.returns-in-Some-clause-ok
returns-in-Some-clause-ok g c =
    let name = c.args.name.now in
    let index = c.args.index.now in
    let es = c.self.inside.tree.entries in
    let new = c.put.new.self in
    let old = c.in-Some.elements.now in
    let there = sym c.in-Some.ensures.value in
    let found = found_in (λ k. k.items) name es c.self.view_is c.in-Some.ensures.value in
    on_ok_weaker c.put.result
    (λ e. ap (named (λ k. k.items)) (c.get_mut.follows.holds new).0
    ∙ set_found-named (λ k. k.items) name es old new c.self.invariant there
    ∙ ap (λ t. put_in name new t) c.self.view_is
    ∙ ap (λ t. put_in name t c.args.self.now) (e ∙ ap (λ t. put_in index c.args.x t) (sym (ap (λ o. unwrap_or o []) found))))
    c.put.ensures.ok

pub returns-in-Some-clause-err : goal.returns-in-Some-clause-err
returns-in-Some-clause-err g c =
    let es = c.self.inside.tree.entries in
    let here = is_named (λ k. k.items) c.args.name.now in
    on_err_weaker c.put.result
    (λ e. ap (named (λ k. k.items)) ((c.get_mut.follows.holds c.put.new.self).0 ∙ ap (λ t. set_value here es t) e ∙ set_value_same here es c.in-Some.elements.now (sym c.in-Some.ensures.value))
    ∙ c.self.view_is)
    c.put.ensures.err

pub returns-clause-ok : goal.returns-clause-ok
returns-clause-ok g c =
    let name = c.args.name.now in
    let es = c.self.inside.tree.entries in
    let none = found_in (λ k. k.items) name es c.self.view_is c.in_default.ensures.value in
    let fresh = c.in_ok-put.ensures.ok ∙ ap (λ t. put_in c.args.index.now c.args.x t) (c.new-elements.ensures ∙ sym (ap (λ o. unwrap_or o []) none)) in
    on_ok_weaker c.put-3.result
    (λ e. e ∙ ap (λ t. put_in name t (named (λ k. k.items) c.get_mut.follows.lender-at-none.entries)) fresh
    ∙ ap (λ t. put_in name (put_in c.args.index.now c.args.x (unwrap_or (find_in name c.args.self.now) [])) t)
    (ap (λ t. named (λ k. k.items) t.entries) c.get_mut.follows.holds-at-none ∙ c.self.view_is))
    c.put-3.ensures.ok
