use Rattle.std.proofs.Common.{[], ◌++◌, ap, sym, ◌∙◌, unwrap_or}
use Rattle.std.specs.Map.{set_value}
use Rattle.std.proofs.lemmas.Map.Steps.{set_value_same}
use Rattle.std.proofs.lemmas.Result.{on_ok_weaker, on_err_weaker}
use Rattle.tcl_vars.specs.Scopes.{find_in, put_in}
use Rattle.tcl_vars.proofs.Named.{named, is_named, found_in, set_found-named}
use Rattle.tcl_vars.proofs.table.Table+Text.append.Goals as goal

pub returns-in-Some-clause-ok : goal.returns-in-Some-clause-ok
returns-in-Some-clause-ok c =
    let name = c.args.name.now in
    let es = c.self.inside.tree.entries in
    let new = c.push.new.self in
    let found = found_in (λ k. k.items) name es c.self.view_is c.in-Some.ensures.value in
    on_ok_weaker c.push.result
    (λ e. ap (named (λ k. k.items)) (c.get_mut.follows.holds new).0
    ∙ set_found-named (λ k. k.items) name es c.in-Some.text.now new c.self.invariant (sym c.in-Some.ensures.value)
    ∙ ap (λ t. put_in name new t) c.self.view_is
    ∙ ap (λ t. put_in name t c.args.self.now) (e ∙ ap (λ o. unwrap_or o [] ++ c.args.more.now) (sym found)))
    c.push.ensures.ok

pub returns-in-Some-clause-err : goal.returns-in-Some-clause-err
returns-in-Some-clause-err c =
    let es = c.self.inside.tree.entries in
    let here = is_named (λ k. k.items) c.args.name.now in
    on_err_weaker c.push.result
    (λ e. ap (named (λ k. k.items)) ((c.get_mut.follows.holds c.push.new.self).0 ∙ ap (λ t. set_value here es t) e ∙ set_value_same here es c.in-Some.text.now (sym c.in-Some.ensures.value))
    ∙ c.self.view_is)
    c.push.ensures.err

pub returns-clause-ok : goal.returns-clause-ok
returns-clause-ok c =
    let name = c.args.name.now in
    let more = c.args.more.now in
    let none = found_in (λ k. k.items) name c.self.inside.tree.entries c.self.view_is c.in_default.ensures.value in
    let fresh = c.in_ok-new.ensures ∙ ap (λ o. unwrap_or o [] ++ more) (sym none) in
    on_ok_weaker c.put.result
    (λ e. e ∙ ap (λ t. put_in name t (named (λ k. k.items) c.get_mut.follows.lender-at-none.entries)) fresh
    ∙ ap (λ t. put_in name (unwrap_or (find_in name c.args.self.now) [] ++ more) t)
    (ap (λ t. named (λ k. k.items) t.entries) c.get_mut.follows.holds-at-none ∙ c.self.view_is))
    c.put.ensures.ok
