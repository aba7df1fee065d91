use Rattle.std.proofs.Common.{ap, sym, ◌∙◌}
use Rattle.tcl_vars.specs.Scopes.{put_in}
use Rattle.tcl_vars.proofs.Named.{named, put_in-named, set_found-named}
use Rattle.tcl_vars.proofs.table.Table.put.Goals as goal

pub returns-in-Some-clause-ok : goal.returns-in-Some-clause-ok
returns-in-Some-clause-ok g c =
    ap (named (λ k. k.items)) (c.get_mut.follows.holds c.args.x).0
    ∙ set_found-named (λ k. k.items) c.args.name.now c.self.inside.tree.entries c.in-Some.old.now c.args.x c.self.invariant (sym c.in-Some.ensures.value)
    ∙ ap (λ t. put_in c.args.name.now c.args.x t) c.self.view_is

pub returns-clause-ok : goal.returns-clause-ok
returns-clause-ok g c =
    let key = c.in_ok-from_slice.field-0 in
    let tree = c.get_mut.follows.lender-at-none in
    ap (named (λ k. k.items)) c.in_ok-insert.ensures.entries
    ∙ put_in-named (λ k. k.items) key c.args.x tree.entries
    ∙ ap (λ n. put_in n c.args.x (named (λ k. k.items) tree.entries)) c.in_ok-from_slice.ensures.items
    ∙ ap (λ t. put_in c.args.name.now c.args.x (named (λ k. k.items) t.entries)) c.get_mut.follows.holds-at-none
    ∙ ap (λ t. put_in c.args.name.now c.args.x t) c.self.view_is
