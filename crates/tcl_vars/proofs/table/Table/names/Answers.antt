use Rattle.std.proofs.Common.{◌≡◌, [], ◌++◌, ap, ap₂, map, sym, subst, ◌∙◌}
use Rattle.std.specs.Cmp.Lexicographic.{slice_cmp}
use Rattle.std.specs.List.Sorted.{IsStrictlySortedBy}
use Rattle.std.specs.Map.{keys_of}
use Rattle.std.specs.Map.Iter.{deref}
use Rattle.std.specs.Ordering.{nat_cmp}
use Rattle.std.proofs.lemmas.List.{append-nil}
use Rattle.std.proofs.lemmas.Map.Iter.{rest_all}
use Rattle.tcl_vars.specs.Tables.{IsInOrder}
use Rattle.tcl_vars.proofs.Keys.{keys_of-named}
use Rattle.tcl_vars.proofs.Named.{in_order-named}
use Rattle.tcl_vars.proofs.table.Table.names.Goals as goal

pub loop-name-init : goal.loop-name-init
loop-name-init g c =
    let keys = c.into_iter-name-iterator.ensures.into_iter_gives ∙ c.keys-name-items.ensures.rest in
    ap₂ (λ ns ks. ns ++ map (λ k. k.items) ks) c.new-names.ensures keys ∙ keys_of-named (λ k. k.items) c.self.inside.tree.entries ∙ ap (λ t. keys_of t) c.self.view_is

pub returns-clause-sorted : goal.returns-clause-sorted
returns-clause-sorted g c =
    let over : c.loop-name.name-iterator ≡ [] = rest_all deref _ _ _ c.in-None.is c.next.ensures.steps in
    let all : c.loop-name.names ≡ keys_of c.args.self.now = sym (append-nil _) ∙ ap (λ ks. c.loop-name.names ++ map (λ k. k.items) ks) (sym over) ∙ c.loop-name.invariant in
    let sorted = subst (λ t. IsInOrder t) c.self.view_is (in_order-named (λ k. k.items) c.self.inside.tree.entries c.self.invariant) in
    subst (IsStrictlySortedBy (slice_cmp nat_cmp)) (sym all) sorted
