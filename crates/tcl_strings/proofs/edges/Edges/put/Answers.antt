use Rattle.std.proofs.Common.{◌≡◌, ℕ, ap, sym, ◌∙◌}
use Rattle.std.proofs.lemmas.Bool.{false_from_ne_true}
use Rattle.std.proofs.lemmas.Map.Lookups.{exact_pairs, exact_unsigned}
use Rattle.std.specs.Cmp.{Equal-is}
use Rattle.std.specs.Ordering.{nat_cmp, ordering_then}
use Rattle.tcl_strings.specs.Automaton.{edge_at}
use Rattle.tcl_strings.proofs.edges.Edges.put.Goals as goal

pub returns-clause-others : goal.returns-clause-others
returns-clause-others c = λ n b apart.
    c.in_ok-insert.ensures.updates.2 (n, b)
    (false_from_ne_true _ (λ same.
    let is : (c.args.node, c.args.byte) ≡ (n, b) =
    exact_pairs nat_cmp nat_cmp exact_unsigned exact_unsigned _ _ ((Equal-is (ordering_then (nat_cmp c.args.node n) (nat_cmp c.args.byte b))).0 same) in
    apart (sym (ap (λ (p : ℕ × ℕ). p.0) is)) (sym (ap (λ (p : ℕ × ℕ). p.1) is))))
    ∙ ap (λ e. edge_at e n b) c.self.view_is
