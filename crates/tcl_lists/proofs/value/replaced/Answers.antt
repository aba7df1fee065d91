use Rattle.std.proofs.Common.{ℕ, ◌++◌, ap, sym, refl, ◌∙◌, arith}
use Rattle.std.proofs.lemmas.List.Sums.{prefix_len-le-length}
use Rattle.tcl_lists.specs.Escape.{replaced}
use Rattle.tcl_lists.proofs.Steps.{is_backslash, plain_kept, run_ends, replaced_turn, two_added}
use Rattle.tcl_lists.proofs.value.replaced.Goals as goal

pub split_at-requires : goal.split_at-requires
split_at-requires c = omega (arith, prefix_len-le-length {X = ℕ})

pub returns-in_default : goal.returns-in_default
returns-in_default c =
    let back = rw c.plain_len.ensures at c.split_at.ensures.back in
    let front = rw c.plain_len.ensures at c.split_at.ensures.front in
    let rest = run_ends replaced is_backslash refl plain_kept c.loop-out.rest.now c.split_at.result.1.now back c.in_default.len_below in
    c.from_vec.ensures ∙ c.in_ok-extend_from_slice.ensures.items ∙ ap (λ t. c.loop-out.out.items ++ t) (front ∙ sym rest) ∙ c.loop-out.invariant

pub loop-out-preserved : goal.loop-out-preserved
loop-out-preserved c =
    let back = rw c.plain_len.ensures at c.split_at.ensures.back in
    let front = rw c.plain_len.ensures at c.split_at.ensures.front in
    let rest = replaced_turn c.loop-out.rest.now c.split_at.result.1.now c.read_escape-escape.result back c.in-len1-up.len_at_least c.read_escape-escape.ensures.value (omega arith) in
    two_added c.loop-out.out.items _ _ _ _ _ _ (c.in_ok-extend_from_slice.ensures.items ∙ ap (λ t. c.loop-out.out.items ++ t) front) (c.in_ok-push.ensures.items) (ap (λ t. c.loop-out.out.items ++ t) (sym rest) ∙ c.loop-out.invariant)
