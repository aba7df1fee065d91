use Rattle.std.proofs.Common.{ℕ, ◌++◌, ◌∷◌, [], ap, sym, refl, ◌∙◌, arith}
use Rattle.std.proofs.lemmas.List.Sums.{prefix_len-le-length}
use Rattle.tcl_lists.specs.Write.{is_special, spelled_bytes}
use Rattle.tcl_lists.proofs.Steps.{plain_spelled, run_ends, spelled_turn, two_added}
use Rattle.tcl_lists.proofs.write.push_bytes.Goals as goal

pub split_at-requires : goal.split_at-requires
split_at-requires c = omega (arith, prefix_len-le-length {X = ℕ})

pub returns-in_default : goal.returns-in_default
returns-in_default c =
    let back = rw c.plain_len.ensures at c.split_at.ensures.back in
    let front = rw c.plain_len.ensures at c.split_at.ensures.front in
    let rest = run_ends spelled_bytes is_special refl plain_spelled c.loop-byte.rest.now c.split_at.result.1.now back c.in_default.len_below in
    c.in_ok-push.ensures.ok ∙ ap (λ t. c.loop-byte.out ++ t) (front ∙ sym rest) ∙ c.loop-byte.invariant

pub loop-byte-preserved : goal.loop-byte-preserved
loop-byte-preserved c =
    let back = rw c.plain_len.ensures at c.split_at.ensures.back in
    let front = rw c.plain_len.ensures at c.split_at.ensures.front in
    let rest = spelled_turn c.loop-byte.rest.now c.split_at.result.1.now back c.in-len1-up.len_at_least in
    two_added c.loop-byte.out _ _ _ _ _ _ (c.in_ok-push.ensures.ok ∙ ap (λ t. c.loop-byte.out ++ t) front)
    (c.in_ok-push-2.ensures.ok ∙ ap (λ (b : ℕ). c.push.new.self ++ (92 ∷ (b ∷ []))) c.escape_letter.ensures) (ap (λ t. c.loop-byte.out ++ t) (sym rest) ∙ c.loop-byte.invariant)
