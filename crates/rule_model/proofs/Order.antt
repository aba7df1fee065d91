-- In which order words are evaluated, and what goes through a `catch`.
use Rattle.std.proofs.Common.{◌≡◌, ap, ◌∙◌, ℕ, ◌≤◌, List, [], ◌∷◌, false, length, arith}
use Rattle.std.proofs.lemmas.Bool.{cond-false}
use Rattle.std.proofs.lemmas.Bool.Decides.{nat_tests}
use Rattle.std.proofs.lemmas.List.Sums.{sum_by-cons}
use Rattle.std.specs.Prelude.{nat_lt, slice_get, sum_by}
use Rattle.px_bytes.specs.Limit.{text_limit}
use Rattle.rule_model.specs.Control.{caught}
use Rattle.rule_model.specs.Laws.{SpentBudgetPasses, WordsGoFromTheLeft}
use Rattle.rule_model.specs.Outcome.{then_code, then_value}
use Rattle.rule_model.specs.Words.{after_word, in_order}

pub spent_budget_passes : {H : Type 0} → SpentBudgetPasses H
spent_budget_passes statics body words path st after ends =
    ap (λ o. then_code o (caught statics (slice_get words 0))) ends

fits : (sum most : ℕ) → sum ≤ most → nat_lt most sum ≡ false
fits sum most short = grind (arith, nat_tests)

shorter : (v w : List ℕ) → sum_by length (v ∷ []) ≤ sum_by length (v ∷ (w ∷ []))
shorter v w = omega (arith, sum_by-cons length v (w ∷ []), sum_by-cons length v [])

pub words_go_from_the_left : {H : Type 0} → WordsGoFromTheLeft H
words_go_from_the_left finish first second v w path st mid after one two short =
    let alone = fits (sum_by length (v ∷ [])) text_limit (omega (arith, shorter v w, short)) in
    let both = fits (sum_by length (v ∷ (w ∷ []))) text_limit short in
    ap (λ o. then_value o (after_word (in_order finish (second ∷ [])) [] path)) one
    ∙ cond-false _ _ _ alone
    ∙ ap (λ o. then_value o (after_word finish (v ∷ []) path)) two
    ∙ cond-false _ _ _ both
