-- Texts that are put together of parts.
use Rattle.std.proofs.Common.{◌≡◌, ℕ, List, [], ◌∷◌, Option, Result, IfOk, subst}
use Rattle.std.specs.Prelude.{codes}
use Rattle.test_report.specs.Parts.{joined}
use Rattle.test_report.specs.Report.{failure_head, failure_text, new_suite, suite_begin, suite_end, xml, xml_lines}
use Rattle.test_report.specs.declared.result.TestResult.{TestResult}

pub failure_parts : {E : Type 0} (r : Result (List ℕ) E) (head first rest line : List ℕ) (lines : List (List ℕ))
    → head ≡ failure_head line → first ≡ xml line → rest ≡ xml_lines lines
    → IfOk r (λ text. text ≡ joined (head ∷ first ∷ rest ∷ codes "</failure>\n" ∷ []))
    → IfOk r (λ text. text ≡ failure_text (line ∷ lines))
failure_parts r head first rest line lines by_head by_first by_rest is =
    subst (λ (part : List ℕ). IfOk r (λ text. text ≡ joined (failure_head line ∷ xml line ∷ part ∷ codes "</failure>\n" ∷ []))) by_rest
    (subst (λ (part : List ℕ). IfOk r (λ text. text ≡ joined (failure_head line ∷ part ∷ rest ∷ codes "</failure>\n" ∷ []))) by_first
    (subst (λ (part : List ℕ). IfOk r (λ text. text ≡ joined (part ∷ first ∷ rest ∷ codes "</failure>\n" ∷ []))) by_head is))

pub suite_parts : {E : Type 0} (r : Result (List ℕ) E) (end begin : List ℕ) (before : Option (List ℕ)) (one : TestResult)
    (results : List TestResult) → end ≡ suite_end before → begin ≡ suite_begin one.file results
    → IfOk r (λ text. text ≡ joined (end ∷ begin ∷ [])) → IfOk r (λ text. text ≡ new_suite before one results)
suite_parts r end begin before one results by_end by_begin is =
    subst (λ (part : List ℕ). IfOk r (λ text. text ≡ joined (suite_end before ∷ part ∷ []))) by_begin
    (subst (λ (part : List ℕ). IfOk r (λ text. text ≡ joined (part ∷ begin ∷ []))) by_end is)
