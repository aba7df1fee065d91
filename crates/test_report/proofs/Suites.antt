-- A result more, in its suite.
use Rattle.std.proofs.Common.{◌≡◌, ℕ, ◌+◌, ◌<◌, List, [], ◌∷◌, ◌++◌, Option, Some, None, ap, append_assoc, drop, get_or, length, sym, ◌∙◌}
use Rattle.std.proofs.lemmas.List.{drop_more}
use Rattle.test_report.specs.Report.{suites_from, turned_case}
use Rattle.test_report.specs.declared.result.TestResult.{TestResult}

pub next : (before : Option (List ℕ)) (results slice : List TestResult) (at : ℕ) (one : TestResult) (text part new file : List ℕ)
    → at < length results → one ≡ get_or results at one → slice ≡ drop at results
    → text ++ suites_from before (drop at results) ≡ suites_from None results → part ≡ turned_case before one slice
    → new ≡ text ++ part → file ≡ one.file → new ++ suites_from (Some file) (drop (at + 1) results) ≡ suites_from None results
next before results slice at one text part new file within is rest so_far part_is added named =
    let more : drop at results ≡ one ∷ drop (at + 1) results =
    drop_more results at one within ∙ ap (λ r. r ∷ drop (at + 1) results) (sym is) in
    let case : part ≡ turned_case before one (one ∷ drop (at + 1) results) =
    part_is ∙ ap (turned_case before one) (rest ∙ more) in
    ap (λ f. new ++ suites_from (Some f) (drop (at + 1) results)) named
    ∙ ap (λ t. t ++ suites_from (Some one.file) (drop (at + 1) results)) added
    ∙ append_assoc text part (suites_from (Some one.file) (drop (at + 1) results))
    ∙ ap (λ p. text ++ (p ++ suites_from (Some one.file) (drop (at + 1) results))) case
    ∙ ap (λ rs. text ++ suites_from before rs) (sym more) ∙ so_far
