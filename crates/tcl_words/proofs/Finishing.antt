-- How many parts a word has.
use Rattle.std.proofs.Common.{◌≡◌, ℕ, ◌≤◌, ◌<◌, List, [], ◌∷◌, ◌++◌, length, true, false, refl, sym}
use Rattle.std.proofs.Common.{ap, ◌∙◌, arith}
use Rattle.std.proofs.lemmas.Bool.Decides.{nat_tests}
use Rattle.std.specs.Prelude.{◌==◌}
use Rattle.tcl_words.specs.Finish.{only_plain, filled}
use Rattle.tcl_words.specs.Tree.{plain, no_parts, and_part}
use Rattle.tcl_words.specs.View.{parts_view}
use Rattle.tcl_words.specs.declared.script.Part as code
use Rattle.tcl_words.specs.declared.script.Part.{Plain}
use Rattle.tcl_words.proofs.Views.{view-Plain}

pub only_one : (ps : List code.Part) → 2 ≤ length ps → false ≡ only_plain (parts_view ps)
only_one [] h = absurd (omega arith)
only_one (p ∷ []) h = absurd (omega arith)
only_one (p ∷ (q ∷ ps)) h = refl

pub filled_some : (at : ℕ) (ps : List code.Part) → 0 < length ps
    → parts_view ps ≡ filled at (parts_view ps)
filled_some at [] h = absurd (omega arith)
filled_some at (p ∷ ps) h = refl

pub no_parts_at_all : (ps : List code.Part) → length ps ≡ 0 → ps ≡ []
no_parts_at_all [] h = refl
no_parts_at_all (p ∷ ps) h = absurd (omega arith)

pub is_some : (n m : ℕ) → n ≡ m → (n == 0) ≡ false → 0 < m
is_some n m e h = grind (arith, nat_tests)

pub is_none : (n m : ℕ) → n ≡ m → (n == 0) ≡ true → m ≡ 0
is_none n m e h = grind (arith, nat_tests)

pub filled_none : (at : ℕ) (before ps qs : List code.Part) (text : List ℕ) → text ≡ [] → before ≡ []
    → qs ≡ before ++ Plain (record { start = at; end = at }) text ∷ [] → ps ≡ []
    → parts_view qs ≡ filled at (parts_view ps)
filled_none at before ps qs text t b q p =
    ap parts_view (q ∙ ap (λ xs. xs ++ Plain (record { start = at; end = at }) text ∷ []) b)
    ∙ ap (λ x. and_part x no_parts) (view-Plain (record { start = at; end = at }) text)
    ∙ ap (λ bs. and_part (plain (record { start = at; end = at }) bs) no_parts) t
    ∙ sym (ap (λ xs. filled at (parts_view xs)) p)
