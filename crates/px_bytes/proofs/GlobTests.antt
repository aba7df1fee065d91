-- The test of a text by a glob pattern.
use Rattle.std.proofs.Common.{◌≡◌, ℕ, zero, suc, ◌≤◌, ◌↔◌, Bool, true, false, ◌||◌, cond}
use Rattle.std.proofs.Common.{List, [], ◌∷◌, length, drop, Option, Some, None, IsTrue}
use Rattle.std.proofs.Common.{sym, ap, refl, ◌∙◌, arith}
use Rattle.std.proofs.lemmas.Bool.{false≢true, or_left, or_right}
use Rattle.px_bytes.specs.Glob.{Matches, is_star, behind_piece}
use Rattle.px_bytes.specs.Glob.Matches.{AtEnd, Many, One}
use Rattle.px_bytes.proofs.Globs.{piece_shorter}
use Rattle.px_bytes.specs.GlobTest.{some_end, holds_behind, piece_and, matches_within}
use Rattle.px_bytes.specs.GlobTest.{matches, MatchesIsGlob}

-- two tests that hold alike
pub same_test : {P : Type 0} (s t : Bool) → (s ≡ true) ↔ P → (t ≡ true) ↔ P → s ≡ t
same_test true t h k = sym (k.1 (h.0 refl))
same_test false true h k = absurd (false≢true (h.1 (k.0 refl)))
same_test false false h k = refl

pub some_end_at : (holds : List ℕ → Bool) (text : List ℕ) (k : ℕ) → holds (drop k text) ≡ true → some_end holds text ≡ true
some_end_at holds [] zero h = h
some_end_at holds [] (suc k) h = h
some_end_at holds (c ∷ cs) zero h = or_left _ _ h
some_end_at holds (c ∷ cs) (suc k) h = or_right _ _ (some_end_at holds cs k h)

pub record Found (holds : List ℕ → Bool) (text : List ℕ) : Type 0 where
  pub place : ℕ
  pub within : place ≤ length text
  pub there : holds (drop place text) ≡ true

found_by : (holds : List ℕ → Bool) (c : ℕ) (cs : List ℕ) (t : Bool) → holds (c ∷ cs) ≡ t → (t || some_end holds cs) ≡ true → (some_end holds cs ≡ true → Found holds cs) → Found holds (c ∷ cs)
found_by holds c cs true e h more = record { place = 0; within = omega arith; there = e }
found_by holds c cs false e h more = let f = more h in record { place = suc f.place; within = omega (arith, f.within); there = f.there }

pub some_end_found : (holds : List ℕ → Bool) (text : List ℕ) → some_end holds text ≡ true → Found holds text
some_end_found holds [] h = record { place = 0; within = omega arith; there = h }
some_end_found holds (c ∷ cs) h = found_by holds c cs (holds (c ∷ cs)) refl h (some_end_found holds cs)

holds_by : (test : List ℕ → List ℕ → Bool) (o : Option (List ℕ)) (rest : List ℕ) → holds_behind test o rest ≡ true → (left : List ℕ) × ((o ≡ Some left) × (test left rest ≡ true))
holds_by test None rest h = absurd (false≢true h)
holds_by test (Some left) rest h = (left, (refl, h))

matches_by : (n p : ℕ) (ps text : List ℕ) (t : Bool) → is_star p ≡ t → cond t (some_end (matches_within n ps) text) (piece_and (matches_within n) p ps text) ≡ true
    → ((left rest : List ℕ) → matches_within n left rest ≡ true → Matches left rest) → Matches (p ∷ ps) text
matches_by n p ps text true star h more = let f = some_end_found (matches_within n ps) text h in Many star f.place (more ps (drop f.place text) f.there)
matches_by n p ps [] false star h more = absurd (false≢true h)
matches_by n p ps (byte ∷ rest) false star h more = let f = holds_by (matches_within n) (behind_piece p ps byte) rest h in One star f.1.0 (more f.0 rest f.1.1)

test_matches : (n : ℕ) (pattern text : List ℕ) → matches_within n pattern text ≡ true → Matches pattern text
test_matches zero [] [] h = AtEnd
test_matches zero [] (c ∷ cs) h = absurd (false≢true h)
test_matches zero (p ∷ ps) text h = absurd (false≢true h)
test_matches (suc n) [] [] h = AtEnd
test_matches (suc n) [] (c ∷ cs) h = absurd (false≢true h)
test_matches (suc n) (p ∷ ps) text h = matches_by n p ps text (is_star p) refl h (test_matches n)

end_test : (n : ℕ) → matches_within n [] [] ≡ true
end_test zero = refl
end_test (suc n) = refl

matches_test : (n : ℕ) {pattern text : List ℕ} → length pattern ≤ n → Matches pattern text → matches_within n pattern text ≡ true
matches_test zero within AtEnd = refl
matches_test zero within (Many star front m) = absurd (omega arith)
matches_test zero within (One star e m) = absurd (omega arith)
matches_test (suc n) within AtEnd = refl
matches_test (suc n) {text = text} within (Many {p = p} {ps = ps} star front m) =
    ap (λ t. cond t (some_end (matches_within n ps) text) (piece_and (matches_within n) p ps text)) star ∙ some_end_at (matches_within n ps) text front (matches_test n (omega arith) m)
matches_test (suc n) within (One {p = p} {byte = byte} {ps = ps} {rest = left} {text = rest} star e m) =
    ap (λ t. cond t (some_end (matches_within n ps) (byte ∷ rest)) (piece_and (matches_within n) p ps (byte ∷ rest))) star
    ∙ ap (λ o. holds_behind (matches_within n) o rest) e ∙ matches_test n (let less = piece_shorter p ps byte left e in omega arith) m

pub matches_is_glob : MatchesIsGlob
matches_is_glob pattern text = (test_matches (length pattern) pattern text, matches_test (length pattern) (omega arith))

pub glob_is_test : (pattern text : List ℕ) (t : Bool) → IsTrue t ↔ Matches pattern text → t ≡ matches pattern text
glob_is_test pattern text t h = same_test t (matches pattern text) h (matches_is_glob pattern text)
