-- What is found by how it is written, in a list of all that fit, is read exactly.
use Rattle.std.proofs.Common.{◌≡◌, ℕ, List, find, Option, Some, None, IfSome, refl, subst, sym, ap, ◌∙◌, ◌<◌, ◌≤◌, ◌^◌, arith}
use Rattle.std.specs.Prelude.{◌==◌}
use Rattle.std.specs.Fmt.{decimal}
use Rattle.std.specs.Str.{bytes_eq}
use Rattle.std.proofs.lemmas.Fmt.{decimal_injective}
use Rattle.std.proofs.lemmas.Slice.Eq.{bytes_eq-Decides}
use Rattle.journal_text.proofs.Found.{found_passes}
use Rattle.journal_value.specs.Exact.{Anything, Exact}

pub by_text : (A : Type 0) (text : A → List ℕ) (Fits : A → Type 0) (all : List A) → ((x : A) → Fits x → find (λ y. bytes_eq (text y) (text x)) all ≡ Some x) → (word : List ℕ) → Exact A (List ℕ) text Fits word (find (λ y. bytes_eq (text y) word) all)
by_text A text Fits all each word = record {
  is_written = written (find (λ y. bytes_eq (text y) word) all) refl;
  is_only = λ x fits e. subst (λ w. find (λ y. bytes_eq (text y) w) all ≡ Some x) e (each x fits);
}
  where
    written : (r : Option A) → find (λ y. bytes_eq (text y) word) all ≡ r → IfSome r (λ x. text x ≡ word)
    written None e = tt
    written (Some x) e = (bytes_eq-Decides (text x) word).0 (found_passes (λ y. bytes_eq (text y) word) all x e)

pub by_number : (A : Type 0) (num : A → ℕ) (all : List A) → ((x : A) → find (λ y. num y == num x) all ≡ Some x) → (n : ℕ) → Exact A ℕ num Anything n (find (λ y. num y == n) all)
by_number A num all each n = record {
  is_written = written (find (λ y. num y == n) all) refl;
  is_only = λ x fits e. subst (λ m. find (λ y. num y == m) all ≡ Some x) e (each x);
}
  where
    written : (r : Option A) → find (λ y. num y == n) all ≡ r → IfSome r (λ x. num x ≡ n)
    written None e = tt
    written (Some x) e = let same = found_passes (λ y. num y == n) all x e in grind arith

-- in decimal
pub numbered : (A : Type 0) (num : A → ℕ) → ((x : A) → num x < 2 ^ 64) → (n : ℕ) → n < 2 ^ 64 → (word : List ℕ) → word ≡ decimal n → (found : Option A) → Exact A ℕ num Anything n found → Exact A (List ℕ) (λ x. decimal (num x)) Anything word found
numbered A num small n fits word is found e = record {
  is_written = written found e.is_written;
  is_only = λ x any same. e.is_only x any (decimal_injective (num x) n (small x) fits (same ∙ is));
}
  where
    written : (r : Option A) → IfSome r (λ x. num x ≡ n) → IfSome r (λ x. decimal (num x) ≡ word)
    written None h = tt
    written (Some x) h = ap decimal h ∙ sym is

pub no_number : (A : Type 0) (num : A → ℕ) → ((x : A) → num x < 2 ^ 64) → (word : List ℕ) → ((n : ℕ) → n ≤ 18446744073709551615 → ¬ (word ≡ decimal n)) → Exact A (List ℕ) (λ x. decimal (num x)) Anything word None
no_number A num small word none = record {
  is_written = tt;
  is_only = λ x any same. absurd (none (num x) (let s = small x in omega (arith, s)) (sym same));
}
