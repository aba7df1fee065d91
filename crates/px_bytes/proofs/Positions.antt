-- Where the first byte of a kind stands, as `position` answers it.
use Rattle.std.proofs.Common.{◌≡◌, ℕ, ◌≤◌, ◌<◌, Bool, true, false, cond, ltb, Option, Some, None}
use Rattle.std.proofs.Common.{sym, ap, refl, ◌∙◌, arith}
use Rattle.std.specs.Option.{unwrap_or}
use Rattle.std.proofs.lemmas.Bool.Decides.{nat_tests}

-- at k, where k is below n
abbrev pub below : ℕ → ℕ → Option ℕ
below k n = cond (ltb k n) (Some k) None

by_test : (b : Bool) (k n : ℕ) → (b ≡ false → k ≡ n) → unwrap_or (cond b (Some k) None) n ≡ k
by_test true k n over = refl
by_test false k n over = sym (over refl)

at_end : (k n : ℕ) → k ≤ n → ltb k n ≡ false → k ≡ n
at_end k n within e = grind (arith, nat_tests)

-- the position, or the length where there is none
pub position_or_length : (r : Option ℕ) (k n : ℕ) → k ≤ n → r ≡ below k n → unwrap_or r n ≡ k
position_or_length r k n within e = ap (λ o. unwrap_or o n) e ∙ by_test (ltb k n) k n (at_end k n within)

none_by_test : (b : Bool) (k n : ℕ) → (b ≡ false → k ≡ n) → None ≡ cond b (Some k) None → k ≡ n
none_by_test true k n over e = cc
none_by_test false k n over e = over refl

pub no_position : (r : Option ℕ) (k n : ℕ) → k ≤ n → r ≡ below k n → r ≡ None → k ≡ n
no_position r k n within e is = none_by_test (ltb k n) k n (at_end k n within) (sym is ∙ e)

some_by_test : (b : Bool) (i k n : ℕ) → (b ≡ true → k < n) → Some i ≡ cond b (Some k) None → (i ≡ k) × (k < n)
some_by_test true i k n inside e = (cc, inside refl)
some_by_test false i k n inside e = cc

inside_test : (k n : ℕ) → ltb k n ≡ true → k < n
inside_test k n e = grind (arith, nat_tests)

pub at_position : (r : Option ℕ) (i k n : ℕ) → r ≡ below k n → r ≡ Some i → (i ≡ k) × (k < n)
at_position r i k n e is = some_by_test (ltb k n) i k n (inside_test k n) (sym is ∙ e)
