-- How many numbers in a row pass a test.
use Rattle.std.proofs.Common.{◌≡◌, ℕ, zero, suc, ◌+◌, ◌*◌, ◌%◌, ◌<◌, ◌≤◌, Bool, cond}
use Rattle.std.proofs.Common.{sym, refl, ap, ap₂, ◌∙◌, arith, zero-add}
use Rattle.std.proofs.Math.Nat.{add-mod_right, mod-eq_of_lt}

abbrev pub one : Bool → ℕ
one b = cond b 1 0

-- of n numbers from the first on
pub hits : (ℕ → Bool) → ℕ → ℕ → ℕ
hits p first zero = 0
hits p first (suc n) = one (p first) + hits p (suc first) n

pub hits_none : (p : ℕ → Bool) (first : ℕ) → hits p first 0 ≡ 0
unfolding hits
hits_none p first = refl

pub hits_one : (p : ℕ → Bool) (first n : ℕ) → hits p first (suc n) ≡ one (p first) + hits p (suc first) n
unfolding hits
hits_one p first n = refl

module _ (p q : ℕ → Bool) where
  -- tests that agree there, and at numbers that are d higher
  pub hits_same : (d first n : ℕ) → ((i : ℕ) → first ≤ i → i < first + n → p (i + d) ≡ q i) → hits p (first + d) n ≡ hits q first n
  unfolding hits
  hits_same d first zero same = refl
  hits_same d first (suc n) same =
      let rest = hits_same d (suc first) n (λ i low high. same i (omega arith) (omega arith)) in
      ap₂ (λ a b. a + b) (ap one (same first (omega arith) (omega arith)))
      (ap (λ k. hits p k n) (omega arith) ∙ rest)

pub hits_append : (p : ℕ → Bool) (first m n : ℕ) → hits p first (m + n) ≡ hits p first m + hits p (first + m) n
unfolding hits
hits_append p first zero n =
    let none : zero + n ≡ n = omega arith in
    let same : first ≡ first + zero = omega arith in
    ap (hits p first) none ∙ ap (λ k. hits p k n) same ∙ sym (zero-add (hits p (first + zero) n))
hits_append p first (suc m) n =
    let shape : suc m + n ≡ suc (m + n) = omega arith in
    let next : suc first + m ≡ first + suc m = omega arith in
    ap (hits p first) shape ∙ ap (λ k. one (p first) + k) (hits_append p (suc first) m n ∙ ap (λ k. hits p (suc first) m + hits p k n) next) ∙ omega arith

-- all pass, or none does
pub hits_all : (p : ℕ → Bool) (b : Bool) (first n : ℕ) → ((i : ℕ) → first ≤ i → i < first + n → p i ≡ b) → hits p first n ≡ n * one b
unfolding hits
hits_all p b first zero same = omega arith
hits_all p b first (suc n) same =
    let rest = hits_all p b (suc first) n (λ i low high. same i (omega arith) (omega arith)) in
    let here = ap one (same first (omega arith) (omega arith)) in
    omega (arith, here, rest)

-- a test that is the same after each round holds as often in every round
module _ (q : ℕ → Bool) (round : ℕ) where
  abbrev again : ℕ → Bool
  again n = q (n % round)

  slides : (first : ℕ) → hits again (suc first) round ≡ hits again first round
  slides first =
      let longer = hits_one again first round in
      let ends = hits_append again first round 1 in
      let last = hits_one again (first + round) 0 ∙ ap (λ k. one (again (first + round)) + k) (hits_none again _) in
      let shape : hits again first (round + 1) ≡ hits again first (suc round) = ap (hits again first) (omega arith) in
      let same : one (again (first + round)) ≡ one (again first) = ap (λ k. one (q k)) (add-mod_right first round) in
      omega (arith, longer, ends, last, shape, same)

  pub hits_round : (first : ℕ) → hits again first round ≡ hits q 0 round
  hits_round zero =
      ap (λ k. hits again k round) (omega arith) ∙ hits_same again q 0 0 round (λ i low high. ap q (ap (λ k. k % round) (omega arith) ∙ mod-eq_of_lt (omega arith)))
  hits_round (suc first) = slides first ∙ hits_round first
