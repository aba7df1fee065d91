-- Selections in a row.
use Rattle.std.proofs.Common.{◌≡◌, ℕ, zero, suc, ◌+◌, ◌%◌, ◌^◌, ◌<◌, ◌≤◌, Bool, true}
use Rattle.std.proofs.Common.{List, [], ◌∷◌, Option, sym, refl, ap, ap₂, ◌∙◌, arith}
use Rattle.std.proofs.Common.{◌⊎◌, inl, inr, ⊎_elim}
use Rattle.std.specs.Prelude.{count_by, is_some}
use Rattle.std.proofs.lemmas.Bool.{ne_eqb}
use Rattle.std.proofs.lemmas.List.Sums.{sum_by-cons}
use Rattle.std.proofs.Math.Nat.{mod-eq_of_lt, mod-lt}
use Rattle.pools.specs.Laws.{EachRoundIsFair, WishKeepsTurn, in_a_row, is_at}
use Rattle.pools.specs.Pools.{PoolState}
use Rattle.pools.specs.Selection.{after_selection, by_running_sums, in_turn, total, weight}
use Rattle.pools.specs.declared.member.Wanted.TheVariants.{Any}
use Rattle.pools.proofs.Hits.{hits, hits_none, hits_one, hits_round, one}
use Rattle.pools.proofs.Turns.{runs_some, shares}

-- the member that a number of the counter takes
abbrev taken : PoolState → ℕ → Option ℕ
taken pool n = by_running_sums (weight pool) pool.members (n % total pool)

turn_of : (pool : PoolState) → 0 < total pool → in_turn pool ≡ taken pool pool.counter
turn_of pool some = rw (ne_eqb (total pool) 0 (λ e. omega arith)) refl

pub turn_some : (pool : PoolState) → 0 < total pool → is_some (in_turn pool) ≡ true
turn_some pool some = ap is_some (turn_of pool some) ∙ runs_some (weight pool) pool.members (pool.counter % total pool) (mod-lt pool.counter some)

-- the next selection begins at the next number
next_turn : (pool : PoolState) → 0 < total pool → pool.counter + 1 < 2 ^ 64 → after_selection pool Any ≡ record pool { counter = suc pool.counter }
next_turn pool some small =
    rw (turn_some pool some) (ap (λ n. record pool { counter = n }) (mod-eq_of_lt small ∙ omega arith))

count_one : {X : Type 0} (p : X → Bool) (x : X) (xs : List X) → count_by p (x ∷ xs) ≡ one (p x) + count_by p xs
count_one p x xs = sum_by-cons (λ y. one (p y)) x xs

-- n selections take the members of n numbers
in_a_row_is : (at n : ℕ) (pool : PoolState) → 0 < total pool → pool.counter + n ≤ 2 ^ 64
    → count_by (is_at at) (in_a_row n pool) ≡ hits (λ k. is_at at (taken pool k)) pool.counter n
in_a_row_is at zero pool some fits = sym (hits_none _ _)
in_a_row_is at (suc zero) pool some fits =
    count_one (is_at at) (in_turn pool) [] ∙ ap (λ o. one (is_at at o) + 0) (turn_of pool some) ∙ sym (hits_one _ pool.counter 0 ∙ ap (λ k. one (is_at at (taken pool pool.counter)) + k) (hits_none _ _))
in_a_row_is at (suc (suc n)) pool some fits =
    let next : PoolState = record pool { counter = suc pool.counter } in
    let rest = ap (λ p. count_by (is_at at) (in_a_row (suc n) p)) (next_turn pool some (omega arith)) ∙ in_a_row_is at (suc n) next some (omega arith) in
    count_one (is_at at) (in_turn pool) (in_a_row (suc n) (after_selection pool Any)) ∙ ap₂ (λ o k. one (is_at at o) + k) (turn_of pool some) rest ∙ sym (hits_one _ pool.counter (suc n))

pub zero_or_some : (n : ℕ) → (n ≡ 0) ⊎ (0 < n)
zero_or_some zero = inl refl
zero_or_some (suc n) = inr (omega arith)

pub fair : EachRoundIsFair
fair pool at marked fits stands =
    let share = shares (weight pool) pool.members at marked stands in
    ⊎_elim
    (λ none. ap (λ n. count_by (is_at at) (in_a_row n pool)) none ∙ sym (hits_none _ 0) ∙ ap (hits _ 0) (sym none) ∙ share)
    (λ some. in_a_row_is at (total pool) pool some fits ∙ hits_round (λ n. is_at at (by_running_sums (weight pool) pool.members n)) (total pool) pool.counter ∙ share)
    (zero_or_some (total pool))

pub keeps_turn : WishKeepsTurn
keeps_turn pool addr at there = (rw there refl, rw there refl)
