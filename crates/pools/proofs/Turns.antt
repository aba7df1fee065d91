-- Running sums over weights.
use Rattle.std.proofs.Common.{◌≡◌, ℕ, zero, suc, ◌+◌, ◌-◌, ◌<◌, ◌≤◌, Bool, true, false}
use Rattle.std.proofs.Common.{List, [], ◌∷◌, Option, Some, None, sym, refl, ap, subst, ◌∙◌, arith}
use Rattle.std.proofs.Common.{option_map, ⊎_elim}
use Rattle.std.specs.Prelude.{is_some, slice_get, sum_by}
use Rattle.std.proofs.lemmas.Bool.{cases_lt, cond-true, cond-false, le-ltb, lt-ltb, ne_eqb}
use Rattle.std.proofs.lemmas.Bool.Decides.{nat_tests}
use Rattle.std.proofs.lemmas.List.Sums.{sum_by-cons}
use Rattle.pools.specs.Laws.{is_at}
use Rattle.pools.specs.Selection.{by_running_sums}
use Rattle.pools.specs.declared.member.Marked.{Marked}
use Rattle.pools.proofs.Hits.{hits, hits_append, hits_all, hits_same}

-- a place that is one higher
still : (o : Option ℕ) → is_some (option_map suc o) ≡ is_some o
still None = refl
still (Some k) = refl

never : (o : Option ℕ) → is_at zero (option_map suc o) ≡ false
never None = refl
never (Some k) = ne_eqb (suc k) 0 (λ e. omega arith)

lowered : (at : ℕ) (o : Option ℕ) → is_at (suc at) (option_map suc o) ≡ is_at at o
lowered at None = refl
lowered at (Some k) = grind (arith, nat_tests)

module _ (weighs : Marked → ℕ) where
  abbrev runs : List Marked → ℕ → Option ℕ
  runs = by_running_sums weighs

  abbrev sums : List Marked → ℕ
  sums = sum_by weighs

  -- the first member's numbers, and the others'
  pub runs_first : (m : Marked) (ms : List Marked) (n : ℕ) → n < weighs m → runs (m ∷ ms) n ≡ Some 0
  runs_first m ms n small = cond-true _ _ _ (lt-ltb n (weighs m) small)

  pub runs_behind : (m : Marked) (ms : List Marked) (n : ℕ) → weighs m ≤ n → runs (m ∷ ms) n ≡ option_map suc (runs ms (n - weighs m))
  runs_behind m ms n large = cond-false _ _ _ (le-ltb n (weighs m) large)

  -- below the sum there is a member
  pub runs_some : (ms : List Marked) (n : ℕ) → n < sums ms → is_some (runs ms n) ≡ true
  runs_some [] n small = absurd (omega arith)
  runs_some (m ∷ ms) n small =
      ⊎_elim (λ here. ap is_some (runs_first m ms n here))
      (λ behind. ap is_some (runs_behind m ms n behind) ∙ still (runs ms (n - weighs m)) ∙ runs_some ms (n - weighs m) (omega (arith, sum_by-cons weighs m ms)))
      (cases_lt n (weighs m))

  -- a member that is found weighs something
  abbrev Weighs : List Marked → Option ℕ → Type 0
  Weighs ms found = (at : ℕ) (marked : Marked) → found ≡ Some at → slice_get ms at ≡ Some marked → 0 < weighs marked

  later : (m : Marked) (ms : List Marked) (found : Option ℕ) → Weighs ms found → Weighs (m ∷ ms) (option_map suc found)
  later m ms None rest at marked is stands = cc
  later m ms (Some k) rest zero marked is stands = cc
  later m ms (Some k) rest (suc j) marked is stands =
      let same : k ≡ j = cc in
      rest j marked (ap Some same) stands

  pub runs_weighs : (ms : List Marked) (n : ℕ) → Weighs ms (runs ms n)
  runs_weighs [] n at marked found stands = cc
  runs_weighs (m ∷ ms) n at marked found stands =
      ⊎_elim
      (λ here.
      let first : at ≡ 0 = let e = sym found ∙ runs_first m ms n here in cc in
      let same : m ≡ marked = let e = rw first at stands in cc in
      subst (λ k. 0 < weighs k) same (omega arith))
      (λ behind. later m ms (runs ms (n - weighs m)) (runs_weighs ms (n - weighs m)) at marked (sym (runs_behind m ms n behind) ∙ found) stands)
      (cases_lt n (weighs m))

  -- of the numbers below the sum each member has as many as it weighs
  pub shares : (ms : List Marked) (at : ℕ) (marked : Marked) → slice_get ms at ≡ Some marked → hits (λ n. is_at at (runs ms n)) 0 (sums ms) ≡ weighs marked
  shares [] at marked stands = cc
  shares (m ∷ ms) zero marked stands =
      let p : ℕ → Bool = λ n. is_at zero (runs (m ∷ ms) n) in
      let same : m ≡ marked = cc in
      let here = hits_all p true 0 (weighs m) (λ i low high. ap (is_at zero) (runs_first m ms i (omega arith))) in
      let behind = hits_all p false (0 + weighs m) (sums ms) (λ i low high. ap (is_at zero) (runs_behind m ms i (omega arith)) ∙ never (runs ms (i - weighs m))) in
      ap (hits p 0) (sum_by-cons weighs m ms) ∙ hits_append p 0 (weighs m) (sums ms) ∙ omega (arith, here, behind, ap weighs same)
  shares (m ∷ ms) (suc at) marked stands =
      let p : ℕ → Bool = λ n. is_at (suc at) (runs (m ∷ ms) n) in
      let here = hits_all p false 0 (weighs m) (λ i low high. ap (is_at (suc at)) (runs_first m ms i (omega arith)) ∙ ne_eqb 0 (suc at) (λ e. omega arith)) in
      let behind = hits_same p (λ n. is_at at (runs ms n)) (weighs m) 0 (sums ms)
      (λ i low high. ap (is_at (suc at)) (runs_behind m ms (i + weighs m) (omega arith) ∙ ap (λ k. option_map suc (runs ms k)) (omega arith)) ∙ lowered at (runs ms i)) in
      ap (hits p 0) (sum_by-cons weighs m ms) ∙ hits_append p 0 (weighs m) (sums ms) ∙ omega (arith, here, behind, shares ms at marked stands)
