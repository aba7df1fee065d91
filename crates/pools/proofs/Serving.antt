-- Groups that serve.
use Rattle.std.proofs.Common.{◌≡◌, ℕ, zero, suc, ◌+◌, ◌-◌, ◌%◌, ◌<◌, ◌≤◌, Bool, true, false, cond, ◌&&◌, ◌||◌, ◌==◌}
use Rattle.std.proofs.Common.{List, [], ◌∷◌, Option, Some, None, sym, refl, ap, ap₂, ◌∙◌, arith, map, option_map, ⊎_elim}
use Rattle.std.specs.Prelude.{nat_le, nat_lt, count_by, sum_by, slice_get}
use Rattle.std.specs.List.{list_all}
use Rattle.std.proofs.lemmas.Bool.{cases_lt, eq-eqb, le-leb, leb-true, ne_eqb}
use Rattle.std.proofs.lemmas.Bool.Decides.{nat_tests}
use Rattle.std.proofs.lemmas.List.Sums.{sum_by-cons}
use Rattle.pools.specs.Groups.{IsFloor, weight_from}
use Rattle.pools.specs.Pools.{PoolState, priority_fits}
use Rattle.pools.specs.Selection.{by_running_sums, group_serves, in_turn, is_above, share, total, weight}
use Rattle.pools.specs.declared.member.Marked.{Marked}
use Rattle.pools.specs.declared.member.Method.{Method}
use Rattle.pools.proofs.Kept.{members_of}

abbrev pub one : Bool → ℕ
one b = cond b 1 0

pub count_one : (test : Marked → Bool) (m : Marked) (ms : List Marked) → count_by test (m ∷ ms) ≡ one (test m) + count_by test ms
count_one test m ms = sum_by-cons (λ x. cond (test x) 1 0) m ms

-- ---- the higher a group, the fewer are above it
fewer_one : (up : Bool) (p q k : ℕ) → p ≤ q → one (up && nat_lt q k) ≤ one (up && nat_lt p k)
fewer_one up p q k more = grind (arith, nat_tests)

fewer_above : (p q : ℕ) (ms : List Marked) → p ≤ q → count_by (is_above q) ms ≤ count_by (is_above p) ms
fewer_above p q [] more = omega arith
fewer_above p q (m ∷ ms) more =
    let here = fewer_one m.up p q m.member.priority more in
    let rest = fewer_above p q ms more in
    let at_p = count_one (is_above p) m ms in
    let at_q = count_one (is_above q) m ms in
    omega arith

serves_where_fewer : (wanted a b : ℕ) → a ≤ b → (wanted == 0 || nat_lt b wanted) ≡ true → (wanted == 0 || nat_lt a wanted) ≡ true
serves_where_fewer wanted a b fewer serves = grind (arith, nat_tests)

pub serves_above : (wanted p q : ℕ) (ms : List Marked) → p ≤ q → group_serves wanted ms p ≡ true → group_serves wanted ms q ≡ true
serves_above wanted p q ms more serves = serves_where_fewer wanted _ _ (fewer_above p q ms more) serves

-- ---- the least priority that serves
abbrev pub NoneBelow : ℕ → List Marked → ℕ → Type 0
NoneBelow wanted ms floor = (p : ℕ) → p < floor → group_serves wanted ms p ≡ false

leb-false-of : (a b : ℕ) → b < a → nat_le a b ≡ false
leb-false-of a b less = grind (arith, nat_tests)

pub none_below_next : (wanted : ℕ) (ms : List Marked) (n : ℕ) → NoneBelow wanted ms n → group_serves wanted ms n ≡ false → NoneBelow wanted ms (n + 1)
none_below_next wanted ms n below here p inside =
    ⊎_elim (λ less. below p less) (λ most. let same : p ≡ n = omega arith in ap (group_serves wanted ms) same ∙ here) (cases_lt p n)

pub floor_found : (wanted : ℕ) (ms : List Marked) (floor : ℕ) → NoneBelow wanted ms floor → group_serves wanted ms floor ≡ true → IsFloor wanted ms floor
floor_found wanted ms floor below here p few =
    ⊎_elim (λ less. leb-false-of floor p less ∙ sym (below p less)) (λ most. le-leb floor p most ∙ sym (serves_above wanted floor p ms most here)) (cases_lt p floor)

pub floor_past : (wanted : ℕ) (ms : List Marked) (floor : ℕ) → NoneBelow wanted ms floor → 100 < floor → IsFloor wanted ms floor
floor_past wanted ms floor below past p few = leb-false-of floor p (omega arith) ∙ sym (below p (omega arith))

-- ---- weights by the least priority that serves
module _ (w v : Marked → ℕ) (same : (m : Marked) → priority_fits m.member ≡ true → w m ≡ v m) where
  both : (a b : Bool) → (a && b) ≡ true → (a ≡ true) × (b ≡ true)
  both false b h = cc
  both true b h = (refl, h)

  pub sums_agree : (ms : List Marked) → list_all priority_fits (members_of ms) ≡ true → sum_by w ms ≡ sum_by v ms
  sums_agree [] fits = refl
  sums_agree (m ∷ ms) fits =
      let all = both (priority_fits m.member) _ fits in
      sum_by-cons w m ms ∙ ap₂ (λ a b. a + b) (same m all.0) (sums_agree ms all.1) ∙ sym (sum_by-cons v m ms)

  pub runs_agree : (ms : List Marked) (n : ℕ) → list_all priority_fits (members_of ms) ≡ true → by_running_sums w ms n ≡ by_running_sums v ms n
  runs_agree [] n fits = refl
  runs_agree (m ∷ ms) n fits =
      let all = both (priority_fits m.member) _ fits in
      ap (λ k. cond (nat_lt n k) (Some 0) (option_map suc (by_running_sums w ms (n - k)))) (same m all.0)
      ∙ ap (λ o. cond (nat_lt n (v m)) (Some 0) (option_map suc o)) (runs_agree ms (n - v m) all.1)

module _ (pool : PoolState) (floor : ℕ) (is : IsFloor pool.min_active pool.members floor) where
  abbrev by_floor : Marked → ℕ
  by_floor = weight_from pool.method floor

  weighs_same : (m : Marked) → priority_fits m.member ≡ true → by_floor m ≡ weight pool m
  weighs_same m fits = ap (λ b. cond (m.up && b) (share pool.method m.member) 0) (is m.member.priority (leb-true _ _ fits))

  pub total_by_floor : list_all priority_fits (members_of pool.members) ≡ true → sum_by by_floor pool.members ≡ total pool
  total_by_floor fits = sums_agree by_floor (weight pool) weighs_same pool.members fits

  pub runs_by_floor : (n : ℕ) → list_all priority_fits (members_of pool.members) ≡ true → by_running_sums by_floor pool.members n ≡ by_running_sums (weight pool) pool.members n
  runs_by_floor n fits = runs_agree by_floor (weight pool) weighs_same pool.members n fits

  -- the member whose turn it is, by the least priority that serves
  pub none_by_floor : list_all priority_fits (members_of pool.members) ≡ true → sum_by by_floor pool.members ≡ 0 → None ≡ in_turn pool
  none_by_floor fits nothing = rw (eq-eqb (total pool) 0 (sym (total_by_floor fits) ∙ nothing)) refl

  pub found_by_floor : list_all priority_fits (members_of pool.members) ≡ true → 0 < sum_by by_floor pool.members
      → by_running_sums by_floor pool.members (pool.counter % sum_by by_floor pool.members) ≡ in_turn pool
  found_by_floor fits some =
      let same = total_by_floor fits in
      runs_by_floor _ fits ∙ ap (λ n. by_running_sums (weight pool) pool.members (pool.counter % n)) same ∙ rw (ne_eqb (total pool) 0 (λ e. omega arith)) refl
