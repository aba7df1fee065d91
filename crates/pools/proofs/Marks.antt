-- Selections and marks.
use Rattle.std.proofs.Common.{◌≡◌, ℕ, zero, suc, ◌+◌, ◌%◌, ◌<◌, ◌≤◌, Bool, true, false, cond, not}
use Rattle.std.proofs.Common.{◌&&◌, ◌||◌, ◌==◌, ⊎_elim, List, [], ◌∷◌, Option, Some, None, sym, refl, ap, ap₂, ◌∙◌, arith}
use Rattle.std.proofs.lemmas.Bool.{cases_lt, eq-eqb, leb-true, lt-ltb}
use Rattle.std.proofs.lemmas.Bool.Decides.{nat_tests}
use Rattle.std.specs.List.{list_all}
use Rattle.std.specs.Prelude.{nat_le, nat_lt, count_by, is_some, slice_get, sum_by}
use Rattle.std.specs.Option.{option_or}
use Rattle.std.proofs.lemmas.List.Quantifiers.{position-Some}
use Rattle.std.proofs.lemmas.List.Sums.{sum_by-cons}
use Rattle.std.proofs.lemmas.Option.{get_or_from_slice_get}
use Rattle.px_bytes.specs.declared.addr.Addr.{Addr}
use Rattle.pools.specs.Laws.{NoneWhereNoneIsUp, SelectedIsUp}
use Rattle.pools.specs.Pools.{AreMembers, PoolState, has_addr, priority_fits, ratio_fits, up_count}
use Rattle.pools.specs.Selection.{by_running_sums, group_serves, in_turn, is_above, is_eligible, of_addr, share, total, weight}
use Rattle.pools.specs.declared.member.Marked.{Marked}
use Rattle.pools.specs.declared.member.Member.{Member}
use Rattle.pools.specs.declared.member.Method.{Method}
use Rattle.pools.specs.declared.member.Method.TheVariants.{RoundRobin, Ratio}
use Rattle.pools.specs.declared.member.Wanted.TheVariants.{Any, Wish, Only}
use Rattle.pools.proofs.Kept.{members_of}
use Rattle.pools.proofs.Rounds.{turn_some, zero_or_some}
use Rattle.pools.proofs.Serving.{count_one, one}
use Rattle.pools.proofs.Turns.{runs_weighs}

-- what weighs something is up
weighs_up : (up serves : Bool) (n : ℕ) → 0 < cond (up && serves) n 0 → up ≡ true
weighs_up true serves n some = refl
weighs_up false serves n some = absurd (omega arith)

both_hold : (a b : Bool) → (a && b) ≡ true → b ≡ true
both_hold false b h = cc
both_hold true b h = h

turn_up : (pool : PoolState) (at : ℕ) (marked : Marked) → in_turn pool ≡ Some at → slice_get pool.members at ≡ Some marked → marked.up ≡ true
turn_up pool at marked found stands =
    elim (total pool == 0) as (λ b. cond b None (by_running_sums (weight pool) pool.members (pool.counter % total pool)) ≡ Some at → marked.up ≡ true) [
      | true ↦ λ e. cc
      | false ↦ λ e. weighs_up marked.up _ _ (runs_weighs (weight pool) pool.members (pool.counter % total pool) at marked e stands)
    ] found

addr_up : (pool : PoolState) (addr : Addr) (at : ℕ) (marked : Marked) → of_addr pool addr ≡ Some at → slice_get pool.members at ≡ Some marked → marked.up ≡ true
addr_up pool addr at marked found stands =
    let test : Marked → Bool = λ m. has_addr addr m && m.up in
    let passes = (position-Some test pool.members at marked found).1 in
    both_hold (has_addr addr marked) marked.up (ap test (sym (get_or_from_slice_get pool.members at marked marked stands)) ∙ passes)

either_up : (o p : Option ℕ) (at : ℕ) (P : Type 0) → option_or o p ≡ Some at → (o ≡ Some at → P) → (p ≡ Some at → P) → P
either_up None p at P e f g = g e
either_up (Some k) p at P e f g = f e

pub selected_up : SelectedIsUp
selected_up pool Any at marked found stands = turn_up pool at marked found stands
selected_up pool (Wish addr) at marked found stands =
    either_up (of_addr pool addr) (in_turn pool) at _ found (λ e. addr_up pool addr at marked e stands) (λ e. turn_up pool at marked e stands)
selected_up pool (Only addr) at marked found stands = addr_up pool addr at marked found stands

-- ---- where nothing weighs anything, no member is up: of those that are, the highest are eligible
both_true : (a b : Bool) → (a && b) ≡ true → (a ≡ true) × (b ≡ true)
both_true false b h = cc
both_true true b h = (refl, h)

sum_zero : (a b : ℕ) → a + b ≡ 0 → (a ≡ 0) × (b ≡ 0)
sum_zero a b none = (omega arith, omega arith)

-- whether a member is down, or its priority is below a number
is_below : ℕ → Marked → Bool
is_below n m = not m.up || nat_lt m.member.priority n

below_one : (n : ℕ) (up : Bool) (priority : ℕ) → (not up || nat_lt priority (suc n)) ≡ true → (up && nat_lt n priority) ≡ false
below_one n up priority below = grind (arith, nat_tests)

none_above : (n : ℕ) (ms : List Marked) → list_all (is_below (suc n)) ms ≡ true → count_by (is_above n) ms ≡ 0
unfolding is_below
none_above n [] below = refl
none_above n (m ∷ ms) below =
    let all = both_true (is_below (suc n) m) _ below in
    count_one (is_above n) m ms ∙ ap₂ (λ b k. one b + k) (below_one n m.up m.member.priority all.0) (none_above n ms all.1) ∙ omega arith

serves_first : (wanted above : ℕ) → above ≡ 0 → (wanted == 0 || nat_lt above wanted) ≡ true
serves_first wanted above none = grind (arith, nat_tests)

module _ (method : Method) (serves : ℕ → Bool) where
  abbrev weighs : Marked → ℕ
  weighs m = cond (m.up && serves m.member.priority) (share method m.member) 0

  share_some : (which : Method) (member : Member) → ratio_fits member ≡ true → 1 ≤ share which member
  share_some RoundRobin member fits = omega arith
  share_some Ratio member fits = leb-true _ _ (both_true (nat_le 1 member.ratio) (nat_le member.ratio 100) fits).0

  lower_one : (n : ℕ) (up : Bool) (priority k : ℕ) → serves n ≡ true → 1 ≤ k → cond (up && serves priority) k 0 ≡ 0
      → (not up || nat_lt priority (suc n)) ≡ true → (not up || nat_lt priority n) ≡ true
  lower_one n false priority k here some none below = refl
  lower_one n true priority k here some none below =
      ⊎_elim (λ less. lt-ltb priority n less)
      (λ most.
      let same : priority ≡ n = grind (arith, nat_tests) in
      let serving : serves priority ≡ true = ap serves same ∙ here in
      absurd (let nothing : k ≡ 0 = sym (ap (λ b. cond b k 0) serving) ∙ none in omega arith))
      (cases_lt priority n)

  -- where the group of a priority serves and weighs nothing, all that are up are below it
  lower : (n : ℕ) (ms : List Marked) → serves n ≡ true → list_all ratio_fits (members_of ms) ≡ true → sum_by weighs ms ≡ 0
      → list_all (is_below (suc n)) ms ≡ true → list_all (is_below n) ms ≡ true
  unfolding is_below
  lower n [] here fits none below = refl
  lower n (m ∷ ms) here fits none below =
      let all = both_true (is_below (suc n) m) _ below in
      let ratios = both_true (ratio_fits m.member) _ fits in
      let zeros = sum_zero (weighs m) (sum_by weighs ms) (sym (sum_by-cons weighs m ms) ∙ none) in
      ap₂ (λ a b. a && b) (lower_one n m.up m.member.priority _ here (share_some method m.member ratios.0) zeros.0 all.0) (lower n ms here ratios.1 zeros.1 all.1)

  is_down : (up : Bool) → one up ≡ 0 → up ≡ false
  is_down true down = absurd (omega arith)
  is_down false down = refl

  down_weighs : (m : Marked) → one m.up ≡ 0 → weighs m ≡ 0
  down_weighs m down = ap (λ b. cond (b && serves m.member.priority) (share method m.member) 0) (is_down m.up down)

  all_down : (ms : List Marked) → count_by (λ (x : Marked). x.up) ms ≡ 0 → sum_by weighs ms ≡ 0
  all_down [] none = refl
  all_down (m ∷ ms) none =
      let zeros = sum_zero (one m.up) _ (sym (count_one (λ x. x.up) m ms) ∙ none) in
      sum_by-cons weighs m ms ∙ ap₂ (λ a b. a + b) (down_weighs m zeros.0) (all_down ms zeros.1)

-- what weighs nothing together has none up
module _ (pool : PoolState) (members : AreMembers (members_of pool.members)) (none : total pool ≡ 0) where
  descend : (n : ℕ) → list_all (is_below n) pool.members ≡ true → list_all (is_below 0) pool.members ≡ true
  descend zero below = below
  descend (suc n) below =
      let serves = serves_first pool.min_active _ (none_above n pool.members below) in
      descend n (lower pool.method (group_serves pool.min_active pool.members) n pool.members serves members.ratios none below)

  fits_below : (m : Member) (up : Bool) → priority_fits m ≡ true → (not up || nat_lt m.priority 101) ≡ true
  fits_below m up fits = grind (arith, nat_tests)

  all_below : (ms : List Marked) → list_all priority_fits (members_of ms) ≡ true → list_all (is_below 101) ms ≡ true
  unfolding is_below
  all_below [] fits = refl
  all_below (m ∷ ms) fits =
      let all = both_true (priority_fits m.member) _ fits in
      ap₂ (λ a b. a && b) (fits_below m.member m.up all.0) (all_below ms all.1)

  down : (up : Bool) (priority : ℕ) → (not up || nat_lt priority 0) ≡ true → up ≡ false
  down up priority below = grind (arith, nat_tests)

  none_counted : (ms : List Marked) → list_all (is_below 0) ms ≡ true → count_by (λ (x : Marked). x.up) ms ≡ 0
  unfolding is_below
  none_counted [] below = refl
  none_counted (m ∷ ms) below =
      let all = both_true (is_below 0 m) _ below in
      count_one (λ x. x.up) m ms ∙ ap₂ (λ b k. one b + k) (down m.up m.member.priority all.0) (none_counted ms all.1) ∙ omega arith

  all_are_down : up_count pool ≡ 0
  all_are_down = none_counted pool.members (descend 101 (all_below pool.members members.priorities))

no_turn : (o : Option ℕ) → is_some o ≡ true → o ≡ None → ⊥
no_turn None some none = cc
no_turn (Some k) some none = cc

pub none_up : NoneWhereNoneIsUp
none_up pool members = (
  λ none. ⊎_elim (λ nothing. all_are_down pool members nothing) (λ some. absurd (no_turn (in_turn pool) (turn_some pool some) none)) (zero_or_some (total pool)),
  λ nothing. rw (eq-eqb (total pool) 0 (all_down pool.method (group_serves pool.min_active pool.members) pool.members nothing)) refl,
)
