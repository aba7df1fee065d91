-- Each order once.
use Rattle.std.proofs.Common.{◌≡◌, ℕ, zero, suc, ◌+◌, ◌==◌, cond, List, [], ◌∷◌, length, map, get_or, drop}
use Rattle.std.proofs.Common.{inl, inr, refl, sym, ap, ◌∙◌, arith}
use Rattle.std.specs.List.{flat_map}
use Rattle.test_orders.specs.Laws.{Among, Distinct, EachOrderOnce}
use Rattle.test_orders.specs.Orders.{group_of, nexts, numbers_from, orders_of}
use Rattle.test_orders.proofs.Members.{among_flat, among_map, distinct_both, distinct_map, flat_among, map_among}
use Rattle.test_orders.proofs.Nexts.{HeadsApart, heads_apart, kept, kept_first, nexts_have, nexts_keep, nexts_length}

module _ (groups : List ℕ) where
  abbrev behind : ℕ → ℕ × List ℕ → List (List ℕ)
  behind more next = map (λ order. next.0 ∷ order) (orders_of groups more next.1)

  pub are_orders : (n : ℕ) (left : List ℕ) → length left ≡ n → (order : List ℕ) → Among order (orders_of groups n left)
      → (k : ℕ) → kept groups k order ≡ kept groups k left
  are_orders zero [] e order (inl o) k = ap (kept groups k) o
  are_orders zero [] e order (inr o) k = absurd o
  are_orders zero (x ∷ xs) e order a k = absurd (omega (arith, e))
  are_orders (suc n) left e order a k =
      let p = among_flat (behind n) (nexts groups [] left) order a in
      let z = among_map (λ zs. p.0.0 ∷ zs) (orders_of groups n p.0.1) order p.2 in
      let size : length p.0.1 ≡ n = omega (arith, nexts_length groups [] left p.0 p.1, e) in
      ap (kept groups k) z.2
      ∙ ap (λ l. cond (group_of groups p.0.0 == k) (p.0.0 ∷ l) l) (are_orders n p.0.1 size z.0 z.1 k)
      ∙ nexts_keep groups k [] left p.0 p.1

  empty_left : (order : List ℕ) → ((k : ℕ) → kept groups k order ≡ []) → order ≡ []
  empty_left [] same = refl
  empty_left (y ∷ ys) same = absurd (omega (arith, ap length (sym (kept_first groups y ys) ∙ same (group_of groups y))))

  pub orders_are : (n : ℕ) (left : List ℕ) → length left ≡ n → (order : List ℕ) → ((k : ℕ) → kept groups k order ≡ kept groups k left)
      → Among order (orders_of groups n left)
  orders_are zero [] e order same = inl (empty_left order same)
  orders_are zero (x ∷ xs) e order same = absurd (omega (arith, e))
  orders_are (suc n) [] e order same = absurd (omega (arith, e))
  orders_are (suc n) (m ∷ ms) e [] same =
      absurd (omega (arith, ap length (same (group_of groups m) ∙ kept_first groups m ms)))
  orders_are (suc n) (m ∷ ms) e (y ∷ zs) same =
      let r = nexts_have groups [] (m ∷ ms) y zs refl same in
      let size : length r.0 ≡ n = omega (arith, nexts_length groups [] (m ∷ ms) (y, r.0) r.1, e) in
      flat_among (behind n) (nexts groups [] (m ∷ ms)) (y, r.0) (y ∷ zs) r.1
      (map_among (λ order. y ∷ order) (orders_of groups n r.0) zs (orders_are n r.0 size zs r.2))

  distinct_behind : (n : ℕ) (ps : List (ℕ × List ℕ)) → HeadsApart groups ps
      → ((p : ℕ × List ℕ) → Among p ps → Distinct (orders_of groups n p.1)) → Distinct (flat_map (behind n) ps)
  distinct_behind n [] apart each = tt
  distinct_behind n (p ∷ ps) apart each =
      distinct_both (behind n p) (flat_map (behind n) ps)
      (distinct_map (λ order. p.0 ∷ order) (λ x y e. ap (λ l. drop 1 l) e) (orders_of groups n p.1) (each p (inl refl)))
      (distinct_behind n ps apart.1 (λ q a. each q (inr a)))
      (λ order a b.
      let x = among_map (λ zs. p.0 ∷ zs) (orders_of groups n p.1) order a in
      let q = among_flat (behind n) ps order b in
      let y = among_map (λ zs. q.0.0 ∷ zs) (orders_of groups n q.0.1) order q.2 in
      apart.0 q.0 q.1 (ap (λ l. get_or l 0 0) (sym x.2 ∙ y.2)))

  pub distinct_orders : (n : ℕ) (left : List ℕ) → length left ≡ n → Distinct (orders_of groups n left)
  distinct_orders zero left e = (λ a. a, tt)
  distinct_orders (suc n) left e = distinct_behind n (nexts groups [] left) (heads_apart groups [] left)
      (λ p a. distinct_orders n p.1 (omega (arith, nexts_length groups [] left p a, e)))

pub so_many : (n size : ℕ) → length (numbers_from n size) ≡ size
so_many n zero = refl
so_many n (suc size) = ap suc (so_many (n + 1) size)

pub each_order_once : (groups : List ℕ) → EachOrderOnce groups
each_order_once groups =
    let n = length groups in
    let left = numbers_from 0 n in
    record {
      once = distinct_orders groups n left (so_many 0 n);
      each = λ order. (are_orders groups n left (so_many 0 n) order, orders_are groups n left (so_many 0 n) order);
    }
