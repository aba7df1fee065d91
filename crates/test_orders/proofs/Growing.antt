-- Orders that grow all together come to what orders are one by one.
use Rattle.std.proofs.Common.{◌≡◌, ℕ, zero, suc, ◌<◌, ◌≤◌, List, [], ◌∷◌, ◌++◌, length, map}
use Rattle.std.proofs.Common.{inl, inr, refl, sym, ap, ap₂, subst, ◌∙◌, arith, append_assoc, append-nil, length-append}
use Rattle.std.specs.List.{flat_map}
use Rattle.std.proofs.lemmas.Grind.{flat_map-append}
use Rattle.test_orders.specs.Laws.{Among}
use Rattle.std.specs.Prelude.{IfNone, IfSome, Option, Some, None}
use Rattle.test_orders.specs.Orders.{grown, most_orders, nexts, numbers_from, orders, orders_of, steps_of}
use Rattle.test_orders.specs.declared.order.StepOrder.{StepOrder}
use Rattle.test_orders.proofs.EachOrder.{so_many}
use Rattle.test_orders.proofs.Nexts.{nexts_length}

size_of_map : (f : List ℕ → List ℕ) (xs : List (List ℕ)) → length (map f xs) ≡ length xs
size_of_map f [] = refl
size_of_map f (x ∷ xs) = ap suc (size_of_map f xs)

module _ (groups : List ℕ) where
  -- the orders that begin so
  abbrev pub ends_of : ℕ → StepOrder → List (List ℕ)
  ends_of n order = map (λ rest. order.done ++ rest) (orders_of groups n order.left)

  abbrev pub one_more : List ℕ → ℕ × List ℕ → StepOrder
  one_more done next = record { done = done ++ next.0 ∷ []; left = next.1 }

  abbrev behind : ℕ → ℕ × List ℕ → List (List ℕ)
  behind n next = map (λ order. next.0 ∷ order) (orders_of groups n next.1)

  -- what is put in front of both parts
  in_front : (done : List ℕ) (x : ℕ) (rests : List (List ℕ))
      → map (λ rest. done ++ rest) (map (λ rest. x ∷ rest) rests) ≡ map (λ rest. (done ++ x ∷ []) ++ rest) rests
  in_front done x [] = refl
  in_front done x (r ∷ rs) = ap₂ (λ a b. a ∷ b) (sym (append_assoc done (x ∷ []) r)) (in_front done x rs)

  map_both : (f : List ℕ → List ℕ) (xs ys : List (List ℕ)) → map f (xs ++ ys) ≡ map f xs ++ map f ys
  map_both f [] ys = refl
  map_both f (x ∷ xs) ys = ap (λ l. f x ∷ l) (map_both f xs ys)

  ends_step : (n : ℕ) (done : List ℕ) (ps : List (ℕ × List ℕ))
      → map (λ rest. done ++ rest) (flat_map (behind n) ps) ≡ flat_map (ends_of n) (map (one_more done) ps)
  ends_step n done [] = refl
  ends_step n done (p ∷ ps) =
      map_both (λ rest. done ++ rest) (behind n p) (flat_map (behind n) ps)
      ∙ ap₂ (λ a b. a ++ b) (in_front done p.0 (orders_of groups n p.1)) (ends_step n done ps)

  -- all together end as before with one number more
  pub ends_grown : (n : ℕ) (orders : List StepOrder) → flat_map (ends_of (suc n)) orders ≡ flat_map (ends_of n) (grown groups orders)
  ends_grown n [] = refl
  ends_grown n (o ∷ os) =
      ap₂ (λ a b. a ++ b) (ends_step n o.done (nexts groups [] o.left)) (ends_grown n os)
      ∙ sym (flat_map-append (ends_of n) (steps_of groups o) (grown groups os))

  -- so many are left in each
  abbrev pub Left : ℕ → List StepOrder → Type 0
  Left n [] = Unit {0}
  Left n (o ∷ os) = (length o.left ≡ n) × Left n os

  left_both : (n : ℕ) (xs ys : List StepOrder) → Left n xs → Left n ys → Left n (xs ++ ys)
  left_both n [] ys p q = q
  left_both n (x ∷ xs) ys p q = (p.0, left_both n xs ys p.1 q)

  left_steps : (n : ℕ) (done : List ℕ) (ps : List (ℕ × List ℕ)) → ((p : ℕ × List ℕ) → Among p ps → length p.1 ≡ n) → Left n (map (one_more done) ps)
  left_steps n done [] each = tt
  left_steps n done (p ∷ ps) each = (each p (inl refl), left_steps n done ps (λ q a. each q (inr a)))

  pub left_grown : (n : ℕ) (orders : List StepOrder) → Left (suc n) orders → Left n (grown groups orders)
  left_grown n [] l = tt
  left_grown n (o ∷ os) l = left_both n (steps_of groups o) (grown groups os)
      (left_steps n o.done (nexts groups [] o.left) (λ p a. omega (arith, nexts_length groups [] o.left p a, l.0)))
      (left_grown n os l.1)

  some_next : (n : ℕ) (ns : List ℕ) → 0 < length (nexts groups [] (n ∷ ns))
  some_next n ns = omega arith

  some_flat : (n : ℕ) (ps : List (ℕ × List ℕ)) → 0 < length ps → ((p : ℕ × List ℕ) → Among p ps → 0 < length (orders_of groups n p.1))
      → 0 < length (flat_map (behind n) ps)
  some_flat n [] some each = some
  some_flat n (p ∷ ps) some each =
      omega (arith, length-append (behind n p) (flat_map (behind n) ps), size_of_map (λ order. p.0 ∷ order) (orders_of groups n p.1), each p (inl refl))

  -- there is an order
  pub some_order : (n : ℕ) (left : List ℕ) → length left ≡ n → 0 < length (orders_of groups n left)
  some_order zero left e = omega arith
  some_order (suc n) [] e = absurd (omega (arith, e))
  some_order (suc n) (m ∷ ms) e = some_flat n (nexts groups [] (m ∷ ms)) (some_next m ms)
      (λ p a. some_order n p.1 (omega (arith, nexts_length groups [] (m ∷ ms) p a, e)))

  -- beginnings are no more than orders
  pub no_more : (n : ℕ) (orders : List StepOrder) → Left n orders → length orders ≤ length (flat_map (ends_of n) orders)
  no_more n [] l = omega arith
  no_more n (o ∷ os) l =
      omega (
        arith,
        length-append (ends_of n o) (flat_map (ends_of n) os),
        size_of_map (λ rest. o.done ++ rest) (orders_of groups n o.left),
        some_order n o.left l.0,
        no_more n os l.1,
      )

  -- in the end they are the orders
  pub all_done : (orders : List StepOrder) → flat_map (ends_of zero) orders ≡ map (λ o. o.done) orders
  all_done [] = refl
  all_done (o ∷ os) = ap₂ (λ a b. a ∷ b) (append-nil o.done) (all_done os)

  plainly : (xs : List (List ℕ)) → map (λ rest. [] ++ rest) xs ≡ xs
  plainly [] = refl
  plainly (x ∷ xs) = ap (λ l. x ∷ l) (plainly xs)

  pub ends_first : (n : ℕ) (left : List ℕ) → flat_map (ends_of n) (record { done = []; left = left } ∷ []) ≡ orders_of groups n left
  ends_first n left = append-nil (map (λ rest. [] ++ rest) (orders_of groups n left)) ∙ plainly (orders_of groups n left)

  -- beginnings that come to all orders, with so many left in each
  abbrev pub Come : ℕ → List StepOrder → Type 0
  Come n found = (flat_map (ends_of n) found ≡ orders groups) × Left n found

  pub come_first : (found : List StepOrder) (n : ℕ) → n ≡ length groups
      → found ≡ record { done = []; left = numbers_from 0 (length groups) } ∷ [] → Come n found
  come_first found n size is =
      let left = numbers_from 0 (length groups) in
      subst (Come n) (sym is) (ends_first n left ∙ ap (λ m. orders_of groups m left) size, (so_many 0 (length groups) ∙ sym size, tt))

  pub come_on : (found next : List StepOrder) (n m : ℕ) → n ≡ suc m → Come n found → next ≡ grown groups found → Come m next
  come_on found next n m more come is =
      let at = subst (λ k. Come k found) more come in
      subst (Come m) (sym is) (sym (ends_grown m found) ∙ at.0, left_grown m found at.1)

  pub come_many : (found : List StepOrder) (n m : ℕ) → n ≡ suc m → Come n found → most_orders < length (grown groups found)
      → most_orders < length (orders groups)
  come_many found n m more come many =
      let on = come_on found (grown groups found) n m more come refl in
      omega (arith, many, no_more m (grown groups found) on.1, ap length on.0)

  pub come_to_end : (found : List StepOrder) (n : ℕ) → n ≡ 0 → Come n found → map (λ o. o.done) found ≡ orders groups
  come_to_end found n none come = sym (all_done found) ∙ (subst (λ k. Come k found) none come).0

pub some_is : {A : Type 0} (o : Option A) (P : A → Type 0) (x : A) → o ≡ Some x → IfSome o P → P x
some_is o P x e h = subst (λ p. IfSome p P) e h

pub none_is : {A : Type 0} (o : Option A) (P : Type 0) → o ≡ None → IfNone o P → P
none_is o P e h = subst (λ p. IfNone p P) e h
