-- Sorted items have the texts of the sorted elements.
use Rattle.std.proofs.Common.{◌≡◌, ℕ, Bool, true, false, cond, List, [], ◌∷◌, map, ℤ, pos, refl, ap, ap₂}
use Rattle.std.proofs.Common.{sym, ◌∙◌}
use Rattle.std.specs.Prelude.{Option, Some, None, unwrap_or, Result, Ok, Err}
use Rattle.std.specs.Ordering.{is_eq, is_lt, ordering_reverse, int_cmp}
use Rattle.std.specs.declared.cmp.Ordering.{Ordering}
use Rattle.px_bytes.specs.Gives.{with_value}
use Rattle.px_bytes.specs.Whole.{whole}
use Rattle.px_bytes.specs.WholeWord.{number_by, number_of}
use Rattle.px_bytes.specs.declared.fault.TclFault.{TclFault}
use Rattle.tcl_lists.specs.Write.{joined}
use Rattle.tcl_list_commands.specs.Items.{item_compared, item_rising, items_of, kept_items}
use Rattle.tcl_list_commands.specs.Items.{ordered_items, texts_of}
use Rattle.tcl_list_commands.specs.Sorted.{inserted, last_of_equal, sorted}
use Rattle.tcl_list_commands.specs.Sorting.{comparable, compared, in_order, number, ordered, rising}
use Rattle.tcl_list_commands.specs.Sorting.{whole_elements}
use Rattle.px_bytes.specs.Limit.{limited}
use Rattle.tcl_list_commands.specs.declared.order.Item.{Item}
use Rattle.tcl_list_commands.specs.declared.order.Order.{Order}

-- IMAGES OF ITEMS

abbrev AllOf : {K : Type 0} → (K → Type 0) → List K → Type 0
AllOf P [] = Unit {0}
AllOf P (k ∷ ks) = P k × AllOf P ks

module _ {K X : Type 0} (f : K → X) (c : K → K → Ordering) (d : X → X → Ordering) (P : K → Type 0) (agree : (a b : K) → P a → P b → c a b ≡ d (f a) (f b)) where
  either : (s : Bool) (xs ys : List K) → map f (cond s xs ys) ≡ cond s (map f xs) (map f ys)
  either true xs ys = refl
  either false xs ys = refl

  one_kept : (s : Bool) (k j : K) (js more : List K) → P k → P j → AllOf P js → AllOf P more → AllOf P (cond s (j ∷ more) (k ∷ (j ∷ js)))
  one_kept true k j js more p q all other = (q, other)
  one_kept false k j js more p q all other = (p, (q, all))

  inserted_all : (k : K) (ks : List K) → P k → AllOf P ks → AllOf P (inserted c k ks)
  inserted_all k [] p all = (p, tt)
  inserted_all k (j ∷ js) p all = one_kept (is_lt (c j k)) k j js (inserted c k js) p all.0 all.1 (inserted_all k js p all.1)

  sorted_all : (ks : List K) → AllOf P ks → AllOf P (sorted c ks)
  sorted_all [] all = tt
  sorted_all (k ∷ ks) all = inserted_all k (sorted c ks) all.0 (sorted_all ks all.1)

  inserted_map : (k : K) (ks : List K) → P k → AllOf P ks → map f (inserted c k ks) ≡ inserted d (f k) (map f ks)
  inserted_map k [] p all = refl
  inserted_map k (j ∷ js) p all =
      either (is_lt (c j k)) (j ∷ inserted c k js) (k ∷ (j ∷ js)) ∙ ap₂ (λ o l. cond (is_lt o) (f j ∷ l) (f k ∷ (f j ∷ map f js))) (agree j k all.0 p) (inserted_map k js p all.1)

  sorted_map : (ks : List K) → AllOf P ks → map f (sorted c ks) ≡ sorted d (map f ks)
  sorted_map [] all = refl
  sorted_map (k ∷ ks) all = inserted_map k (sorted c ks) all.0 (sorted_all ks all.1) ∙ ap (inserted d (f k)) (sorted_map ks all.1)

  last_map : (ks : List K) → AllOf P ks → map f (last_of_equal c ks) ≡ last_of_equal d (map f ks)
  last_map [] all = refl
  last_map (x ∷ []) all = refl
  last_map (x ∷ (y ∷ ys)) all =
      either (is_eq (c x y)) (last_of_equal c (y ∷ ys)) (x ∷ last_of_equal c (y ∷ ys))
      ∙ ap₂ (λ o l. cond (is_eq o) l (f x ∷ l)) (agree x y all.0 all.1.0) (last_map (y ∷ ys) all.1)

  kept_map : (unique : Bool) (ks : List K) → AllOf P ks → map f (cond unique (last_of_equal c (sorted c ks)) (sorted c ks)) ≡ cond unique (last_of_equal d (sorted d (map f ks))) (sorted d (map f ks))
  kept_map true ks all = last_map (sorted c ks) (sorted_all ks all) ∙ ap (last_of_equal d) (sorted_map ks all)
  kept_map false ks all = sorted_map ks all

-- NUMBERS

-- an item has its element's number
abbrev Numbered : Bool → Item → Type 0
Numbered true item = item.number ≡ number item.text
Numbered false item = Unit {0}

abbrev AllNumbered : Bool → Result (List Item) TclFault → Type 0
AllNumbered integer (Ok items) = AllOf (Numbered integer) items
AllNumbered integer (Err fault) = Unit {0}

one_numbered : (integer : Bool) (item : Item) (r : Result (List Item) TclFault) → Numbered integer item → AllNumbered integer r → AllNumbered integer (with_value r (λ items. Ok (item ∷ items)))
one_numbered integer item (Ok items) p all = (p, all)
one_numbered integer item (Err fault) p all = tt

numbered_by : (x : List ℕ) (xs : List (List ℕ)) (o : Option ℤ) → whole x ≡ o → AllNumbered true (items_of true xs)
    → AllNumbered true (with_value (with_value (number_by o x) (λ n. Ok (record { number = n; text = x }))) (λ item. with_value (items_of true xs) (λ items. Ok (item ∷ items))))
numbered_by x xs None e all = tt
numbered_by x xs (Some n) e all = one_numbered true (record { number = n; text = x }) (items_of true xs) (sym (ap (λ o. unwrap_or o (pos 0)) e)) all

all_numbered : (integer : Bool) (xs : List (List ℕ)) → AllNumbered integer (items_of integer xs)
all_numbered true [] = tt
all_numbered true (x ∷ xs) = numbered_by x xs (whole x) refl (all_numbered true xs)
all_numbered false [] = tt
all_numbered false (x ∷ xs) = one_numbered false (record { number = pos 0; text = x }) (items_of false xs) tt (all_numbered false xs)

same_rising : (integer : Bool) (x y : Item) → Numbered integer x → Numbered integer y → item_rising integer x y ≡ rising integer x.text y.text
same_rising true x y p q = ap₂ int_cmp p q
same_rising false x y p q = refl

-- ELEMENTS

abbrev with_texts : Result (List Item) TclFault → Result (List (List ℕ)) TclFault
with_texts r = with_value r (λ items. Ok (texts_of items))

one_text : (item : Item) (r : Result (List Item) TclFault) (w : Result (List (List ℕ)) TclFault) → w ≡ with_texts r
    → with_value w (λ more. Ok (item.text ∷ more)) ≡ with_texts (with_value r (λ items. Ok (item ∷ items)))
one_text item (Ok items) w e = ap (λ v. with_value v (λ more. Ok (item.text ∷ more))) e
one_text item (Err fault) w e = ap (λ v. with_value v (λ more. Ok (item.text ∷ more))) e

whole_by : (x : List ℕ) (xs : List (List ℕ)) (r : Result ℤ TclFault) → whole_elements xs ≡ with_texts (items_of true xs)
    → with_value r (λ n. with_value (whole_elements xs) (λ more. Ok (x ∷ more)))
    ≡ with_texts (with_value (with_value r (λ n. Ok (record { number = n; text = x }))) (λ item. with_value (items_of true xs) (λ items. Ok (item ∷ items))))
whole_by x xs (Ok n) e = one_text (record { number = n; text = x }) (items_of true xs) (whole_elements xs) e
whole_by x xs (Err fault) e = refl

item_texts : (integer : Bool) (xs : List (List ℕ)) → comparable integer xs ≡ with_texts (items_of integer xs)
item_texts true [] = refl
item_texts true (x ∷ xs) = whole_by x xs (number_of x) (item_texts true xs)
item_texts false [] = refl
item_texts false (x ∷ xs) = one_text (record { number = pos 0; text = x }) (items_of false xs) (Ok xs) (item_texts false xs)

same_by : (order : Order) (r : Result (List Item) TclFault) → AllNumbered order.integer r
    → with_value r (λ items. limited (joined (texts_of (kept_items order (sorted (item_compared order) items))))) ≡ with_value (with_texts r) (λ known. limited (joined (in_order order known)))
same_by order (Ok items) all =
    ap (λ l. limited (joined l)) (kept_map (λ i. i.text) (item_compared order) (compared order) (Numbered order.integer)
    (λ a b p q. ap (λ o. cond order.decreasing (ordering_reverse o) o) (same_rising order.integer a b p q)) order.unique items all)
same_by order (Err fault) all = refl

-- sorted items give the sorted elements
pub same_order : (order : Order) (elements : List (List ℕ)) → ordered_items order elements ≡ ordered order elements
same_order order elements =
    same_by order (items_of order.integer elements) (all_numbered order.integer elements)
    ∙ ap (λ r. with_value r (λ known. limited (joined (in_order order known)))) (sym (item_texts order.integer elements))
