-- Entries whose deadline has come.
use Rattle.std.proofs.Common.{◌≡◌, refl, ap, ◌∙◌, ℕ, suc, ◌<◌, ◌≤◌, List, [], ◌∷◌, true, false, Option}
use Rattle.std.proofs.Common.{Some, None, length, arith, get_or}
use Rattle.std.proofs.lemmas.Bool.Decides.{nat_tests}
use Rattle.std.specs.Cmp.{IsTotalOrder}
use Rattle.std.specs.declared.cmp.Ordering.{Ordering}
use Rattle.std.specs.BTreeMap.{BTreeMap}
use Rattle.std.proofs.lemmas.Map.Views.{All-found}
use Rattle.slab.specs.Slab.{Slab}
use Rattle.index_lists.specs.Wheel.{NoneDue}
use Rattle.timed_rows.specs.Rows.{is_later, later_than}
use Rattle.timed_rows.specs.Tied.{IsTied, seen}
use Rattle.timed_rows.specs.declared.timed_value.TimedValue.{TimedValue}

pub come : (moment due : ℕ) (o : Option ℕ) → o ≡ Some due → due ≤ moment → is_later moment o ≡ false
come moment due None e w = cc
come moment due (Some d) e w = let s : d ≡ due = cc in grind (arith, nat_tests)

to_come : (moment : ℕ) (o : Option ℕ) → ((due : ℕ) → o ≡ Some due → moment < due) → is_later moment o ≡ true
to_come moment None h = refl
to_come moment (Some d) h = let w = h d refl in grind (arith, nat_tests)

module _ {K T : Type 0} where
  each_later : (moment : ℕ) (es : List (K × TimedValue T))
      → ((i : ℕ) (d : K × TimedValue T) → i < length es → is_later moment (get_or es i d).1.due ≡ true)
      → later_than moment (seen es) ≡ seen es
  each_later moment [] h = refl
  each_later moment (e ∷ es) h =
      let t : is_later moment e.1.due ≡ true = h 0 e (omega arith) in
      rw t (ap (λ xs. (e.0, (e.1.value, e.1.due)) ∷ xs) (each_later moment es (λ i d w. h (suc i) d (omega (arith, w)))))

  -- where no deadline has come all entries are later
  pub all_later : {cmp : K → K → Ordering} → IsTotalOrder cmp → (moment : ℕ) (m : BTreeMap K (TimedValue T)) (s : Slab K) (ds : List (Option ℕ))
      → IsTied cmp m.entries s ds → NoneDue ds moment → later_than moment (seen m.entries) ≡ seen m.entries
  all_later {cmp} o moment m s ds z none = each_later moment m.entries (λ i d w.
      let f = z.slots (get_or m.entries i d).0 (get_or m.entries i d).1 (All-found o m z.sorted i d w) in
      to_come moment (get_or m.entries i d).1.due (λ due e. none (get_or m.entries i d).1.slot due (f.due ∙ e)))
