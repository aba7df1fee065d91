-- What keeps entries, slots and deadlines together.
use Rattle.std.proofs.Common.{◌≡◌, ◌≢◌, refl, sym, ap, ◌∙◌, subst, ℕ, ◌<◌, ◌≤◌, List, [], ◌∷◌, Bool, true, false, cond}
use Rattle.std.proofs.Common.{Option, Some, None, IsSome, length, nat_eq, arith, slice_set}
use Rattle.std.proofs.lemmas.Bool.Decides.{nat_tests}
use Rattle.std.proofs.lemmas.List.{get_or-set_other, get_or-set_same}
use Rattle.std.specs.Cmp.{IsTotalOrder, IsEquivalence, eq_by_cmp_equiv}
use Rattle.std.specs.declared.cmp.Ordering.{Ordering}
use Rattle.std.specs.List.Sorted.{IsStrictlySortedBy}
use Rattle.std.specs.Map.{keys_of, lookup}
use Rattle.std.specs.BTreeMap.{is_at}
use Rattle.std.specs.Ordering.{eq_by_cmp}
use Rattle.slab.specs.Slab.{Slab, get}
use Rattle.index_lists.specs.Wheel.{due_of}
use Rattle.timed_rows.specs.Tied.{HasEntry, HasSlot, IsTied}
use Rattle.timed_rows.specs.declared.timed_value.TimedValue.{TimedValue}

pub some_is : {X : Type 0} (o : Option X) → IsSome o → (x : X) × (o ≡ Some x)
some_is None h = cc
some_is (Some x) h = (x, refl)

module _ {K T : Type 0} (cmp : K → K → Ordering) where
  -- what stands at a key's slot now
  abbrev pub AtSlot : K → ℕ → Slab K → List (Option ℕ) → Option (TimedValue T) → Type 0
  AtSlot k n s ds None = (get s n ≡ None) × (due_of ds n ≡ None)
  AtSlot k n s ds (Some h) =
      (own : K) × ((get s n ≡ Some own) × ((is_at (cmp k) own ≡ true) × ((h.slot ≡ n) × (due_of ds n ≡ h.due))))

  -- one key has something else, or nothing, and its slot with it
  pub record Changes (es fs : List (K × TimedValue T)) (s t : Slab K) (ds xs : List (Option ℕ)) (k : K) (n : ℕ) (w : Option (TimedValue T)) : Type 0 where
    pub sorted : IsStrictlySortedBy cmp (keys_of fs)
    pub now : (q : K) → lookup (is_at (cmp q)) fs ≡ cond (is_at (cmp k) q) w (lookup (is_at (cmp q)) es)
    pub was : (h : TimedValue T) → lookup (is_at (cmp k)) es ≡ Some h → h.slot ≡ n
    pub owned : (own : K) → get s n ≡ Some own → is_at (cmp k) own ≡ true
    pub keys : (m : ℕ) → m ≢ n → get t m ≡ get s m
    pub dues : (m : ℕ) → m ≢ n → due_of xs m ≡ due_of ds m
    pub more : length ds ≤ length xs
    pub fits : n < length xs
    pub at : AtSlot k n t xs w

module _ {K : Type 0} {cmp : K → K → Ordering} (o : IsTotalOrder cmp) where
  laws : IsEquivalence (eq_by_cmp cmp)
  laws = eq_by_cmp_equiv o

  pub at_itself : (k : K) → is_at (cmp k) k ≡ true
  at_itself k = laws.refl k

  alike : (k q z : K) → is_at (cmp k) q ≡ true → is_at (cmp k) z ≡ is_at (cmp q) z
  alike k q z e = laws.congr k q z e

  -- both are at a third
  both_at : (k q z : K) → is_at (cmp k) z ≡ true → is_at (cmp q) z ≡ true → is_at (cmp k) q ≡ true
  both_at k q z e f = alike k z q e ∙ laws.symm z q ∙ f

module _ {K T : Type 0} {cmp : K → K → Ordering} (o : IsTotalOrder cmp) where
  -- a look-up of either of two that are alike finds the same
  pub found_alike : (k q : K) (es : List (K × TimedValue T)) → is_at (cmp k) q ≡ true
      → lookup (is_at (cmp k)) es ≡ lookup (is_at (cmp q)) es
  found_alike k q [] e = refl
  found_alike k q (x ∷ es) e =
      let same = alike o k q x.0 e in
      rw same (ap (λ r. cond (is_at (cmp q) x.0) (Some x.1) r) (found_alike k q es e))

  module _ (es fs : List (K × TimedValue T)) (s t : Slab K) (ds xs : List (Option ℕ)) (k : K) (n : ℕ) where
    slots_of : (w : Option (TimedValue T)) → IsTied cmp es s ds → Changes cmp es fs s t ds xs k n w → (q : K) (h : TimedValue T)
        → lookup (is_at (cmp q)) fs ≡ Some h → HasSlot cmp t xs q h
    slots_of w z c q h l = by (is_at (cmp k) q) refl (sym (c.now q) ∙ l)
      where
        here : (v : Option (TimedValue T)) → v ≡ Some h → AtSlot cmp k n t xs v → is_at (cmp k) q ≡ true → HasSlot cmp t xs q h
        here None e a b = cc
        here (Some g) e a b =
            let same : g ≡ h = cc in
            let slot : h.slot ≡ n = ap (λ y. y.slot) (sym same) ∙ a.1.1.1.0 in
            record {
              own = a.0;
              there = ap (get t) slot ∙ a.1.0;
              same = sym (alike o k q a.0 b) ∙ a.1.1.0;
              due = ap (due_of xs) slot ∙ a.1.1.1.1 ∙ ap (λ y. y.due) same;
            }

        by : (b : Bool) → is_at (cmp k) q ≡ b → cond b w (lookup (is_at (cmp q)) es) ≡ Some h → HasSlot cmp t xs q h
        by true b e = here w e c.at b
        by false b e =
            let g = z.slots q h e in
            let other : h.slot ≢ n = (λ m.
            let mine : get s n ≡ Some g.own = ap (get s) (sym m) ∙ g.there in
            let at = both_at o k q g.own (c.owned g.own mine) g.same in
            let no = sym b ∙ at in cc) in
            record {
              own = g.own;
              there = c.keys h.slot other ∙ g.there;
              same = g.same;
              due = c.dues h.slot other ∙ g.due;
            }

    entries_of : (w : Option (TimedValue T)) → IsTied cmp es s ds → Changes cmp es fs s t ds xs k n w → (m : ℕ) (q : K)
        → get t m ≡ Some q → HasEntry cmp fs m q
    entries_of w z c m q g = by (nat_eq m n) refl
      where
        here : (v : Option (TimedValue T)) → AtSlot cmp k n t xs v → get t n ≡ Some q → w ≡ v → m ≡ n → HasEntry cmp fs m q
        here None a f e same = let no = sym a.0 ∙ f in cc
        here (Some h) a f e same =
            let own : a.0 ≡ q = (let two = sym a.1.0 ∙ f in cc) in
            let at : is_at (cmp k) q ≡ true = ap (is_at (cmp k)) (sym own) ∙ a.1.1.0 in
            record {
              held = h;
              there = c.now q ∙ ap (λ b. cond b w (lookup (is_at (cmp q)) es)) at ∙ e;
              slot = a.1.1.1.0 ∙ sym same;
            }

        by : (b : Bool) → nat_eq m n ≡ b → HasEntry cmp fs m q
        by true e =
            let same : m ≡ n = grind (arith, nat_tests) in
            here w c.at (ap (get t) (sym same) ∙ g) refl same
        by false e =
            let other : m ≢ n = grind (arith, nat_tests) in
            let f = z.entries m q (sym (c.keys m other) ∙ g) in
            record {
              held = f.held;
              there = c.now q ∙ apart f other (is_at (cmp k) q) refl;
              slot = f.slot;
            }
          where
            apart : (f : HasEntry cmp es m q) → m ≢ n → (b : Bool) → is_at (cmp k) q ≡ b → cond b w (lookup (is_at (cmp q)) es) ≡ Some f.held
            apart f other false b = f.there
            apart f other true b =
                let there = found_alike k q es b ∙ f.there in
                absurd (other (sym f.slot ∙ c.was f.held there))

    alive_of : (w : Option (TimedValue T)) → IsTied cmp es s ds → Changes cmp es fs s t ds xs k n w → (m due : ℕ)
        → due_of xs m ≡ Some due → IsSome (get t m)
    alive_of w z c m due d = by (nat_eq m n) refl
      where
        here : (v : Option (TimedValue T)) → AtSlot cmp k n t xs v → due_of xs n ≡ Some due → IsSome (get t n)
        here None a f = let no = sym a.1 ∙ f in cc
        here (Some h) a f = subst (λ y. IsSome y) (sym a.1.0) refl

        by : (b : Bool) → nat_eq m n ≡ b → IsSome (get t m)
        by true e =
            let same : m ≡ n = grind (arith, nat_tests) in
            subst (λ y. IsSome (get t y)) (sym same) (here w c.at (ap (due_of xs) (sym same) ∙ d))
        by false e =
            let other : m ≢ n = grind (arith, nat_tests) in
            subst (λ y. IsSome y) (sym (c.keys m other)) (z.alive m due (sym (c.dues m other) ∙ d))

    reserved_of : (w : Option (TimedValue T)) → IsTied cmp es s ds → Changes cmp es fs s t ds xs k n w → (m : ℕ)
        → IsSome (get t m) → m < length xs
    reserved_of w z c m h = by (nat_eq m n) refl
      where
        by : (b : Bool) → nat_eq m n ≡ b → m < length xs
        by true e = let same : m ≡ n = grind (arith, nat_tests) in omega (arith, c.fits, same)
        by false e =
            let other : m ≢ n = grind (arith, nat_tests) in
            omega (arith, c.more, z.reserved m (subst (λ y. IsSome y) (c.keys m other) h))

    pub tied_changed : (w : Option (TimedValue T)) → IsTied cmp es s ds → Changes cmp es fs s t ds xs k n w → IsTied cmp fs t xs
    tied_changed w z c = record {
      sorted = c.sorted;
      slots = slots_of w z c;
      entries = entries_of w z c;
      alive = alive_of w z c;
      reserved = reserved_of w z c;
    }

  -- more room changes nothing
  pub tied_room : (es : List (K × TimedValue T)) (s t : Slab K) (ds xs : List (Option ℕ)) → IsTied cmp es s ds
      → ((m : ℕ) → get t m ≡ get s m) → ((m : ℕ) → due_of xs m ≡ due_of ds m) → length ds ≤ length xs → IsTied cmp es t xs
  tied_room es s t ds xs z keys dues more = record {
    sorted = z.sorted;
    slots = λ k h l. let g = z.slots k h l in record { own = g.own; there = keys h.slot ∙ g.there; same = g.same; due = dues h.slot ∙ g.due };
    entries = λ m k g. z.entries m k (sym (keys m) ∙ g);
    alive = λ m due d. subst (λ y. IsSome y) (sym (keys m)) (z.alive m due (sym (dues m) ∙ d));
    reserved = λ m h. let w = z.reserved m (subst (λ y. IsSome y) (keys m) h) in omega (arith, w, more);
  }

  -- the key of a slot is that of its entry alone
  pub slot_owned : (es : List (K × TimedValue T)) (s : Slab K) (ds : List (Option ℕ)) (k : K) (h : TimedValue T) → IsTied cmp es s ds
      → lookup (is_at (cmp k)) es ≡ Some h → (own : K) → get s h.slot ≡ Some own → is_at (cmp k) own ≡ true
  slot_owned es s ds k h z l own g =
      let f = z.slots k h l in
      let same : f.own ≡ own = (let two = sym f.there ∙ g in cc) in
      ap (is_at (cmp k)) (sym same) ∙ f.same

-- a deadline that is set is set for its slot alone
pub due_set : (ds : List (Option ℕ)) (n : ℕ) (d : Option ℕ) → n < length ds → due_of (slice_set ds n d) n ≡ d
due_set ds n d w = get_or-set_same ds n d None w

pub due_kept : (ds : List (Option ℕ)) (n m : ℕ) (d : Option ℕ) → m ≢ n → due_of (slice_set ds n d) m ≡ due_of ds m
due_kept ds n m d ne = get_or-set_other ds n m d None ne
