-- The values of entries, in a slab that changed.
use Rattle.std.proofs.Common.{◌≡◌, ◌≢◌, ◌∙◌, refl, sym, ap, ℕ, zero, suc, List, [], ◌∷◌, ◌++◌, Bool, true, false, Option, Some, None, IsSome, is_some, nat_eq, length, arith, remove, set, slice_get}
use Rattle.std.specs.List.{AllByRecursion}
use Rattle.std.proofs.lemmas.Bool.Decides.{nat_tests}
use Rattle.slab.specs.Slab.{Slab, get, Updates}
use Rattle.number_table.specs.Layout.{Apart, Held, items_of, put}
use Rattle.number_table.specs.declared.Entry.{Entry}

differs : (a b : ℕ) → nat_eq a b ≡ false → b ≢ a
differs a b h = grind (arith, nat_tests)

pub others_set : (key at : ℕ) (es : List Entry) (e : Entry) → nat_eq key e.key ≡ false → AllByRecursion (λ x. nat_eq key x.key ≡ false) es → AllByRecursion (λ x. nat_eq key x.key ≡ false) (set es at e)
others_set key at [] e h o = tt
others_set key zero (x ∷ es) e h o = (h, o.1)
others_set key (suc at) (x ∷ es) e h o = (o.0, others_set key at es e h o.1)

pub others_push : (key : ℕ) (es : List Entry) (e : Entry) → nat_eq key e.key ≡ false → AllByRecursion (λ x. nat_eq key x.key ≡ false) es → AllByRecursion (λ x. nat_eq key x.key ≡ false) (es ++ e ∷ [])
others_push key [] e h o = (h, tt)
others_push key (x ∷ es) e h o = (o.0, others_push key es e h o.1)

pub others_remove : (key at : ℕ) (es : List Entry) → AllByRecursion (λ x. nat_eq key x.key ≡ false) es → AllByRecursion (λ x. nat_eq key x.key ≡ false) (remove es at)
others_remove key zero [] o = tt
others_remove key (suc at) [] o = tt
others_remove key zero (x ∷ es) o = o.1
others_remove key (suc at) (x ∷ es) o = (o.0, others_remove key at es o.1)

pub other_at : (key at : ℕ) (es : List Entry) (e : Entry) → AllByRecursion (λ x. nat_eq key x.key ≡ false) es → slice_get es at ≡ Some e → nat_eq key e.key ≡ false
other_at key at [] e o h = cc
other_at key zero (x ∷ es) e o h = let k : x ≡ e = cc in ap (λ y. nat_eq key y.key) (sym k) ∙ o.0
other_at key (suc at) (x ∷ es) e o h = other_at key at es e o.1 h

turned : (a b : ℕ) → nat_eq a b ≡ false → nat_eq b a ≡ false
turned a b h = grind (arith, nat_tests)

-- the entries keep their keys
pub apart_set : (at : ℕ) (es : List Entry) (e f : Entry) → slice_get es at ≡ Some e → f.key ≡ e.key → Apart es → Apart (set es at f)
apart_set at [] e f h k a = tt
apart_set zero (x ∷ es) e f h k a = let s : x ≡ e = cc in let t : x.key ≡ f.key = ap (λ y. y.key) s ∙ sym k in (rw t at a.0, a.1)
apart_set (suc at) (x ∷ es) e f h k a = (others_set x.key at es f (ap (λ n. nat_eq x.key n) k ∙ other_at x.key at es e a.0 h) a.0, apart_set at es e f h k a.1)

pub apart_push : (es : List Entry) (e : Entry) → AllByRecursion (λ x. nat_eq e.key x.key ≡ false) es → Apart es → Apart (es ++ e ∷ [])
apart_push [] e o a = (tt, tt)
apart_push (x ∷ es) e o a = (others_push x.key es e (turned e.key x.key o.0) a.0, apart_push es e o.1 a.1)

pub apart_remove : (at : ℕ) (es : List Entry) → Apart es → Apart (remove es at)
apart_remove zero [] a = tt
apart_remove (suc at) [] a = tt
apart_remove zero (x ∷ es) a = a.1
apart_remove (suc at) (x ∷ es) a = (others_remove x.key at es a.0, apart_remove at es a.1)

-- the others have other keys
pub others_removed : (at : ℕ) (es : List Entry) (e : Entry) → slice_get es at ≡ Some e → Apart es → AllByRecursion (λ x. nat_eq e.key x.key ≡ false) (remove es at)
others_removed at [] e h a = cc
others_removed zero (x ∷ es) e h a = let s : x ≡ e = cc in rw (ap (λ y. y.key) s) at a.0
others_removed (suc at) (x ∷ es) e h a = (turned x.key e.key (other_at x.key at es e a.0 h), others_removed at es e h a.1)

module _ {T : Type 0} where
  pub length_items : (s : Slab T) (es : List Entry) → Held s es → length (items_of s es) ≡ length es
  length_items s [] h = refl
  length_items s (e ∷ es) h = by_value (get s e.key) h.0 (length_items s es h.1)
    where
      by_value : (o : Option T) → IsSome o → length (items_of s es) ≡ length es → length (put o (items_of s es)) ≡ suc (length es)
      by_value None p r = cc
      by_value (Some x) p r = ap suc r

  pub held_at : (at : ℕ) (s : Slab T) (es : List Entry) (e : Entry) → Held s es → slice_get es at ≡ Some e → IsSome (get s e.key)
  held_at at s [] e h g = cc
  held_at zero s (x ∷ es) e h g = let k : x ≡ e = cc in ap (λ y. is_some (get s y.key)) (sym k) ∙ h.0
  held_at (suc at) s (x ∷ es) e h g = held_at at s es e h.1 g

  -- the value at a place
  pub item_at : (at : ℕ) (s : Slab T) (es : List Entry) (e : Entry) → Held s es → slice_get es at ≡ Some e → slice_get (items_of s es) at ≡ get s e.key
  item_at at s [] e h g = cc
  item_at zero s (x ∷ es) e h g = let k : x ≡ e = cc in by_value (get s x.key) h.0 ∙ ap (λ y. get s y.key) k
    where
      by_value : (o : Option T) → IsSome o → slice_get (put o (items_of s es)) 0 ≡ o
      by_value None p = cc
      by_value (Some v) p = refl
  item_at (suc at) s (x ∷ es) e h g = by_value (get s x.key) h.0 (item_at at s es e h.1 g)
    where
      by_value : (o : Option T) → IsSome o → slice_get (items_of s es) at ≡ get s e.key → slice_get (put o (items_of s es)) (suc at) ≡ get s e.key
      by_value None p r = cc
      by_value (Some v) p r = r

  -- what changes at another key changes nothing of these
  pub items_kept : (old new : Slab T) (key : ℕ) (slot : Option T) (es : List Entry) → Updates old new key slot → AllByRecursion (λ x. nat_eq key x.key ≡ false) es → items_of new es ≡ items_of old es
  items_kept old new key slot [] u o = refl
  items_kept old new key slot (e ∷ es) u o = rw (u.others e.key (differs key e.key o.0), items_kept old new key slot es u o.1) refl

  pub held_kept : (old new : Slab T) (key : ℕ) (slot : Option T) (es : List Entry) → Updates old new key slot → AllByRecursion (λ x. nat_eq key x.key ≡ false) es → Held old es → Held new es
  held_kept old new key slot [] u o h = tt
  held_kept old new key slot (e ∷ es) u o h = (rw (u.others e.key (differs key e.key o.0)) h.0, held_kept old new key slot es u o.1 h.1)

  -- a key without a value is none of theirs
  pub vacant_is_other : (s : Slab T) (key : ℕ) (es : List Entry) → get s key ≡ None → Held s es → AllByRecursion (λ x. nat_eq key x.key ≡ false) es
  vacant_is_other s key [] n h = tt
  vacant_is_other s key (e ∷ es) n h = (by_test (nat_eq key e.key) refl, vacant_is_other s key es n h.1)
    where
      by_test : (b : Bool) → nat_eq key e.key ≡ b → b ≡ false
      by_test false t = refl
      by_test true t = let k : key ≡ e.key = grind (arith, nat_tests) in let g : get s e.key ≡ None = ap (get s) (sym k) ∙ n in let f : is_some (get s e.key) ≡ false = ap is_some g in absurd (let x = h.0 in cc)

  -- a value at the back
  pub items_push : (old new : Slab T) (es : List Entry) (e : Entry) (v : T) → Updates old new e.key (Some v) → get old e.key ≡ None → Held old es → items_of new (es ++ e ∷ []) ≡ items_of old es ++ v ∷ []
  items_push old new es e v u n h = joined es ∙ ap (λ l. l ++ v ∷ []) (items_kept old new e.key (Some v) es u (vacant_is_other old e.key es n h))
    where
      put_joined : (o : Option T) (xs ys : List T) → put o (xs ++ ys) ≡ put o xs ++ ys
      put_joined None xs ys = refl
      put_joined (Some x) xs ys = refl

      joined : (fs : List Entry) → items_of new (fs ++ e ∷ []) ≡ items_of new fs ++ v ∷ []
      joined [] = rw u.changed refl
      joined (f ∷ fs) = ap (put (get new f.key)) (joined fs) ∙ put_joined (get new f.key) (items_of new fs) (v ∷ [])

  pub held_push : (old new : Slab T) (es : List Entry) (e : Entry) (v : T) → Updates old new e.key (Some v) → get old e.key ≡ None → Held old es → Held new (es ++ e ∷ [])
  held_push old new es e v u n h = joined es (held_kept old new e.key (Some v) es u (vacant_is_other old e.key es n h) h)
    where
      joined : (fs : List Entry) → Held new fs → Held new (fs ++ e ∷ [])
      joined [] k = (rw u.changed refl, tt)
      joined (f ∷ fs) k = (k.0, joined fs k.1)

  -- another value at a place
  pub items_set : (at : ℕ) (old new : Slab T) (es : List Entry) (e : Entry) (v : T) → Updates old new e.key (Some v) → Apart es → Held old es → slice_get es at ≡ Some e → items_of new es ≡ set (items_of old es) at v
  items_set at old new [] e v u a h g = cc
  items_set zero old new (x ∷ es) e v u a h g =
      let k : x ≡ e = cc in
      let o : AllByRecursion (λ y. nat_eq e.key y.key ≡ false) es = rw (ap (λ y. y.key) k) at a.0 in
      let c : get new x.key ≡ Some v = ap (λ y. get new y.key) k ∙ u.changed in
      rw (c, items_kept old new e.key (Some v) es u o) (by_value (get old x.key) h.0)
    where
      by_value : (o : Option T) → IsSome o → v ∷ items_of old es ≡ set (put o (items_of old es)) 0 v
      by_value None p = cc
      by_value (Some w) p = refl
  items_set (suc at) old new (x ∷ es) e v u a h g =
      let t : nat_eq e.key x.key ≡ false = turned x.key e.key (other_at x.key at es e a.0 g) in
      rw (u.others x.key (differs e.key x.key t), items_set at old new es e v u a.1 h.1 g) (by_value (get old x.key) h.0)
    where
      by_value : (o : Option T) → IsSome o → put o (set (items_of old es) at v) ≡ set (put o (items_of old es)) (suc at) v
      by_value None p = cc
      by_value (Some w) p = refl

  pub held_set : (old new : Slab T) (es : List Entry) (key : ℕ) (v : T) → Updates old new key (Some v) → Held old es → Held new es
  held_set old new [] key v u h = tt
  held_set old new (x ∷ es) key v u h = (by_test (nat_eq key x.key) refl, held_set old new es key v u h.1)
    where
      by_test : (b : Bool) → nat_eq key x.key ≡ b → is_some (get new x.key) ≡ true
      by_test true t = let k : key ≡ x.key = grind (arith, nat_tests) in ap (λ n. is_some (get new n)) (sym k) ∙ ap is_some u.changed
      by_test false t = ap is_some (u.others x.key (differs key x.key t)) ∙ h.0

  -- without the value at a place
  pub items_remove : (at : ℕ) (old new : Slab T) (es : List Entry) (e : Entry) → Updates old new e.key None → Apart es → Held old es → slice_get es at ≡ Some e → items_of new (remove es at) ≡ remove (items_of old es) at
  items_remove at old new [] e u a h g = cc
  items_remove zero old new (x ∷ es) e u a h g =
      let k : x ≡ e = cc in
      let o : AllByRecursion (λ y. nat_eq e.key y.key ≡ false) es = rw (ap (λ y. y.key) k) at a.0 in
      items_kept old new e.key None es u o ∙ by_value (get old x.key) h.0
    where
      by_value : (o : Option T) → IsSome o → items_of old es ≡ remove (put o (items_of old es)) 0
      by_value None p = cc
      by_value (Some w) p = refl
  items_remove (suc at) old new (x ∷ es) e u a h g =
      let t : nat_eq e.key x.key ≡ false = turned x.key e.key (other_at x.key at es e a.0 g) in
      rw (u.others x.key (differs e.key x.key t), items_remove at old new es e u a.1 h.1 g) (by_value (get old x.key) h.0)
    where
      by_value : (o : Option T) → IsSome o → put o (remove (items_of old es) at) ≡ remove (put o (items_of old es)) (suc at)
      by_value None p = cc
      by_value (Some w) p = refl

  pub held_remove : (at : ℕ) (old new : Slab T) (es : List Entry) (e : Entry) → Updates old new e.key None → Apart es → Held old es → slice_get es at ≡ Some e → Held new (remove es at)
  held_remove at old new es e u a h g = held_kept old new e.key None (remove es at) u (others_removed at es e g a) (cut at es h)
    where
      cut : (i : ℕ) (fs : List Entry) → Held old fs → Held old (remove fs i)
      cut zero [] k = tt
      cut (suc i) [] k = tt
      cut zero (f ∷ fs) k = k.1
      cut (suc i) (f ∷ fs) k = (k.0, cut i fs k.1)

  -- items go by keys alone
  pub items_same : (at : ℕ) (s : Slab T) (es : List Entry) (e f : Entry) → slice_get es at ≡ Some e → f.key ≡ e.key → items_of s (set es at f) ≡ items_of s es
  items_same at s [] e f g k = refl
  items_same zero s (x ∷ es) e f g k = let t : x ≡ e = cc in ap (λ n. put (get s n) (items_of s es)) (k ∙ sym (ap (λ y. y.key) t))
  items_same (suc at) s (x ∷ es) e f g k = ap (put (get s x.key)) (items_same at s es e f g k)

  pub held_same : (at : ℕ) (s : Slab T) (es : List Entry) (e f : Entry) → slice_get es at ≡ Some e → f.key ≡ e.key → Held s es → Held s (set es at f)
  held_same at s [] e f g k h = tt
  held_same zero s (x ∷ es) e f g k h = let t : x ≡ e = cc in (ap (λ n. is_some (get s n)) (k ∙ sym (ap (λ y. y.key) t)) ∙ h.0, h.1)
  held_same (suc at) s (x ∷ es) e f g k h = (h.0, held_same at s es e f g k h.1)
