-- What each call keeps of a table.
use Rattle.std.proofs.Common.{◌≡◌, ◌∙◌, refl, sym, ap, ℕ, ◌+◌, ◌<◌, List, [], ◌∷◌, ◌++◌, Bool, true, false, Some, None, IsSome, is_some, nat_eq, length, arith, remove, set, get_or, slice_get, length-append, length-set, cond}
use Rattle.std.proofs.lemmas.List.Edits.{length-remove}
use Rattle.std.proofs.lemmas.List.Sums.{sum_by-set}
use Rattle.std.proofs.lemmas.Option.{slice_get_within}
use Rattle.slab.specs.Slab.{Slab, get, slab_len, with_value, Updates}
use Rattle.slab.proofs.SlabLemmas.{ContainsKey-within, Updates-with_value}
use Rattle.number_table.specs.Layout.{Flagged, Held, IsSound, items_of, numbers_of}
use Rattle.number_table.specs.Table.{is_in, with_ready, without}
use Rattle.number_table.specs.declared.Entry.{Entry}
use Rattle.number_table.proofs.Entries.{apart_set, apart_push, apart_remove, held_push, held_remove, held_same, held_set, length_items, vacant_is_other}
use Rattle.number_table.proofs.Numbers.{eq_self, eq_same, number_at, numbers_set, numbers_remove, numbers_push, rises_push, rises_remove}
use Rattle.number_table.proofs.Ring.{distinct_none, distinct_push, distinct_without, flag_at, flagged_joined, flagged_push, flagged_set, flagged_remove, front_not_in_rest, in_last_number, in_numbers, in_push_numbers, in_pushed_other, in_pushed_self, in_removed, in_rest_other, in_without_other, not_in_without, or_later, pushed_within}
use Rattle.std.proofs.lemmas.Map.Keys.{IsDistinct-tail}
use Rattle.std.specs.List.{IsDistinct}

module _ {T : Type 0} where
  pub sound_none : (s : Slab T) → s.slots ≡ [] → IsSound s [] []
  sound_none s h = record { held = tt; apart = tt; counted = rw h refl; rises = tt; flagged = tt; once = distinct_none; known = λ n f. f }

  -- a number above all isn't in the ring
  pub fresh_number : (s : Slab T) (es : List Entry) (ring : List ℕ) (n : ℕ) → IsSound s es ring → ((m : ℕ) → is_in (numbers_of es) m ≡ true → m < n) → is_in ring n ≡ false
  fresh_number s es ring n z above = by_cases (is_in ring n) refl
    where
      by_cases : (b : Bool) → is_in ring n ≡ b → b ≡ false
      by_cases false t = refl
      by_cases true t = absurd (omega (arith, above n (z.known n t)))

  pub sound_push : (old new : Slab T) (es : List Entry) (ring : List ℕ) (e : Entry) (v : T) → IsSound old es ring → Updates old new e.key (Some v) → get old e.key ≡ None → slab_len new ≡ slab_len old + 1 → e.ready ≡ true → ((m : ℕ) → is_in (numbers_of es) m ≡ true → m < e.number) → IsSound new (es ++ e ∷ []) (ring ++ e.number ∷ [])
  sound_push old new es ring e v s u n c r above = record {
    held = held_push old new es e v u n s.held;
    apart = apart_push es e (vacant_is_other old e.key es n s.held) s.apart;
    counted = omega (arith, c, s.counted, length-append es (e ∷ []));
    rises = rw (numbers_push es e) (rises_push e.number (numbers_of es) above s.rises);
    flagged = flagged_push (ring ++ e.number ∷ []) es e (flagged_joined e.number ring es above s.flagged) (r ∙ sym (in_pushed_self e.number ring));
    once = distinct_push e.number ring s.once (fresh_number old es ring e.number s above);
    known = pushed_within ring (numbers_of (es ++ e ∷ [])) e.number (λ q h. in_push_numbers es e q (s.known q h)) (in_last_number es e);
  }

  pub sound_remove : (at : ℕ) (old new : Slab T) (es : List Entry) (ring : List ℕ) (e : Entry) → IsSound old es ring → slice_get es at ≡ Some e → Updates old new e.key None → slab_len new + 1 ≡ slab_len old → IsSound new (remove es at) (without e.number ring)
  sound_remove at old new es ring e s h u c = record {
    held = held_remove at old new es e u s.apart s.held h;
    apart = apart_remove at es s.apart;
    counted = omega (arith, c, s.counted, length-remove es at (slice_get_within es at e h));
    rises = rw (numbers_remove at es) (rises_remove at (numbers_of es) s.rises);
    flagged = flagged_remove at ring (without e.number ring) es e h s.rises s.flagged (λ q n. in_without_other e.number q ring n);
    once = distinct_without e.number ring s.once;
    known = λ q g. left q g (nat_eq q e.number) refl;
  }
    where
      left : (q : ℕ) → is_in (without e.number ring) q ≡ true → (b : Bool) → nat_eq q e.number ≡ b → is_in (numbers_of (remove es at)) q ≡ true
      left q g true t = absurd (let k = eq_same q e.number t in let m = rw k at g in let o = not_in_without e.number ring s.once in cc)
      left q g false t = in_removed at es e q h t (s.known q (sym (in_without_other e.number q ring t) ∙ g))

  -- an entry whose number comes into the ring
  pub sound_ready : (at : ℕ) (s : Slab T) (es : List Entry) (ring : List ℕ) (e f : Entry) → IsSound s es ring → slice_get es at ≡ Some e → e.ready ≡ false → f.number ≡ e.number → f.key ≡ e.key → f.ready ≡ true → IsSound s (set es at f) (ring ++ e.number ∷ [])
  sound_ready at s es ring e f z h r n k t =
      let same = numbers_set at es e f h n in
      let absent = sym (flag_at at ring es e z.flagged h) ∙ r in record {
        held = held_same at s es e f h k z.held;
        apart = apart_set at es e f h k z.apart;
        counted = z.counted ∙ sym (length-set es at f);
        rises = rw same z.rises;
        flagged = flagged_set at ring (ring ++ e.number ∷ []) es e f h n z.rises z.flagged (t ∙ sym (in_pushed_self e.number ring)) (λ q m. in_pushed_other e.number q ring m);
        once = distinct_push e.number ring z.once absent;
        known = λ q g. rw same (pushed_within ring (numbers_of es) e.number z.known (in_numbers at es e h) q g);
      }

  -- an entry whose number was the ring's front
  pub sound_pop : (at : ℕ) (s : Slab T) (es : List Entry) (ring rest : List ℕ) (e f : Entry) → IsSound s es ring → ring ≡ e.number ∷ rest → slice_get es at ≡ Some e → f.number ≡ e.number → f.key ≡ e.key → f.ready ≡ false → IsSound s (set es at f) rest
  sound_pop at s es ring rest e f z p h n k t =
      let same = numbers_set at es e f h n in
      let once : IsDistinct nat_eq (e.number ∷ rest) = rw p at z.once in record {
        held = held_same at s es e f h k z.held;
        apart = apart_set at es e f h k z.apart;
        counted = z.counted ∙ sym (length-set es at f);
        rises = rw same z.rises;
        flagged = flagged_set at ring rest es e f h n z.rises z.flagged (t ∙ sym (front_not_in_rest e.number rest once)) (λ q m. in_rest_other e.number q rest m ∙ ap (λ l. is_in l q) (sym p));
        once = IsDistinct-tail nat_eq e.number rest once;
        known = λ q g. rw same (z.known q (rw p (or_later (nat_eq q e.number) (is_in rest q) g)));
      }

  slab_len_kept : (s : Slab T) (key : ℕ) (v : T) → IsSome (get s key) → slab_len (with_value s key v) ≡ slab_len s
  slab_len_kept s key v h =
      let within = ContainsKey-within s key h in
      let counted = sum_by-set (λ o. cond (is_some o) 1 0) s.slots key (Some v) None within in
      let one : ◌≡◌ {A = ℕ} (cond (is_some (get s key)) 1 0) 1 = ap (λ b. cond b 1 0) h in
      omega (arith, counted, one)

  -- another value at a place
  pub sound_write : (s : Slab T) (es : List Entry) (ring : List ℕ) (key : ℕ) (v : T) → IsSound s es ring → IsSome (get s key) → IsSound (with_value s key v) es ring
  sound_write s es ring key v z h = record {
    held = held_set s (with_value s key v) es key v (Updates-with_value s key v h) z.held;
    apart = z.apart;
    counted = slab_len_kept s key v h ∙ z.counted;
    rises = z.rises;
    flagged = z.flagged;
    once = z.once;
    known = z.known;
  }

  pub entry_within : (at : ℕ) (s : Slab T) (es : List Entry) → Held s es → at < length (items_of s es) → at < length es
  entry_within at s es h w = omega (arith, length_items s es h)

-- the ring where the number of an entry comes into it
pub ready_stays : (at : ℕ) (es : List Entry) (ring : List ℕ) (e : Entry) → Flagged ring es → slice_get es at ≡ Some e → e.ready ≡ true → with_ready ring (get_or (numbers_of es) at 0) ≡ ring
ready_stays at es ring e f h r = let t = sym (flag_at at ring es e f h) ∙ r in rw (number_at at es e h, t) refl

pub ready_goes : (at : ℕ) (es : List Entry) (ring : List ℕ) (e : Entry) → Flagged ring es → slice_get es at ≡ Some e → e.ready ≡ false → with_ready ring (get_or (numbers_of es) at 0) ≡ ring ++ e.number ∷ []
ready_goes at es ring e f h r = let t = sym (flag_at at ring es e f h) ∙ r in rw (number_at at es e h, t) refl

pub front_in : (ring rest : List ℕ) (n : ℕ) → ring ≡ n ∷ rest → is_in ring n ≡ true
front_in ring rest n p = rw (p, eq_self n) refl

pub read_same : (at : ℕ) (es : List Entry) (d e : Entry) → slice_get es at ≡ Some d → slice_get es at ≡ Some e → d ≡ e
read_same at es d e h k = let f : Some d ≡ Some e = sym h ∙ k in cc

-- the front is in the ring once
pub front_once : (ring rest : List ℕ) (n : ℕ) → IsDistinct nat_eq ring → ring ≡ n ∷ rest → is_in rest n ≡ false
front_once ring rest n d p = front_not_in_rest n rest (rw p at d)
