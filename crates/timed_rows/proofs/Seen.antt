-- Entries as a contract sees them, where one comes, goes or changes.
use Rattle.std.proofs.Common.{◌≡◌, refl, ap, ◌∙◌, ℕ, List, [], ◌∷◌, Bool, true, false, Option, Some, None, cond}
use Rattle.std.proofs.Common.{length, option_map, suc}
use Rattle.std.specs.Map.{keys_of, lookup, remove_entry, set_value}
use Rattle.std.specs.BTreeMap.{insert_entry, is_at}
use Rattle.std.specs.Ordering.{match_ordering}
use Rattle.std.specs.declared.cmp.Ordering.{Ordering}
use Rattle.std.specs.declared.cmp.Ordering.TheVariants.{Less, Equal, Greater}
use Rattle.timed_rows.specs.Rows.{is_later, later_than, value_at}
use Rattle.timed_rows.specs.Tied.{seen, seen_held}
use Rattle.timed_rows.specs.declared.timed_value.TimedValue.{TimedValue}

module _ {K T : Type 0} where
  pub seen-insert : (cmp : K → K → Ordering) (es : List (K × TimedValue T)) (k : K) (h : TimedValue T)
      → seen (insert_entry cmp es k h) ≡ insert_entry cmp (seen es) k (seen_held h)
  seen-insert cmp [] k h = refl
  seen-insert cmp (e ∷ es) k h = by (cmp k e.0) (seen-insert cmp es k h)
    where
      by : (o : Ordering) → seen (insert_entry cmp es k h) ≡ insert_entry cmp (seen es) k (seen_held h)
          → seen (match_ordering o ((k, h) ∷ e ∷ es) ((e.0, h) ∷ es) (e ∷ insert_entry cmp es k h))
          ≡ match_ordering o ((k, seen_held h) ∷ (e.0, seen_held e.1) ∷ seen es) ((e.0, seen_held h) ∷ seen es)
          ((e.0, seen_held e.1) ∷ insert_entry cmp (seen es) k (seen_held h))
      by Less r = refl
      by Equal r = refl
      by Greater r = ap (λ xs. (e.0, seen_held e.1) ∷ xs) r

  pub seen-remove : (test : K → Bool) (es : List (K × TimedValue T))
      → seen (remove_entry test es) ≡ remove_entry test (seen es)
  seen-remove test [] = refl
  seen-remove test (e ∷ es) = by (test e.0) (seen-remove test es)
    where
      by : (b : Bool) → seen (remove_entry test es) ≡ remove_entry test (seen es)
          → seen (cond b es (e ∷ remove_entry test es)) ≡ cond b (seen es) ((e.0, seen_held e.1) ∷ remove_entry test (seen es))
      by true r = refl
      by false r = ap (λ xs. (e.0, seen_held e.1) ∷ xs) r

  pub seen-set : (test : K → Bool) (es : List (K × TimedValue T)) (h : TimedValue T)
      → seen (set_value test es h) ≡ set_value test (seen es) (seen_held h)
  seen-set test [] h = refl
  seen-set test (e ∷ es) h = by (test e.0) (seen-set test es h)
    where
      by : (b : Bool) → seen (set_value test es h) ≡ set_value test (seen es) (seen_held h)
          → seen (cond b ((e.0, h) ∷ es) (e ∷ set_value test es h))
          ≡ cond b ((e.0, seen_held h) ∷ seen es) ((e.0, seen_held e.1) ∷ set_value test (seen es) (seen_held h))
      by true r = refl
      by false r = ap (λ xs. (e.0, seen_held e.1) ∷ xs) r

  pub seen-lookup : (test : K → Bool) (es : List (K × TimedValue T))
      → lookup test (seen es) ≡ option_map seen_held (lookup test es)
  seen-lookup test [] = refl
  seen-lookup test (e ∷ es) = by (test e.0) (seen-lookup test es)
    where
      by : (b : Bool) → lookup test (seen es) ≡ option_map seen_held (lookup test es)
          → cond b (Some (seen_held e.1)) (lookup test (seen es)) ≡ option_map seen_held (cond b (Some e.1) (lookup test es))
      by true r = refl
      by false r = r

  pub seen-keys : (es : List (K × TimedValue T)) → keys_of es ≡ keys_of (seen es)
  seen-keys [] = refl
  seen-keys (e ∷ es) = ap (λ ks. e.0 ∷ ks) (seen-keys es)

  pub found_seen : (test : K → Bool) (es : List (K × TimedValue T)) (h : TimedValue T) → lookup test es ≡ Some h
      → lookup test (seen es) ≡ Some (seen_held h)
  found_seen test es h l = seen-lookup test es ∙ ap (option_map seen_held) l

  pub seen-value : (query : K → Ordering) (es : List (K × TimedValue T))
      → value_at query (seen es) ≡ option_map (λ h. h.value) (lookup (is_at query) es)
  seen-value query es = ap (option_map (λ t. t.0)) (seen-lookup (is_at query) es) ∙ values (lookup (is_at query) es)
    where
      values : (o : Option (TimedValue T)) → option_map (λ t. t.0) (option_map seen_held o) ≡ option_map (λ h. h.value) o
      values None = refl
      values (Some h) = refl

  pub seen-length : (es : List (K × TimedValue T)) → length (seen es) ≡ length es
  seen-length [] = refl
  seen-length (e ∷ es) = ap suc (seen-length es)

  -- an entry whose deadline has come is none of the later ones
  pub later-remove : (moment : ℕ) (test : K → Bool) (es : List (K × TimedValue T)) (h : TimedValue T) → lookup test es ≡ Some h
      → is_later moment h.due ≡ false → later_than moment (seen (remove_entry test es)) ≡ later_than moment (seen es)
  later-remove moment test [] h l d = refl
  later-remove moment test (e ∷ es) h l d = by (test e.0) l (λ m. later-remove moment test es h m d)
    where
      by : (b : Bool) → cond b (Some e.1) (lookup test es) ≡ Some h
          → (lookup test es ≡ Some h → later_than moment (seen (remove_entry test es)) ≡ later_than moment (seen es))
          → later_than moment (seen (cond b es (e ∷ remove_entry test es))) ≡ later_than moment (seen (e ∷ es))
      by true m r =
          let s : e.1 ≡ h = cc in
          let f : is_later moment e.1.due ≡ false = ap (λ x. is_later moment x.due) s ∙ d in
          rw f refl
      by false m r = ap (λ xs. cond (is_later moment e.1.due) ((e.0, seen_held e.1) ∷ xs) xs) (r m)

-- an entry that isn't there isn't changed
pub set-absent : {K X : Type 0} (test : K → Bool) (es : List (K × X)) (x : X) → lookup test es ≡ None → set_value test es x ≡ es
set-absent test [] x n = refl
set-absent {K} {X} test (e ∷ es) x n = by (test e.0) n (set-absent test es x)
  where
    by : (b : Bool) → cond b (Some e.1) (lookup test es) ≡ None → (lookup test es ≡ None → set_value test es x ≡ es)
        → cond b ((e.0, x) ∷ es) (e ∷ set_value test es x) ≡ e ∷ es
    by true m r = cc
    by false m r = ap (λ xs. e ∷ xs) (r m)
