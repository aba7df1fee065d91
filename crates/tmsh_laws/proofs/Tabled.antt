-- Arrays of tables, each as it is printed of what it says.
use Rattle.std.proofs.Common.{◌≡◌, ℕ, suc, ◌+◌, Bool, true, false, List, [], ◌∷◌, ◌++◌, Option, Some, None, refl, sym, ap, ap₂, subst}
use Rattle.std.proofs.lemmas.Slice.Eq.{bytes_eq-Decides}
use Rattle.std.specs.Option.{option_or}
use Rattle.std.specs.Prelude.{if◌then◌else◌, is_some, option_and_then, option_map}
use Rattle.std.specs.Str.{bytes_eq}
use Rattle.toml.specs.Data.{Items, no_items, item, Members, as_table}
use Rattle.config.specs.Read.{tables_in}
use Rattle.config.specs.Settings.{each, one}
use Rattle.config.specs.Texts.{first_from, here, text_at}
use Rattle.config.specs.Values.{items_length}
use Rattle.config.specs.declared.fault.ConfigFault.{ConfigFault}
use Rattle.tmsh_laws.proofs.Kept.{no_back, no_front, none}
use Rattle.tmsh_laws.proofs.Lines.{Each}
use Rattle.tmsh_laws.proofs.Tables.{tables}

-- what is wrong with the items, each by its place and its table
abbrev pub from : (ℕ → Option Members → List ConfigFault) → ℕ → Items → List ConfigFault
from bad at no_items = []
from bad at (item d ds) = bad at (as_table d) ++ from bad (at + 1) ds

module _ {A : Type 0} (of : Members → A) (g : A → Members) where
  -- what they say
  abbrev pub told : Items → List A
  told ds = each (λ d. one (option_map of (as_table d))) ds

  abbrev pub anew : Items → Items
  anew ds = tables g (told ds)

  pub as_many_tables : (ds : Items) → tables_in (anew ds) ≡ tables_in ds
  as_many_tables no_items = refl
  as_many_tables (item d ds) = by_table (as_table d) (as_many_tables ds)
    where
      by_table : (o : Option Members) → tables_in (anew ds) ≡ tables_in ds → tables_in (tables g (one (option_map of o) ++ told ds)) ≡ (if is_some o then suc (tables_in ds) else tables_in ds)
      by_table None more = more
      by_table (Some ms) more = ap suc more

  module _ (bad : ℕ → Option Members → List ConfigFault) (refuses : (at : ℕ) → bad at None ≡ [] → Unit {0} × ⊥) where
    pub all_kept : (worse : ℕ → Option Members → List ConfigFault) → ((at : ℕ) (ms : Members) → bad at (Some ms) ≡ [] → worse at (Some (g (of ms))) ≡ [])
        → (at : ℕ) (ds : Items) → from bad at ds ≡ [] → from worse at (anew ds) ≡ []
    all_kept worse kept at no_items e = refl
    all_kept worse kept at (item d ds) e = by_table (as_table d) (no_front (bad at (as_table d)) _ e) (all_kept worse kept (at + 1) ds (no_back (bad at (as_table d)) _ e))
      where
        by_table : (o : Option Members) → bad at o ≡ [] → from worse (at + 1) (anew ds) ≡ [] → from worse at (tables g (one (option_map of o) ++ told ds)) ≡ []
        by_table None here more = absurd ((refuses at here).1)
        by_table (Some ms) here more = none _ _ (kept at ms here) more

    pub all_say : ((at : ℕ) (ms : Members) → bad at (Some ms) ≡ [] → of (g (of ms)) ≡ of ms) → (at : ℕ) (ds : Items) → from bad at ds ≡ [] → told (anew ds) ≡ told ds
    all_say same at no_items e = refl
    all_say same at (item d ds) e = by_table (as_table d) (no_front (bad at (as_table d)) _ e) (all_say same (at + 1) ds (no_back (bad at (as_table d)) _ e))
      where
        by_table : (o : Option Members) → bad at o ≡ [] → told (anew ds) ≡ told ds → told (tables g (one (option_map of o) ++ told ds)) ≡ one (option_map of o) ++ told ds
        by_table None here more = absurd ((refuses at here).1)
        by_table (Some ms) here more = ap₂ (λ x xs. x ∷ xs) (same at ms here) more

    pub as_many : (at : ℕ) (ds : Items) → from bad at ds ≡ [] → items_length (anew ds) ≡ items_length ds
    as_many at no_items e = refl
    as_many at (item d ds) e = by_table (as_table d) (no_front (bad at (as_table d)) _ e) (as_many (at + 1) ds (no_back (bad at (as_table d)) _ e))
      where
        by_table : (o : Option Members) → bad at o ≡ [] → items_length (anew ds) ≡ items_length ds → items_length (tables g (one (option_map of o) ++ told ds)) ≡ suc (items_length ds)
        by_table None here more = absurd ((refuses at here).1)
        by_table (Some ms) here more = ap suc more

    pub same_places : (k : List ℕ) → ((at : ℕ) (ms : Members) → bad at (Some ms) ≡ [] → text_at k (g (of ms)) ≡ text_at k ms) → (at : ℕ) (ds : Items) → from bad at ds ≡ [] → (t : List ℕ)
        → first_from at (Some k) (anew ds) t ≡ first_from at (Some k) ds t
    same_places k same at no_items e t = refl
    same_places k same at (item d ds) e t =
        by_table (as_table d) (no_front (bad at (as_table d)) _ e) (same_places k same (at + 1) ds (no_back (bad at (as_table d)) _ e) t)
      where
        by_table : (o : Option Members) → bad at o ≡ [] → first_from (at + 1) (Some k) (anew ds) t ≡ first_from (at + 1) (Some k) ds t
            → first_from at (Some k) (tables g (one (option_map of o) ++ told ds)) t ≡ option_or (here (option_and_then (text_at k) o) t at) (first_from (at + 1) (Some k) ds t)
        by_table None here_ more = absurd ((refuses at here_).1)
        by_table (Some ms) here_ more = ap₂ (λ x y. option_or (here x t at) y) (same at ms here_) more

    -- what holds of each
    pub all_hold : (P : A → Type 0) → ((at : ℕ) (ms : Members) → bad at (Some ms) ≡ [] → P (of ms)) → (at : ℕ) (ds : Items) → from bad at ds ≡ [] → Each P (told ds)
    all_hold P holds at no_items e = tt
    all_hold P holds at (item d ds) e = by_table (as_table d) (no_front (bad at (as_table d)) _ e) (all_hold P holds (at + 1) ds (no_back (bad at (as_table d)) _ e))
      where
        by_table : (o : Option Members) → bad at o ≡ [] → Each P (told ds) → Each P (one (option_map of o) ++ told ds)
        by_table None here more = absurd ((refuses at here).1)
        by_table (Some ms) here more = (holds at ms here, more)

    -- what holds of each text at a key holds of one that is found
    pub found_holds : (k : List ℕ) (P : List ℕ → Type 0) → ((at : ℕ) (ms : Members) (t : List ℕ) → bad at (Some ms) ≡ [] → text_at k ms ≡ Some t → P t)
        → (at : ℕ) (ds : Items) → from bad at ds ≡ [] → (t : List ℕ) → is_some (first_from at (Some k) ds t) ≡ true → P t
    found_holds k P holds at no_items e t some = absurd (cc)
    found_holds k P holds at (item d ds) e t some =
        by_table (as_table d) (no_front (bad at (as_table d)) _ e)
        (λ is. found_holds k P holds (at + 1) ds (no_back (bad at (as_table d)) _ e) t is) some
      where
        by_same : (ms : Members) (u : List ℕ) → bad at (Some ms) ≡ [] → text_at k ms ≡ Some u → (b : Bool) → bytes_eq t u ≡ b → (is_some (first_from (at + 1) (Some k) ds t) ≡ true → P t)
            → is_some (option_or (if b then Some at else None) (first_from (at + 1) (Some k) ds t)) ≡ true → P t
        by_same ms u here_ is true same later some_ = subst P (sym ((bytes_eq-Decides t u).0 same)) (holds at ms u here_ is)
        by_same ms u here_ is false same later some_ = later some_

        by_text : (ms : Members) (o : Option (List ℕ)) → bad at (Some ms) ≡ [] → text_at k ms ≡ o → (is_some (first_from (at + 1) (Some k) ds t) ≡ true → P t)
            → is_some (option_or (here o t at) (first_from (at + 1) (Some k) ds t)) ≡ true → P t
        by_text ms None here_ is later some_ = later some_
        by_text ms (Some u) here_ is later some_ = by_same ms u here_ is (bytes_eq t u) refl later some_

        by_table : (o : Option Members) → bad at o ≡ [] → (is_some (first_from (at + 1) (Some k) ds t) ≡ true → P t)
            → is_some (option_or (here (option_and_then (text_at k) o) t at) (first_from (at + 1) (Some k) ds t)) ≡ true → P t
        by_table None here_ later some_ = absurd ((refuses at here_).1)
        by_table (Some ms) here_ later some_ = by_text ms (text_at k ms) here_ refl later some_
