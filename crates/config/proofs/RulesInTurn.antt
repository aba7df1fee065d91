-- Rules that are read and loaded one after another.
use Rattle.std.proofs.Common.{◌≡◌, ◌<◌, ◌≤◌, ◌-◌, ℕ, ◌+◌, List, [], ◌∷◌, ◌++◌, Option, None, ap, ◌∙◌}
use Rattle.std.proofs.Common.{drop, length, get_or, inl, inr, subst, sym, arith, append_assoc}
use Rattle.std.proofs.Common.{append-nil}
use Rattle.std.proofs.lemmas.List.{drop_all}
use Rattle.px_outside.specs.Outside.{Rose}
use Rattle.toml.specs.Data.{Data, Items, no_items, item}
use Rattle.toml.specs.View.{items_view, view}
use Rattle.toml.specs.declared.value.Value.{Value}
use Rattle.config.specs.Loading.{AreLoaded, CantRead, IsLoaded, IsRuleFault, StopsAt, file_name}
use Rattle.config.specs.declared.fault.ConfigFault.{ConfigFault}
use Rattle.config.specs.declared.rule_text.LoadedRule.{LoadedRule}
use Rattle.config.proofs.Firsts.{item_there}

-- a count that rose since then rose since before
pub rose_before : (before mid now : ℕ) → before ≤ mid → Rose mid now → Rose before now
rose_before before mid now first (inl rose) = inl (omega arith)
rose_before before mid now first (inr most) = inr most

pub cant_read_before : (before mid now : ℕ) (name : List ℕ) (f : ConfigFault) → before ≤ mid → CantRead mid now name f → CantRead before now name f
cant_read_before before mid now name f first c = record { rose = rose_before before mid now first c.rose; fault = c.fault }

module _ (told : List ℕ → Option (List ℕ)) (before mid now : ℕ) (first : before ≤ mid) where
  pub fault_before : (at : ℕ) (d : Data) (f : ConfigFault) → IsRuleFault told mid now at d f → IsRuleFault told before now at d f
  fault_before at d f (inl c) = inl (cant_read_before before mid now (file_name d) f first c)
  fault_before at d f (inr t) = inr t

  pub stops_before : (at : ℕ) (ds : Items) (f : ConfigFault) → StopsAt told mid now at ds f → StopsAt told before now at ds f
  stops_before at no_items f s = s
  stops_before at (item d ds) f (inl s) = inl (fault_before at d f s)
  stops_before at (item d ds) f (inr s) = inr (s.0, s.1, stops_before (at + 1) ds f s.2)

-- one more rule is loaded
module _ (told : List ℕ → Option (List ℕ)) (vs : List Value) (i : ℕ) (v : Value) (there : i < length vs) (is : v ≡ get_or vs i v) (r : LoadedRule) (loaded : IsLoaded told (view v) r) where
  split : items_view (drop i vs) ≡ item (view v) (items_view (drop (i + 1) vs))
  split = item_there None vs i v there is

  pub more_loaded : (rules new : List LoadedRule) → new ≡ rules ++ r ∷ []
      → ((more : List LoadedRule) → AreLoaded told (items_view (drop i vs)) more → AreLoaded told (items_view vs) (rules ++ more))
      → (more : List LoadedRule) → AreLoaded told (items_view (drop (i + 1) vs)) more → AreLoaded told (items_view vs) (new ++ more)
  more_loaded rules new pushed whole more rest =
      let here = subst (λ ds. AreLoaded told ds (r ∷ more)) (sym split) (loaded, rest) in
      subst (AreLoaded told (items_view vs)) (sym (append_assoc rules (r ∷ []) more) ∙ ap (λ rs. rs ++ more) (sym pushed)) (whole (r ∷ more) here)

  pub more_stops : (before at : ℕ) → ((f : ConfigFault) (now : ℕ) → StopsAt told before now at (items_view (drop i vs)) f → StopsAt told before now 0 (items_view vs) f)
      → (f : ConfigFault) (now : ℕ) → StopsAt told before now (at + 1) (items_view (drop (i + 1) vs)) f → StopsAt told before now 0 (items_view vs) f
  more_stops before at whole f now stops = whole f now (subst (λ ds. StopsAt told before now at ds f) (sym split) (inr (r, loaded, stops)))

  pub stops_here : (before at : ℕ) → ((f : ConfigFault) (now : ℕ) → StopsAt told before now at (items_view (drop i vs)) f → StopsAt told before now 0 (items_view vs) f)
      → (f : ConfigFault) (now : ℕ) → IsRuleFault told before now at (view v) f → StopsAt told before now 0 (items_view vs) f
  stops_here before at whole f now fault = whole f now (subst (λ ds. StopsAt told before now at ds f) (sym split) (inl fault))

-- none is left
pub all_loaded : (told : List ℕ → Option (List ℕ)) (all : Items) (vs : List Value) (i : ℕ) (rules : List LoadedRule) → length vs ≤ i
    → ((more : List LoadedRule) → AreLoaded told (items_view (drop i vs)) more → AreLoaded told all (rules ++ more)) → AreLoaded told all rules
all_loaded told all vs i rules over whole =
    let none : drop i vs ≡ [] = drop_all i vs over in
    subst (AreLoaded told all) (append-nil rules) (whole [] (subst (λ ws. AreLoaded told (items_view ws) []) (sym none) tt))
