-- A configuration whose data groups and pools may be made is filled.
use Rattle.std.proofs.Common.{◌≡◌, refl, sym, ap, ap₂, subst, ◌∙◌, ℕ, true, List, [], ◌∷◌, Option, Some, None, map, if◌then◌else◌}
use Rattle.std.specs.Prelude.{option_map}
use Rattle.std.specs.List.{list_all}
use Rattle.std.proofs.lemmas.Bool.{and_parts}
use Rattle.toml.specs.Data.{Members}
use Rattle.run_config.specs.declared.config.Config as run
use Rattle.config.specs.Documents.{document_fault}
use Rattle.config.specs.Filled.{filled, filled_with, groups_with, has_keys, made_by, made_classes, made_groups, made_pools, may_be_members, pool_with, server_of, with_class, with_pool, class_of}
use Rattle.config.specs.Outcomes.{Configures}
use Rattle.config.specs.declared.config.GroupSettings as loaded
use Rattle.config.specs.declared.config.PoolSettings.{PoolSettings}
use Rattle.config.specs.declared.config.Settings.{Settings}
use Rattle.config.specs.declared.made_groups.Made.{Made}
use Rattle.config.specs.declared.reader.LoadedConfig.{LoadedConfig}
use Rattle.config.proofs.Fitting.{Fits, document_fits}

-- it is there
abbrev There : {A : Type 0} → Option A → Type 0
There {A} o = (x : A) × (o ≡ Some x)

mapped : {A B : Type 0} (f : A → B) (o : Option A) → There o → There (option_map f o)
mapped f o p = (f p.0, ap (option_map f) p.1)

classes_there : (gs : List loaded.GroupSettings) → list_all has_keys gs ≡ true → There (made_classes gs)
classes_there [] e = ([], refl)
classes_there (g ∷ gs) e =
    let both = and_parts (has_keys g) (list_all has_keys gs) e in
    let one : (if has_keys g then Some (class_of g) else None) ≡ Some (class_of g) = ap (λ b. if b then Some (class_of g) else None) both.0 in
    let more = mapped (λ classes. class_of g ∷ classes) (made_classes gs) (classes_there gs both.1) in
    (more.0, ap (λ o. with_class o (made_classes gs)) one ∙ more.1)

pools_there : (ps : List PoolSettings) → list_all (λ p. may_be_members p.members) ps ≡ true → There (made_pools ps)
pools_there [] e = ([], refl)
pools_there (p ∷ ps) e =
    let both = and_parts (may_be_members p.members) (list_all (λ p. may_be_members p.members) ps) e in
    let one : (if may_be_members p.members then Some (pool_with p) else None) ≡ Some (pool_with p) = ap (λ b. if b then Some (pool_with p) else None) both.0 in
    let more = mapped (λ pools. pool_with p ∷ pools) (made_pools ps) (pools_there ps both.1) in
    (more.0, ap (λ o. with_pool o (made_pools ps)) one ∙ more.1)

made_there : (s : Settings) → Fits s → There (made_groups s)
made_there s f =
    let classes = mapped (groups_with s) (made_classes s.groups) (classes_there s.groups f.keys) in
    let pools = pools_there s.pools f.members in
    (record { groups = classes.0; pools = pools.0 }, ap₂ made_by classes.1 pools.1)

pub is_filled : (told : List ℕ → Option (List ℕ)) (top : Members) (C : LoadedConfig) → document_fault top ≡ None → Configures told top C → (K : run.Config) × (filled C ≡ Some K)
unfolding filled
is_filled told top C none c =
    let fits : Fits C.settings = subst Fits (sym c.settings) (document_fits top none) in
    mapped (filled_with C) (made_groups C.settings) (made_there C.settings fits)

-- its virtual servers and rules
pub parts_of : (C : LoadedConfig) (K : run.Config) → filled C ≡ Some K → (K.virtuals ≡ map (server_of C.rules) C.settings.virtuals) × (K.rules ≡ map (λ r. r.rule) C.rules)
unfolding filled
parts_of C K e = by_made (made_groups C.settings) e
  where
    by_made : (o : Option Made) → option_map (filled_with C) o ≡ Some K → (K.virtuals ≡ map (server_of C.rules) C.settings.virtuals) × (K.rules ≡ map (λ r. r.rule) C.rules)
    by_made None e = absurd (cc)
    by_made (Some made) e = let same : filled_with C made ≡ K = cc in (ap (λ R. R.virtuals) (sym same), ap (λ R. R.rules) (sym same))
