-- The first pool of a name, by its place.
use Rattle.std.proofs.Common.{◌≡◌, ℕ, ◌<◌, List, Some, None, length, get_or}
use Rattle.std.proofs.Common.{sym, ap, ◌∙◌, option_map}
use Rattle.std.proofs.Math.ListN.{set}
use Rattle.std.specs.List.{position}
use Rattle.std.proofs.lemmas.Option.{slice_get-get_or}
use Rattle.px_bytes.proofs.First.{at_first, nowhere}
use Rattle.pools.specs.Pools.{PoolState}
use Rattle.shared_store.specs.Store.{has_name, pool_of, with_pool}
use Rattle.shared_store.specs.declared.named.NamedPool.{NamedPool}

-- the pool of a name stands at a place
pub record StandsAt (name : List ℕ) (pools : List NamedPool) (at : ℕ) (named : NamedPool) : Type 0 where
  pub found : Some at ≡ position (has_name name) pools
  pub inside : at < length pools
  pub here : named ≡ get_or pools at named

module _ (name : List ℕ) (pools : List NamedPool) where
  pub pool_at : (at : ℕ) (named : NamedPool) → StandsAt name pools at named → Some named.pool ≡ pool_of name pools
  pool_at at named s =
      let first = at_first (has_name name) pools at (sym s.found) in
      sym (ap (option_map (λ (n : NamedPool). n.pool)) (first.found ∙ slice_get-get_or pools at named s.inside ∙ ap Some (sym s.here)))

  pub changed_at : (at : ℕ) (named : NamedPool) (change : PoolState → PoolState) → StandsAt name pools at named
      → set pools at (record { name = named.name; pool = change named.pool }) ≡ with_pool name change pools
  changed_at at named change s =
      let first = at_first (has_name name) pools at (sym s.found) in
      sym (first.changed (λ (n : NamedPool). record n { pool = change n.pool }) named (sym s.here))

  pub no_pool : None ≡ position (has_name name) pools → None ≡ pool_of name pools
  no_pool none = sym (ap (option_map (λ (n : NamedPool). n.pool)) (nowhere (has_name name) pools (sym none)).not_found)

  pub unchanged : (change : PoolState → PoolState) → None ≡ position (has_name name) pools → pools ≡ with_pool name change pools
  unchanged change none = sym ((nowhere (has_name name) pools (sym none)).same (λ (n : NamedPool). record n { pool = change n.pool }))
