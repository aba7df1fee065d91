-- A mark of a member that isn't there changes nothing.
use Rattle.std.proofs.Common.{◌≡◌, ℕ, Bool, true, false, ◌||◌, List, [], ◌∷◌, Some, refl, ap, option_map, if◌then◌else◌}
use Rattle.std.specs.Prelude.{find}
use Rattle.std.specs.List.{list_any}
use Rattle.px_bytes.specs.declared.addr.Addr.{Addr}
use Rattle.px_bytes.specs.First.{with_first}
use Rattle.pools.specs.Pools.{PoolState, has_addr, with_mark}
use Rattle.pools.specs.declared.member.Marked.{Marked}
use Rattle.shared_store.specs.Store.{has_member, has_name, pool_of, with_pool}
use Rattle.shared_store.specs.declared.named.NamedPool.{NamedPool}

none_changed : {X : Type 0} (test : X → Bool) (change : X → X) (xs : List X) → list_any test xs ≡ false → with_first test change xs ≡ xs
none_changed test change [] h = refl
none_changed test change (x ∷ xs) h = by_test (test x) h (none_changed test change xs)
  where
    by_test : (b : Bool) → (b || list_any test xs) ≡ false → (list_any test xs ≡ false → with_first test change xs ≡ xs) → (if b then change x ∷ xs else x ∷ with_first test change xs) ≡ x ∷ xs
    by_test true k rest = cc
    by_test false k rest = ap (λ ys. x ∷ ys) (rest k)

abbrev pub marks : Addr → Bool → PoolState → PoolState
marks addr up pool = record pool { members = with_mark addr up pool.members }

pub nothing_marked : (name : List ℕ) (addr : Addr) (up : Bool) (pools : List NamedPool) → has_member addr (pool_of name pools) ≡ false → with_pool name (marks addr up) pools ≡ pools
nothing_marked name addr up [] h = refl
nothing_marked name addr up (p ∷ ps) h = by_name (has_name name p) h (nothing_marked name addr up ps)
  where
    by_name : (b : Bool) → has_member addr (option_map (λ (n : NamedPool). n.pool) (if b then Some p else find (has_name name) ps)) ≡ false → (has_member addr (pool_of name ps) ≡ false → with_pool name (marks addr up) ps ≡ ps) → (if b then record p { pool = marks addr up p.pool } ∷ ps else p ∷ with_pool name (marks addr up) ps) ≡ p ∷ ps
    by_name true k rest = ap (λ ms. record p { pool = record p.pool { members = ms } } ∷ ps) (none_changed (has_addr addr) (λ (m : Marked). record m { up = up }) p.pool.members k)
    by_name false k rest = ap (λ ys. p ∷ ys) (rest k)
