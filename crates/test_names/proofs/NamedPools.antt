-- The pool of a name, among the pools from a place on.
use Rattle.std.proofs.Common.{arith, ◌≡◌, ◌⊎◌, inl, inr, ℕ, ◌+◌, ◌<◌, ◌≤◌, Bool, true, false, cond, List, ◌∷◌, Option, Some, None, drop, length, slice_get, get_or, ap, sym, ◌∙◌, option_map}
use Rattle.std.specs.Prelude.{find}
use Rattle.std.specs.Str.{bytes_eq}
use Rattle.std.proofs.lemmas.List.{at_drop_more}
use Rattle.std.proofs.lemmas.Option.{get_or_from_slice_get, slice_get_within, slice_get_cases}
use Rattle.shared_store.specs.Store.{has_name, pool_of}
use Rattle.shared_store.specs.declared.named.NamedPool.{NamedPool}
use Rattle.test_names.specs.Names.{is_named, pool_in}

from_here : (name : List ℕ) (pools : List NamedPool) (at : ℕ) (x : NamedPool) → slice_get pools at ≡ Some x
    → pool_of name (drop at pools) ≡ pool_of name (x ∷ drop (at + 1) pools)
from_here name pools at x there =
    at_drop_more (pool_of name) pools at x (slice_get_within pools at x there)
    ∙ ap (λ p. pool_of name (p ∷ drop (at + 1) pools)) (get_or_from_slice_get pools at x x there)

by_name : (b : Bool) (x : NamedPool) (name : List ℕ) (later : List NamedPool) → bytes_eq name x.name ≡ b
    → pool_of name (x ∷ later) ≡ option_map (λ (n : NamedPool). n.pool) (cond b (Some x) (find (has_name name) later))
by_name b x name later is = ap (λ c. option_map (λ (n : NamedPool). n.pool) (cond c (Some x) (find (has_name name) later))) is

pub is_here : (name : List ℕ) (pools : List NamedPool) (at : ℕ) (x : Option NamedPool) → slice_get pools at ≡ x
    → is_named name x ≡ true → pool_of name (drop at pools) ≡ pool_in x
is_here name pools at None there is = absurd (cc)
is_here name pools at (Some x) there is =
    from_here name pools at x there ∙ by_name true x name (drop (at + 1) pools) is

not_past : (pools : List NamedPool) (at : ℕ) → slice_get pools at ≡ None → at < length pools → ⊥
not_past pools at none within = past ((slice_get_cases pools at).1)
  where
    past : ((x : NamedPool) × (at < length pools) × (slice_get pools at ≡ Some x) × (get_or pools at x ≡ x)) ⊎ ((length pools ≤ at) × (slice_get pools at ≡ None)) → ⊥
    past (inl (x, inside, some, is)) = absurd (cc)
    past (inr (end, none)) = omega (arith, end, within)

pub is_later : (name : List ℕ) (pools : List NamedPool) (at : ℕ) (x : Option NamedPool) → slice_get pools at ≡ x
    → at < length pools → is_named name x ≡ false → pool_of name (drop (at + 1) pools) ≡ pool_of name (drop at pools)
is_later name pools at None there within is = absurd (not_past pools at there within)
is_later name pools at (Some x) there within is =
    sym (from_here name pools at x there ∙ by_name false x name (drop (at + 1) pools) is)
