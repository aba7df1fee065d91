-- Which links are open.
use Rattle.std.specs.Prelude.{◌≡◌, ℕ, Bool, true, is_some, nat_eq}
use Rattle.std.specs.HashMap.{get, hash_map_len}
use Rattle.px_real.specs.declared.links.Links.{Links}

abbrev pub is_open : Links → ℕ → Bool
is_open links n = is_some (get nat_eq links.map n)

abbrev pub SameLinks : Links → Links → Type 0
SameLinks links links' = (n : ℕ) → is_open links' n ≡ is_open links n

abbrev pub IsOpen : Links → ℕ → Type 0
IsOpen links n = is_open links n ≡ true

abbrev pub open_count : Links → ℕ
open_count links = hash_map_len links.map
