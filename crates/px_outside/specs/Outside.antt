-- What is known of an object outside.
use Rattle.std.specs.Prelude.{
  ◌≡◌,
  ℕ,
  ◌+◌,
  ◌-◌,
  ◌^◌,
  ◌<◌,
  ◌⊎◌,
  List,
  ◌++◌,
  length,
  take,
  min,
  Option,
  option_map,
}

-- what is told to be written, with these bytes behind it
abbrev pub told_more : Option (List ℕ) → List ℕ → Option (List ℕ)
told_more told bytes = option_map (λ before. before ++ bytes) told

-- some of the bytes, from the first on and not all, were written behind what was written before
pub record AddsPrefix (bytes : List ℕ) (before now : Option (List ℕ)) : Type 0 where
  pub taken : ℕ
  pub not_all : taken < length bytes
  pub written : now ≡ told_more before (take taken bytes)

-- one more, in a count of 64 bits that stays at its greatest value
abbrev pub counted_up : ℕ → ℕ
counted_up count = min (count + 1) (2 ^ 64 - 1)

-- a count rose, or stands at its greatest value
abbrev pub Rose : ℕ → ℕ → Type 0
Rose before now = (before < now) ⊎ (now ≡ 2 ^ 64 - 1)
