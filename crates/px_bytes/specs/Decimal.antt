-- How a decimal number begins, as std's `decimal` writes it.
use Rattle.std.specs.Prelude.{◌≡◌, ◌≤◌, ◌⊎◌, ℕ, List, slice_index, codes}

-- the text is `0`, or its first byte is a digit other than `0`
abbrev pub BeginsPlainly : List ℕ → Type 0
BeginsPlainly text = (text ≡ codes "0") ⊎ (49 ≤ slice_index text 0) × (slice_index text 0 ≤ 57)
