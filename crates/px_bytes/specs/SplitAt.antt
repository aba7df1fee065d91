-- A text split at the first byte of a kind.
use Rattle.std.specs.Prelude.{◌≡◌, ℕ, List, ◌∷◌, ◌++◌, length, ◌==◌}
use Rattle.std.specs.List.{position_or_len}

-- how many bytes stand before the first that is the mark
abbrev pub mark_at : ℕ → List ℕ → ℕ
mark_at mark text = position_or_len (λ byte. byte == mark) text

-- the text is the front, its first mark, and the back
pub record SplitsAt (mark : ℕ) (text front back : List ℕ) : Type 0 where
  pub joined : text ≡ front ++ mark ∷ back
  pub first : length front ≡ mark_at mark text
