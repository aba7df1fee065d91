-- What the pieces of a pattern come to, up to its next `*`.
use Rattle.std.specs.Prelude.{ℕ, suc, ◌≤◌, ◌↔◌, List, ◌∷◌, length, drop}
use Rattle.px_bytes.specs.Glob.{Matches}
use Rattle.px_bytes.specs.declared.pattern.Run.{Run}
use Rattle.px_bytes.specs.declared.pattern.Run.TheVariants.{Ends, Star, Fails}

-- The first pieces took the front of the text: what matches from there on matches from the front
-- on, and where the pattern matches a part of the text that begins further on, what is left of it
-- begins as much further on.
pub record ComesTo (pattern text pieces rest : List ℕ) : Type 0 where
  pub back : Matches pieces rest → Matches pattern text
  pub on : (k : ℕ) → Matches pattern (drop k text) → Matches pieces (drop k rest)
  pub within : length pieces ≤ length pattern

-- `*`, and what stands behind it
abbrev pub starred : List ℕ → List ℕ
starred behind = 42 ∷ behind

-- what the pieces come to from the front of the text on
abbrev pub IsRun : List ℕ → List ℕ → Run → Type 0
IsRun pattern text Ends = Matches pattern text
IsRun pattern text (Star behind rest) = ComesTo pattern text (starred behind.now) rest.now
IsRun pattern text Fails = ¬ Matches pattern text

-- whether the run settles if the pattern matches the text
abbrev pub Settles : List ℕ → List ℕ → Run → Type 0
Settles pattern text Ends = Matches pattern text
Settles pattern text (Star behind rest) =
    Matches (starred behind.now) rest.now ↔ Matches pattern text
Settles pattern text Fails = ¬ Matches pattern text

-- how many bytes of the pattern are left, with the `*`
abbrev pub left_of : Run → ℕ
left_of Ends = 0
left_of (Star behind rest) = suc (length behind.now)
left_of Fails = 0
