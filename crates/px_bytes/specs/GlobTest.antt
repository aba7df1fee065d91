-- The test of a text by a glob pattern, as a value: Tcl 8.4, string(n), `string match`.
use Rattle.std.specs.Prelude.{◌≡◌, ℕ, zero, suc, ◌↔◌, Bool, true, false, ◌||◌, List, [], ◌∷◌}
use Rattle.std.specs.Prelude.{length, Option, Some, None, if◌then◌else◌}
use Rattle.px_bytes.specs.Glob.{Matches, is_star, behind_piece}

-- whether the test holds of some end of the text, which may be all of it or nothing
abbrev pub some_end : (List ℕ → Bool) → List ℕ → Bool
some_end holds [] = holds []
some_end holds (c ∷ cs) = holds (c ∷ cs) || some_end holds cs

-- the test holds of what is left of the pattern, where something is
abbrev pub holds_behind : (List ℕ → List ℕ → Bool) → Option (List ℕ) → List ℕ → Bool
holds_behind test None rest = false
holds_behind test (Some left) rest = test left rest

-- the piece that begins with `p` stands for the first byte, and the test holds of what is left
abbrev pub piece_and : (List ℕ → List ℕ → Bool) → ℕ → List ℕ → List ℕ → Bool
piece_and test p ps [] = false
piece_and test p ps (byte ∷ rest) = holds_behind test (behind_piece p ps byte) rest

-- whether a pattern of at most n bytes matches the text
abbrev pub matches_within : ℕ → List ℕ → List ℕ → Bool
matches_within n [] [] = true
matches_within n [] (c ∷ cs) = false
matches_within zero (p ∷ ps) text = false
matches_within (suc n) (p ∷ ps) text =
    if is_star p then some_end (matches_within n ps) text
    else piece_and (matches_within n) p ps text

-- whether a pattern matches the text
abbrev pub matches : List ℕ → List ℕ → Bool
matches pattern text = matches_within (length pattern) pattern text

-- the test is the relation
abbrev pub MatchesIsGlob : Type 0
MatchesIsGlob = (pattern text : List ℕ) → (matches pattern text ≡ true) ↔ Matches pattern text
