-- Keys on their way into an automaton, one byte a round, from their ends.
use Rattle.std.specs.Prelude.{◌≡◌, ◌<◌, ◌-◌, ◌⊎◌, ℕ, List, [], ◌∷◌, length, drop, map, max}
use Rattle.std.specs.List.{Contains}
use Rattle.tcl_strings.specs.declared.levels.Climb.{Climb}
use Rattle.tcl_strings.specs.Automaton.{text_at}

-- the last `depth` bytes of a key, which has more, are the text of its node
pub record IsAtDepth (nodes : List (List ℕ)) (depth : ℕ) (climb : Climb) : Type 0 where
  pub within : climb.node < length nodes
  pub more : depth < length climb.key.now
  pub is : text_at nodes climb.node ≡ drop (length climb.key.now - depth) climb.key.now

-- the whole text is a node's
pub record HasNode (nodes : List (List ℕ)) (text : List ℕ) : Type 0 where
  pub node : ℕ
  pub within : node < length nodes
  pub is : text_at nodes node ≡ text

abbrev pub keys_at : List Climb → List (List ℕ)
keys_at level = map (λ climb. climb.key.now) level

-- a key is a node, or in the level of those on their way
abbrev pub IsOnItsWay : List (List ℕ) → List Climb → List ℕ → Type 0
IsOnItsWay nodes level key = HasNode nodes key ⊎ Contains (keys_at level) key

-- the length of the longest key, 0 where there is none
abbrev pub longest_length : List (List ℕ) → ℕ
longest_length [] = 0
longest_length (key ∷ keys) = max (length key) (longest_length keys)
