-- The suffixes of keys as the nodes of an automaton that reads a text from its end: A. V. Aho and
-- M. J. Corasick, "Efficient string matching", 1975, mirrored.
use Rattle.std.specs.Prelude.{◌≡◌, ◌<◌, ◌≤◌, ℕ, List, [], ◌∷◌, Option, Some}
use Rattle.std.specs.Prelude.{length, slice_index_or}
use Rattle.std.specs.Map.{lookup}
use Rattle.std.specs.BTreeMap.{is_at}
use Rattle.std.specs.Ordering.{nat_cmp, ordering_then}

-- edges by a node and a byte, and the node to which one leads
abbrev pub Entries : Type 0
Entries = List ((ℕ × ℕ) × ℕ)

abbrev pub edge_at : Entries → ℕ → ℕ → Option ℕ
edge_at entries node byte =
    lookup (is_at (λ k. ordering_then (nat_cmp node k.0) (nat_cmp byte k.1))) entries

-- the text begins with the piece
abbrev pub IsPrefix : List ℕ → List ℕ → Type 0
IsPrefix [] text = Unit {0}
IsPrefix (p ∷ ps) [] = ⊥
IsPrefix (p ∷ ps) (c ∷ cs) = (p ≡ c) × IsPrefix ps cs

-- the text of a node, which is its index
abbrev pub text_at : List (List ℕ) → ℕ → List ℕ
text_at texts node = slice_index_or texts node []

-- of the first n nodes, that of the longest text with which a text begins
pub record IsLongest (texts : List (List ℕ)) (n : ℕ) (text : List ℕ) (node : ℕ) : Type 0 where
  pub within : node < n
  pub begins : IsPrefix (text_at texts node) text
  pub longest : (k : ℕ) → k < n → IsPrefix (text_at texts k) text →
      length (text_at texts k) ≤ length (text_at texts node)

-- the node of a node's text without its first byte, and the edge from there
pub record HasParent (texts : List (List ℕ)) (edges : Entries) (node : ℕ) : Type 0 where
  pub parent : ℕ
  pub byte : ℕ
  pub before : parent < node
  pub is : text_at texts node ≡ byte ∷ text_at texts parent
  pub edge : edge_at edges parent byte ≡ Some node

-- nodes by rising length of their texts; with a text, what is behind its first byte; for each the
-- link to the longest node before it with which its text begins
pub record IsAutomaton (texts : List (List ℕ)) (links : List ℕ) (edges : Entries) : Type 0 where
  pub linked : length links ≡ length texts
  pub rooted : 0 < length texts
  pub root : text_at texts 0 ≡ []
  pub parents : (i : ℕ) → 0 < i → i < length texts → HasParent texts edges i
  pub leads : (u c i : ℕ) → edge_at edges u c ≡ Some i →
      (u < length texts) × (i < length texts) × (text_at texts i ≡ c ∷ text_at texts u)
  pub distinct : (i j : ℕ) → i < length texts → j < length texts →
      text_at texts i ≡ text_at texts j → i ≡ j
  pub rising : (i j : ℕ) → i ≤ j → j < length texts →
      length (text_at texts i) ≤ length (text_at texts j)
  pub links_back : (i : ℕ) → 0 < i → i < length texts →
      IsLongest texts i (text_at texts i) (slice_index_or links i 0)

-- no node's text is longer
abbrev pub IsUpTo : List (List ℕ) → ℕ → Type 0
IsUpTo texts limit = (k : ℕ) → k < length texts → length (text_at texts k) ≤ limit

-- nodes stay what they are when others come behind them
pub record Grows (texts more : List (List ℕ)) : Type 0 where
  pub size : length texts ≤ length more
  pub kept : (k : ℕ) → k < length texts → text_at more k ≡ text_at texts k
