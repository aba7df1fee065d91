-- What an automaton's fields are together.
use Rattle.std.specs.Prelude.{ℕ, List, length, map}
use Rattle.tcl_strings.specs.declared.suffixes.Suffixes.{Suffixes}
use Rattle.tcl_strings.specs.Automaton.{IsAutomaton, IsLongest}

-- the nodes' texts
abbrev pub texts : Suffixes → List (List ℕ)
texts s = map (λ n. n.now) s.nodes.items

abbrev pub IsSound : Suffixes → Type 0
IsSound s = IsAutomaton (texts s) s.links.items s.edges

-- the node of the longest suffix with which a text begins
abbrev pub IsLongestNode : Suffixes → List ℕ → ℕ → Type 0
IsLongestNode s text node = IsLongest (texts s) (length (texts s)) text node
