-- How trees are made of pieces, and what is found meanwhile.
use Rattle.std.specs.Prelude.{ℕ, List, [], ◌∷◌, Bool, true, false}
use Rattle.tcl_words.specs.Tree.{Part, Parts, Word, Commands}
use Rattle.tcl_words.specs.declared.parse_fault.Fault.TheVariants as fault
use Rattle.tcl_trees.specs.Flaws.{noted}
use Rattle.tcl_trees.specs.Tree.{Tree, element, word, script, command, trees_of}
use Rattle.tcl_trees.specs.declared.flaw.Flaw.{Flaw}
use Rattle.tcl_trees.specs.declared.flaw.Flaw.TheVariants.{Parse}
use Rattle.tcl_trees.specs.declared.findings.Findings.{Findings}
use Rattle.tcl_trees.specs.declared.node.Verb.{Verb}

-- what was made, and what was found so far
abbrev pub Made : Type 0 → Type 0
Made A = A × Findings

-- a script of no command, which stands for a tree that isn't made too
abbrev pub nothing : Tree
nothing = script (trees_of [])

abbrev pub flawed : Flaw → Findings → Made Tree
flawed f s = (nothing, noted f s)

abbrev pub unmade : Flaw → Findings → Made (List Tree)
unmade f s = ([], noted f s)

-- an opener that is one too many
abbrev pub one_too_many : ℕ → Flaw
one_too_many place = Parse (fault.TooDeep place)

-- one item after another
unfoldable pub gathered : {A B : Type 0} → (A → Findings → Made B) → List A → Findings
    → Made (List B)
gathered item [] s = ([], s)
gathered item (a ∷ items) s =
    let first = item a s in
    let rest = gathered item items first.1 in
    (first.0 ∷ rest.0, rest.1)

-- patterns, and the bodies that belong to them
abbrev pub Cases : Type 0
Cases = List Tree × List Tree

abbrev pub no_cases : Flaw → Findings → Made Cases
no_cases f s = (([], []), noted f s)

abbrev pub is_end : {A : Type 0} → List A → Bool
is_end [] = true
is_end (a ∷ items) = false

-- patterns and bodies in turn; of a body it is known whether it is the last one
unfoldable pub in_turn : {A : Type 0} → (A → Findings → Made Tree)
    → (Bool → A → Findings → Made Tree) → List A → Findings → Made Cases
in_turn pattern body (a ∷ b ∷ items) s =
    let first = pattern a s in
    let second = body (is_end items) b first.1 in
    let rest = in_turn pattern body items second.1 in
    ((first.0 ∷ rest.0.0, second.0 ∷ rest.0.1), rest.1)
in_turn pattern body items s = (([], []), s)

abbrev pub element_of : List ℕ → Made (List Tree) → Made Tree
element_of name r = (element name (trees_of r.0), r.1)

abbrev pub word_of : Made (List Tree) → Made Tree
word_of r = (word (trees_of r.0), r.1)

abbrev pub script_of : Made (List Tree) → Made Tree
script_of r = (script (trees_of r.0), r.1)

abbrev pub command_of : Verb → Made (List Tree) → Made Tree
command_of v r = (command v (trees_of r.0), r.1)

-- How an opener and what it encloses are compiled. The texts begin at a place of the source,
-- `base`.
pub record Level : Type 0 where
  -- the script of a bracket, and the parts of a quoted word or an index, at these places
  pub script : (base at : ℕ) → Commands → Findings → Made Tree
  pub parts : (base at : ℕ) → Parts → Findings → Made (List Tree)
  -- a word as a body, and as a condition
  pub body : (base : ℕ) → Word → Findings → Made Tree
  pub condition : (base : ℕ) → Word → Findings → Made Tree
  -- a word that holds patterns and bodies, of the command at the place
  pub cases : (base at : ℕ) → Word → Findings → Made Cases
  -- parts around which one opener more than so many stands
  pub under : (openers base : ℕ) → List Part → Findings → Made (List Tree)
  -- a body in braces that begins at the place of the source
  pub inside : (place : ℕ) → List ℕ → Findings → Made Tree
