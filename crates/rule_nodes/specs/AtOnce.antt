-- What the code does at once, by what trees come to at once.
use Rattle.std.specs.Prelude.{◌≡◌, ℕ, ◌+◌, ◌≤◌, ℤ, List, [], ◌∷◌, ◌++◌, length, option_map}
use Rattle.std.specs.Prelude.{nat_lt, sum_by, Option, Some, None, if◌then◌else◌, Bool, ◌&&◌, ◌||◌}
use Rattle.std.specs.Prelude.{codes}
use Rattle.std.specs.Str.{bytes_eq}
use Rattle.px_bytes.specs.GlobTest.{matches}
use Rattle.px_bytes.specs.Whole.{whole}
use Rattle.tcl_trees.specs.Tree.{Tree, Operands, trees_of}
use Rattle.tcl_trees.specs.Tree as tree
use Rattle.tcl_trees.specs.TreeView.{node_view}
use Rattle.tcl_trees.specs.declared.node.Node.{Node}
use Rattle.tcl_trees.specs.declared.node.Verb.{Verb}
use Rattle.tcl_trees.specs.declared.node.Verb.TheVariants as verb
use Rattle.tcl_vars.specs.Names.{name_of}
use Rattle.tcl_vars.specs.Scopes.{Level, Scopes}
use Rattle.tcl_var_commands.specs.Reading.{value_of}
use Rattle.rule_model.specs.Children.{free, one}
use Rattle.rule_nodes.specs.Short.{Shortly, Purse, purse, short, short_command, short_front}
use Rattle.rule_nodes.specs.Short.{short_changed, short_operands, short_pieces, short_word}
use Rattle.rule_nodes.specs.Short.{short_words, shortly, where_some}
use Rattle.rule_nodes.specs.declared.short_choices.Chosen.{Chosen}
use Rattle.rule_nodes.specs.declared.short_choices.Chosen.TheVariants as chosen

-- how long a text is at most that is called short
abbrev pub most_short : ℕ
most_short = 65536

abbrev pub short_text : List ℕ → Option (List ℕ)
short_text text = if nat_lt most_short (length text) then None else Some text

-- the only part of a word, and the text of a word that is one short literal
abbrev pub only_part : Tree → Option Tree
only_part (tree.word (tree.and_tree t tree.no_trees)) = Some t
only_part t = None

abbrev pub literal_part : Tree → Option (List ℕ)
literal_part (tree.plain text) = short_text text
literal_part t = None

abbrev pub literal_word : Tree → Option (List ℕ)
literal_word t = where_some (only_part t) literal_part

-- the text of a word of a list, or of such a word
abbrev pub literal : Tree → Option (List ℕ)
literal (tree.plain text) = short_text text
literal t = literal_word t

abbrev pub literals : List Tree → Option (List (List ℕ))
literals [] = Some []
literals (t ∷ ts) =
    where_some (literal t) (λ v. option_map (λ vs. v ∷ vs) (literals ts))

-- what a word costs in a list, and in words with parts
abbrev pub literal_price : Tree → ℕ
literal_price (tree.word ts) = 1
literal_price t = 0

-- a literal, or a variable's value
abbrev pub part_value : Option Level → Scopes → Tree → Option (List ℕ)
part_value statics vars (tree.plain text) = Some text
part_value statics vars (tree.variable name) =
    value_of statics vars (record { name = name; index = None })
part_value statics vars t = None

-- the value of such a part is short and reads as this number
pub record ReadsPart (statics : Option Level) (vars : Scopes) (t : Tree) (n : ℤ) : Type 0 where
  pub value : List ℕ
  pub is_value : part_value statics vars t ≡ Some value
  pub reads : whole value ≡ Some n
  pub few : length value ≤ most_short

-- the value of such a part stands behind a text
pub record AddsPart (statics : Option Level) (vars : Scopes) (t : Tree) (text text' : List ℕ)
    : Type 0 where
  pub piece : List ℕ
  pub is_value : part_value statics vars t ≡ Some piece
  pub added : text' ≡ text ++ piece

-- Words that are short literals, of so many bytes at most, and what they cost.
pub record AreLiterals (ts : List Tree) (most cost cost' : ℕ) : Type 0 where
  pub texts : List (List ℕ)
  pub are : literals ts ≡ Some texts
  pub few : sum_by length texts ≤ most
  pub paid_is : cost' ≡ cost + sum_by literal_price ts

-- a word has this text, for the cost between, whatever budget is left
abbrev pub WordIs : Option Level → Scopes → Tree → (text : List ℕ) → (cost cost' : ℕ) → Type 0
WordIs statics vars t text cost cost' =
    (budget : ℕ) → short_word statics free t (short statics t) (purse vars budget cost)
    ≡ Some (shortly text (purse vars budget cost'))

-- so do parts, behind a text
abbrev pub JoinsParts : Option Level → Scopes → List Tree → (text text' : List ℕ)
    → (cost cost' : ℕ) → Type 0
JoinsParts statics vars ts text text' cost cost' =
    (budget : ℕ) → short_pieces statics (trees_of ts) text (purse vars budget cost)
    ≡ Some (shortly text' (purse vars budget cost'))

-- whether a text hits a pattern, which may be the last one
abbrev pub hits_where : (is_last by_glob : Bool) → (text pattern : List ℕ) → Bool
hits_where is_last by_glob text pattern =
    (is_last && bytes_eq pattern (codes "default"))
    || (if by_glob then matches pattern text else bytes_eq pattern text)

-- an expression's value reads as this number, for the cost between, whatever budget is left
pub record ReadsWhole (statics : Option Level) (vars : Scopes) (t : Tree) (cost cost' : ℕ)
    (n : ℤ) : Type 0 where
  pub text : List ℕ
  pub reads : whole text ≡ Some n
  pub is_value : (budget : ℕ) → short statics t (purse vars budget cost)
      ≡ Some (shortly text (purse vars budget cost'))

-- so does that of operands behind a value
pub record JoinsWhole (statics : Option Level) (vars : Scopes) (os : Operands) (left : List ℕ)
    (cost cost' : ℕ) (n : ℤ) : Type 0 where
  pub text : List ℕ
  pub reads : whole text ≡ Some n
  pub is_value : (budget : ℕ) → short_operands statics os left (purse vars budget cost)
      ≡ Some (shortly text (purse vars budget cost'))

-- something is done at once, and this is left
pub record Leaves (x : Option Shortly) (left : Purse) : Type 0 where
  pub value : List ℕ
  pub is_done : x ≡ Some (shortly value left)

-- a name without an index
abbrev pub IsPlain : List ℕ → Type 0
IsPlain name = name_of name ≡ record { name = name; index = None }

-- the head and the name that a command on a variable begins with
pub record Begins (head name : List ℕ) : Type 0 where
  pub head_short : length head ≤ most_short
  pub name_short : length name ≤ most_short
  pub is_plain : IsPlain name

-- a command on the variable of this name is done at once, from the words behind the name on
abbrev pub DoesVerb : Option Level → Verb → (name : List ℕ) → (behind : List Tree)
    → (old new : Purse) → Type 0
DoesVerb statics v name behind old new =
    (head : List ℕ) → Begins head name
    → Leaves (short_words statics one (trees_of behind) (short_changed statics v)
    (head ∷ name ∷ []) old) new

-- this bracket has a short value, and the variable of this name is set to it
pub record SetsTo (statics : Option Level) (name : List ℕ) (bracket : Tree) (old new : Purse)
    : Type 0 where
  pub value : List ℕ
  pub left : Purse
  pub is_value : short statics bracket old ≡ Some (shortly value left)
  pub few : length value ≤ most_short
  pub sets : (head : List ℕ) → IsPlain name
      → Leaves (short_changed statics verb.Set (head ∷ name ∷ value ∷ []) left) new

-- A command with its unit is done at once, from the old variables, budget and counter of cost
-- to the new ones.
pub record DoesCommand (statics : Option Level) (t : Tree) (vars : Scopes) (budget paid : ℕ)
    (vars' : Scopes) (budget' paid' : ℕ) : Type 0 where
  pub cost : ℕ
  pub does : Leaves (short_command statics t (purse vars budget 0)) (purse vars' budget' cost)
  pub paid_is : paid' ≡ paid + cost

-- so many of these commands are done at once, whatever was paid before
pub record DoesFront (statics : Option Level) (ts : List Tree) (n : ℕ) (vars : Scopes)
    (budget paid : ℕ) (vars' : Scopes) (budget' paid' : ℕ) : Type 0 where
  pub cost : ℕ
  pub does : (before : ℕ) → short_front statics n ts (purse vars budget before)
      ≡ Some (purse vars' budget' (before + cost))
  pub paid_is : paid' ≡ paid + cost

-- What a command comes to by the body that it chooses, whatever budget is left: `whole` is the
-- command, and so much is paid then.
abbrev pub Chooses : Option Level → Scopes → (whole : ℕ → Option Shortly) → (cost : ℕ) → Chosen
    → Type 0
Chooses statics vars whole cost chosen.Unknown = Unit {0}
Chooses statics vars whole cost chosen.None =
    (budget : ℕ) → whole budget ≡ Some (shortly [] (purse vars budget cost))
Chooses statics vars whole cost (chosen.Body b) =
    (budget : ℕ) → whole budget ≡ short statics (node_view b.now) (purse vars budget cost)

-- the body that is chosen, where one is, and that it is known which
abbrev pub chosen_node : Chosen → Option Node
chosen_node chosen.Unknown = None
chosen_node chosen.None = None
chosen_node (chosen.Body b) = Some b.now

abbrev pub IsKnown : Chosen → Type 0
IsKnown chosen.Unknown = ⊥
IsKnown chosen.None = Unit {0}
IsKnown (chosen.Body b) = Unit {0}

-- what a chosen body comes to: none is the empty value
abbrev pub chosen_short : Option Level → Chosen → Purse → Option Shortly
chosen_short statics chosen.Unknown p = None
chosen_short statics chosen.None p = Some (shortly [] p)
chosen_short statics (chosen.Body b) p = short statics (node_view b.now) p
