-- Words that are evaluated, and commands that evaluate all of theirs.
use Rattle.std.specs.Prelude.{ℕ, List, [], ◌∷◌, ◌++◌, Bool, true, false, Option, Some, None}
use Rattle.std.specs.Prelude.{if◌then◌else◌}
use Rattle.tcl_expr.specs.ExpressionReading.{parts_of_word}
use Rattle.tcl_words.specs.Tree as source
use Rattle.tcl_words.specs.Tree.{Part, Word}
use Rattle.tcl_trees.specs.Fits.{fits}
use Rattle.tcl_trees.specs.Flaws.{place_in}
use Rattle.tcl_trees.specs.Making.{Made, Level, flawed, gathered, element_of, word_of, command_of}
use Rattle.tcl_trees.specs.Pieces.{all_parts}
use Rattle.tcl_trees.specs.Texts.{is_quoted, raw_of}
use Rattle.tcl_trees.specs.Tree.{Tree, plain, variable}
use Rattle.tcl_trees.specs.declared.flaw.Flaw.TheVariants.{Arity}
use Rattle.tcl_trees.specs.declared.findings.Findings.{Findings}
use Rattle.tcl_trees.specs.declared.node.Verb.{Verb}
use Rattle.tcl_trees.specs.declared.node.Verb.TheVariants.{Named}

-- Tcl(n), Variable substitution, Command substitution
abbrev pub part_at : Level → ℕ → Part → Findings → Made Tree
part_at level base (source.plain span text) s = (plain text, s)
part_at level base (source.variable span name) s = (variable name, s)
part_at level base (source.element span name index) s =
    element_of name (level.parts base span.start index s)
part_at level base (source.bracket span inside) s = level.script base span.start inside s

abbrev pub parts_at : Level → ℕ → List Part → Findings → Made (List Tree)
parts_at level base = gathered (part_at level base)

abbrev pub word_place : Word → ℕ
word_place (source.word span form inner raw parts) = span.start

-- a word that is evaluated
abbrev pub word_at : Level → ℕ → Word → Findings → Made Tree
word_at level base w s = word_of
    (if is_quoted w then level.parts base (word_place w) (parts_of_word w) s
    else parts_at level base (all_parts (parts_of_word w)) s)

abbrev pub words_at : Level → ℕ → List Word → Findings → Made (List Tree)
words_at level base = gathered (word_at level base)

-- a command at the place with a wrong number of words
abbrev pub wrong_number : (base at : ℕ) → Findings → Made Tree
wrong_number base at = flawed (Arity (place_in base at))

-- Tcl(n), Evaluation: "the first word is used to locate a command procedure"; a name with a
-- substitution isn't known before the command runs
abbrev pub with_name : (place : ℕ) → Option (List ℕ) → Findings → Findings
with_name place None s = s
with_name place (Some name) s =
    record { flaw = s.flaw; names = s.names ++ record { place = place; name = name } ∷ [] }

abbrev pub with_first : (place : ℕ) → List Word → Findings → Findings
with_first place [] s = s
with_first place (w ∷ words) s = with_name place (raw_of w) s

abbrev pub is_named : Verb → Bool
is_named Named = true
is_named v = false

-- with the name that the first word is, where it is the name of none of the commands above
abbrev pub named_at : (base at : ℕ) → Verb → List Word → Findings → Findings
named_at base at v words s = if is_named v then with_first (place_in base at) words s else s

-- a command that evaluates all its words
abbrev pub evaluated_at : Level → (base at : ℕ) → Verb → List Word → Findings → Made Tree
evaluated_at level base at v words s =
    if fits v words then command_of v (words_at level base words (named_at base at v words s))
    else wrong_number base at s
