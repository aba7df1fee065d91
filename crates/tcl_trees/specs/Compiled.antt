-- Bodies and conditions, which are read from their bytes in the source, and whole scripts.
use Rattle.std.specs.Prelude.{ℕ, zero, suc, ◌-◌, List, [], false, Option, Some, None, Result, Ok, Err}
use Rattle.tcl_trees.specs.Pieces.{all_parts, all_commands}
use Rattle.tcl_expr.specs.Expression.{Expression}
use Rattle.tcl_expr.specs.ExpressionReading.{expression_within}
use Rattle.tcl_expr.specs.declared.expr_fault.Misread.{Misread}
use Rattle.tcl_words.specs.Reading as reading
use Rattle.tcl_words.specs.Tree as source
use Rattle.tcl_words.specs.Tree.{Word, Commands}
use Rattle.tcl_words.specs.declared.parse_fault.Fault.{Fault}
use Rattle.tcl_words.specs.declared.script.Form.{Form}
use Rattle.tcl_words.specs.declared.script.Form.TheVariants.{Bare}
use Rattle.tcl_words.specs.declared.script.Span.{Span}
use Rattle.tcl_trees.specs.CaseList.{word_items, listed_of}
use Rattle.tcl_trees.specs.Compiling.{script_at}
use Rattle.tcl_trees.specs.Conditions.{MadeTo, parts_under, expression_at}
use Rattle.tcl_trees.specs.Flaws.{noted, place_in, moved_fault, moved_misread}
use Rattle.tcl_trees.specs.Making.{Made, Level, Cases, flawed, unmade, no_cases, one_too_many}
use Rattle.tcl_trees.specs.Opened.{unopened}
use Rattle.tcl_trees.specs.Tree.{Tree}
use Rattle.tcl_trees.specs.Words.{parts_at, word_place}
use Rattle.tcl_trees.specs.declared.flaw.Flaw.{Flaw}
use Rattle.tcl_trees.specs.declared.flaw.Flaw.TheVariants.{Parse, Expr, BadBody}
use Rattle.tcl_trees.specs.declared.findings.Findings.{Findings}

-- the script that a text is, with so many openers, as far as it can be read, and its fault
unfoldable pub script_within : ℕ → List ℕ → Commands × Option Fault
script_within room text =
    let r = reading.commands (reading.level room) false text reading.beginning in
    (r.0, r.1.fault)

-- the fault of a text that begins at the place, among what was found
abbrev pub with_fault : ℕ → Option Fault → Findings → Findings
with_fault place None s = s
with_fault place (Some f) s = noted (Parse (moved_fault place f)) s

-- What was read from the place on as a script. Where it has a fault, the commands that were read
-- have their flaws too, and so has the command with the fault, as far as it was read.
abbrev pub read_script : Level → ℕ → Commands × Option Fault → Findings → Made Tree
read_script level place r s = script_at level place (all_commands r.0) (with_fault place r.1 s)

abbrev pub tree_of : MadeTo Tree → Made Tree
tree_of r = (r.0.0, r.1)

-- what was read from the place on as an expression; one with a fault has that alone
abbrev pub read_expression : Level → ℕ → List ℕ → Result Expression Misread → Findings → Made Tree
read_expression level place text (Ok e) s = tree_of (expression_at level place text e unopened s)
read_expression level place text (Err f) s = flawed (Expr (moved_misread place f)) s

abbrev pub text_at : Level → (room place : ℕ) → List ℕ → Findings → Made Tree
text_at level room place text = read_script level place (script_within room text)

abbrev pub expression_text_at : Level → (room place : ℕ) → List ℕ → Findings → Made Tree
expression_text_at level room place text =
    read_expression level place text (expression_within room text)

-- how many openers more may be open inside a word of the form
abbrev pub room_inside : ℕ → Form → ℕ
room_inside room Bare = room
room_inside room form = room - 1

-- a word that is read anew is one without substitution
abbrev pub body_of : Level → (room base : ℕ) → Span → Form → Span → Option (List ℕ) → Findings
    → Made Tree
body_of level room base span form inner None s = flawed (BadBody (place_in base span.start)) s
body_of level room base span form inner (Some raw) s =
    text_at level (room_inside room form) (place_in base inner.start) raw s

abbrev pub body_at : Level → (room base : ℕ) → Word → Findings → Made Tree
body_at level room base (source.word span form inner raw parts) =
    body_of level room base span form inner raw

abbrev pub condition_of : Level → (room base : ℕ) → Span → Form → Span → Option (List ℕ) → Findings
    → Made Tree
condition_of level room base span form inner None s = flawed (BadBody (place_in base span.start)) s
condition_of level room base span form inner (Some raw) s =
    expression_text_at level (room_inside room form) (place_in base inner.start) raw s

abbrev pub condition_at : Level → (room base : ℕ) → Word → Findings → Made Tree
condition_at level room base (source.word span form inner raw parts) =
    condition_of level room base span form inner raw

abbrev pub inner_place : Word → ℕ
inner_place (source.word span form inner raw parts) = inner.start

abbrev pub cases_at_word : Level → (base at : ℕ) → Word → Findings → Made Cases
cases_at_word level base at w =
    listed_of level (place_in base (word_place w)) (place_in base at)
    (place_in base (inner_place w)) (word_items w)

-- With so many levels: one less than that may be open. A bare body opens nothing, and yet stands a
-- level further down.
unfoldable pub level : ℕ → Level
level zero = record {
  script = λ base at commands. flawed (one_too_many (place_in base at));
  parts = λ base at parts. unmade (one_too_many (place_in base at));
  body = λ base w. flawed (one_too_many (place_in base (word_place w)));
  condition = λ base w. flawed (one_too_many (place_in base (word_place w)));
  cases = λ base at w. no_cases (one_too_many (place_in base (word_place w)));
  under = λ openers base parts. unmade (one_too_many base);
  inside = λ place text. flawed (one_too_many place);
}
level (suc levels) = record {
  script = λ base at commands. script_at (level levels) base (all_commands commands);
  parts = λ base at parts. parts_at (level levels) base (all_parts parts);
  body = body_at (level levels) levels;
  condition = condition_at (level levels) levels;
  cases = cases_at_word (level levels);
  under = λ openers base parts. parts_under (level levels) base openers parts;
  inside = text_at (level levels) (levels - 1);
}

-- a hundred constructs may be open at a place
abbrev pub all_levels : ℕ
all_levels = 101

abbrev pub beginning : Findings
beginning = record { flaw = None; names = [] }

abbrev pub unless : {A : Type 0} → Option Flaw → A → Result A Flaw
unless None a = Ok a
unless (Some f) a = Err f

abbrev pub judged : {A : Type 0} → Made A → Result A Flaw
judged r = unless r.1.flaw r.0

-- the tree that a script becomes, or its flaw
unfoldable pub compiled : Commands → Result Tree Flaw
compiled commands = judged (script_at (level all_levels) 0 (all_commands commands) beginning)

-- the same of a word that is a body in the script of its text
unfoldable pub compiled_body : Word → Result Tree Flaw
compiled_body w = judged ((level all_levels).body 0 w beginning)

-- the tree of such a word, and what was found in it
unfoldable pub examined_body : Word → Made Tree
examined_body w = (level all_levels).body 0 w beginning

-- the tree of an expression that is a text of its own, in which a hundred constructs may be open at
-- a place, or its flaw
unfoldable pub compiled_expression : List ℕ → Result Tree Flaw
compiled_expression text = judged (expression_text_at (level all_levels) 100 0 text beginning)
