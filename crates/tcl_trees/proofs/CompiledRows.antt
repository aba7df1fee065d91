-- Texts and their flaws, as they are known from outside.
use Rattle.std.proofs.Common.{◌≡◌, ℕ, List, [], ◌∷◌, refl, codes, Ok, Err}
use Rattle.std.specs.Prelude.{Result}
use Rattle.tcl_expr.specs.ExpressionReading.{expression, enclosed_at, whole_at, cases_at, row_at}
use Rattle.tcl_expr.specs.ExpressionReading.{more_at}
use Rattle.tcl_expr.specs.ExpressionReading.{prefixes_at, operand_at, literal_at, closed_by, taken}
use Rattle.tcl_expr.specs.Tokens.{white_stands, white_end, reads_word, prefix_at, joint_at}
use Rattle.tcl_expr.specs.Tokens.{digit_stands, digits_end, number_end}
use Rattle.tcl_expr.specs.declared.expr_fault.Misread.TheVariants.{Syntax}
use Rattle.tcl_words.specs.Escapes.{digit, is_digit, with_digit, digits, letter, after_backslash}
use Rattle.tcl_words.specs.Escapes.{escape, unit}
use Rattle.tcl_words.specs.Faults.{comes_first as words_first, noted as words_noted, closed}
use Rattle.tcl_words.specs.Finish.{is_literal}
use Rattle.tcl_words.specs.Places.{stands, is_letter, letter_stands, names, after_name}
use Rattle.tcl_words.specs.Places.{opens_name, in_name}
use Rattle.tcl_words.specs.Places.{starts_variable, skips_newline, is_space, is_blank}
use Rattle.tcl_words.specs.Places.{after_blank, separates}
use Rattle.tcl_words.specs.Places.{closes, ends_run, ends_script, ends_command, in_comment}
use Rattle.tcl_words.specs.Places.{after_comment_byte, in_gap}
use Rattle.tcl_words.specs.Reading.{read_braced, read_name, named, read_variable, read_part, parts}
use Rattle.tcl_words.specs.Reading.{trailing, read_word, words, read_command, commands}
use Rattle.tcl_words.specs.Reading.{level as words_level, limit, reading}
use Rattle.tcl_words.specs.Skips.{skip, spaces_end, name_end, brace_end, blanks_end, comment_end}
use Rattle.tcl_words.specs.Skips.{after_gap_part, gap_end}
use Rattle.tcl_words.specs.Tree.{Commands}
use Rattle.tcl_words.specs.Values.{many, next_byte, run, brace_bytes, brace_unit_end, inner_after}
use Rattle.tcl_words.specs.Values.{deepened, ends_braces, braces}
use Rattle.tcl_words.specs.declared.parse_fault.Fault.{Fault}
use Rattle.tcl_words.specs.declared.parse_fault.Fault.TheVariants.{ExtraAfter, MissingBracket}
use Rattle.tcl_trees.specs.Compiled.{script_within, level, compiled}
use Rattle.tcl_trees.specs.Flaws.{place_in, comes_first, noted}
use Rattle.tcl_trees.specs.Fits.{fits}
use Rattle.tcl_trees.specs.Making.{gathered, in_turn}
use Rattle.tcl_trees.specs.Opened.{one_more, turned, scanned}
use Rattle.tcl_trees.specs.Shapes.{named as shape_named, flow_named, body_named}
use Rattle.tcl_trees.specs.Tree.{Tree, plain, variable, element, word, script, command, expr}
use Rattle.tcl_trees.specs.Tree.{branches, loop, each, switch, catch, catch_in, next_body, row}
use Rattle.tcl_trees.specs.Tree.{trees_of, operands_of, values_of}
use Rattle.tcl_trees.specs.declared.node.Verb.TheVariants.{Named, Computed, Set, ExprOfWords}
use Rattle.tcl_expr.specs.declared.expr.Joint.TheVariants.{Both}
use Rattle.tcl_expr.specs.declared.operator.Op2.TheVariants.{Add}
use Rattle.tcl_trees.specs.declared.flaw.Flaw.{Flaw}
use Rattle.tcl_trees.specs.declared.flaw.Flaw.TheVariants.{Parse, Expr, Arity, BadBody}

abbrev compiled_of : Result Commands Fault → Result Tree Flaw
compiled_of (Ok tree) = compiled tree
compiled_of (Err f) = Err (Parse f)

abbrev compiled_text : List ℕ → Result Tree Flaw
compiled_text text = compiled_of (reading text)

record Rows : Type 0 where
  while_arity : compiled_text (codes "while 1") ≡ Err (Arity 0)
  while_body : compiled_text (codes "while $a {}") ≡ Err (BadBody 6)
  bracket_body : compiled_text (codes "while {1} [a]") ≡ Err (BadBody 10)
  set_arity : compiled_text (codes "set a b c") ≡ Err (Arity 0)
  unset_arity : compiled_text (codes "unset -nocomplain") ≡ Err (Arity 0)
  inner_arity : compiled_text (codes "catch {while 1}") ≡ Err (Arity 7)
  short : compiled_text (codes "expr {1 +}") ≡ Err (Expr (Syntax 9))
  variable_short : compiled_text (codes "expr {$a +}") ≡ Err (Expr (Syntax 10))
  bracket_arity : compiled_text (codes "expr {[while 1]}") ≡ Err (Arity 7)
  no_then_body : compiled_text (codes "if 1 then") ≡ Err (Arity 0)
  no_else_body : compiled_text (codes "if {1} {} else") ≡ Err (Arity 0)
  many_bodies : compiled_text (codes "if {1} {} {} {}") ≡ Err (Arity 0)
  no_elseif_body : compiled_text (codes "if {1} {} elseif {2}") ≡ Err (Arity 0)
  elseif_condition : compiled_text (codes "if {1} {} elseif {2 2} {}") ≡ Err (Expr (Syntax 20))
  condition_first : compiled_text (codes "if {1 1} {while 1}") ≡ Err (Expr (Syntax 6))
  then_condition : compiled_text (codes "if then then then") ≡ Err (Expr (Syntax 3))
  last_body : compiled_text (codes "if {1} {} $a") ≡ Err (BadBody 10)
  for_condition : compiled_text (codes "for {} $a {} {}") ≡ Err (BadBody 7)
  foreach_odd : compiled_text (codes "foreach a b c {}") ≡ Err (Arity 0)
  switch_bare : compiled_text (codes "switch a b") ≡ Err (Arity 0)
  switch_odd : compiled_text (codes "switch a {b {} c}") ≡ Err (Arity 0)
  switch_dash : compiled_text (codes "switch a {b -}") ≡ Err (BadBody 12)
  switch_bare_body : compiled_text (codes "switch a {b c}") ≡ Err (BadBody 12)
  switch_no_list : compiled_text (codes "switch a {b {c}d}") ≡ Err (BadBody 9)
  switch_words_dash : compiled_text (codes "switch a b {} c -") ≡ Err (BadBody 16)
  switch_option : compiled_text (codes "switch -exact") ≡ Err (Arity 0)
  switch_inner : compiled_text (codes "switch a {b {while 1}}") ≡ Err (Arity 13)
  two_down : compiled_text (codes "while {1} {while {2} {while 3}}") ≡ Err (Arity 22)
  -- a flaw before the fault of a body is told, also one of the command with the fault
  before_fault : compiled_text (codes "catch {while 1 ; set x \"a\"b}") ≡ Err (Arity 7)
  at_fault : compiled_text (codes "catch {while 1 [b}") ≡ Err (Parse (MissingBracket 15))
  with_fault : compiled_text (codes "catch {while [b}") ≡ Err (Arity 7)
  behind_fault : compiled_text (codes "catch {a; b \"c\"d; while 1}") ≡ Err (Parse (ExtraAfter 15))
  body_before_fault : compiled_text (codes "catch {while $x {}; a \"b\"c}") ≡ Err (BadBody 13)
  -- an expression with a fault has that alone
  expression_alone : compiled_text (codes "if {[while 1] + } {}") ≡ Err (Expr (Syntax 16))
  -- an element in braces is a body
  braced_dash : compiled_text (codes "switch a {b {-} c -}") ≡ Err (BadBody 18)

rows : Rows
unfolding digit is_digit with_digit digits letter after_backslash escape unit words_first words_noted closed is_literal stands is_letter letter_stands names after_name opens_name in_name starts_variable skips_newline is_space is_blank after_blank separates closes ends_run ends_script ends_command in_comment after_comment_byte in_gap read_braced read_name named read_variable read_part parts trailing read_word words read_command commands words_level limit reading skip spaces_end name_end brace_end blanks_end comment_end after_gap_part gap_end many next_byte run brace_bytes brace_unit_end inner_after deepened ends_braces braces expression enclosed_at whole_at cases_at row_at more_at prefixes_at operand_at literal_at closed_by taken white_stands white_end reads_word prefix_at joint_at digit_stands digits_end number_end place_in comes_first noted shape_named flow_named body_named fits gathered in_turn script_within level compiled one_more turned scanned
rows = record {
  while_arity = refl;
  while_body = refl;
  bracket_body = refl;
  set_arity = refl;
  unset_arity = refl;
  inner_arity = refl;
  short = refl;
  variable_short = refl;
  bracket_arity = refl;
  no_then_body = refl;
  no_else_body = refl;
  many_bodies = refl;
  no_elseif_body = refl;
  elseif_condition = refl;
  condition_first = refl;
  then_condition = refl;
  last_body = refl;
  for_condition = refl;
  foreach_odd = refl;
  switch_bare = refl;
  switch_odd = refl;
  switch_dash = refl;
  switch_bare_body = refl;
  switch_no_list = refl;
  switch_words_dash = refl;
  switch_option = refl;
  switch_inner = refl;
  two_down = refl;
  before_fault = refl;
  at_fault = refl;
  with_fault = refl;
  behind_fault = refl;
  body_before_fault = refl;
  expression_alone = refl;
  braced_dash = refl;
}

-- a word of this text
abbrev text : List ℕ → Tree
text bytes = word (trees_of (plain bytes ∷ []))

-- a command that isn't a control command, of these words
abbrev call : List Tree → Tree
call words = command Named (trees_of words)

abbrev body : List Tree → Tree
body commands = script (trees_of commands)

abbrev only : Tree → Result Tree Flaw
only t = Ok (body (t ∷ []))

abbrev a : Tree
a = body (call (text (codes "a") ∷ []) ∷ [])

abbrev b : Tree
b = body (call (text (codes "b") ∷ []) ∷ [])

record Trees : Type 0 where
  -- a command that evaluates all its words keeps its name
  variables : compiled_text (codes "set a $b(c)") ≡ only
      (command Set (trees_of (text (codes "set") ∷ text (codes "a")
      ∷ word (trees_of (element (codes "b") (trees_of (plain (codes "c") ∷ [])) ∷ [])) ∷ [])))
  -- a name with a substitution or a backslash
  variable_name : compiled_text (codes "$f a") ≡ only
      (command Computed (trees_of (word (trees_of (variable (codes "f") ∷ [])) ∷ text (codes "a") ∷ [])))
  backslash_name : compiled_text (codes "poo\\x6c a") ≡ only
      (command Computed (trees_of (text (codes "pool") ∷ text (codes "a") ∷ [])))
  -- noise words leave no child
  noise_words : compiled_text (codes "if 1 then {a} else {b}") ≡ only
      (branches (values_of ((plain (codes "1"), a) ∷ [])) b)
  no_last_body : compiled_text (codes "if 1 {a} elseif 2 {b}") ≡ only
      (branches (values_of ((plain (codes "1"), a) ∷ (plain (codes "2"), b) ∷ [])) (body []))
  for_loop : compiled_text (codes "for {} {1} {b} a") ≡ only (loop (body []) (plain (codes "1")) b a)
  while_loop : compiled_text (codes "while {1} a") ≡ only (loop (body []) (plain (codes "1")) (body []) a)
  names_and_body : compiled_text (codes "foreach x {} a") ≡ only
      (each (trees_of (text (codes "x") ∷ text [] ∷ [])) a)
  caught : compiled_text (codes "catch {a}") ≡ only (catch a)
  caught_in : compiled_text (codes "catch {a} m") ≡ only (catch_in a (text (codes "m")))
  -- patterns and bodies are words of their own, or stand in a list
  listed : compiled_text (codes "switch -glob x {a - b {a}}") ≡ only
      (switch 2 (trees_of (text (codes "-glob") ∷ text (codes "x") ∷ plain (codes "a") ∷ plain (codes "b") ∷ []))
      (trees_of (next_body ∷ a ∷ [])))
  alone : compiled_text (codes "switch x a - b {a}") ≡ only
      (switch 1 (trees_of (text (codes "x") ∷ text (codes "a") ∷ text (codes "b") ∷ []))
      (trees_of (next_body ∷ a ∷ [])))
  dash_in_braces : compiled_text (codes "switch x {a {-}}") ≡ only
      (switch 1 (trees_of (text (codes "x") ∷ plain (codes "a") ∷ []))
      (trees_of (body (call (text (codes "-") ∷ []) ∷ []) ∷ [])))
  nothing_chosen : compiled_text (codes "switch x {}") ≡ only (switch 1 (trees_of (text (codes "x") ∷ [])) (trees_of []))
  -- an operand is its own part, and one in quotes a word
  operands : compiled_text (codes "expr {1 + [a]}") ≡ only
      (expr (row (plain (codes "1")) (operands_of ((Both Add, a) ∷ []))))
  variable_operand : compiled_text (codes "expr {$x}") ≡ only (expr (variable (codes "x")))
  quoted_operand : compiled_text (codes "expr {\"a$x\"}") ≡ only
      (expr (word (trees_of (plain (codes "a") ∷ variable (codes "x") ∷ []))))
  quoted_alone : compiled_text (codes "expr {\"$x\"}") ≡ only
      (expr (word (trees_of (variable (codes "x") ∷ []))))
  braced_operand : compiled_text (codes "expr {{a}}") ≡ only (expr (plain (codes "a")))
  -- an expression that is read when it runs
  later : compiled_text (codes "expr $x") ≡ only
      (command ExprOfWords (trees_of (text (codes "expr") ∷ word (trees_of (variable (codes "x") ∷ [])) ∷ [])))

trees : Trees
unfolding digit is_digit with_digit digits letter after_backslash escape unit words_first words_noted closed is_literal stands is_letter letter_stands names after_name opens_name in_name starts_variable skips_newline is_space is_blank after_blank separates closes ends_run ends_script ends_command in_comment after_comment_byte in_gap read_braced read_name named read_variable read_part parts trailing read_word words read_command commands words_level limit reading skip spaces_end name_end brace_end blanks_end comment_end after_gap_part gap_end many next_byte run brace_bytes brace_unit_end inner_after deepened ends_braces braces expression enclosed_at whole_at cases_at row_at more_at prefixes_at operand_at literal_at closed_by taken white_stands white_end reads_word prefix_at joint_at digit_stands digits_end number_end place_in comes_first noted shape_named flow_named body_named fits gathered in_turn script_within level compiled one_more turned scanned
trees = record {
  variables = refl;
  variable_name = refl;
  backslash_name = refl;
  noise_words = refl;
  no_last_body = refl;
  for_loop = refl;
  while_loop = refl;
  names_and_body = refl;
  caught = refl;
  caught_in = refl;
  listed = refl;
  alone = refl;
  dash_in_braces = refl;
  nothing_chosen = refl;
  operands = refl;
  variable_operand = refl;
  quoted_operand = refl;
  quoted_alone = refl;
  braced_operand = refl;
  later = refl;
}
