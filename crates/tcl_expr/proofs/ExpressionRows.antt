-- Expressions as the tables give them.
use Rattle.std.proofs.Common.{◌≡◌, refl, Err}
use Rattle.std.specs.Prelude.{codes}
use Rattle.tcl_words.specs.Faults.{noted, closed, comes_first}
use Rattle.tcl_words.specs.Reading.{read_braced}
use Rattle.tcl_words.specs.Skips.{skip, spaces_end}
use Rattle.tcl_words.specs.Values.{many, braces, ends_braces, brace_unit_end, deepened}
use Rattle.tcl_words.specs.Places.{after_blank, stands, opens_name, starts_variable, skips_newline}
use Rattle.tcl_expr.specs.Precedence.{Precedence}
use Rattle.tcl_expr.specs.ExpressionReading.{expression, enclosed_at, whole_at, cases_at, row_at, more_at}
use Rattle.tcl_expr.specs.ExpressionReading.{prefixes_at, operand_at, literal_at, closed_by, taken}
use Rattle.tcl_expr.specs.Tokens.{white_stands, white_end, reads_word, prefix_at, joint_at}
use Rattle.tcl_expr.specs.Tokens.{digit_stands, digits_end, number_end}
use Rattle.tcl_expr.specs.declared.expr_fault.Misread.TheVariants.{Syntax}

record Rows : Type 0 where
  -- a text that ends too soon
  short : expression (codes "1 +") ≡ Err (Syntax 3)
  open_still : expression (codes "(1") ≡ Err (Syntax 2)
  unchosen : expression (codes "1 ? 2") ≡ Err (Syntax 5)
  -- what no expression goes on with
  no_octal : expression (codes "08") ≡ Err (Syntax 1)
  no_fraction : expression (codes "1.5") ≡ Err (Syntax 1)
  no_operand : expression (codes "1 &&& 1") ≡ Err (Syntax 4)
  not_equal : expression (codes "!=1") ≡ Err (Syntax 0)
  unclosed : expression (codes "1 + {a") ≡ Err (Syntax 4)
  two : expression (codes "1 2") ≡ Err (Syntax 2)

rows : Rows
unfolding expression enclosed_at whole_at cases_at row_at more_at prefixes_at operand_at literal_at closed_by taken white_stands after_blank white_end reads_word prefix_at joint_at digit_stands digits_end number_end skip stands opens_name starts_variable skips_newline read_braced many noted closed comes_first spaces_end braces ends_braces brace_unit_end deepened
rows = record {
  short = refl;
  open_still = refl;
  unchosen = refl;
  no_octal = refl;
  no_fraction = refl;
  no_operand = refl;
  not_equal = refl;
  unclosed = refl;
  two = refl;
}

pub precedence : Precedence
unfolding expression enclosed_at whole_at cases_at row_at more_at prefixes_at operand_at literal_at closed_by taken white_stands after_blank white_end reads_word prefix_at joint_at digit_stands digits_end number_end skip stands opens_name starts_variable skips_newline read_braced many noted closed comes_first spaces_end braces ends_braces brace_unit_end deepened
precedence = record {
  product_first = refl;
  parentheses_first = refl;
  side_by_side = refl;
  sign_first = refl;
  bang_first = refl;
  not_last = refl;
  comparison_first = refl;
  and_first = refl;
  chain = refl;
}
