-- How the rows of operators bind, computed over the table.
use Rattle.std.proofs.Common.{refl}
use Rattle.tcl_words.specs.Places.{after_blank, stands, opens_name, starts_variable, skips_newline}
use Rattle.tcl_words.specs.Skips.{skip}
use Rattle.tcl_expr.specs.Binding.{RowsBindInOrder, PrefixesBind, RowsGroupFromTheLeft}
use Rattle.tcl_expr.specs.ExpressionReading.{expression, enclosed_at, whole_at, cases_at, row_at, more_at}
use Rattle.tcl_expr.specs.ExpressionReading.{prefixes_at, operand_at, literal_at, closed_by, taken}
use Rattle.tcl_expr.specs.Tokens.{white_stands, white_end, reads_word, prefix_at, joint_at}
use Rattle.tcl_expr.specs.Tokens.{digit_stands, digits_end, number_end}

pub rows_bind_in_order : RowsBindInOrder
unfolding expression enclosed_at whole_at cases_at row_at more_at prefixes_at operand_at literal_at closed_by taken white_stands after_blank white_end reads_word prefix_at joint_at digit_stands digits_end number_end skip stands opens_name starts_variable skips_newline
rows_bind_in_order = ((((refl, refl), ((refl, refl), tt)), (((refl, refl), ((refl, refl), tt)), (((refl, refl), ((refl, refl), tt)), tt))), ((((refl, refl), ((refl, refl), tt)), (((refl, refl), ((refl, refl), tt)), tt)), ((((refl, refl), ((refl, refl), ((refl, refl), ((refl, refl), tt)))), (((refl, refl), ((refl, refl), ((refl, refl), ((refl, refl), tt)))), tt)), ((((refl, refl), ((refl, refl), tt)), (((refl, refl), ((refl, refl), tt)), (((refl, refl), ((refl, refl), tt)), (((refl, refl), ((refl, refl), tt)), tt)))), ((((refl, refl), ((refl, refl), ((refl, refl), ((refl, refl), ((refl, refl), ((refl, refl), ((refl, refl), ((refl, refl), tt)))))))), (((refl, refl), ((refl, refl), ((refl, refl), ((refl, refl), ((refl, refl), ((refl, refl), ((refl, refl), ((refl, refl), tt)))))))), tt)), (((tt, ((refl, refl), tt)), ((tt, ((refl, refl), tt)), ((tt, ((refl, refl), tt)), ((tt, ((refl, refl), tt)), ((tt, ((refl, refl), tt)), ((tt, ((refl, refl), tt)), ((tt, ((refl, refl), tt)), ((tt, ((refl, refl), tt)), tt)))))))), (((tt, tt), (((refl, refl), tt), tt)), (((tt, ((refl, refl), tt)), tt), (((tt, (tt, tt)), (((refl, refl), ((refl, refl), tt)), tt)), ((((refl, refl), ((refl, refl), tt)), (((refl, refl), ((refl, refl), tt)), tt)), tt))))))))))

pub prefixes_bind : PrefixesBind
unfolding expression enclosed_at whole_at cases_at row_at more_at prefixes_at operand_at literal_at closed_by taken white_stands after_blank white_end reads_word prefix_at joint_at digit_stands digits_end number_end skip stands opens_name starts_variable skips_newline
prefixes_bind = record {
  signs_first = ((tt, (tt, (tt, tt))), ((refl, (refl, (refl, tt))), ((refl, (refl, (refl, tt))), ((refl, (refl, (refl, tt))), ((refl, (refl, (refl, tt))), tt)))));
  not_behind_products = ((refl, (refl, (refl, tt))), tt);
  not_behind_orders = ((refl, (refl, (refl, (refl, tt)))), tt);
  not_behind_equalities = ((refl, (refl, tt)), tt);
  not_behind_text_tests = ((refl, (refl, (refl, (refl, (refl, (refl, (refl, (refl, tt)))))))), tt);
  not_behind_bit_ors = ((tt, (refl, tt)), tt);
  not_before_ands = ((refl, (refl, tt)), tt);
}

pub rows_group_from_the_left : RowsGroupFromTheLeft
unfolding expression enclosed_at whole_at cases_at row_at more_at prefixes_at operand_at literal_at closed_by taken white_stands after_blank white_end reads_word prefix_at joint_at digit_stands digits_end number_end skip stands opens_name starts_variable skips_newline
rows_group_from_the_left = record {
  products = ((refl, (refl, (refl, tt))), ((refl, (refl, (refl, tt))), ((refl, (refl, (refl, tt))), tt)));
  sums = ((refl, (refl, tt)), ((refl, (refl, tt)), tt));
  shifts = ((refl, (refl, tt)), ((refl, (refl, tt)), tt));
  ands = ((refl, (refl, tt)), ((refl, (refl, tt)), tt));
  ors = ((refl, (refl, tt)), ((refl, (refl, tt)), tt));
}
