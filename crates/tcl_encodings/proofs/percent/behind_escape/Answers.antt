use Rattle.std.proofs.Common.{arith, rules, sym, ◌∙◌}
use Rattle.std.proofs.lemmas.Bool.{ltb-true, ltb-false}
use Rattle.percent_encoding.proofs.PercentLemmas.{KeepsFirst_from_no_escape}
use Rattle.tcl_encodings.proofs.Pieces.{escape_first}
use Rattle.tcl_encodings.proofs.percent.behind_escape.Goals as goal
use Rattle.tcl_encodings.proofs.percent.behind_escape.Goals.{else-is_hexadecimal-via-then-is_hexadecimal+else-is_hexadecimal-2, else-is_hexadecimal-via-else-is_hexadecimal}

pub returns-in_default : goal.returns-in_default
returns-in_default c = KeepsFirst_from_no_escape _ (λ long sign high low. grind arith)

pub returns-then-is_hexadecimal-2 : goal.returns-then-is_hexadecimal-2
returns-then-is_hexadecimal-2 c =
    let high = ltb-true _ 16 (sym c.is_hexadecimal.ensures ∙ c.if-is_hexadecimal.true) in
    let low = ltb-true _ 16 (sym c.is_hexadecimal-then-is_hexadecimal.ensures ∙ c.if-is_hexadecimal-2.true) in
    escape_first c.args.text.now (omega arith) (search rules) high low

pub returns : goal.returns
returns c = KeepsFirst_from_no_escape _ (λ long sign high low. elim c.else-is_hexadecimal.branch [
  | else-is_hexadecimal-via-then-is_hexadecimal+else-is_hexadecimal-2 w ↦
      let no = ltb-false _ 16 (sym w.is_hexadecimal-then-is_hexadecimal.ensures ∙ w.if-is_hexadecimal-2.false) in omega arith
  | else-is_hexadecimal-via-else-is_hexadecimal w ↦
      let no = ltb-false _ 16 (sym c.is_hexadecimal.ensures ∙ w.if-is_hexadecimal.false) in omega arith
])
