use Rattle.std.proofs.Common.{◌≡◌, sym, subst}
use Rattle.tcl_expr.specs.Tokens.{joint_at}
use Rattle.tcl_expr.proofs.operator_rows.joint_at.Goals as goal

pub returns-in-7-clause-value : goal.returns-in-7-clause-value
unfolding joint_at
returns-in-7-clause-value c =
    subst (λ k. c.first_word-in-7.result ≡ joint_at k c.args.text.now c.args.at) (sym c.in-7.is)
    c.first_word-in-7.ensures.value
