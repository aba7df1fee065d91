use Rattle.std.proofs.Common.{sym, ap, ◌∙◌}
use Rattle.http_heads.specs.Lines.{is_visible_target}
use Rattle.http_heads.proofs.Targets.{is_target}
use Rattle.http_heads.proofs.line.RequestTarget.new.Goals as goal

pub invariant_of-result : goal.invariant_of-result
invariant_of-result c =
    is_target c.args.text (ap is_visible_target (sym c.as_bytes.ensures) ∙ sym c.is_visible.ensures ∙ c.if-is_visible.true)
