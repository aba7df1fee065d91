use Rattle.std.proofs.Common.{◌∙◌}
use Rattle.px_bytes.proofs.Wholes.{whole_is}
use Rattle.px_bytes.proofs.whole.read_signed.Goals as goal

pub returns-in_err-read_magnitude : goal.returns-in_err-read_magnitude
returns-in_err-read_magnitude c =
    c.from_residual.ensures ∙ whole_is c.args.text.now _ _ _ _ c.trimmed.ensures c.split_sign-minus.ensures.minus c.split_sign-minus.ensures.number c.in_err-read_magnitude.ensures

pub returns : goal.returns
returns c =
    c.with_sign.ensures ∙ whole_is c.args.text.now _ _ _ _ c.trimmed.ensures c.split_sign-minus.ensures.minus c.split_sign-minus.ensures.number c.in_ok-read_magnitude.ensures
