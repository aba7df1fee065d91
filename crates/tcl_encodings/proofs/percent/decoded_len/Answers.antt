use Rattle.std.proofs.Common.{◌≡◌, [], length, ap, arith}
use Rattle.percent_encoding.specs.Percent.{percent_decode}
use Rattle.percent_encoding.proofs.PercentLemmas.{percent_decode-nil}
use Rattle.tcl_encodings.proofs.percent.decoded_len.Goals as goal

pub returns : goal.returns
returns c =
    let none : c.loop-behind.rest.now ≡ [] = c.in_default.ensures in
    omega (arith, ap (λ t. length (percent_decode t)) none, ap length percent_decode-nil)
