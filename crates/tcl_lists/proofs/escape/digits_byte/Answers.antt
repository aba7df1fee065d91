use Rattle.std.proofs.Common.{ap, ◌+◌, ◌*◌, ◌%◌, arith}
use Rattle.tcl_lists.proofs.Steps.{one_digit}
use Rattle.tcl_lists.proofs.escape.digits_byte.Goals as goal

pub loop-byte-preserved : goal.loop-byte-preserved
loop-byte-preserved c =
    one_digit c.args.radix c.loop-byte.value _ c.loop-byte.byte-index c.args.text.now _ (omega arith)
    (ap (λ d. ((c.loop-byte.value * c.args.radix) % 256 + d) % 256) c.digit_value.ensures) c.loop-byte.invariant
