use Rattle.std.proofs.Common.{arith}
use Rattle.http_frames.proofs.Numbers.{digit_more}
use Rattle.http_frames.proofs.number.number_of.Goals as goal

pub overflow_mul-number : goal.overflow_mul-number
overflow_mul-number c =
    let more = digit_more c.args.radix c.args.digits.now c.loop-byte.byte-index c.loop-byte.number c.from.result c.to_digit.result c.unwrap_or-digit.result
    c.requires.least c.requires.digits (omega arith) c.loop-byte.invariant c.from.ensures c.to_digit.ensures.value c.unwrap_or-digit.ensures in
    record { fits = rw c.from-in-loop-byte.ensures (omega (arith, more.most, c.requires.small)) }

pub overflow_add-number : goal.overflow_add-number
overflow_add-number c =
    let more = digit_more c.args.radix c.args.digits.now c.loop-byte.byte-index c.loop-byte.number c.from.result c.to_digit.result c.unwrap_or-digit.result
    c.requires.least c.requires.digits (omega arith) c.loop-byte.invariant c.from.ensures c.to_digit.ensures.value c.unwrap_or-digit.ensures in
    record { fits = rw (c.from-in-loop-byte.ensures, c.from-in-loop-byte-2.ensures) (omega (arith, more.most, c.requires.small)) }

pub loop-byte-preserved : goal.loop-byte-preserved
loop-byte-preserved c =
    let more = digit_more c.args.radix c.args.digits.now c.loop-byte.byte-index c.loop-byte.number c.from.result c.to_digit.result c.unwrap_or-digit.result
    c.requires.least c.requires.digits (omega arith) c.loop-byte.invariant c.from.ensures c.to_digit.ensures.value c.unwrap_or-digit.ensures in
    rw (c.from-in-loop-byte.ensures, c.from-in-loop-byte-2.ensures) more.same
