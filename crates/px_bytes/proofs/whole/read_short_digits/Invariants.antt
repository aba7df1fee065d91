use Rattle.std.proofs.Common.{◌≡◌, ◌<◌, ◌^◌, drop}
use Rattle.px_bytes.specs.Whole.{digits_behind}
use Rattle.px_bytes.proofs.whole.read_short_digits.Given as goal

abbrev pub invariant-loop-byte : goal.invariant-loop-byte
invariant-loop-byte l = record {
  same : digits_behind 10 l.value (drop l.byte-index l.text) ≡ digits_behind 10 0 l.fn.text;
  below : l.value < 10 ^ l.byte-index;
}
