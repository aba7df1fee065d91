use Rattle.std.proofs.Common.{◌≡◌, ◌≤◌, ◌+◌, length}
use Rattle.percent_encoding.specs.Percent.{percent_decode}
use Rattle.tcl_encodings.proofs.percent.decoded_len.Given as goal

abbrev pub invariant-loop-behind : goal.invariant-loop-behind
invariant-loop-behind l = record {
  same : l.size + length (percent_decode l.rest) ≡ length (percent_decode l.fn.text);
  within : l.size + length l.rest ≤ length l.fn.text;
}

abbrev pub decreases-loop-behind : goal.decreases-loop-behind
decreases-loop-behind l = length l.rest
