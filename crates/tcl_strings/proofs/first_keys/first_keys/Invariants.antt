use Rattle.std.proofs.Common.{◌≡◌, ◌+◌, ℕ, List, length, map, drop, Bor}
use Rattle.tcl_strings.specs.Suffixes.{IsLongestNode}
use Rattle.tcl_strings.specs.FirstKeys.{IsTable}
use Rattle.tcl_strings.proofs.first_keys.first_keys.Given as goal

abbrev pub invariant-loop-place : goal.invariant-loop-place
invariant-loop-place l = record {
  within : l.place + length l.numbers.items ≡ length l.text;
  node : IsLongestNode l.suffixes (drop l.place l.text) l.node;
  table : IsTable (map (λ (k : Bor (List ℕ)). k.now) l.keys) l.numbers.items (drop l.place l.text);
}

abbrev pub decreases-loop-place : goal.decreases-loop-place
decreases-loop-place l = l.place
