use Rattle.std.proofs.Common.{◌≡◌, ◌≤◌, ◌<◌, ℕ, get_or}
use Rattle.std.specs.Prelude.{min}
use Rattle.tcl_strings.proofs.suffixes.Suffixes.take_least.Given as goal

abbrev pub invariant-loop-node : goal.invariant-loop-node
invariant-loop-node l = record {
  root : get_or l.numbers 0 0 ≡ get_or l.fn.numbers 0 0;
  done : (i : ℕ) → 0 < i → i < l.node → get_or l.numbers i 0 ≡ min (get_or l.fn.numbers i 0) (get_or l.numbers (get_or l.self.links.items i 0) 0);
  left : (i : ℕ) → l.node ≤ i → get_or l.numbers i 0 ≡ get_or l.fn.numbers i 0;
}
