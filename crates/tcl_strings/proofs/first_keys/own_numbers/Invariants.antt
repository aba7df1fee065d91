use Rattle.std.proofs.Common.{◌≡◌, ◌+◌, ◌≤◌, ◌<◌, ℕ, List, length, map, drop, get_or, Bor}
use Rattle.tcl_strings.specs.Automaton.{text_at}
use Rattle.tcl_strings.specs.Suffixes.{texts}
use Rattle.tcl_strings.specs.FirstKeys.{same_number}
use Rattle.tcl_strings.proofs.first_keys.own_numbers.Given as goal

abbrev pub invariant-loop-number : goal.invariant-loop-number
invariant-loop-number l = record {
  within : l.number ≤ length l.keys;
  size : length l.numbers.items ≡ length (texts l.suffixes);
  at : (i : ℕ) → i < length (texts l.suffixes) → get_or l.numbers.items i 0 ≡ l.number + same_number (drop l.number (map (λ (k : Bor (List ℕ)). k.now) l.keys)) (text_at (texts l.suffixes) i);
}

abbrev pub decreases-loop-number : goal.decreases-loop-number
decreases-loop-number l = l.number
