use Rattle.std.proofs.Common.{◌≡◌, ◌≤◌, drop}
use Rattle.tmsh_text.specs.Braces.{balances, is_balanced}
use Rattle.tmsh_text.proofs.braces.is_balanced.Given as goal

abbrev pub invariant-loop-byte : goal.invariant-loop-byte
invariant-loop-byte l = (balances l.braces (drop l.byte-index l.text) ≡ is_balanced l.text) × (l.braces.depth ≤ l.byte-index)
