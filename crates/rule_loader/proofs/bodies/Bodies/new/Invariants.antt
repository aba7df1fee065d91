use Rattle.std.proofs.Common.{◌≡◌, ℕ, List, [], length, get_or}
use Rattle.rule_loader.proofs.bodies.Bodies.new.Given as goal

abbrev pub invariant-loop-i : goal.invariant-loop-i
invariant-loop-i l = (length l.lists.items ≡ l.i) × ((k : ℕ) → get_or l.lists.items k [] ≡ [])
