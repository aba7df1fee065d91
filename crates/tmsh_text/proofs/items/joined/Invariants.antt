use Rattle.std.proofs.Common.{◌≡◌, ◌++◌, drop}
use Rattle.std.specs.Prelude.{map}
use Rattle.tmsh_text.specs.Items.{joined}
use Rattle.tmsh_text.proofs.items.joined.Given as goal

abbrev pub invariant-loop-part : goal.invariant-loop-part
invariant-loop-part l = l.text ++ joined (map (λ p. p.now) (drop l.part-index l.parts)) ≡ joined (map (λ p. p.now) l.parts)
