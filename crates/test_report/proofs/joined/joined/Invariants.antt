use Rattle.std.proofs.Common.{◌≡◌, ◌++◌, drop}
use Rattle.std.specs.Prelude.{map}
use Rattle.test_report.specs.Parts as parts
use Rattle.test_report.proofs.joined.joined.Given as goal

abbrev pub invariant-loop-part : goal.invariant-loop-part
invariant-loop-part l = l.text ++ parts.joined (map (λ p. p.now) (drop l.part-index l.parts)) ≡ parts.joined (map (λ p. p.now) l.parts)
