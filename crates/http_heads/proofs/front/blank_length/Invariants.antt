use Rattle.http_heads.proofs.LookedHeads.{AreBlank}
use Rattle.http_heads.proofs.front.blank_length.Given as goal

abbrev pub invariant-loop-line : goal.invariant-loop-line
invariant-loop-line l = AreBlank l.text l._line l.blank
