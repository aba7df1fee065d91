use Rattle.std.proofs.Common.{◌≡◌, ◌∷◌, take}
use Rattle.irule_net.proofs.asked.call_of.Given as goal

abbrev pub invariant-loop-word : goal.invariant-loop-word
invariant-loop-word l = l.call ≡ l.command ∷ take l.word-index l.words
