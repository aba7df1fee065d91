use Rattle.std.proofs.Common.{◌≡◌, ◌++◌, drop, map}
use Rattle.test_past.proofs.rows.words_of.Given as goal

abbrev pub invariant-loop-word : goal.invariant-loop-word
invariant-loop-word l =
    l.texts ++ map (λ w. w.now) (drop l.word-index l.fn.words) ≡ map (λ w. w.now) l.fn.words
