use Rattle.std.proofs.Common.{◌≡◌, drop, map}
use Rattle.config.specs.Values.{word_from, word_place}
use Rattle.config.proofs.value.word_place.Given as goal

abbrev pub invariant-loop-word : goal.invariant-loop-word
invariant-loop-word l =
    (l.at ≡ l.word-index)
    × (word_place (map (λ w. w.now) l.words) l.text ≡ word_from l.at (map (λ w. w.now) (drop l.word-index l.words)) l.text)
