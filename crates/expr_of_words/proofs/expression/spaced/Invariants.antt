use Rattle.std.proofs.Common.{◌≡◌, ◌++◌, drop, codes}
use Rattle.std.specs.List.{flat_map}
use Rattle.expr_of_words.proofs.expression.spaced.Given as goal

abbrev pub invariant-loop-word : goal.invariant-loop-word
invariant-loop-word l =
    l.text ++ flat_map (λ w. codes " " ++ w) (drop l.word-index l.rest)
    ≡ l.first ++ flat_map (λ w. codes " " ++ w) l.rest
