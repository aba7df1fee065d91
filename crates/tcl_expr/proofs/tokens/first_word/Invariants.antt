use Rattle.std.proofs.Common.{◌≡◌, drop, map}
use Rattle.tcl_expr.specs.Tokens.{first_word}
use Rattle.tcl_expr.proofs.tokens.first_word.Given as goal

abbrev pub invariant-loop-word : goal.invariant-loop-word
invariant-loop-word g l = record {
  so_far : first_word (map (λ w. (w.0.now, w.1)) (drop l.word-index l.words)) l.text l.at
      ≡ first_word (map (λ w. (w.0.now, w.1)) l.words) l.text l.at;
}
