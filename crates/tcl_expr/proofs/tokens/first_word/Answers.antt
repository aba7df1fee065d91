use Rattle.std.proofs.Common.{rules, ◌<◌, length, subst, sym, arith}
use Rattle.std.proofs.lemmas.List.Elements.{All-get_or}
use Rattle.tcl_expr.proofs.tokens.first_word.Goals as goal

pub returns-then-reads_word-clause-onward : goal.returns-then-reads_word-clause-onward
returns-then-reads_word-clause-onward g c =
    let some = subst (λ w. 0 < length w.0.now) (sym c.loop-word-item.is) (All-get_or (λ w. 0 < length w.0.now) c.args.words.now c.loop-word.word-index c.loop-word-item.result (omega arith) c.requires.words) in
    search rules
