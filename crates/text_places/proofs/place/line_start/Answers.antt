use Rattle.std.proofs.Common.{not, take, arith}
use Rattle.std.proofs.lemmas.List.Sums.{suffix_len-le-length}
use Rattle.text_places.specs.Places.{is_newline}
use Rattle.text_places.proofs.place.line_start.Goals as goal

pub overflow_sub-result-2 : goal.overflow_sub-result-2
overflow_sub-result-2 c =
    rw c.before-2.ensures (rw c.column_of.ensures (omega (arith, suffix_len-le-length (λ b. not (is_newline b)) (take c.args.at c.args.text.now))))
