use Rattle.std.proofs.Common.{◌≡◌, arith, sym, ◌∙◌}
use Rattle.std.proofs.lemmas.Fmt.{decimal_injective}
use Rattle.px_bytes.proofs.decimal.read_decimal.Goals as goal

pub returns-in_default-clause-none : goal.returns-in_default-clause-none
returns-in_default-clause-none c n small e =
    let found = (rw c.in-Some.is at c.read_u64.ensures.found) in
    let same : n ≡ c.in-Some.number = decimal_injective n c.in-Some.number (omega arith) (omega arith) (sym e ∙ found) in
    omega arith
