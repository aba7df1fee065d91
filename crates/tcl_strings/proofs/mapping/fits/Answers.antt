use Rattle.std.proofs.Common.{◌<◌, length, ap, sym, subst, arith}
use Rattle.std.proofs.lemmas.Bool.Decides.{nat_tests}
use Rattle.tcl_strings.specs.Mapping.{mapped}
use Rattle.tcl_strings.specs.FirstKeys.{IsTable, keys_of}
use Rattle.tcl_strings.proofs.Numbering.{table_behind}
use Rattle.tcl_strings.proofs.Mapped.{step_size}
use Rattle.tcl_strings.proofs.mapping.fits.Goals as goal

pub returns-then-size-gt-TEXT_LIMIT : goal.returns-then-size-gt-TEXT_LIMIT
returns-then-size-gt-TEXT_LIMIT c =
    let some : 0 < length c.loop-rest.rest.now = grind (arith, nat_tests) in
    let size = step_size c.args.pairs.now c.loop-rest.rest.now c.step-taken.result.0.now c.step-taken.result.1 some c.step-taken.ensures.taken c.step-taken.ensures.written in
    let over : 1048576 < length (mapped c.args.pairs.now 0 c.args.text.now) = omega (arith, size, c.loop-rest.invariant.1, c.if-size-gt-TEXT_LIMIT.true) in
    grind (arith, nat_tests)

pub loop-rest-preserved : goal.loop-rest-preserved
loop-rest-preserved c =
    let some : 0 < length c.loop-rest.rest.now = grind (arith, nat_tests) in
    let size = step_size c.args.pairs.now c.loop-rest.rest.now c.step-taken.result.0.now c.step-taken.result.1 some c.step-taken.ensures.taken c.step-taken.ensures.written in
    let behind = ap (λ t. length (mapped c.args.pairs.now 0 t)) c.split_at.ensures.back in (
      omega (arith, c.if-size-gt-TEXT_LIMIT.false),
      omega (arith, size, behind, c.loop-rest.invariant.1),
      subst (IsTable (keys_of c.args.pairs.now) c.args.numbers.now) (sym c.split_at.ensures.back) (table_behind (keys_of c.args.pairs.now) c.args.numbers.now c.step-taken.result.1 c.loop-rest.rest.now c.loop-rest.invariant.2),
    )
