use Rattle.std.proofs.Common.{◌<◌, ◌++◌, length, drop, append_assoc, ap, sym, subst, ◌∙◌, arith}
use Rattle.std.proofs.lemmas.Bool.Decides.{nat_tests}
use Rattle.tcl_strings.specs.Mapping.{mapped}
use Rattle.tcl_strings.specs.FirstKeys.{IsTable, keys_of}
use Rattle.tcl_strings.proofs.Numbering.{table_behind}
use Rattle.tcl_strings.proofs.Mapped.{step_is}
use Rattle.tcl_strings.proofs.mapping.mapped.Goals as goal

pub loop-rest-preserved : goal.loop-rest-preserved
loop-rest-preserved c =
    let some : 0 < length c.loop-rest.rest.now = grind (arith, nat_tests) in
    let step = step_is c.args.pairs.now c.loop-rest.rest.now c.step-taken.result.0.now c.step-taken.result.1 some c.step-taken.ensures.taken c.step-taken.ensures.written in
    let behind = mapped c.args.pairs.now 0 (drop c.step-taken.result.1 c.loop-rest.rest.now) in (
      ap (λ t. c.push.new.self ++ mapped c.args.pairs.now 0 t) c.split_at.ensures.back
          ∙ ap (λ t. t ++ behind) c.in_ok-push.ensures.ok ∙ append_assoc c.loop-rest.out c.step-taken.result.0.now behind
          ∙ ap (λ t. c.loop-rest.out ++ t) (sym step) ∙ c.loop-rest.invariant.0,
      subst (IsTable (keys_of c.args.pairs.now) c.args.numbers.now) (sym c.split_at.ensures.back) (table_behind (keys_of c.args.pairs.now) c.args.numbers.now c.step-taken.result.1 c.loop-rest.rest.now c.loop-rest.invariant.1),
    )
