use Rattle.std.proofs.Common.{◌∙◌, arith}
use Rattle.tcl_strings.proofs.Mapped.{key_taken, key_within}
use Rattle.tcl_strings.proofs.mapping.step.Goals as goal

pub returns-in-Some-clause-taken : goal.returns-in-Some-clause-taken
returns-in-Some-clause-taken c =
    c.len.ensures ∙ key_taken c.args.pairs.now c.args.text.now c.in-Some.key.now c.in-Some.value.now c.in-Some.ensures

pub returns-in-Some-clause-within : goal.returns-in-Some-clause-within
returns-in-Some-clause-within c =
    omega (arith, c.len.ensures, key_within c.args.pairs.now c.args.text.now c.in-Some.key.now c.in-Some.value.now c.in-Some.ensures)
