use Rattle.std.proofs.Common.{arith, ap, sym, ◌∙◌}
use Rattle.tcl_vars.specs.Scopes.{Level, level_bytes}
use Rattle.tcl_vars.proofs.LevelBytes.{bytes-without_no_plain, bytes-without_plain}
use Rattle.tcl_vars.proofs.level.Level.unset_name.Goals as goal

pub invariant_of-self : goal.invariant_of-self
invariant_of-self c =
    let level : Level = record { plain = c.self.inside.plain; arrays = c.self.inside.arrays } in
    let same = bytes-without_no_plain level c.args.name.now c.in_default.ensures.value in
    let left = ap (λ p. let new : Level = record level { plain = p } in level_bytes new) c.in_default.ensures.left in
    c.self.invariant ∙ sym same ∙ sym left

pub returns-in_default-clause-fewer : goal.returns-in_default-clause-fewer
returns-in_default-clause-fewer c =
    let level : Level = record { plain = c.self.inside.plain; arrays = c.self.inside.arrays } in
    let same = bytes-without_no_plain level c.args.name.now c.in_default.ensures.value in
    let left = ap (λ p. let new : Level = record level { plain = p } in level_bytes new) c.in_default.ensures.left in
    omega (arith, left ∙ same ∙ ap level_bytes c.self.view_is)

pub overflow_add-self : goal.overflow_add-self
overflow_add-self c =
    let level : Level = record { plain = c.self.inside.plain; arrays = c.self.inside.arrays } in
    let gone = bytes-without_plain level c.args.name.now c.in-Some.old c.in-Some.ensures.value in
    omega (arith, gone, c.self.invariant)

pub overflow_sub-self : goal.overflow_sub-self
overflow_sub-self c =
    let level : Level = record { plain = c.self.inside.plain; arrays = c.self.inside.arrays } in
    let gone = bytes-without_plain level c.args.name.now c.in-Some.old c.in-Some.ensures.value in
    omega (arith, gone, c.self.invariant)

pub invariant_of-self-2 : goal.invariant_of-self-2
invariant_of-self-2 c =
    let level : Level = record { plain = c.self.inside.plain; arrays = c.self.inside.arrays } in
    let gone = bytes-without_plain level c.args.name.now c.in-Some.old c.in-Some.ensures.value in
    let left = ap (λ p. let new : Level = record level { plain = p } in level_bytes new) c.in-Some.ensures.left in
    omega (arith, gone, left, c.self.invariant)

pub returns-clause-fewer : goal.returns-clause-fewer
returns-clause-fewer c =
    let level : Level = record { plain = c.self.inside.plain; arrays = c.self.inside.arrays } in
    let gone = bytes-without_plain level c.args.name.now c.in-Some.old c.in-Some.ensures.value in
    let left = ap (λ p. let new : Level = record level { plain = p } in level_bytes new) c.in-Some.ensures.left in
    omega (arith, gone, left, ap level_bytes c.self.view_is)
