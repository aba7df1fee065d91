use Rattle.std.proofs.Common.{arith}
use Rattle.tcl_vars.specs.Scopes.{Level}
use Rattle.tcl_vars.proofs.InPlace.{before_fits, bytes_changed, changed_level}
use Rattle.tcl_vars.proofs.level.Level.refill.Goals as goal

pub overflow_sub-self : goal.overflow_sub-self
overflow_sub-self c =
    let level : Level = record { plain = c.self.inside.plain; arrays = c.self.inside.arrays } in
    omega (arith, c.self.invariant, before_fits level _ c.in-Some.ensures.changed)

pub invariant_of-self-2 : goal.invariant_of-self-2
invariant_of-self-2 c =
    let level : Level = record { plain = c.self.inside.plain; arrays = c.self.inside.arrays } in
    let changed = c.in-Some.ensures.changed in
    omega (arith, c.self.invariant, before_fits level _ changed, bytes_changed level _ changed)

pub returns-clause-changed : goal.returns-clause-changed
returns-clause-changed c =
    let level : Level = record { plain = c.self.inside.plain; arrays = c.self.inside.arrays } in
    rw (← c.self.view_is) (changed_level level _ (c.in-Some.ensures.changed))
