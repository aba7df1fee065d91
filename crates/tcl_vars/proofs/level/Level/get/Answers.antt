use Rattle.tcl_vars.proofs.LevelBytes.{in_order-no_elements}
use Rattle.tcl_vars.proofs.level.Level.get.Goals as goal

pub returns-in_err-get-in-Some-clause-in_order : goal.returns-in_err-get-in-Some-clause-in_order
returns-in_err-get-in-Some-clause-in_order c =
    let none = c.in_err-get-in-Some.ensures in
    rw (← c.self.view_is, c.in-Some.is) (none.in_order, in_order-no_elements c.self.inside.arrays c.args.name.now none.value)
