use Rattle.std.proofs.Common.{refl}
use Rattle.tcl_var_commands.proofs.Words.{are_three}
use Rattle.tcl_var_commands.proofs.set.set_command.Goals as goal

pub returns-in-len3-clause-change : goal.returns-in-len3-clause-change
returns-in-len3-clause-change c =
    rw (are_three _ _ _ _ _ _ c.as_slice.ensures c.in-len3.len_at_least c.in-len3.len_below c.text-item-then-this-lt4.is c.value-item.is c.as_bytes.ensures refl) c.assign_told.ensures.change
