use Rattle.tcl_var_commands.proofs.Words.{are_two, are_three}
use Rattle.tcl_var_commands.proofs.incr.incr_command.Goals as goal

pub returns-in-len2-clause-change : goal.returns-in-len2-clause-change
returns-in-len2-clause-change c =
    rw (are_two _ _ _ _ c.as_slice.ensures c.in-len2.len_at_least c.in-len2.len_below c.text-item.is c.as_bytes.ensures) c.increment.ensures.change

pub returns-in-len3-clause-change : goal.returns-in-len3-clause-change
returns-in-len3-clause-change c =
    rw (are_three _ _ _ _ _ _ c.as_slice.ensures c.in-len3.len_at_least c.in-len3.len_below c.text-item-then-this-lt4.is c.more-item.is c.as_bytes-in-len3.ensures c.as_bytes-in-len3-2.ensures) c.increment-in-len3.ensures.change
