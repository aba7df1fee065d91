use Rattle.irule_net.proofs.command.stepped.Goals as goal

pub returns : goal.returns
returns c = rw c.in_ok-request.ensures (rw c.side_of.ensures at c.carry_out.ensures)
