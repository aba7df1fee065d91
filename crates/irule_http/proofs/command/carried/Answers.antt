use Rattle.irule_http.proofs.command.carried.Goals as goal

pub returns : goal.returns
returns c = rw c.in_ok-form.ensures (rw c.name.ensures at c.done.ensures)
