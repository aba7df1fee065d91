use Rattle.proxy.proofs.explain_command.tell_loads.Goals as goal

pub returns : goal.returns
returns g c = record { said = c.say_loads.result; says = c.say_loads.ensures; ends = c.unless.ensures }
