use Rattle.proxy.proofs.offline_commands.tell.Goals as goal

pub returns : goal.returns
returns g c = record { said = c.say.result; says = c.say.ensures; ends = c.unless.ensures }
