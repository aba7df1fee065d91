use Rattle.proxy.proofs.offline_commands.tell_fault.Goals as goal

pub returns : goal.returns
returns g c = record { said = c.say_config_fault.result; says = c.say_config_fault.ensures; ends = c.unless.ensures }
