use Rattle.std.proofs.Common.{ap, ◌∙◌}
use Rattle.proxy.specs.End.{end_unless}
use Rattle.proxy.proofs.explain_command.tell_fault.Goals as goal

pub returns : goal.returns
returns g c = record {
  said = c.say_fault.result;
  says = c.say_fault.ensures;
  ends = c.unless.ensures ∙ ap (λ e. end_unless e c.say_fault.result) c.fault_end.ensures;
}
