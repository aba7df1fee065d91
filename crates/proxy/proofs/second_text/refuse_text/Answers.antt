use Rattle.proxy.proofs.Mirrors.{made_told}
use Rattle.proxy.specs.SecondText.{IsLineOf}
use Rattle.proxy.specs.declared.end.End.TheVariants.{SecondText}
use Rattle.proxy.proofs.second_text.refuse_text.Goals as goal

pub returns : goal.returns
returns g c =
    made_told (g.K.Sink.written c.args.out.now) (g.K.Sink.written c.tell_made.new.out) (g.K.Sink.faults c.args.out.now) (g.K.Sink.faults c.tell_made.new.out)
    (IsLineOf c.args.why.now) SecondText c.fault_line.result c.fault_line.ensures c.tell_made.result c.tell_made.ensures
