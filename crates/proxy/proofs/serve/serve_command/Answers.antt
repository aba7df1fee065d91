use Rattle.proxy.proofs.Serving.{serve_completes}
use Rattle.proxy.specs.Serving.{outside}
use Rattle.proxy.proofs.serve.serve_command.Goals as goal

pub returns : goal.returns
returns g c = (
  c.run.result,
  c.status.ensures,
  c.run.ensures,
  serve_completes g.N.Net.did g.N.Net.gave g.T.Clock.gave (g.F.Files.told c.args.files.now)
      (outside c.args.net.now c.args.clock.now (g.K.Sink.written c.args.journal.now) (g.F.Files.faults c.args.files.now) (g.N.Net.faults c.args.net.now) (g.K.Sink.faults c.args.journal.now))
      (outside c.run.new.net c.run.new.clock (g.K.Sink.written c.run.new.journal) (g.F.Files.faults c.run.new.files) (g.N.Net.faults c.run.new.net) (g.K.Sink.faults c.run.new.journal))
      c.args.words.now c.run.result c.run.ensures,
)
