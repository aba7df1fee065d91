use Rattle.std.proofs.Common.{sym}
use Rattle.px_outside.specs.declared.answers.ReadyAt.TheVariants as ready
use Rattle.serve_loop.proofs.Calling.{part_unknown}
use Rattle.serve_loop.proofs.serving.Serving.ask_link.Goals as goal

pub returns-in_default-clause-part : goal.returns-in_default-clause-part
returns-in_default-clause-part g c =
    part_unknown c.args.self.now.conns (ready.Link c.args.link) c.args.self.now c.args.net.now (sym c.in_default.ensures)
