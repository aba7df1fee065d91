use Rattle.std.proofs.Common.{ℕ}
use Rattle.px_bytes.specs.declared.addr.Side.TheVariants.{Client, Server}
use Rattle.serve_loop.specs.Writing.{Wrote}
use Rattle.serve_loop.proofs.Compose.{part_at, part_next}
use Rattle.serve_loop.proofs.Breaking.{broke_after}
use Rattle.serve_loop.proofs.Exits.{at_fault}
use Rattle.serve_loop.proofs.Walking.{side_goes}
use Rattle.serve_loop.proofs.serving.Serving.write_both.Goals as goal

pub returns-clause-part : goal.returns-clause-part
returns-clause-part g c =
    part_at (λ steps r. record { client = c.in_ok-client.client; server = c.in_ok-server.server; stays_is = c.either.ensures; writes = r })
    (part_next (λ (conns : ℕ). Wrote g.C.EventCore.face conns c.args.conn Server c.in_ok-server.server) c.in_ok-client.ensures.part c.in_ok-server.ensures.part)

pub returns-in_err-client-clause-broke : goal.returns-in_err-client-clause-broke
returns-in_err-client-clause-broke g c =
    at_fault _ c.from_residual.result c.in_err-client.field-0.0 c.from_residual.ensures.1 c.in_err-client.ensures.broke

pub returns-in_err-server-clause-broke : goal.returns-in_err-server-clause-broke
returns-in_err-server-clause-broke g c =
    at_fault _ c.from_residual-in_err-server.result c.in_err-server.field-0.0 c.from_residual-in_err-server.ensures.1
    (broke_after (side_goes g.C.EventCore.face c.args.self.now.conns c.args.conn Client c.in_ok-client.client) c.in_ok-client.ensures.part
    c.in_err-server.ensures.broke)
