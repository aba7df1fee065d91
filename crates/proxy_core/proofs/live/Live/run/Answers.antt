use Rattle.std.proofs.Common.{◌-◌, Option, Some, ap, sym, subst, ◌∙◌}
use Rattle.core_events.specs.Edges.{edges_noted}
use Rattle.conn.specs.declared.connection.Conn.{Conn}
use Rattle.proxy_core.specs.Live.{LiveRuns, edges_by_conn}
use Rattle.proxy_core.proofs.Coming.{conn_runs}
use Rattle.proxy_core.proofs.live.Live.run.Goals as goal

pub returns-in-Some-clause-runs : goal.returns-in-Some-clause-runs
returns-in-Some-clause-runs g c =
    let r = c.run.ensures.ran in
    let self = c.args.self.now in
    let new = c.run.new.self in
    let P : Option Conn → Type 0 = λ o. LiveRuns c.args.setup.now self.number self.edges o (Some new) r.0 c.run.result (c.run.new.steps - c.args.steps.now) in (
      r.0,
      r.1,
      subst P (sym c.in-Some.is) (conn_runs c.args.setup.now self.number c.in-Some.conn new c.args.notes.now.items r.0 c.run.new.notes.items c.run.result (c.run.new.steps - c.args.steps.now) r.1 r.2 r.3 c.run.ensures.failed),
      λ f. r.2 ∙ ap (λ o. edges_noted r.0 (edges_by_conn o self.edges)) (sym c.in-Some.is),
    )
