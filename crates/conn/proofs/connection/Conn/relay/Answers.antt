use Rattle.std.proofs.Common.{sym, subst, ◌∙◌}
use Rattle.conn.specs.Acts.{RelaysBy}
use Rattle.conn.specs.declared.relay.Relay.{Relay}
use Rattle.conn.proofs.Planning.{Within, plan_within}
use Rattle.conn.proofs.connection.Conn.relay.Goals as goal

pub pass-requires : goal.pass-requires
pass-requires c =
    let old = c.args.self.now in
    subst (Within old.ends) (sym c.plan.ensures ∙ c.in-Pass.is) (plan_within c.args.first old.host.net old.ends)

pub fire-requires-clause-there : goal.fire-requires-clause-there
fire-requires-clause-there c =
    let old = c.args.self.now in
    subst (Within old.ends) (sym c.plan.ensures ∙ c.in-Fire.is) (plan_within c.args.first old.host.net old.ends)

pub returns-in-Rest-clause-ok : goal.returns-in-Rest-clause-ok
returns-in-Rest-clause-ok c =
    let P : Relay → Type 0 = λ plan. RelaysBy plan c.args.setup.now c.args.number c.args.self.now c.rest_or_cut.new.self c.args.notes.now.items c.rest_or_cut.new.notes.items c.rest_or_cut.result in
    subst P (sym c.in-Rest.is ∙ c.plan.ensures) c.rest_or_cut.ensures.rests
