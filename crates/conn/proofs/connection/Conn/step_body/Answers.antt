use Rattle.std.proofs.Common.{◌≡◌, refl, sym, ap, subst, ◌∙◌, ◌-◌, Option, Some, option_map}
use Rattle.conn_trace.specs.Setup.{Handler}
use Rattle.conn.specs.Setups.{body_at, handler_of}
use Rattle.conn.specs.Steps.{BodyMovedBy, BodySteps, GoesOn}
use Rattle.conn.specs.declared.body_step.Said.{Said}
use Rattle.conn.specs.declared.connection.Conn.{Conn}
use Rattle.conn.proofs.Places.{within}
use Rattle.conn.proofs.connection.Conn.step_body.Goals as goal

pub go_on-requires : goal.go_on-requires
go_on-requires g c = within c.args.setup.now c.args.at c.args.body (handler_of c.in-Some.handler) (sym c.body.ensures ∙ ap (option_map handler_of) c.in-Some.is)

pub returns-clause-moved : goal.returns-clause-moved
returns-clause-moved g c =
    let s = c.args.setup.now in
    let old = c.args.self.now in
    let got : body_at s c.args.at c.args.body ≡ Some (handler_of c.in-Some.handler) = sym c.body.ensures ∙ ap (option_map handler_of) c.in-Some.is in
    let stepped : Conn = record { stage = old.stage; body = c.step.new.self; vars = c.step.new.vars; host = c.step.new.host; ends = old.ends } in
    let G : Said → Type 0 = λ x. GoesOn s c.args.at c.args.body x c.do_made.new.self c.go_on.new.self c.go_on.result in
    let steps : BodySteps s (handler_of c.in-Some.handler) c.args.number c.args.at c.args.body old c.go_on.new.self c.args.notes.now.items c.do_made.new.notes.items c.go_on.result (c.step.new.steps - c.args.steps.now) = record {
      stepped = stepped;
      mid = c.do_made.new.self;
      turned = c.in_ok-turn.turn;
      there = refl;
      ends = refl;
      went = rw c.clear.ensures at c.in_ok-turn.ensures.went;
      said_is = c.in_ok-turn.ensures.said;
      does = c.in_ok-do_made.ensures.ok;
      goes_on = subst G c.in_ok-said.ensures c.go_on.ensures;
    } in
    let P : Option Handler → Type 0 = λ v. BodyMovedBy s v c.args.number c.args.at c.args.body old c.go_on.new.self c.args.notes.now.items c.do_made.new.notes.items c.go_on.result (c.step.new.steps - c.args.steps.now) in
    subst P (sym got) steps
