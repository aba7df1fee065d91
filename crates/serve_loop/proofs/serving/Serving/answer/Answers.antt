use Rattle.std.proofs.Common.{refl}
use Rattle.core_events.specs.declared.event.Event.TheVariants as event
use Rattle.px_outside.specs.Net.{Ask}
use Rattle.px_outside.specs.declared.answers.ConnectAnswer.TheVariants as connect
use Rattle.px_outside.specs.declared.answers.ReadyAt.TheVariants as ready
use Rattle.serve_loop.proofs.Carried.{known_close}
use Rattle.serve_loop.proofs.Fresh.{once_none, owners_same, owners_close}
use Rattle.serve_loop.proofs.Calling.{part_quiet, part_heard, part_again, part_over}
use Rattle.serve_loop.specs.Broken.{AreAsks}
use Rattle.serve_loop.proofs.Breaking.{broke_heard}
use Rattle.serve_loop.proofs.Exits.{at_fault}
use Rattle.serve_loop.proofs.serving.Serving.answer.Goals as goal

pub returns-in-NotYet-clause-part : goal.returns-in-NotYet-clause-part
returns-in-NotYet-clause-part g c =
    part_over (part_quiet (ready.Link c.args.link) c.args.self.now c.args.net.now c.connect_answer.new.self (Ask c.args.link connect.NotYet)
    c.in-NotYet.ensures.did (once_none c.connect_answer.ensures.lasts.given) refl
    (record { row = c.args.row; owned = c.requires.owned; is_server = c.requires.server; waits = c.requires.waits; becomes = refl }) refl)

pub returns-in_ok-give-in-Connected-clause-part : goal.returns-in_ok-give-in-Connected-clause-part
returns-in_ok-give-in-Connected-clause-part g c =
    let lasts = c.connect_answer.ensures.lasts.given in
    part_again (part_heard (ready.Link c.args.link) c.args.self.now c.args.self.now.links c.give.new.self c.args.net.now c.connect_answer.new.self
    c.give.new.net (Ask c.args.link connect.Connected) _ c.in-Connected.ensures.did (once_none lasts) (owners_same _ c.args.self.now.links)
    (λ known l r e. lasts l (known l r e)) refl
    (record { row = c.args.row; owned = c.requires.owned; is_server = c.requires.server; waits = c.requires.waits; becomes = refl }) refl
    c.requires.may.made c.in_ok-give-in-Connected.ensures.gives)

pub returns-in_ok-give-in-Refused-clause-part : goal.returns-in_ok-give-in-Refused-clause-part
returns-in_ok-give-in-Refused-clause-part g c =
    let lasts = c.connect_answer.ensures.lasts.given in
    part_over (part_heard (ready.Link c.args.link) c.args.self.now c.close.new.self c.give-in-Refused.new.self c.args.net.now c.connect_answer.new.self
    c.give-in-Refused.new.net (Ask c.args.link connect.Refused) _ c.in-Refused.ensures.did (once_none lasts)
    (owners_close _ c.args.self.now.links c.close.new.self c.args.link c.args.row.conn c.args.row.side c.close.ensures)
    (known_close (g.N.Net.gave c.args.net.now) (g.N.Net.gave c.connect_answer.new.self) c.args.self.now.links c.close.new.self c.args.link
    c.args.row.conn c.args.row.side lasts c.close.ensures) refl
    (record { row = c.args.row; owned = c.requires.owned; is_server = c.requires.server; waits = c.requires.waits; becomes = refl })
    (c.args.row, c.requires.owned, c.close.ensures) c.requires.may.refused c.in_ok-give-in-Refused.ensures.gives)

pub returns-in_err-give-in-Connected-clause-broke : goal.returns-in_err-give-in-Connected-clause-broke
returns-in_err-give-in-Connected-clause-broke g c =
    let lasts = c.connect_answer.ensures.lasts.given in
    at_fault _ c.from_residual.result c.in_err-give-in-Connected.field-0.0 c.from_residual.ensures.1
    (broke_heard AreAsks c.args.self.now c.args.self.now.links c.give.new.self c.args.net.now c.connect_answer.new.self c.give.new.net
    (Ask c.args.link connect.Connected) (event.Connected c.args.row.conn) c.in-Connected.ensures.did (once_none lasts) (λ known l r e. lasts l (known l r e))
    (record { row = c.args.row; owned = c.requires.owned; is_server = c.requires.server; waits = c.requires.waits; becomes = refl }) refl (λ o. (tt, tt))
    c.requires.may.made c.in_err-give-in-Connected.ensures.broke)

pub returns-in_err-give-in-Refused-clause-broke : goal.returns-in_err-give-in-Refused-clause-broke
returns-in_err-give-in-Refused-clause-broke g c =
    let lasts = c.connect_answer.ensures.lasts.given in
    at_fault _ c.from_residual-in_err-give-in-Refused.result c.in_err-give-in-Refused.field-0.0 c.from_residual-in_err-give-in-Refused.ensures.1
    (broke_heard AreAsks c.args.self.now c.close.new.self c.give-in-Refused.new.self c.args.net.now c.connect_answer.new.self c.give-in-Refused.new.net
    (Ask c.args.link connect.Refused) (event.Refused c.args.row.conn) c.in-Refused.ensures.did (once_none lasts)
    (known_close (g.N.Net.gave c.args.net.now) (g.N.Net.gave c.connect_answer.new.self) c.args.self.now.links c.close.new.self c.args.link
    c.args.row.conn c.args.row.side lasts c.close.ensures)
    (record { row = c.args.row; owned = c.requires.owned; is_server = c.requires.server; waits = c.requires.waits; becomes = refl })
    (c.args.row, c.requires.owned, c.close.ensures) (λ o. (tt, tt)) c.requires.may.refused c.in_err-give-in-Refused.ensures.broke)
