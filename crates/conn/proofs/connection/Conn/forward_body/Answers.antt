use Rattle.std.proofs.Common.{◌≡◌, true, is_some, sym, ap, subst, ◌∙◌}
use Rattle.http_frames.specs.declared.unit.Unit.TheVariants.{Fault, Finished, NotYet}
use Rattle.conn_trace.specs.Messages.{is_counted}
use Rattle.conn.specs.Ends.{end_of}
use Rattle.conn.specs.Forwarding.{ForwardsUnits, passage}
use Rattle.conn.specs.Messages.{EndsBy, ForwardsBody, RefusesOf, passed_to}
use Rattle.conn.proofs.Dropped.{finish_inside, if_ok}
use Rattle.conn.proofs.UnitsGo.{forwards_by, waits_for_room}
use Rattle.conn.proofs.connection.Conn.forward_body.Goals as goal

pub end_body-requires-clause-there : goal.end_body-requires-clause-there
end_body-requires-clause-there c =
    let d = c.in_ok-place.ensures.ok in
    let e = end_of c.args.side c.forward_units.new.self in
    finish_inside c.in_ok-place.place.reader e.unread e.ended c.in-Finished.size (sym d.1.0 ∙ c.in-Finished.is)

pub returns-in-Finished-clause-ok : goal.returns-in-Finished-clause-ok
returns-in-Finished-clause-ok c =
    let s = c.args.setup.now in
    let side = c.args.side in
    let from = c.args.from in
    let old = c.args.self.now in
    let place = c.in_ok-place.place in
    let e = c.forward_units.new.self in
    let size = c.in-Finished.size in
    let before = c.args.notes.now.items in
    let after = c.end_body.new.notes.items in
    let new = c.end_body.new.self in
    let d = subst (ForwardsUnits side from old.ends place e) c.in-Finished.is c.in_ok-place.ensures.ok in
    if_ok c.end_body.result (λ act. EndsBy (is_counted place.reader) side place.standing size s c.args.number (passed_to side (passage place e) old) new before after act)
    (λ act. (is_some old.host.http ≡ true) × ForwardsBody side from.reader from.standing s c.args.number old new before after act)
    (λ act k. (ap is_some c.in-Some.is, forwards_by s c.args.number side from place old new e before after act (Finished size) d k)) c.end_body.ensures.ok

pub returns-in-Fault-clause-ok : goal.returns-in-Fault-clause-ok
returns-in-Fault-clause-ok c =
    let s = c.args.setup.now in
    let side = c.args.side in
    let from = c.args.from in
    let old = c.args.self.now in
    let place = c.in_ok-place.place in
    let e = c.forward_units.new.self in
    let f = c.in-Fault.fault in
    let before = c.args.notes.now.items in
    let after = c.refuse_of.new.notes.items in
    let new = c.refuse_of.new.self in
    let d = subst (ForwardsUnits side from old.ends place e) c.in-Fault.is c.in_ok-place.ensures.ok in
    if_ok c.refuse_of.result (λ act. RefusesOf side f s c.args.number (passed_to side (passage place e) old) new before after act)
    (λ act. (is_some old.host.http ≡ true) × ForwardsBody side from.reader from.standing s c.args.number old new before after act)
    (λ act k. (ap is_some c.in-Some.is, forwards_by s c.args.number side from place old new e before after act (Fault f) d k)) c.refuse_of.ensures.ok

pub returns-in-NotYet-clause-ok : goal.returns-in-NotYet-clause-ok
returns-in-NotYet-clause-ok c =
    let s = c.args.setup.now in
    let side = c.args.side in
    let old = c.args.self.now in
    let place = c.in_ok-place.place in
    let e = c.forward_units.new.self in
    let d = subst (ForwardsUnits side c.args.from old.ends place e) c.in-NotYet.is c.in_ok-place.ensures.ok in
    (ap is_some c.in-Some.is, forwards_by s c.args.number side c.args.from place old c.wait_or_cut.new.self e c.args.notes.now.items c.wait_or_cut.new.notes.items c.wait_or_cut.result NotYet d c.wait_or_cut.ensures.waits)

pub returns-in_default-unit-clause-ok : goal.returns-in_default-unit-clause-ok
returns-in_default-unit-clause-ok c =
    let s = c.args.setup.now in
    let side = c.args.side in
    let old = c.args.self.now in
    let place = c.in_ok-place.place in
    let e = c.forward_units.new.self in
    let unit = c.in_ok-place.unit in
    let before = c.args.notes.now.items in
    let after = c.rest_or_cut.new.notes.items in
    let new = c.rest_or_cut.new.self in
    let did = c.rest_or_cut.result in
    let d = c.in_ok-place.ensures.ok in
    let front = waits_for_room unit c.in_default-unit.not-Finished c.in_default-unit.not-Fault c.in_default-unit.not-NotYet s c.args.number side place.reader place.standing (passed_to side (passage place e) old) new before after did d.1.1 c.rest_or_cut.ensures.rests in
    (ap is_some c.in-Some.is, forwards_by s c.args.number side c.args.from place old new e before after did unit d front)
