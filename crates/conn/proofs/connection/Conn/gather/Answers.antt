use Rattle.std.proofs.Common.{◌≡◌, true, is_some, refl, sym, ap, subst}
use Rattle.conn_trace.specs.Host.{http_known}
use Rattle.conn.specs.Changes.{Enters}
use Rattle.conn.specs.Gathering.{GathersBody, GathersUnits, gathered, gathered_to, http_of_host}
use Rattle.conn.specs.Messages.{RefusesOf}
use Rattle.conn.specs.Stages.{http_in}
use Rattle.conn.proofs.Dropped.{if_ok}
use Rattle.conn.proofs.GatherUnits.{end_enters, end_inside, last_enters, refuses_later, waits_later}
use Rattle.conn.proofs.connection.Conn.gather.Goals as goal

pub read-requires : goal.read-requires
read-requires c =
    let side = c.args.side in
    let from = c.args.from in
    let old = c.args.self.now in
    let place = c.in_ok-place.place in
    let known = c.gather_units.new.http in
    let e = c.gather_units.new.self in
    let k = subst (λ o. GathersUnits side (gathered from (http_known o) old.ends) (gathered place known e) c.in_ok-place.unit) (sym c.in-Some.is) c.in_ok-place.ensures.ok in
    let d = subst (GathersUnits side (gathered from (http_in old.host) old.ends) (gathered place known e)) c.in-Finished.is k in
    end_inside c.args.setup.now c.args.number side from place old old known e c.args.notes.now.items c.args.notes.now.items c.in-Finished.size d

pub returns-in-Piece-clause-ok : goal.returns-in-Piece-clause-ok
returns-in-Piece-clause-ok c =
    let s = c.args.setup.now in
    let side = c.args.side in
    let from = c.args.from in
    let old = c.args.self.now in
    let place = c.in_ok-place.place in
    let known = c.gather_units.new.http in
    let e = c.gather_units.new.self in
    let before = c.args.notes.now.items in
    let new = c.enter.new.self in
    let mid = gathered_to side (gathered place known e) old in
    let k = subst (λ o. GathersUnits side (gathered from (http_known o) old.ends) (gathered place known e) c.in_ok-place.unit) (sym c.in-Some.is) c.in_ok-place.ensures.ok in
    let d = subst (GathersUnits side (gathered from (http_in old.host) old.ends) (gathered place known e)) c.in-Piece.is k in
    let enters = subst (λ at. Enters s at mid.host mid.ends mid new) c.gathered.ensures c.enter.ensures in
    (ap is_some c.in-Some.is, last_enters s c.args.number side from place old new known e before before _ mid d refl refl refl enters refl)

pub returns-in-Finished-clause-ok : goal.returns-in-Finished-clause-ok
returns-in-Finished-clause-ok c =
    let s = c.args.setup.now in
    let side = c.args.side in
    let from = c.args.from in
    let old = c.args.self.now in
    let place = c.in_ok-place.place in
    let known = c.gather_units.new.http in
    let e = c.gather_units.new.self in
    let before = c.args.notes.now.items in
    let new = c.enter-in-Finished.new.self in
    let mid = record (gathered_to side (gathered place known e) old) { host = http_of_host c.hold_whole.new.http old.host; ends = c.read.new.self } in
    let k = subst (λ o. GathersUnits side (gathered from (http_known o) old.ends) (gathered place known e) c.in_ok-place.unit) (sym c.in-Some.is) c.in_ok-place.ensures.ok in
    let d = subst (GathersUnits side (gathered from (http_in old.host) old.ends) (gathered place known e)) c.in-Finished.is k in
    let enters = subst (λ at. Enters s at mid.host mid.ends mid new) c.gathered-in-Finished.ensures c.enter-in-Finished.ensures in
    (ap is_some c.in-Some.is, end_enters s c.args.number side from place old new known e before before c.in-Finished.size mid d (ap (λ x. http_of_host x old.host) c.hold_whole.ensures) c.read.ensures refl enters refl)

pub returns-in-Fault-clause-ok : goal.returns-in-Fault-clause-ok
returns-in-Fault-clause-ok c =
    let s = c.args.setup.now in
    let side = c.args.side in
    let from = c.args.from in
    let old = c.args.self.now in
    let place = c.in_ok-place.place in
    let known = c.gather_units.new.http in
    let e = c.gather_units.new.self in
    let f = c.in-Fault.fault in
    let before = c.args.notes.now.items in
    let after = c.refuse_of.new.notes.items in
    let new = c.refuse_of.new.self in
    let k = subst (λ o. GathersUnits side (gathered from (http_known o) old.ends) (gathered place known e) c.in_ok-place.unit) (sym c.in-Some.is) c.in_ok-place.ensures.ok in
    let d = subst (GathersUnits side (gathered from (http_in old.host) old.ends) (gathered place known e)) c.in-Fault.is k in
    if_ok c.refuse_of.result (λ act. RefusesOf side f s c.args.number (gathered_to side (gathered place known e) old) new before after act)
    (λ act. (is_some old.host.http ≡ true) × GathersBody side from.wanted from.reader s c.args.number old new before after act)
    (λ act x. (ap is_some c.in-Some.is, refuses_later s c.args.number side from place old new known e before after f act d x)) c.refuse_of.ensures.ok

pub returns-in-NotYet-clause-ok : goal.returns-in-NotYet-clause-ok
returns-in-NotYet-clause-ok c =
    let s = c.args.setup.now in
    let side = c.args.side in
    let from = c.args.from in
    let old = c.args.self.now in
    let place = c.in_ok-place.place in
    let known = c.gather_units.new.http in
    let e = c.gather_units.new.self in
    let before = c.args.notes.now.items in
    let after = c.wait_or_cut.new.notes.items in
    let new = c.wait_or_cut.new.self in
    let k = subst (λ o. GathersUnits side (gathered from (http_known o) old.ends) (gathered place known e) c.in_ok-place.unit) (sym c.in-Some.is) c.in_ok-place.ensures.ok in
    let d = subst (GathersUnits side (gathered from (http_in old.host) old.ends) (gathered place known e)) c.in-NotYet.is k in
    (ap is_some c.in-Some.is, waits_later s c.args.number side from place old new known e before after c.wait_or_cut.result d c.wait_or_cut.ensures.waits)
