use Rattle.std.proofs.Common.{◌≡◌, true, is_some, sym, ap, subst, ◌∙◌}
use Rattle.http_frames.specs.declared.unit.Unit.TheVariants.{Fault, NotYet}
use Rattle.conn.specs.Acts.{DropsBody, Refuses}
use Rattle.conn.specs.Dropping.{DropsUnits}
use Rattle.conn.proofs.Dropped.{drops_by, finish_inside, if_ok, left_at}
use Rattle.conn.proofs.connection.Conn.drop_body.Goals as goal

pub drop_front-requires : goal.drop_front-requires
drop_front-requires c =
    let d = c.in_ok-reader.ensures in
    finish_inside c.in_ok-reader.reader c.drop_units.new.self c.args.self.now.ends.client.ended c.in-Finished.size (sym d.1 ∙ c.in-Finished.is)

pub returns-in-Fault-clause-ok : goal.returns-in-Fault-clause-ok
returns-in-Fault-clause-ok c =
    let old = c.args.self.now in
    let reader = c.in_ok-reader.reader in
    let left = c.drop_units.new.self in
    let f = c.in-Fault.fault in
    let before = c.args.notes.now.items in
    let after = c.refuse.new.notes.items in
    let new = c.refuse.new.self in
    let d = subst (λ u. DropsUnits c.args.from old.ends.client.unread old.ends.client.ended reader u left) c.in-Fault.is c.in_ok-reader.ensures in
    if_ok c.refuse.result (λ act. Refuses f c.args.setup.now c.args.number (left_at reader left old) new before after act)
    (λ act. (is_some old.host.http ≡ true) × DropsBody c.args.from c.args.setup.now c.args.number old new before after act)
    (λ act k. (ap is_some c.in-Some.is, drops_by c.args.setup.now c.args.number old new before after act c.args.from reader (Fault f) left d k)) c.refuse.ensures.ok

pub returns-in-NotYet-clause-ok : goal.returns-in-NotYet-clause-ok
returns-in-NotYet-clause-ok c =
    let old = c.args.self.now in
    let reader = c.in_ok-reader.reader in
    let left = c.drop_units.new.self in
    let d = subst (λ u. DropsUnits c.args.from old.ends.client.unread old.ends.client.ended reader u left) c.in-NotYet.is c.in_ok-reader.ensures in
    (ap is_some c.in-Some.is, drops_by c.args.setup.now c.args.number old c.rest_or_cut.new.self c.args.notes.now.items c.rest_or_cut.new.notes.items c.rest_or_cut.result c.args.from reader NotYet left d c.rest_or_cut.ensures.rests)
