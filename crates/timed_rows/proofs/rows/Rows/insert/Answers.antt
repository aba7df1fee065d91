use Rattle.std.proofs.Common.{◌≡◌, ◌<◌, ◌∙◌, ap, arith, length, length-set, Some, refl, subst, sym}
use Rattle.std.specs.BTreeMap.{insert_entry}
use Rattle.slab.specs.Slab.{get}
use Rattle.index_lists.specs.Wheel.{due_of}
use Rattle.timed_rows.specs.Tied.{IsTied, seen}
use Rattle.timed_rows.specs.declared.timed_value.TimedValue.{TimedValue}
use Rattle.timed_rows.proofs.Seen.{found_seen, seen-insert}
use Rattle.timed_rows.proofs.Ties.{due_kept, due_set, tied_changed, tied_room}
use Rattle.timed_rows.proofs.rows.Rows.insert.Goals as goal

pub invariant_of-self : goal.invariant_of-self
invariant_of-self g c =
    let r = c.room_for_one.ensures in
    tied_room g.met.K.Ord.total c.self.inside.entries.entries c.self.inside.keys c.room_for_one.new.keys c.self.inside.dues.dues c.room_for_one.new.dues.dues c.self.invariant (λ m. ap (λ y. get y m) r.keys) r.dues r.more

pub invariant_of-self-in_err-insert : goal.invariant_of-self-in_err-insert
invariant_of-self-in_err-insert g c =
    let r = c.room_for_one.ensures in
    subst (λ y. IsTied g.K.Ord.cmp y c.room_for_one.new.keys c.room_for_one.new.dues.dues) (sym c.in_err-insert.ensures.err)
    (tied_room g.met.K.Ord.total c.self.inside.entries.entries c.self.inside.keys c.room_for_one.new.keys c.self.inside.dues.dues c.room_for_one.new.dues.dues c.self.invariant (λ m. ap (λ y. get y m) r.keys) r.dues r.more)

pub invariant_of-self-2 : goal.invariant_of-self-2
invariant_of-self-2 g c =
    let o = g.met.K.Ord.total in
    let r = c.room_for_one.ensures in
    let i = c.insert_reserved.ensures in
    let es = c.self.inside.entries.entries in
    let s = c.room_for_one.new.keys in
    let ds = c.room_for_one.new.dues.dues in
    let z = tied_room o es c.self.inside.keys s c.self.inside.dues.dues ds c.self.invariant (λ m. ap (λ y. get y m) r.keys) r.dues r.more in
    let key = c.args.key in
    let n = c.in_ok-slot.slot in
    let new : TimedValue g.row.T.Denot = record { value = c.args.value; due = c.args.due; slot = n } in
    let slot : c.insert_reserved.result ≡ n = i.key ∙ sym c.in_ok-slot.ensures.slot in
    let w : n < length ds = omega (arith, slot, i.key_in_range, i.capacity, c.in_ok-slot.ensures.reserved) in
    let absent = rw (← c.self.view_is) at c.requires.absent in
    tied_changed o es c.insert.new.self.entries s c.insert_reserved.new.self ds c.set_due.new.dues.dues key n (Some new) z (record {
      sorted = c.insert.ensures.ordered;
      now = c.in_ok-insert.ensures.updates.0;
      was = λ h l. absurd (let no = sym absent ∙ found_seen _ es h l in cc);
      owned = λ own e. absurd (let no = sym (ap (get s) slot) ∙ i.was_vacant in let two = sym e ∙ no in cc);
      keys = λ m ne. i.updates.others m (λ e. ne (e ∙ slot));
      dues = λ m ne. ap (λ y. due_of y m) c.set_due.ensures ∙ due_kept ds n m c.args.due ne;
      more = (let e = ap length c.set_due.ensures in omega (arith, e, length-set ds n c.args.due));
      fits = (let e = ap length c.set_due.ensures in omega (arith, e, length-set ds n c.args.due, w));
      at = (c.args.again, (ap (get c.insert_reserved.new.self) (sym slot) ∙ i.updates.changed, (c.requires.same, (refl, ap (λ y. due_of y n) c.set_due.ensures ∙ due_set ds n c.args.due w))));
    })

pub returns-clause-ok : goal.returns-clause-ok
returns-clause-ok g c =
    let cmp = g.K.Ord.cmp in
    let new : TimedValue g.row.T.Denot = record { value = c.args.value; due = c.args.due; slot = c.in_ok-slot.slot } in
    ap seen c.in_ok-insert.ensures.entries
    ∙ seen-insert cmp c.self.inside.entries.entries c.args.key new
    ∙ ap (λ y. insert_entry cmp y c.args.key (c.args.value, c.args.due)) c.self.view_is
