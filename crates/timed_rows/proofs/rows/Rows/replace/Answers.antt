use Rattle.std.proofs.Common.{◌≡◌, ◌∙◌, ap, arith, length, length-set, Some, option_map, refl, subst, sym, IsSome}
use Rattle.std.specs.BTreeMap.{is_at}
use Rattle.std.specs.Map.{set_value}
use Rattle.index_lists.specs.Wheel.{due_of}
use Rattle.timed_rows.specs.Rows.{value_at}
use Rattle.timed_rows.specs.Tied.{seen, seen_held}
use Rattle.timed_rows.specs.declared.timed_value.TimedValue.{TimedValue}
use Rattle.timed_rows.proofs.Seen.{seen-lookup, seen-set, seen-value, set-absent}
use Rattle.timed_rows.proofs.Ties.{due_kept, due_set, slot_owned, tied_changed}
use Rattle.timed_rows.proofs.rows.Rows.replace.Goals as goal

pub returns-in_default-clause-value : goal.returns-in_default-clause-value
returns-in_default-clause-value g c =
    ap (option_map (λ h. h.value)) c.in_default.ensures.value
    ∙ sym (seen-value (g.K.Ord.cmp c.args.key.now) c.self.inside.entries.entries)
    ∙ ap (value_at (g.K.Ord.cmp c.args.key.now)) c.self.view_is

pub returns-in_default-clause-entries : goal.returns-in_default-clause-entries
returns-in_default-clause-entries g c =
    let test = is_at (g.K.Ord.cmp c.args.key.now) in
    let es = c.self.inside.entries.entries in
    let none = seen-lookup test es ∙ ap (option_map seen_held) (sym c.in_default.ensures.value) in
    ap (λ t. seen t.entries) c.get_mut.follows.holds-at-none
    ∙ sym (set-absent test (seen es) (c.args.value, c.args.due) none)
    ∙ ap (λ y. set_value test y (c.args.value, c.args.due)) c.self.view_is

pub set_due-requires : goal.set_due-requires
set_due-requires g c =
    let z = c.self.invariant in
    let l = sym c.in-Some.ensures.value in
    z.reserved c.in-Some.held.now.slot (subst (λ y. IsSome y) (sym (z.slots c.args.key.now c.in-Some.held.now l).there) refl)

pub invariant_of-self-2 : goal.invariant_of-self-2
invariant_of-self-2 g c =
    let o = g.met.K.Ord.total in
    let z = c.self.invariant in
    let es = c.self.inside.entries.entries in
    let ds = c.self.inside.dues.dues in
    let key = c.args.key.now in
    let held = c.in-Some.held.now in
    let new : TimedValue g.row.T.Denot = record { value = c.replace-old.new.dest; due = c.args.due; slot = held.slot } in
    let follows = c.get_mut.follows.holds new in
    let l = sym c.in-Some.ensures.value in
    let f = z.slots key held l in
    let w = z.reserved held.slot (subst (λ y. IsSome y) (sym f.there) refl) in
    tied_changed o es (c.get_mut.follows.lender new).entries c.self.inside.keys c.self.inside.keys ds c.set_due.new.dues.dues key held.slot (Some new) z (record {
      sorted = follows.4;
      now = (follows.3 (subst (λ y. IsSome y) (sym l) refl)).0;
      was = λ h k. (let same : held ≡ h = (let two = sym l ∙ k in cc) in ap (λ y. y.slot) (sym same));
      owned = slot_owned o es c.self.inside.keys ds key held z l;
      keys = λ m ne. refl;
      dues = λ m ne. ap (λ y. due_of y m) c.set_due.ensures ∙ due_kept ds held.slot m c.args.due ne;
      more = (let e = ap length c.set_due.ensures in omega (arith, e, length-set ds held.slot c.args.due));
      fits = (let e = ap length c.set_due.ensures in omega (arith, e, length-set ds held.slot c.args.due, w));
      at = (f.own, (f.there, (f.same, (refl, ap (λ y. due_of y held.slot) c.set_due.ensures ∙ due_set ds held.slot c.args.due w))));
    })

pub returns-clause-value : goal.returns-clause-value
returns-clause-value g c =
    ap Some c.replace-old.ensures.value
    ∙ ap (option_map (λ h. h.value)) c.in-Some.ensures.value
    ∙ sym (seen-value (g.K.Ord.cmp c.args.key.now) c.self.inside.entries.entries)
    ∙ ap (value_at (g.K.Ord.cmp c.args.key.now)) c.self.view_is

pub returns-clause-entries : goal.returns-clause-entries
returns-clause-entries g c =
    let test = is_at (g.K.Ord.cmp c.args.key.now) in
    let es = c.self.inside.entries.entries in
    let new : TimedValue g.row.T.Denot = record { value = c.replace-old.new.dest; due = c.args.due; slot = c.in-Some.held.now.slot } in
    ap seen (c.get_mut.follows.holds new).0
    ∙ seen-set test es new
    ∙ ap (λ v. set_value test (seen es) (v, c.args.due)) c.replace-old.ensures.after
    ∙ ap (λ y. set_value test y (c.args.value, c.args.due)) c.self.view_is
