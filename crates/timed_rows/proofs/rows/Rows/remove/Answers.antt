use Rattle.std.proofs.Common.{◌≡◌, ◌∙◌, ap, arith, length, length-set, None, option_map, refl, subst, sym, IsSome}
use Rattle.std.specs.BTreeMap.{is_at}
use Rattle.std.specs.Map.{remove_entry}
use Rattle.index_lists.specs.Wheel.{due_of}
use Rattle.timed_rows.specs.Rows.{value_at}
use Rattle.timed_rows.specs.Tied.{seen}
use Rattle.timed_rows.proofs.Seen.{seen-remove, seen-value}
use Rattle.timed_rows.proofs.Ties.{due_kept, due_set, slot_owned, tied_changed}
use Rattle.timed_rows.proofs.rows.Rows.remove.Goals as goal

pub returns-in_default-clause-value : goal.returns-in_default-clause-value
returns-in_default-clause-value g c =
    ap (option_map (λ h. h.value)) c.in_default.ensures.value
    ∙ sym (seen-value (g.K.Ord.cmp c.args.key.now) c.self.inside.entries.entries)
    ∙ ap (value_at (g.K.Ord.cmp c.args.key.now)) c.self.view_is

pub returns-in_default-clause-entries : goal.returns-in_default-clause-entries
returns-in_default-clause-entries g c =
    ap seen c.remove.ensures.entries
    ∙ seen-remove (is_at (g.K.Ord.cmp c.args.key.now)) c.self.inside.entries.entries
    ∙ ap (remove_entry (is_at (g.K.Ord.cmp c.args.key.now))) c.self.view_is

pub remove-requires-2 : goal.remove-requires-2
remove-requires-2 g c =
    let f = c.self.invariant.slots c.args.key.now c.in-Some.held (sym c.in-Some.ensures.value) in
    subst (λ y. IsSome y) (sym f.there) refl

pub invariant_of-self-2 : goal.invariant_of-self-2
invariant_of-self-2 g c =
    let o = g.met.K.Ord.total in
    let z = c.self.invariant in
    let es = c.self.inside.entries.entries in
    let ds = c.self.inside.dues.dues in
    let key = c.args.key.now in
    let held = c.in-Some.held in
    let l = sym c.in-Some.ensures.value in
    let w = z.reserved held.slot (subst (λ y. IsSome y) (sym (z.slots key held l).there) refl) in
    tied_changed o es c.remove.new.self.entries c.self.inside.keys c.remove-2.new.self ds c.cancel.new.self.dues key held.slot None z (record {
      sorted = c.remove.ensures.ordered;
      now = c.remove.ensures.updates.0;
      was = λ h k. (let same : held ≡ h = (let two = sym l ∙ k in cc) in ap (λ y. y.slot) (sym same));
      owned = slot_owned o es c.self.inside.keys ds key held z l;
      keys = c.remove-2.ensures.updates.others;
      dues = λ m ne. ap (λ y. due_of y m) c.cancel.ensures.dues ∙ due_kept ds held.slot m None ne;
      more = (let e = ap length c.cancel.ensures.dues in omega (arith, e, length-set ds held.slot None));
      fits = (let e = ap length c.cancel.ensures.dues in omega (arith, e, length-set ds held.slot None, w));
      at = (c.remove-2.ensures.updates.changed, ap (λ y. due_of y held.slot) c.cancel.ensures.dues ∙ due_set ds held.slot None w);
    })

pub returns-clause-value : goal.returns-clause-value
returns-clause-value g c =
    ap (option_map (λ h. h.value)) c.in-Some.ensures.value
    ∙ sym (seen-value (g.K.Ord.cmp c.args.key.now) c.self.inside.entries.entries)
    ∙ ap (value_at (g.K.Ord.cmp c.args.key.now)) c.self.view_is

pub returns-clause-entries : goal.returns-clause-entries
returns-clause-entries g c =
    ap seen c.remove.ensures.entries
    ∙ seen-remove (is_at (g.K.Ord.cmp c.args.key.now)) c.self.inside.entries.entries
    ∙ ap (remove_entry (is_at (g.K.Ord.cmp c.args.key.now))) c.self.view_is
