use Rattle.std.proofs.Common.{◌≡◌, ◌∙◌, ap, arith, length, length-set, None, refl, subst, sym, IsSome}
use Rattle.std.specs.BTreeMap.{is_at}
use Rattle.index_lists.specs.Wheel.{due_of}
use Rattle.timed_rows.specs.Rows.{later_than}
use Rattle.timed_rows.specs.Tied.{seen}
use Rattle.timed_rows.proofs.Expired.{all_later, come}
use Rattle.timed_rows.proofs.Seen.{later-remove}
use Rattle.timed_rows.proofs.Ties.{at_itself, due_kept, due_set, tied_changed}
use Rattle.timed_rows.proofs.rows.Rows.expire.Goals as goal

pub loop-slot-preserved : goal.loop-slot-preserved
loop-slot-preserved g c =
    let o = g.met.K.Ord.total in
    let z = c.loop-slot.invariant.tied in
    let es = c.loop-slot.self-inside.entries.entries in
    let ds = c.loop-slot.self-inside.dues.dues in
    let n = c.in-Some.slot in
    let key = c.remove-key.result in
    let f = z.entries n key c.remove-key.ensures.value in
    let d = c.in-Some.ensures.due in
    let w = z.reserved n (subst (λ y. IsSome y) (sym c.remove-key.ensures.value) refl) in
    let is = sym (z.slots key f.held f.there).due ∙ ap (due_of ds) f.slot ∙ d.is in
    record {
      tied = tied_changed o es c.remove.new.self.entries c.loop-slot.self-inside.keys c.remove-key.new.self ds c.advance.new.self.dues key n None z (record {
        sorted = c.remove.ensures.ordered;
        now = c.remove.ensures.updates.0;
        was = λ h l. (let same : f.held ≡ h = (let two = sym f.there ∙ l in cc) in ap (λ y. y.slot) (sym same) ∙ f.slot);
        owned = λ own e. (let same : key ≡ own = (let two = sym c.remove-key.ensures.value ∙ e in cc) in ap (is_at (g.K.Ord.cmp key)) (sym same) ∙ at_itself o key);
        keys = c.remove-key.ensures.updates.others;
        dues = λ m ne. ap (λ y. due_of y m) c.in-Some.ensures.some ∙ due_kept ds n m None ne;
        more = (let e = ap length c.in-Some.ensures.some in omega (arith, e, length-set ds n None));
        fits = (let e = ap length c.in-Some.ensures.some in omega (arith, e, length-set ds n None, w));
        at = (c.remove-key.ensures.updates.changed, ap (λ y. due_of y n) c.in-Some.ensures.some ∙ due_set ds n None w);
      });
      same = ap (λ y. later_than c.args.moment (seen y)) c.remove.ensures.entries
          ∙ later-remove c.args.moment (is_at (g.K.Ord.cmp key)) es f.held f.there (come c.args.moment d.due f.held.due is d.come)
          ∙ c.loop-slot.invariant.same;
    }

pub returns : goal.returns
returns g c =
    sym (all_later g.met.K.Ord.total c.args.moment c.loop-slot.self-inside.entries c.loop-slot.self-inside.keys c.loop-slot.self-inside.dues.dues c.loop-slot.invariant.tied c.in_default.ensures.none)
    ∙ c.loop-slot.invariant.same
