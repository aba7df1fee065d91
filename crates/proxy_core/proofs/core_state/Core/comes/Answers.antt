use Rattle.std.proofs.Common.{◌≡◌, ◌∙◌, ap, arith, false, get_or, refl, set, sym, true}
use Rattle.proxy_core.specs.Calls.{kept_calls, kept_sleepers, without_calls, without_sleepers, woken}
use Rattle.proxy_core.specs.Live.{asks_in}
use Rattle.proxy_core.specs.Ready.{without}
use Rattle.proxy_core.proofs.FrontRuns.{kept_same, same_sleepers}
use Rattle.proxy_core.proofs.Places.{number_at, number_in, read_again, read_set, remove_set, live_there}
use Rattle.proxy_core.specs.Refusal.{input_refusal}
use Rattle.proxy_core.proofs.Refusing.{input_judged, may_come}
use Rattle.proxy_core.proofs.Tables.{gone, kept}
use Rattle.proxy_core.proofs.core_state.Core.comes.Goals as goal

pub invariant_of-self-clause-numbered : goal.invariant_of-self-clause-numbered
invariant_of-self-clause-numbered c =
    let s = c.args.self.now in
    let l = c.index_mut.result.now in
    let h = c.index_mut.ensures.value in
    let k = gone s.last c.in-Some.at s.live.numbers _ s.live.items _ l c.comes.new.self s.numbered s.live_known h c.remove.ensures.numbers c.remove.ensures.items in
    k.numbered

pub invariant_of-self-clause-live_known : goal.invariant_of-self-clause-live_known
invariant_of-self-clause-live_known c =
    let s = c.args.self.now in
    let l = c.index_mut.result.now in
    let h = c.index_mut.ensures.value in
    let k = gone s.last c.in-Some.at s.live.numbers _ s.live.items _ l c.comes.new.self s.numbered s.live_known h c.remove.ensures.numbers c.remove.ensures.items in
    k.known

pub invariant_of-self-clause-live_limit : goal.invariant_of-self-clause-live_limit
invariant_of-self-clause-live_limit c =
    let s = c.args.self.now in
    let l = c.index_mut.result.now in
    let h = c.index_mut.ensures.value in
    let k = gone s.last c.in-Some.at s.live.numbers _ s.live.items _ l c.comes.new.self s.numbered s.live_known h c.remove.ensures.numbers c.remove.ensures.items in
    omega (arith, k.fewer, s.live_limit)

pub invariant_of-self-else-comes-clause-numbered : goal.invariant_of-self-else-comes-clause-numbered
invariant_of-self-else-comes-clause-numbered c =
    let s = c.args.self.now in
    let l = c.index_mut.result.now in
    let h = c.index_mut.ensures.value in
    let k = kept s.last c.in-Some.at s.live.numbers _ s.live.items _ l c.comes.new.self s.numbered s.live_known h c.comes.ensures.place.number c.wake.ensures.numbers c.wake.ensures.items in
    k.numbered

pub invariant_of-self-else-comes-clause-live_known : goal.invariant_of-self-else-comes-clause-live_known
invariant_of-self-else-comes-clause-live_known c =
    let s = c.args.self.now in
    let l = c.index_mut.result.now in
    let h = c.index_mut.ensures.value in
    let k = kept s.last c.in-Some.at s.live.numbers _ s.live.items _ l c.comes.new.self s.numbered s.live_known h c.comes.ensures.place.number c.wake.ensures.numbers c.wake.ensures.items in
    k.known

pub invariant_of-self-else-comes-clause-live_limit : goal.invariant_of-self-else-comes-clause-live_limit
invariant_of-self-else-comes-clause-live_limit c =
    let s = c.args.self.now in
    let l = c.index_mut.result.now in
    let h = c.index_mut.ensures.value in
    let k = kept s.last c.in-Some.at s.live.numbers _ s.live.items _ l c.comes.new.self s.numbered s.live_known h c.comes.ensures.place.number c.wake.ensures.numbers c.wake.ensures.items in
    omega (arith, k.fewer, s.live_limit)

pub returns-then-comes-clause-accepted : goal.returns-then-comes-clause-accepted
returns-then-comes-clause-accepted c =
    let s = c.args.self.now in
    input_judged s c.args.number c.args.input.now c.index.result.now (live_there c.args.number c.in-Some.at s.live.items c.index.result.now (sym c.in-Some.ensures.place) c.index.ensures) ∙ (sym c.refuses.ensures ∙ c.in_default-refuses.is)

pub returns-else-comes-clause-accepted : goal.returns-else-comes-clause-accepted
returns-else-comes-clause-accepted c =
    let s = c.args.self.now in
    input_judged s c.args.number c.args.input.now c.index.result.now (live_there c.args.number c.in-Some.at s.live.items c.index.result.now (sym c.in-Some.ensures.place) c.index.ensures) ∙ (sym c.refuses.ensures ∙ c.in_default-refuses.is)

pub returns-then-comes-clause-comes : goal.returns-then-comes-clause-comes
returns-then-comes-clause-comes c =
    let s = c.args.self.now in
    let l = c.index_mut.result.now in
    let h = c.index_mut.ensures.value in
    let at = c.in-Some.at in
    let place = sym c.in-Some.ensures.place in
    let number = number_at c.args.number at s.live.items l place h in
    let came = c.comes.ensures.comes in (
      came.0,
      came.1,
      record {
        keeps = record { config = refl; statics = refl; places = refl };
        last = refl;
        moment = refl;
        at = at;
        place = place;
        before = l;
        found = h;
        after = c.comes.new.self;
        same = c.comes.ensures.place;
        may = may_come l c.args.input.now (ap (λ x. input_refusal x c.args.input.now) (sym (read_again s.live.items at c.index.result.now l c.index.ensures h)) ∙ sym c.refuses.ensures ∙ c.in_default-refuses.is);
        store = refl;
        over = c.comes.result;
        came = rw number at came.2;
        edges = came.3;
        goes_on = λ e. let t : true ≡ false = sym c.if-comes.true ∙ e in (cc);
        ends = λ e. record {
          live = c.remove.ensures.items ∙ remove_set at s.live.items c.comes.new.self;
          ring = c.remove.ensures.ring ∙ ap (λ n. without n s.live.ring) (number_in at s.live.numbers s.live.items l s.numbered h);
          queue = refl;
          asleep = refl;
        };
      },
    )

pub returns-else-comes-clause-comes : goal.returns-else-comes-clause-comes
returns-else-comes-clause-comes c =
    let s = c.args.self.now in
    let l = c.index_mut.result.now in
    let h = c.index_mut.ensures.value in
    let at = c.in-Some.at in
    let place = sym c.in-Some.ensures.place in
    let number = number_at c.args.number at s.live.items l place h in
    let m = c.comes.new.self in
    let waits_is : c.is_asking-waits.result ≡ asks_in m.conn = c.is_asking-waits.ensures ∙ ap (λ x. asks_in x.conn) (read_again (set s.live.items at m) at c.index-else-comes.result.now m c.index-else-comes.ensures (read_set at s.live.items l m h)) in
    let waited_is : c.is_asking-waited.result ≡ asks_in l.conn = c.is_asking-waited.ensures ∙ ap (λ x. asks_in x.conn) (read_again s.live.items at c.index-2.result.now l c.index-2.ensures h) in
    let kept : c.forget.new.self.items ≡ kept_calls (asks_in l.conn) (asks_in m.conn) c.args.number s.queue.items =
    c.forget.ensures.items ∙ ap (λ b. kept_calls b c.is_asking-waits.result c.args.number s.queue.items) waited_is ∙ ap (λ b. kept_calls (asks_in l.conn) b c.args.number s.queue.items) waits_is in
    let kept_asleep : c.forget.new.self.asleep ≡ kept_sleepers (asks_in l.conn) (asks_in m.conn) c.args.number s.queue.asleep =
    c.forget.ensures.asleep ∙ ap (λ b. kept_sleepers b c.is_asking-waits.result c.args.number s.queue.asleep) waited_is ∙ ap (λ b. kept_sleepers (asks_in l.conn) b c.args.number s.queue.asleep) waits_is in
    let came = c.comes.ensures.comes in (
      came.0,
      came.1,
      record {
        keeps = record { config = refl; statics = refl; places = refl };
        last = refl;
        moment = refl;
        at = at;
        place = place;
        before = l;
        found = h;
        after = c.comes.new.self;
        same = c.comes.ensures.place;
        may = may_come l c.args.input.now (ap (λ x. input_refusal x c.args.input.now) (sym (read_again s.live.items at c.index.result.now l c.index.ensures h)) ∙ sym c.refuses.ensures ∙ c.in_default-refuses.is);
        store = refl;
        over = c.comes.result;
        came = rw number at came.2;
        edges = came.3;
        goes_on = λ e. record {
          live = c.wake.ensures.items;
          ring = c.wake.ensures.ring ∙ ap (λ b. woken b (get_or s.live.numbers at 0) s.live.ring) waits_is ∙ ap (λ n. woken (asks_in m.conn) n s.live.ring) (number_in at s.live.numbers s.live.items l s.numbered h ∙ sym c.comes.ensures.place.number);
          waits = λ f. (kept ∙ kept_same (asks_in l.conn) (asks_in m.conn) c.args.number s.queue.items f, kept_asleep ∙ same_sleepers (asks_in l.conn) (asks_in m.conn) c.args.number s.queue.asleep f);
          forgets = λ f g. (
            kept ∙ ap (λ b. kept_calls b (asks_in m.conn) c.args.number s.queue.items) g ∙ ap (λ b. kept_calls true b c.args.number s.queue.items) f ∙ ap (λ n. without_calls n s.queue.items) (sym (c.comes.ensures.place.number ∙ number)),
            kept_asleep ∙ ap (λ b. kept_sleepers b (asks_in m.conn) c.args.number s.queue.asleep) g ∙ ap (λ b. kept_sleepers true b c.args.number s.queue.asleep) f ∙ ap (λ n. without_sleepers n s.queue.asleep) (sym (c.comes.ensures.place.number ∙ number)),
          );
        };
        ends = λ e. let t : true ≡ false = sym e ∙ c.if-comes.false in (cc);
      },
    )
