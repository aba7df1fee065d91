use Rattle.std.proofs.Common.{◌∙◌, ap, arith, refl, sym}
use Rattle.proxy_core.specs.Ready.{with_ready}
use Rattle.proxy_core.proofs.FrontRuns.{front_turns}
use Rattle.proxy_core.proofs.Places.{number_at, number_in}
use Rattle.proxy_core.proofs.Tables.{kept}
use Rattle.proxy_core.proofs.core_state.Core.turn.Goals as goal

pub invariant_of-self-2 : goal.invariant_of-self-2
invariant_of-self-2 c =
    let s = c.args.self.now in
    let l = c.index_mut.result.now in
    let h = c.index_mut.ensures.value in
    let k = kept s.last c.in-Some-find.at s.live.numbers _ s.live.items _ l c.answer.new.self s.numbered s.live_known h c.answer.ensures.place.number c.make_ready.ensures.numbers c.make_ready.ensures.items in
    record {
      numbered = k.numbered;
      live_known = k.known;
      live_limit = omega (arith, k.fewer, s.live_limit);
      live_room = omega (arith, c.make_ready.ensures.room, s.live_room);
      queue_room = omega (arith, c.in-Some.ensures.room, s.queue_room);
    }

pub returns-clause-turns : goal.returns-clause-turns
returns-clause-turns c =
    let s = c.args.self.now in
    let at = c.in-Some-find.at in
    let l = c.index_mut.result.now in
    let h = c.index_mut.ensures.value in
    let place = sym c.in-Some-find.ensures.place in
    let number = number_at c.in-Some.asked.conn at s.live.items l place h in
    let answers = c.answer.ensures.answers in (
      answers.0,
      answers.1,
      front_turns s _ s.queue.items c.pop.new.self.items c.in-Some.asked answers.0 c.in-Some.ensures.some (record {
        keeps = record { config = refl; statics = refl; places = refl };
        last = refl;
        moment = refl;
        at = at;
        place = place;
        before = l;
        found = h;
        after = c.answer.new.self;
        same = c.answer.ensures.place;
        answers = answers.2;
        live = c.make_ready.ensures.items;
        ring = c.make_ready.ensures.ring ∙ ap (λ n. with_ready s.live.ring n) (number_in at s.live.numbers s.live.items l s.numbered h ∙ number);
        queue = refl;
        asleep = c.pop.ensures.asleep;
      }),
    )
