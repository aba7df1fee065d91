use Rattle.std.proofs.Common.{◌∷◌, ◌++◌, ◌∙◌, [], ap, arith, refl, sym}
use Rattle.proxy_core.specs.Ready.{numbers}
use Rattle.proxy_core.proofs.ReadyRing.{accept_known, numbers_push}
use Rattle.proxy_core.proofs.core_state.Core.accept.Goals as goal

pub invariant_of-self-clause-numbered : goal.invariant_of-self-clause-numbered
invariant_of-self-clause-numbered c =
    let s = c.args.self.now in
    c.push.ensures.numbers ∙ ap (λ ns. ns ++ c.args.number ∷ []) s.numbered ∙ sym (numbers_push s.live.items _) ∙ ap numbers (sym c.push.ensures.items)

pub invariant_of-self-clause-live_known : goal.invariant_of-self-clause-live_known
invariant_of-self-clause-live_known c =
    let s = c.args.self.now in
    rw c.push.ensures.items (accept_known s.live.items _ s.last s.live_known c.if-number-self.false)

pub invariant_of-self-clause-live_limit : goal.invariant_of-self-clause-live_limit
invariant_of-self-clause-live_limit c = omega (arith, c.push.ensures.len, c.if-self-len.false, c.len.ensures.items)

pub invariant_of-self-clause-live_room : goal.invariant_of-self-clause-live_room
invariant_of-self-clause-live_room c = omega (arith, c.push.ensures.room, c.args.self.now.live_room)

pub returns-clause-accepts : goal.returns-clause-accepts
returns-clause-accepts c =
    let b = c.begin-conn.ensures.begins in (
      b.0,
      b.1,
      record {
        keeps = record { config = refl; statics = refl; places = refl };
        last = refl;
        moment = refl;
        place = c.in-Some.place;
        virtual = sym c.in-Some.ensures;
        conn = c.begin-conn.result;
        begins = (c.setup_at-setup.result, c.setup_at-setup.ensures, b.2);
        live = c.push.ensures.items ∙ ap (λ e. c.args.self.now.live.items ++ record { number = c.args.number; vs = c.in-Some.place; from = c.args.from; conn = c.begin-conn.result; edges = e } ∷ []) c.accepted.ensures;
        ring = c.push.ensures.ring;
        queue = refl;
        asleep = refl;
        store = refl;
      },
    )
