use Rattle.std.proofs.Common.{arith, refl}
use Rattle.proxy_core.proofs.core_state.Core.tick.Goals as goal

pub returns-clause-ticks : goal.returns-clause-ticks
returns-clause-ticks c =
    let s = c.args.self.now in
    record {
      keeps = record { config = refl; statics = refl; places = refl };
      last = refl;
      moment_is = refl;
      live = refl;
      queue = λ few. c.wake.ensures.items (omega (arith, few, s.queue_room));
      asleep = c.wake.ensures.asleep;
      store = c.expire.ensures;
    }
