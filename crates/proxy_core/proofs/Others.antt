-- One event changes what may be asked of one connection alone.
use Rattle.std.proofs.Common.{ap, Some, None, if◌then◌else◌}
use Rattle.proxy_core.specs.Asked.{queue_at}
use Rattle.proxy_core.specs.Others.{OnlyItsOwnChanges}
use Rattle.core_events.specs.Kinds.{kind_of}
use Rattle.proxy_core.specs.Refusal.{wants_at}
use Rattle.proxy_core.specs.Scheduler.{untaken_of}
use Rattle.proxy_core.proofs.Framing.{only_changed, touches}

pub only_its_own_changes : OnlyItsOwnChanges
only_its_own_changes C past s x next m q e =
    let k = (only_changed past (kind_of x.event) x.group s next (touches C past (kind_of x.event) x.group s next m)).others q e in
    record {
      edges = ap (λ z. if z.live then Some z.heard.edges else None) k;
      wants = λ side. ap (λ z. if z.live then Some (wants_at C z side) else None) k;
      pending = λ side. ap (λ z. if z.live then Some (untaken_of z.heard z.place side) else None) k;
      queue = λ side. ap (λ z. if z.live then Some (queue_at z.heard z.place side) else None) k;
    }
