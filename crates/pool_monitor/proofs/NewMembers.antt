-- Members that were read were never probed.
use Rattle.std.proofs.Common.{ℕ, ◌+◌, List, [], ◌∷◌, ◌++◌, map, refl}
use Rattle.pools.specs.declared.member.Member.{Member}
use Rattle.config.specs.declared.config.PoolSettings.{PoolSettings}
use Rattle.pool_monitor.specs.History.{AllNew}
use Rattle.pool_monitor.specs.Laws.{ReadAreNew}
use Rattle.pool_monitor.specs.Made.{members_at, members_from, monitors_of, new_member}
use Rattle.pool_monitor.specs.declared.monitor.Monitor.{Monitor}
use Rattle.pool_monitor.specs.declared.probe.ProbedMember.{ProbedMember}

all_append : (ps qs : List ProbedMember) → AllNew ps → AllNew qs → AllNew (ps ++ qs)
all_append [] qs none new = new
all_append (p ∷ ps) qs new more = (new.0, all_append ps qs new.1 more)

each_new : (at : ℕ) (m : Monitor) (ms : List Member) → AllNew (map (new_member at m) ms)
each_new at m [] = tt
each_new at m (x ∷ xs) = (record { sent = refl; up = refl }, each_new at m xs)

all_from : (ps : List PoolSettings) (at : ℕ) (ms : List Monitor) → AllNew (members_from ps at ms)
all_from ps at [] = tt
all_from ps at (m ∷ ms) =
    all_append (map (new_member at m) (members_at ps m.pool)) (members_from ps (at + 1) ms) (each_new at m (members_at ps m.pool)) (all_from ps (at + 1) ms)

pub read_are_new : ReadAreNew
read_are_new ps top = all_from ps 0 (monitors_of top)
