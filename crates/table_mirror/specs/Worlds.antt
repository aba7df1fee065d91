-- What contracts see of a network.
use Rattle.std.specs.Prelude.{◌≡◌, ℕ, List, [], ◌∷◌, ◌++◌, length, Option, Some, None, Result, Ok, Err}
use Rattle.std.proofs.Math.ListN.{take}
use Rattle.table_mirror.specs.Mirrored.{mirrored}
use Rattle.table_mirror.specs.Network.{World, at_first, entry_arrives, stepped}
use Rattle.table_mirror.specs.Pushed.{Entry}
use Rattle.table_mirror.specs.declared.network.Network.{Network}
use Rattle.table_mirror.specs.declared.packet.MirrorStop.{MirrorStop}
use Rattle.table_mirror.specs.declared.packet.Packet.TheVariants.{Acknowledges}
use Rattle.table_mirror.specs.declared.plan.PlanLine.{PlanLine}

abbrev pub world_of : Network → World
world_of n = record { acked = n.sender.acked; applied = n.standby.applied; packets = n.packets.items }

-- it has all entries, and the standby's table is the one behind those that it applied
pub record Shows (limit : ℕ) (entries : List Entry) (n : Network) (w : World) : Type 0 where
  pub world : world_of n ≡ w
  pub pushed : n.sender.pushed ≡ length entries
  pub table : n.standby.table ≡ mirrored limit (take n.standby.applied entries)

-- the standby told how many entries it applied
abbrev pub ToldBy : Network → Network → Type 0
ToldBy old new = (new.sender ≡ old.sender) × (new.standby ≡ old.standby)
    × (new.packets.items ≡ old.packets.items ++ Acknowledges old.standby.applied ∷ [])

-- what a step came to is what the definition says
abbrev pub Became : (limit : ℕ) → List Entry → Network → Option MirrorStop → Result World MirrorStop → Type 0
Became limit entries new None (Ok w) = Shows limit entries new w
Became limit entries new (Some stop) (Err due) = stop ≡ due
Became limit entries new None (Err due) = ⊥
Became limit entries new (Some stop) (Ok w) = ⊥

abbrev pub StepsTo : (limit : ℕ) → List Entry → PlanLine → Network → Network → Option MirrorStop → Type 0
StepsTo limit entries line old new stop =
    (w : World) → Shows limit entries old w → Became limit entries new stop (stepped limit entries line w)

-- an entry arrives
abbrev pub Arrives : (limit : ℕ) → List Entry → (place : ℕ) → Network → Network → Option MirrorStop → Type 0
Arrives limit entries place old new stop =
    (w : World) → Shows limit entries old w → Became limit entries new stop (entry_arrives limit entries place w)
