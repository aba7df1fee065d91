-- A network that loses, repeats and reorders what a sender and a standby send, as a plan says.
use Rattle.std.specs.Prelude.{◌≡◌, ℕ, ◌+◌, ◌-◌, List, [], ◌∷◌, ◌++◌, max, nat_eq, slice_get}
use Rattle.std.specs.Prelude.{Option, Some, None, Result, Ok, Err, if◌then◌else◌}
use Rattle.std.proofs.Math.ListN.{take}
use Rattle.px_bytes.specs.declared.fault.Reply.{Reply}
use Rattle.table_mirror.specs.Mirrored.{differs, mirrored}
use Rattle.table_mirror.specs.Pushed.{Entry}
use Rattle.table_mirror.specs.declared.packet.Packet.{Packet}
use Rattle.table_mirror.specs.declared.packet.Packet.TheVariants.{Pushes, Acknowledges}
use Rattle.table_mirror.specs.declared.packet.MirrorStop.{MirrorStop}
use Rattle.table_mirror.specs.declared.packet.MirrorStop.TheVariants.{NotSent, Differs}
use Rattle.table_mirror.specs.declared.plan.PlanLine.{PlanLine}
use Rattle.table_mirror.specs.declared.plan.PlanLine.TheVariants.{Send, Deliver}

-- how many entries the sender knows to be applied, how many the standby applied, and all packets that
-- were sent, of which each may arrive once, often or never. The standby's rows are those after the
-- entries that it applied
pub record World : Type 0 where
  pub acked : ℕ
  pub applied : ℕ
  pub packets : List Packet

abbrev pub at_first : World
at_first = record { acked = 0; applied = 0; packets = [] }

-- the entry of a place, the first being 0, is offered; where there is none nothing is
abbrev pub offers : ℕ → Option Entry → List Packet
offers place None = []
offers place (Some e) = Pushes place ∷ []

-- the packet of this number, the first being 1
abbrev pub packet_at : List Packet → ℕ → Option Packet
packet_at packets k = if nat_eq k 0 then None else slice_get packets (k - 1)

-- the standby tells how many entries it applied
abbrev pub acknowledged : World → World
acknowledged w = record w { packets = w.packets ++ Acknowledges w.applied ∷ [] }

abbrev pub taken : Option Reply → World → Result World MirrorStop
taken None w = Ok (acknowledged (record w { applied = w.applied + 1 }))
taken (Some ours) w = Err (Differs (w.applied + 1))

module _ (limit : ℕ) (entries : List Entry) where
  -- the entry behind those that were applied
  abbrev pub next_arrives : Option Entry → World → Result World MirrorStop
  next_arrives None w = Ok (acknowledged w)
  next_arrives (Some e) w = taken (differs (mirrored limit (take w.applied entries)) e) w

  -- an entry that isn't the next is let go by, and acknowledged as before
  abbrev pub entry_arrives : ℕ → World → Result World MirrorStop
  entry_arrives place w =
      if nat_eq place w.applied then next_arrives (slice_get entries place) w else Ok (acknowledged w)

  abbrev pub arrives : Option Packet → World → Result World MirrorStop
  arrives None w = Err NotSent
  arrives (Some (Pushes place)) w = entry_arrives place w
  arrives (Some (Acknowledges n)) w = Ok (record w { acked = max w.acked n })

  -- what a line of a plan makes of the world, or why it ends
  abbrev pub stepped : PlanLine → World → Result World MirrorStop
  stepped (Send at) w =
      Ok (record w { packets = w.packets ++ offers (w.acked + at) (slice_get entries (w.acked + at)) })
  stepped (Deliver k) w = arrives (packet_at w.packets k) w
