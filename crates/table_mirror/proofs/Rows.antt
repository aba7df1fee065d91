-- Worked rows, by computation: packets that are lost, reordered or not there. Three clients of one address were counted.
use Rattle.std.proofs.Common.{◌≡◌, ℕ, List, [], ◌∷◌, Ok, Err, codes, refl}
use Rattle.px_bytes.specs.declared.fault.Reply.TheVariants.{Ok as Replied}
use Rattle.table_mirror.specs.Network.{World, at_first, stepped}
use Rattle.table_mirror.specs.Pushed.{Entry}
use Rattle.table_mirror.specs.declared.packet.MirrorStop.TheVariants.{NotSent}
use Rattle.table_mirror.specs.declared.packet.Packet.TheVariants.{Pushes, Acknowledges}
use Rattle.table_mirror.specs.declared.plan.PlanLine.TheVariants.{Send, Deliver}

abbrev counted : List ℕ → Entry
counted reply = record { moment = 0; words = codes "incr" ∷ codes "-notouch" ∷ codes "10.0.0.9" ∷ []; reply = Replied reply }

abbrev three : List Entry
three = counted (codes "1") ∷ counted (codes "2") ∷ counted (codes "3") ∷ []

-- the second is sent before the first is acknowledged, and arrives before it: it is let go by
abbrev two_sent : World
two_sent = record { acked = 0; applied = 0; packets = Pushes 0 ∷ Pushes 1 ∷ [] }

send_row : stepped 10 three (Send 1) (record at_first { packets = Pushes 0 ∷ [] }) ≡ Ok two_sent
send_row = refl

ahead_row : stepped 10 three (Deliver 2) two_sent ≡ Ok (record two_sent { packets = Pushes 0 ∷ Pushes 1 ∷ Acknowledges 0 ∷ [] })
ahead_row = refl

not_sent_row : stepped 10 three (Deliver 9) two_sent ≡ Err NotSent
not_sent_row = refl

none_more_row : stepped 10 three (Send 3) two_sent ≡ Ok two_sent
none_more_row = refl

told_row : stepped 10 three (Deliver 2) (record { acked = 0; applied = 1; packets = Pushes 0 ∷ Acknowledges 1 ∷ [] })
    ≡ Ok (record { acked = 1; applied = 1; packets = Pushes 0 ∷ Acknowledges 1 ∷ [] })
told_row = refl
