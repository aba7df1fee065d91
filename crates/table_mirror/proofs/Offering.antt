-- An entry is offered, or a packet is looked for.
use Rattle.std.proofs.Common.{◌≡◌, ◌∙◌, ◌++◌, ℕ, ◌+◌, ◌<◌, ◌≤◌, Bool, true, false, cond, List, [], Option, Some, None, Result, Ok, ap, arith, length, refl, slice_get, subst, sym}
use Rattle.std.specs.Prelude.{nat_lt}
use Rattle.std.proofs.lemmas.Bool.Decides.{nat_tests}
use Rattle.std.proofs.lemmas.List.{append-nil}
use Rattle.std.proofs.lemmas.Option.{slice_get_past}
use Rattle.table_mirror.specs.Network.{World, offers}
use Rattle.table_mirror.specs.Pushed.{Entry}
use Rattle.table_mirror.specs.Sides.{place_in}
use Rattle.table_mirror.specs.Worlds.{Shows, world_of}
use Rattle.table_mirror.specs.declared.network.Network.{Network}

-- fewer were pushed: nothing is sent
pub none_offered : (limit : ℕ) (entries : List Entry) (n : Network) (at : ℕ) → place_in n.sender.pushed (n.sender.acked + at) ≡ None
    → (w : World) → Shows limit entries n w
    → Shows limit entries n (record w { packets = w.packets ++ offers (w.acked + at) (slice_get entries (w.acked + at)) })
none_offered limit entries n at none w s = by (nat_lt (n.sender.acked + at) n.sender.pushed) refl none
  where
    by : (b : Bool) → nat_lt (n.sender.acked + at) n.sender.pushed ≡ b → cond b (Some (n.sender.acked + at)) None ≡ None
        → Shows limit entries n (record w { packets = w.packets ++ offers (w.acked + at) (slice_get entries (w.acked + at)) })
    by true is h = absurd (let k = h in cc)
    by false is h =
        let acked = ap (λ v. v.acked) s.world in
        let pushed = s.pushed in
        let past : length entries ≤ w.acked + at = grind (arith, nat_tests) in
        let nothing = ap (offers (w.acked + at)) (slice_get_past entries (w.acked + at) past) in
        let same : w.packets ++ offers (w.acked + at) (slice_get entries (w.acked + at)) ≡ w.packets =
        ap (λ ps. w.packets ++ ps) nothing ∙ append-nil w.packets in
        record { world = s.world ∙ ap (λ ps. record w { packets = ps }) (sym same); pushed = s.pushed; table = s.table }
