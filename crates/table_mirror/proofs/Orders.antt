-- What stays true of a mirror, line by line.
use Rattle.std.proofs.Common.{◌≡◌, ◌∙◌, ◌⊎◌, inl, inr, ℕ, ◌+◌, ◌-◌, ◌≤◌, zero, suc, cond, Bool, true, false, List, [], ◌∷◌, ◌++◌, Option, Some, None, Result, Ok, Err, ap, arith, length, refl, subst, sym, max}
use Rattle.std.specs.Prelude.{slice_get, nat_eq}
use Rattle.std.proofs.Math.ListN.{take}
use Rattle.std.proofs.lemmas.Grind.{common_steps}
use Rattle.std.proofs.lemmas.Bool.Decides.{Decides-eqb}
use Rattle.std.proofs.lemmas.Option.{slice_get_within}
use Rattle.px_bytes.specs.declared.fault.Reply.{Reply}
use Rattle.table_mirror.specs.Laws.{AppliesNext, BeginsInOrder, HistoryIsMirrored, InOrder, IsHistory, StaysInOrder, ToldWithin}
use Rattle.table_mirror.specs.Mirrored.{differs, mirrored}
use Rattle.table_mirror.specs.Network.{World, acknowledged, arrives, entry_arrives, next_arrives, offers, packet_at, stepped, taken}
use Rattle.table_mirror.specs.Pushed.{Entry}
use Rattle.table_mirror.specs.declared.packet.MirrorStop.{MirrorStop}
use Rattle.table_mirror.specs.declared.packet.MirrorStop.TheVariants.{Differs}
use Rattle.table_mirror.specs.declared.packet.Packet.{Packet}
use Rattle.table_mirror.specs.declared.packet.Packet.TheVariants.{Pushes, Acknowledges}
use Rattle.table_mirror.specs.declared.plan.PlanLine.{PlanLine}
use Rattle.table_mirror.specs.declared.plan.PlanLine.TheVariants.{Send, Deliver}

pub begins_in_order : BeginsInOrder
begins_in_order entries = record { acked = omega arith; applied = omega arith; told = _ }

-- what was told stays within more
told_more : (m n : ℕ) (packets : List Packet) → m ≤ n → ToldWithin m packets → ToldWithin n packets
told_more m n [] le told = _
told_more m n (Pushes place ∷ packets) le told = told_more m n packets le told
told_more m n (Acknowledges k ∷ packets) le told = (omega (arith, told.0, le), told_more m n packets le told.1)

told_behind : (n : ℕ) (packets more : List Packet) → ToldWithin n packets → ToldWithin n more → ToldWithin n (packets ++ more)
told_behind n [] more told behind = behind
told_behind n (Pushes place ∷ packets) more told behind = told_behind n packets more told behind
told_behind n (Acknowledges k ∷ packets) more told behind = (told.0, told_behind n packets more told.1 behind)

told_at : (n : ℕ) (packets : List Packet) (place k : ℕ) → ToldWithin n packets → slice_get packets place ≡ Some (Acknowledges k) → k ≤ n
told_at n [] place k told at = absurd (let h = at in cc)
told_at n (Pushes p ∷ packets) zero k told at = absurd (let h = at in cc)
told_at n (Pushes p ∷ packets) (suc place) k told at = told_at n packets place k told at
told_at n (Acknowledges m ∷ packets) zero k told at = let same : m ≡ k = let h = at in cc in omega (arith, same, told.0)
told_at n (Acknowledges m ∷ packets) (suc place) k told at = told_at n packets place k told.1 at

-- what a packet that was sent tells
told_by : (n : ℕ) (packets : List Packet) (k m : ℕ) → ToldWithin n packets → packet_at packets k ≡ Some (Acknowledges m) → m ≤ n
told_by n packets k m told at = by (nat_eq k 0) refl
  where
    by : (b : Bool) → nat_eq k 0 ≡ b → m ≤ n
    by true is = absurd (let h = sym (ap (λ b. cond b None (slice_get packets (k - 1))) is) ∙ at in cc)
    by false is = told_at n packets (k - 1) m told (sym (ap (λ b. cond b None (slice_get packets (k - 1))) is) ∙ at)

offer_tells : (n place : ℕ) (e : Option Entry) → ToldWithin n (offers place e)
offer_tells n place None = _
offer_tells n place (Some e) = _

-- ---- acknowledged, applied, pushed

module _ (limit : ℕ) (entries : List Entry) where
  abbrev Kept : Result World MirrorStop → Type 0
  Kept (Ok after) = InOrder entries after
  Kept (Err stop) = Unit {0}

  acknowledges : (w : World) → InOrder entries w → InOrder entries (acknowledged w)
  acknowledges w o = record {
    acked = o.acked;
    applied = o.applied;
    told = told_behind w.applied w.packets (Acknowledges w.applied ∷ []) o.told (omega arith, _);
  }

  takes : (other : Option Reply) (w : World) → w.applied + 1 ≤ length entries → InOrder entries w → Kept (taken other w)
  takes None w more o = acknowledges (record w { applied = w.applied + 1 }) (record {
    acked = omega (arith, o.acked);
    applied = more;
    told = told_more w.applied (w.applied + 1) w.packets (omega arith) o.told;
  })
  takes (Some ours) w more o = _

  next_kept : (next : Option Entry) (w : World) → slice_get entries w.applied ≡ next → InOrder entries w → Kept (next_arrives limit entries next w)
  next_kept None w is o = acknowledges w o
  next_kept (Some e) w is o =
      let more = slice_get_within entries w.applied e is in
      takes (differs (mirrored limit (take w.applied entries)) e) w (omega (arith, more)) o

  entry_kept : (place : ℕ) (w : World) → InOrder entries w → Kept (entry_arrives limit entries place w)
  entry_kept place w o = by (nat_eq place w.applied) refl
    where
      by : (b : Bool) → nat_eq place w.applied ≡ b → Kept (cond b (next_arrives limit entries (slice_get entries place) w) (Ok (acknowledged w)))
      by true is = next_kept (slice_get entries place) w (ap (slice_get entries) (sym ((Decides-eqb place w.applied).0 is))) o
      by false is = acknowledges w o

  arrival_kept : (packet : Option Packet) (k : ℕ) (w : World) → packet_at w.packets k ≡ packet → InOrder entries w → Kept (arrives limit entries packet w)
  arrival_kept None k w is o = _
  arrival_kept (Some (Pushes place)) k w is o = entry_kept place w o
  arrival_kept (Some (Acknowledges n)) k w is o =
      let fits = told_by w.applied w.packets k n o.told is in
      record { acked = max_within w.acked n w.applied o.acked fits; applied = o.applied; told = o.told }
    where
      max_within : (a b c : ℕ) → a ≤ c → b ≤ c → max a b ≤ c
      max_within a b c x y = grind (arith, common_steps)

  kept : (line : PlanLine) (w : World) → InOrder entries w → Kept (stepped limit entries line w)
  kept (Send at) w o =
      let place = w.acked + at in
      record {
        acked = o.acked;
        applied = o.applied;
        told = told_behind w.applied w.packets _ o.told (offer_tells w.applied place (slice_get entries place));
      }
  kept (Deliver k) w o = arrival_kept (packet_at w.packets k) k w refl o

pub stays_in_order : StaysInOrder
stays_in_order limit entries line w after o is = subst (Kept limit entries) is (kept limit entries line w o)

-- ---- one after another

module _ (limit : ℕ) (entries : List Entry) where
  abbrev Next : World → Result World MirrorStop → Type 0
  Next w (Ok after) = (after.applied ≡ w.applied) ⊎ (after.applied ≡ w.applied + 1)
  Next w (Err stop) = Unit {0}

  next_takes : (other : Option Reply) (w : World) → Next w (taken other w)
  next_takes None w = inr refl
  next_takes (Some ours) w = _

  next_of : (e : Option Entry) (w : World) → Next w (next_arrives limit entries e w)
  next_of None w = inl refl
  next_of (Some e) w = next_takes (differs (mirrored limit (take w.applied entries)) e) w

  next_entry : (place : ℕ) (w : World) → Next w (entry_arrives limit entries place w)
  next_entry place w = by (nat_eq place w.applied)
    where
      by : (b : Bool) → Next w (cond b (next_arrives limit entries (slice_get entries place) w) (Ok (acknowledged w)))
      by true = next_of (slice_get entries place) w
      by false = inl refl

  next_arrival : (packet : Option Packet) (w : World) → Next w (arrives limit entries packet w)
  next_arrival None w = _
  next_arrival (Some (Pushes place)) w = next_entry place w
  next_arrival (Some (Acknowledges n)) w = inl refl

  next : (line : PlanLine) (w : World) → Next w (stepped limit entries line w)
  next (Send at) w = inl refl
  next (Deliver k) w = next_arrival (packet_at w.packets k) w

pub applies_next : AppliesNext
applies_next limit entries line w after is = subst (Next limit entries w) is (next limit entries line w)

-- ---- replies of a history

module _ (limit : ℕ) (entries : List Entry) (history : IsHistory limit entries) where
  abbrev Agrees : Result World MirrorStop → Type 0
  Agrees (Err (Differs n)) = ⊥
  Agrees other = Unit {0}

  agreed : (other : Option Reply) (w : World) → other ≡ None → Agrees (taken other w)
  agreed None w is = _
  agreed (Some ours) w is = let h = is in cc

  agrees_next : (e : Option Entry) (w : World) → slice_get entries w.applied ≡ e → Agrees (next_arrives limit entries e w)
  agrees_next None w is = _
  agrees_next (Some e) w is = agreed (differs (mirrored limit (take w.applied entries)) e) w (history w.applied e is)

  agrees_entry : (place : ℕ) (w : World) → Agrees (entry_arrives limit entries place w)
  agrees_entry place w = by (nat_eq place w.applied) refl
    where
      by : (b : Bool) → nat_eq place w.applied ≡ b → Agrees (cond b (next_arrives limit entries (slice_get entries place) w) (Ok (acknowledged w)))
      by true is = agrees_next (slice_get entries place) w (ap (slice_get entries) (sym ((Decides-eqb place w.applied).0 is)))
      by false is = _

  agrees_arrival : (packet : Option Packet) (w : World) → Agrees (arrives limit entries packet w)
  agrees_arrival None w = _
  agrees_arrival (Some (Pushes place)) w = agrees_entry place w
  agrees_arrival (Some (Acknowledges n)) w = _

  agrees : (line : PlanLine) (w : World) → Agrees (stepped limit entries line w)
  agrees (Send at) w = _
  agrees (Deliver k) w = agrees_arrival (packet_at w.packets k) w

pub history_is_mirrored : HistoryIsMirrored
history_is_mirrored limit entries line w number history is =
    subst (Agrees limit entries history) is (agrees limit entries history line w)
