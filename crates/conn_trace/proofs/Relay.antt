-- What a relay does next is the same on a longer input, unless it rests.
use Rattle.std.proofs.Common.{◌≡◌, refl, sym, ap, ◌∙◌, ℕ, ◌≤◌, List, [], ◌∷◌, ◌++◌, length, Bool, true, false, ◌&&◌, true≢false, Option, Some, None}
use Rattle.std.proofs.Common.{nat_le, nat_lt, if◌then◌else◌, arith, leb-true, le-leb}
use Rattle.std.proofs.lemmas.List.{length-append}
use Rattle.std.proofs.lemmas.Bool.{and_parts, and_from, and_right}
use Rattle.px_bytes.specs.declared.addr.Side.{Side}
use Rattle.px_bytes.specs.declared.addr.Side.TheVariants.{Client, Server}
use Rattle.conn_trace.specs.Item.{Choice, PassesOn, Fires, Reuses}
use Rattle.irule_net.specs.declared.state.Asks.{Asks}
use Rattle.irule_net.specs.declared.state.Asks.TheVariants.{NotAsked, Stated}
use Rattle.conn_trace.specs.State.{Stream}
use Rattle.conn_trace.specs.Relay.{Incoming, ready, is_nothing, is_done, passes, meets}
use Rattle.conn_trace.specs.Relay.{RelayAct, BothDone, Passing, Firing, Resting, firing}
use Rattle.conn_trace.specs.Relay.{by_side, chosen_act, relay_act, behind_fires, collect_act}
use Rattle.conn_trace.proofs.Streams.{Grown}

abbrev pub side_in : Asks → Stream → Incoming
side_in asks s = record { asks = asks; stream = s }

-- what it does on a longer input, by what it does
abbrev pub ActSame : List Choice → Incoming → Incoming → RelayAct → RelayAct → Type 0
ActSame more c s BothDone a = a ≡ BothDone
ActSame more c s (Passing side n rest) a = (a ≡ Passing side n (rest ++ more)) × (n ≤ length (by_side side c s).stream.unread)
ActSame more c s (Firing side n rest) a = (a ≡ Firing side n (rest ++ more)) × (n ≤ length (by_side side c s).stream.unread)
ActSame more c s Resting a = Unit {0}

le_more : (n : ℕ) (xs ys : List ℕ) → nat_le n (length xs) ≡ true → nat_le n (length (xs ++ ys)) ≡ true
le_more n xs ys is =
    let a = leb-true n (length xs) is in
    let b = length-append xs ys in le-leb n (length (xs ++ ys)) (omega arith)

pub passes_within : (asks : Asks) (n : ℕ) (unread : List ℕ) → passes asks n unread ≡ true → n ≤ length unread
passes_within NotAsked n [] is = absurd (true≢false (sym is))
passes_within NotAsked n (b ∷ bs) is = leb-true n (length (b ∷ bs)) (and_parts (nat_lt 0 n) (nat_le n (length (b ∷ bs))) is).1
passes_within (Stated k) n unread is = absurd (true≢false (sym is))

passes_more : (asks : Asks) (n : ℕ) (unread more : List ℕ) → passes asks n unread ≡ true → passes asks n (unread ++ more) ≡ true
passes_more NotAsked n [] more is = absurd (true≢false (sym is))
passes_more NotAsked n (b ∷ bs) more is =
    let both = and_parts (nat_lt 0 n) (nat_le n (length (b ∷ bs))) is in
    and_from (nat_lt 0 n) (nat_le n (length (b ∷ (bs ++ more)))) both.0 (le_more n (b ∷ bs) more both.1)
passes_more (Stated k) n unread more is = absurd (true≢false (sym is))

-- a side with something to do isn't done
passes_busy : (asks : Asks) (n : ℕ) (s : Stream) (unread : List ℕ) → s.unread ≡ unread → passes asks n unread ≡ true → is_done (side_in asks s) ≡ false
passes_busy NotAsked n s [] here is = absurd (true≢false (sym is))
passes_busy NotAsked n s (b ∷ bs) here is = rw here (and_right s.ended false refl)
passes_busy (Stated k) n s unread here is = absurd (true≢false (sym is))

met_busy : (k : ℕ) (s : Stream) → nat_le k (length s.unread) ≡ true → is_done (side_in (Stated k) s) ≡ false
met_busy k s is = rw is (and_right s.ended false refl)

done_same : (asks : Asks) (s s' : Stream) → Grown s s' → is_done (side_in asks s) ≡ true → s' ≡ s
done_same asks s s' g is = g.ended (and_parts s.ended (is_nothing (ready asks s.unread)) is).0

-- one side isn't done
busy : (side : Side) (c s : Incoming) → is_done (by_side side c s) ≡ false → (is_done c && is_done s) ≡ false
busy Client c s is = rw is refl
busy Server c s is = and_right (is_done c) (is_done s) is

by_busy : (c s : Incoming) (choices : List Choice) → (is_done c && is_done s) ≡ false → relay_act c s choices ≡ chosen_act c s choices
by_busy c s choices is = rw is refl

meets_within : (asks : Asks) (unread : List ℕ) (n : ℕ) → meets asks unread ≡ Some n → (asks ≡ Stated n) × (nat_le n (length unread) ≡ true)
meets_within NotAsked unread n is = absurd (cc)
meets_within (Stated k) unread n is = by_test (nat_le k (length unread)) refl is where
  by_test : (b : Bool) → nat_le k (length unread) ≡ b → (if b then Some k else None) ≡ Some n → (Stated k ≡ Stated n) × (nat_le n (length unread) ≡ true)
  by_test false test is = absurd (cc)
  by_test true test is = let e : k ≡ n = cc in (ap Stated e, ap (λ x. nat_le x (length unread)) (sym e) ∙ test)

passing_at : (side : Side) (c s : Incoming) (c' s' : Stream) → Grown c.stream c' → Grown s.stream s' → (n : ℕ) (more : List Choice) → passes (by_side side c s).asks n (by_side side c s).stream.unread ≡ true
    → relay_act (side_in c.asks c') (side_in s.asks s') (PassesOn side n ∷ more) ≡ Passing side n more
passing_at Client c s c' s' gc gs n more is =
    let now : passes c.asks n c'.unread ≡ true = ap (passes c.asks n) gc.unread ∙ passes_more c.asks n c.stream.unread gc.more is in
    by_busy (side_in c.asks c') (side_in s.asks s') (PassesOn Client n ∷ more) (busy Client (side_in c.asks c') (side_in s.asks s') (passes_busy c.asks n c' c'.unread refl now))
    ∙ ap (λ b. if b then Passing Client n more else Resting) now
passing_at Server c s c' s' gc gs n more is =
    let now : passes s.asks n s'.unread ≡ true = ap (passes s.asks n) gs.unread ∙ passes_more s.asks n s.stream.unread gs.more is in
    by_busy (side_in c.asks c') (side_in s.asks s') (PassesOn Server n ∷ more) (busy Server (side_in c.asks c') (side_in s.asks s') (passes_busy s.asks n s' s'.unread refl now))
    ∙ ap (λ b. if b then Passing Server n more else Resting) now

met_more : (asks : Asks) (s s' : Stream) → Grown s s' → (k : ℕ) → meets asks s.unread ≡ Some k → (meets asks s'.unread ≡ Some k) × (is_done (side_in asks s') ≡ false)
met_more asks s s' g k is =
    let parts = meets_within asks s.unread k is in
    let now : nat_le k (length s'.unread) ≡ true = ap (λ u. nat_le k (length u)) g.unread ∙ le_more k s.unread g.more parts.1 in
    (ap (λ a. meets a s'.unread) parts.0 ∙ ap (λ b. if b then Some k else None) now, ap (λ a. is_done (side_in a s')) parts.0 ∙ met_busy k s' now)

firing_at : (side : Side) (c s : Incoming) (c' s' : Stream) → Grown c.stream c' → Grown s.stream s' → (n : ℕ) (more : List Choice) → meets (by_side side c s).asks (by_side side c s).stream.unread ≡ Some n
    → relay_act (side_in c.asks c') (side_in s.asks s') (Fires side ∷ more) ≡ Firing side n more
firing_at Client c s c' s' gc gs n more is =
    let now = met_more c.asks c.stream c' gc n is in
    by_busy (side_in c.asks c') (side_in s.asks s') (Fires Client ∷ more) (busy Client (side_in c.asks c') (side_in s.asks s') now.1)
    ∙ ap (firing Client more) now.0
firing_at Server c s c' s' gc gs n more is =
    let now = met_more s.asks s.stream s' gs n is in
    by_busy (side_in c.asks c') (side_in s.asks s') (Fires Server ∷ more) (busy Server (side_in c.asks c') (side_in s.asks s') now.1)
    ∙ ap (firing Server more) now.0

chosen_same : (c s : Incoming) (c' s' : Stream) → Grown c.stream c' → Grown s.stream s' → (choices more : List Choice)
    → ActSame more c s (chosen_act c s choices) (relay_act (side_in c.asks c') (side_in s.asks s') (choices ++ more))
chosen_same c s c' s' gc gs [] more = tt
chosen_same c s c' s' gc gs (PassesOn side n ∷ rest) more = by_test (passes (by_side side c s).asks n (by_side side c s).stream.unread) refl where
  by_test : (b : Bool) → passes (by_side side c s).asks n (by_side side c s).stream.unread ≡ b
      → ActSame more c s (if b then Passing side n rest else Resting) (relay_act (side_in c.asks c') (side_in s.asks s') (PassesOn side n ∷ (rest ++ more)))
  by_test false is = tt
  by_test true is = (passing_at side c s c' s' gc gs n (rest ++ more) is, passes_within (by_side side c s).asks n (by_side side c s).stream.unread is)
chosen_same c s c' s' gc gs (Fires side ∷ rest) more = by_met (meets (by_side side c s).asks (by_side side c s).stream.unread) refl where
  by_met : (m : Option ℕ) → meets (by_side side c s).asks (by_side side c s).stream.unread ≡ m
      → ActSame more c s (firing side rest m) (relay_act (side_in c.asks c') (side_in s.asks s') (Fires side ∷ (rest ++ more)))
  by_met None is = tt
  by_met (Some n) is = (firing_at side c s c' s' gc gs n (rest ++ more) is, leb-true n (length (by_side side c s).stream.unread) (meets_within (by_side side c s).asks (by_side side c s).stream.unread n is).1)
chosen_same c s c' s' gc gs (Reuses kept ∷ rest) more = tt

pub relay_same : (c s : Incoming) (c' s' : Stream) → Grown c.stream c' → Grown s.stream s' → (choices more : List Choice)
    → ActSame more c s (relay_act c s choices) (relay_act (side_in c.asks c') (side_in s.asks s') (choices ++ more))
relay_same c s c' s' gc gs choices more = by_test (is_done c && is_done s) refl where
  by_test : (b : Bool) → (is_done c && is_done s) ≡ b → ActSame more c s (if b then BothDone else chosen_act c s choices) (relay_act (side_in c.asks c') (side_in s.asks s') (choices ++ more))
  by_test false is = chosen_same c s c' s' gc gs choices more
  by_test true is =
      let parts = and_parts (is_done c) (is_done s) is in
      ap (λ x. relay_act (side_in c.asks x) (side_in s.asks s') (choices ++ more)) (done_same c.asks c.stream c' gc parts.0)
      ∙ (ap (λ x. relay_act c (side_in s.asks x) (choices ++ more)) (done_same s.asks s.stream s' gs parts.1)
      ∙ ap (λ b. if b then BothDone else chosen_act c s (choices ++ more)) is)

pub collect_same : (n : ℕ) (c : Stream) (s : Incoming) (c' : Stream) → Grown c c' → (choices more : List Choice)
    → ActSame more (side_in (Stated n) c) s (collect_act n c.unread (behind_fires choices)) (collect_act n c'.unread (behind_fires (choices ++ more)))
collect_same n c s c' g [] more = tt
collect_same n c s c' g (PassesOn side k ∷ rest) more = tt
collect_same n c s c' g (Fires Client ∷ rest) more = by_test (nat_le n (length c.unread)) refl where
  by_test : (b : Bool) → nat_le n (length c.unread) ≡ b
      → ActSame more (side_in (Stated n) c) s (if b then Firing Client n rest else Resting) (if nat_le n (length c'.unread) then Firing Client n (rest ++ more) else Resting)
  by_test false is = tt
  by_test true is =
      let now : nat_le n (length c'.unread) ≡ true = ap (λ u. nat_le n (length u)) g.unread ∙ le_more n c.unread g.more is in
      (ap (λ b. if b then Firing Client n (rest ++ more) else Resting) now, leb-true n (length c.unread) is)
collect_same n c s c' g (Fires Server ∷ rest) more = tt
collect_same n c s c' g (Reuses kept ∷ rest) more = tt
