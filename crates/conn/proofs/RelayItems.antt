-- A relay, by the fields of a trace's state.
use Rattle.std.proofs.Common.{◌≡◌, refl, ap, ◌∙◌, ℕ, ◌-◌, ◌≤◌, ◌<◌, List, [], ◌∷◌, length, min, Bool, true, false, ◌&&◌, ◌||◌, not, nat_le, nat_lt, if◌then◌else◌, Some, None, arith, le-leb, lt-ltb}
use Rattle.std.proofs.lemmas.Bool.{and_from}
use Rattle.std.proofs.lemmas.Bool.Decides.{nat_tests}
use Rattle.px_bytes.specs.declared.addr.Side.{Side}
use Rattle.px_bytes.specs.declared.addr.Side.TheVariants.{Client, Server}
use Rattle.irule_net.specs.declared.state.Asks.{Asks}
use Rattle.irule_net.specs.declared.state.Asks.TheVariants.{NotAsked, Stated}
use Rattle.conn_trace.specs.Gates.{Counts, TakenCounts, has_room, room_limit}
use Rattle.conn_trace.specs.Item.{Choice, PassesOn, Fires, Closed}
use Rattle.conn_trace.specs.Relay.{Incoming, by_side, firing, is_done, meets, passes, ready, ready_of, BothDone, Firing, Passing, Resting, chosen_act, relay_act}
use Rattle.conn_trace.specs.Setup.{Setup}
use Rattle.conn_trace.specs.State.{Relaying, ServerSide, Stream, There, link_of, TraceState, Next, Waits, ForRelay, IsMet, Nothing, stream_of}
use Rattle.conn_trace.specs.Places.{finish}
use Rattle.conn_trace.specs.Trace.{counted, may_relay, next_item, relay_next, rests}
use Rattle.conn.proofs.SelectItems.{next_in}

-- it relays, and these are the collects in force and what came of both sides and wasn't read
pub record InRelay (c s : Incoming) (l : TraceState) : Type 0 where
  pub no_cut : l.answers.cut ≡ None
  pub phase : l.phase ≡ Relaying
  pub client : l.client ≡ c.stream
  pub server : l.server ≡ There s.stream
  pub client_asks : l.host.net.client.asks ≡ c.asks
  pub server_asks : l.host.net.server.asks ≡ s.asks

-- bytes that may be passed
pub passes_some : (n : ℕ) (u : List ℕ) → 0 < n → n ≤ length u → passes NotAsked n u ≡ true
passes_some n [] some within = absurd (omega (arith, some, within))
passes_some n (b ∷ u) some within = and_from (nat_lt 0 n) (nat_le n (length (b ∷ u))) (lt-ltb 0 n some) (le-leb n (length (b ∷ u)) within)

-- a stated collect that is met
pub meets_some : (asks : Asks) (n : ℕ) (u : List ℕ) → asks ≡ Stated n → n ≤ length u → meets asks u ≡ Some n
meets_some asks n u is within = ap (λ x. meets x u) is ∙ ap (λ b. if b then Some n else None) (le-leb n (length u) within)

module _ (g : Setup) (c s : Incoming) (l : TraceState) (r : InRelay c s l) where
  relays_next : (choices : List Choice) → l.answers.choices ≡ choices → next_item g l ≡ counted l.sent (relay_next g l (relay_act c s choices))
  relays_next choices chosen =
      next_in g Relaying l.host (link_of l.server) l (record { phase = r.phase; host = refl; link = refl; no_cut = r.no_cut })
      ∙ ap (λ x. goes x l.client l.host.net.server.asks (stream_of Server l)) r.client_asks
      ∙ ap (λ x. goes c.asks x l.host.net.server.asks (stream_of Server l)) r.client
      ∙ ap (λ x. goes c.asks c.stream x (stream_of Server l)) r.server_asks
      ∙ ap (λ v. goes c.asks c.stream s.asks (server_of v)) r.server
      ∙ ap (λ x. counted l.sent (relay_next g l (relay_act c s x))) chosen
    where
      goes : Asks → Stream → Asks → Stream → Next
      goes a x b y = counted l.sent (relay_next g l (relay_act (record { asks = a; stream = x }) (record { asks = b; stream = y }) l.answers.choices))

      server_of : ServerSide → Stream
      server_of v = stream_of Server (record l { server = v })

  -- both sides are done
  pub relay_ends : (is_done c && is_done s) ≡ true → next_item g l ≡ finish g Closed l
  relay_ends over = relays_next l.answers.choices refl ∙ ap (λ b. counted l.sent (relay_next g l (if b then BothDone else chosen_act c s l.answers.choices))) over

  -- a chosen number of bytes is passed on
  pub relay_passes : (side : Side) (n : ℕ) (more : List Choice) → l.answers.choices ≡ PassesOn side n ∷ more → (is_done c && is_done s) ≡ false → (by_side side c s).asks ≡ NotAsked → 0 < n → n ≤ length (by_side side c s).stream.unread
      → next_item g l ≡ counted l.sent (relay_next g l (Passing side n more))
  relay_passes side n more chosen left free some within =
      let i = by_side side c s in
      relays_next (PassesOn side n ∷ more) chosen
      ∙ ap (λ b. counted l.sent (relay_next g l (if b then BothDone else chosen_act c s (PassesOn side n ∷ more)))) left
      ∙ ap (λ b. counted l.sent (relay_next g l (if b then Passing side n more else Resting))) (ap (λ x. passes x n i.stream.unread) free ∙ passes_some n i.stream.unread some within)

  -- a met collect fires
  pub relay_fires : (side : Side) (n : ℕ) (more : List Choice) → l.answers.choices ≡ Fires side ∷ more → (is_done c && is_done s) ≡ false → (by_side side c s).asks ≡ Stated n → n ≤ length (by_side side c s).stream.unread
      → next_item g l ≡ counted l.sent (relay_next g l (Firing side n more))
  relay_fires side n more chosen left asks within =
      let i = by_side side c s in
      relays_next (Fires side ∷ more) chosen
      ∙ ap (λ b. counted l.sent (relay_next g l (if b then BothDone else chosen_act c s (Fires side ∷ more)))) left
      ∙ ap (λ o. counted l.sent (relay_next g l (firing side more o))) (meets_some i.asks n i.stream.unread asks within)

  -- nothing is chosen: it waits
  pub relay_waits : l.answers.choices ≡ [] → (is_done c && is_done s) ≡ false → next_item g l ≡ Waits (ForRelay (ready_of c) (ready_of s))
  relay_waits none left =
      relays_next [] none
      ∙ ap (λ b. counted l.sent (relay_next g l (if b then BothDone else Resting))) left
      ∙ ap (λ x. waits x l.client l.host.net.server.asks (stream_of Server l)) r.client_asks
      ∙ ap (λ x. waits c.asks x l.host.net.server.asks (stream_of Server l)) r.client
      ∙ ap (λ x. waits c.asks c.stream x (stream_of Server l)) r.server_asks
      ∙ ap (λ v. waits c.asks c.stream s.asks (server_of v)) r.server
    where
      waits : Asks → Stream → Asks → Stream → Next
      waits a x b y = Waits (ForRelay (ready a x.unread) (ready b y.unread))

      server_of : ServerSide → Stream
      server_of v = stream_of Server (record l { server = v })

-- so many bytes of a side may be passed on now
abbrev pub may_pass : (unread : List ℕ) → (pending : ℕ) → ℕ
may_pass unread pending = min (length unread) (room_limit - pending)

-- where none may, the side doesn't keep the relay from resting
pub none_passes : (u : List ℕ) (p : ℕ) → may_pass u p ≡ 0 → may_relay (ready NotAsked u) (nat_lt p room_limit) ≡ false
none_passes [] p none = refl
none_passes (b ∷ u) p none = grind (arith, nat_tests, none)

-- nor does one whose collect isn't met
pub unmet_waits : (n : ℕ) (u : List ℕ) (room : Bool) → nat_le n (length u) ≡ false → may_relay (ready (Stated n) u) room ≡ false
unmet_waits n u room unmet = ap (λ b. may_relay (if b then IsMet else Nothing) room) unmet

pub some_passes : (u : List ℕ) (p : ℕ) → 0 < may_pass u p → nat_lt p room_limit ≡ true
some_passes u p some = grind (arith, nat_tests, some)

pub passes_within : (u : List ℕ) (p : ℕ) → may_pass u p ≤ length u
passes_within u p = omega arith

-- a relay of which nothing may be passed or collected rests
pub relay_rests : (c s : Incoming) (sent : Counts) (took : TakenCounts) → may_relay (ready_of c) (has_room sent took Server) ≡ false → may_relay (ready_of s) (has_room sent took Client) ≡ false → rests false (ForRelay (ready_of c) (ready_of s)) sent took ≡ true
relay_rests c s sent took first second = ap (λ b. not (b || may_relay (ready_of s) (has_room sent took Client))) first ∙ ap not second
