-- Bytes that are read alone: their items, the ends behind them, and the host that holds them.
use Rattle.std.proofs.Common.{◌≡◌, refl, sym, ap, ◌∙◌, ℕ, zero, suc, ◌+◌, ◌-◌, ◌≤◌, List, [], ◌∷◌, ◌++◌, append-nil, length, Bool, true, false, true≢false, ◌||◌, None, nat_eq, arith}
use Rattle.std.proofs.lemmas.Bool.Decides.{nat_tests}
use Rattle.px_bytes.specs.declared.addr.Side.{Side}
use Rattle.px_bytes.specs.declared.addr.Side.TheVariants.{Client, Server}
use Rattle.http_frames.specs.declared.state.BodyState.{BodyState}
use Rattle.conn_trace.specs.Fronts.{one_less}
use Rattle.conn_trace.specs.Gates.{Counts, Met, TakenCounts}
use Rattle.conn_trace.specs.Host.{HostState, http_of}
use Rattle.conn_trace.specs.Http.{with_gathered}
use Rattle.conn_trace.specs.Item.{calls_in, choices_in, client_output, server_output}
use Rattle.conn_trace.specs.Messages.{gathered_on, gathered_place, http_at}
use Rattle.conn_trace.specs.Places.{gather_event}
use Rattle.conn_trace.specs.Setup.{Setup}
use Rattle.conn_trace.specs.State.{Link, TraceState, read_side, stream_of}
use Rattle.conn_trace.specs.Trace.{Unfolds}
use Rattle.conn_trace.specs.Units.{after_bytes, gathered_bytes, read_items}
use Rattle.conn_trace.proofs.Slices.{gathered_at_once}
use Rattle.conn.specs.Ends.{arrived, end_of}
use Rattle.conn.specs.Events.{event_of, gathered_at, is_closing}
use Rattle.conn.specs.Gathering.{gathered}
use Rattle.conn.specs.Holds.{Around, Holds, HoldsEnds}
use Rattle.conn.specs.Relaying.{read_ends}
use Rattle.conn.specs.Servers.{ServerQueue, queue_along, queue_at_server, run_notes}
use Rattle.conn.specs.Stages.{at_fits}
use Rattle.conn.specs.declared.connection.Conn.{Conn}
use Rattle.conn.specs.declared.ends.Ends.{Ends}
use Rattle.conn.specs.declared.events.At.TheVariants as event
use Rattle.conn.proofs.Dropped.{client_read}
use Rattle.conn.proofs.Giving.{Gave, quiet_queue}
use Rattle.conn.proofs.Joining.{TakesNone, TakesNoCut, none_needed}
use Rattle.conn.proofs.Moving.{read_link, side_read, stream_is}
use Rattle.conn.proofs.Passing.{up_is}

-- ---- items that read alone

reads_client : (side : Side) (bytes : List ℕ) → client_output (read_items side bytes) ≡ []
reads_client side [] = refl
reads_client side (b ∷ bytes) = reads_client side bytes

reads_none : (side : Side) (bytes : List ℕ) → server_output 0 (read_items side bytes) ≡ []
reads_none side [] = refl
reads_none side (b ∷ bytes) = reads_none side bytes

reads_along : (side : Side) (bytes : List ℕ) (q : ServerQueue) → queue_along (read_items side bytes) q ≡ q
reads_along side [] q = refl
reads_along side (b ∷ bytes) q = ap (queue_along (read_items side bytes)) (quiet_queue q) ∙ reads_along side bytes q

reads_noted : (side : Side) (c : ℕ) (sent : Counts) (took : TakenCounts) (bytes : List ℕ) → run_notes c sent took (read_items side bytes) ≡ []
reads_noted side c sent took [] = refl
reads_noted side c sent took (b ∷ bytes) = reads_noted side c sent took bytes

reads_calls : (side : Side) (bytes : List ℕ) → calls_in (read_items side bytes) ≡ []
reads_calls side [] = refl
reads_calls side (b ∷ bytes) = reads_calls side bytes

reads_choices : (side : Side) (bytes : List ℕ) → choices_in (read_items side bytes) ≡ []
reads_choices side [] = refl
reads_choices side (b ∷ bytes) = reads_choices side bytes

reads_uncut : (side : Side) (bytes : List ℕ) → TakesNoCut (read_items side bytes)
reads_uncut side [] t = refl
reads_uncut side (b ∷ bytes) t = reads_uncut side bytes t

reads_met : (side : Side) (sent : Counts) (took : TakenCounts) (bytes : List ℕ) → Met sent took (read_items side bytes)
reads_met side sent took [] = tt
reads_met side sent took (b ∷ bytes) = (refl, reads_met side sent took bytes)

pub gave_reads : (g : Setup) (a : Around) (l at : TraceState) (c : ℕ) (old mid : Conn) (side : Side) (bytes : List ℕ) → l.answers.cut ≡ None → Unfolds g l (read_items side bytes) at → Holds g a at mid → mid.ends.client.queued ≡ old.ends.client.queued → queue_at_server mid.ends ≡ queue_at_server old.ends → mid.ends.edges ≡ old.ends.edges
    → (l.finished ≡ true → at.finished ≡ true) → Gave g a l at c old mid [] []
gave_reads g a l at c old mid side bytes none u holds client servers edges stays =
    let items = read_items side bytes in
    let takes : TakesNone items = (reads_choices side bytes, reads_uncut side bytes) in
    record {
      more = items;
      passes = record { passed = none_needed g a.took l at items items none takes u; met = reads_met side l.sent a.took bytes; cut = λ reason is. absurd (let e = sym (takes.1 a.took) ∙ is in cc) };
      holds = holds;
      client_queue = client ∙ sym (ap (λ x. old.ends.client.queued ++ x) (reads_client side bytes) ∙ append-nil old.ends.client.queued);
      servers = servers ∙ sym (reads_along side bytes (queue_at_server old.ends));
      edges = edges;
      to_none = reads_none side bytes;
      noted = sym (reads_noted side c l.sent a.took bytes);
      calls = reads_calls side bytes;
      still = λ e. takes;
      uncut = λ e. takes.1;
      stays = stays;
    }

-- ---- the ends and the host

pub client_stays : (side : Side) (n : ℕ) (e : Ends) → (read_ends side n e).client.queued ≡ e.client.queued
client_stays Client n e = refl
client_stays Server n e = refl

pub servers_stay : (side : Side) (n : ℕ) (e : Ends) → queue_at_server (read_ends side n e) ≡ queue_at_server e
servers_stay Client n e = refl
servers_stay Server n e = refl

pub edges_stay : (side : Side) (n : ℕ) (e : Ends) → (read_ends side n e).edges ≡ e.edges
edges_stay Client n e = refl
edges_stay Server n e = refl

-- the body of a response is gathered where its server is up
abbrev pub Fits : Side → Ends → Type 0
Fits side e = at_fits (gathered_at side) e.link ≡ true

pub fits_behind : (side : Side) (n : ℕ) (e : Ends) → Fits side e → Fits side (read_ends side n e)
fits_behind side n e fit = ap (at_fits (gathered_at side)) (read_link side n e) ∙ fit

pub ends_read : (side : Side) (a : Around) (l at : TraceState) (n : ℕ) (e : Ends) → HoldsEnds a l e → Fits side e → at.client ≡ (read_side side n l).client → at.server ≡ (read_side side n l).server → at.answers.connects ≡ l.answers.connects → at.sent ≡ l.sent → HoldsEnds a at (read_ends side n e)
ends_read Client a l at n e h fit client server connects sent = client_read a l at n e h client server connects sent
ends_read Server a l at n e h fit client server connects sent = side_read a l at Server n e h (up_is e.link fit) client server connects sent

pub stream_there : (side : Side) (a : Around) (l : TraceState) (e : Ends) → HoldsEnds a l e → Fits side e → stream_of side l ≡ arrived (end_of side e)
stream_there Client a l e h fit = h.client
stream_there Server a l e h fit = stream_is a l e h (up_is e.link fit) Server

pub gathered_some : (bytes : List ℕ) (s : BodyState) (h : HostState) → 1 ≤ length bytes → gathered_bytes bytes s h ≡ http_at (with_gathered bytes (after_bytes (length bytes) s) (http_of h)) h
gathered_some [] s h some = absurd (omega (arith, some))
gathered_some (b ∷ bytes) s h some = gathered_at_once b bytes s h

-- the event of what was gathered
pub event_is : (side : Side) → gather_event side ≡ event_of (gathered_at side)
event_is Client = refl
event_is Server = refl

pub never_closes : (side : Side) → is_closing (gathered_at side) ≡ false
never_closes Client = refl
never_closes Server = refl

pub never_closed : (side : Side) → gathered_at side ≡ event.ServerClosed → ⊥
never_closed Client = λ e. cc
never_closed Server = λ e. cc

-- the last byte that is wanted, or the last of the body
pub on_last : (g : Setup) (side : Side) (k : Link) (wanted : ℕ) (s : BodyState) (h : HostState) (whole : Bool) → (nat_eq wanted 1 || whole) ≡ true → gathered_on g side k (one_less wanted) s whole h ≡ gathered_place g side k h
on_last g side k wanted s h true is = refl
on_last g side k zero s h false is = refl
on_last g side k (suc zero) s h false is = refl
on_last g side k (suc (suc n)) s h false is =
    absurd (let e : nat_eq (suc (suc n)) 1 ≡ false = grind (arith, nat_tests) in true≢false (sym is ∙ ap (λ b. b || false) e))
