-- How many bytes may come.
use Rattle.std.proofs.Common.{◌≡◌, refl, sym, ap, ◌∙◌, ℕ, ◌-◌, List, [], ◌∷◌, drop, length, Bool, true, false, true≢false}
use Rattle.std.specs.Prelude.{if◌then◌else◌}
use Rattle.px_bytes.specs.declared.addr.Side.{Side}
use Rattle.px_bytes.specs.declared.addr.Side.TheVariants.{Client, Server}
use Rattle.irule_net.specs.State.{collected}
use Rattle.irule_net.specs.declared.state.Asks.{Asks}
use Rattle.conn_trace.specs.Queries as query
use Rattle.conn_trace.specs.Queries.{arriving, first_some, held_under, last_made, own_stream, unread_at, unread_limit}
use Rattle.conn_trace.specs.Setup.{Handler, Setup}
use Rattle.conn_trace.specs.State.{Bodies, Failing, Gated, Running, Phase, InEvent, Choosing, Selecting, Connecting, Answering, Releasing, Relaying, Collecting, Finishing, Draining, TraceState}
use Rattle.conn.specs.Calls.{Wants, counted_held, wanted_in}
use Rattle.conn.specs.Ends.{connects_by, end_of, fresh_end, has_stream, server_by}
use Rattle.conn.specs.Events.{collects_in, event_of}
use Rattle.conn.specs.Holds.{Around, Between, GatedBefore, Holds, HoldsEnds, RunsFirst, Stands}
use Rattle.conn.specs.Stages.{has_finished, in_event_of}
use Rattle.conn.specs.declared.connection.Conn.{Conn}
use Rattle.conn.specs.declared.ends.ConnectionEnd.{ConnectionEnd}
use Rattle.conn.specs.declared.ends.Ends.{Ends}
use Rattle.conn.specs.declared.ends.Link.{Link}
use Rattle.conn.specs.declared.ends.Link.TheVariants as link
use Rattle.conn.specs.declared.events.At.{At}
use Rattle.conn.specs.declared.events.At.TheVariants as at
use Rattle.conn.specs.declared.stage.Stage.{Stage}
use Rattle.conn.specs.declared.stage.Stage.TheVariants as stage

-- an event by its name, and a phase that is none
in_event_is : (side : Side) (e : At) (bodies : Bodies) → query.in_event_of side (InEvent (event_of e) bodies) ≡ collects_in side (event_of e)
in_event_is Client at.Accepted bodies = refl
in_event_is Client at.ClientData bodies = refl
in_event_is Client at.Selected bodies = refl
in_event_is Client at.Failed bodies = refl
in_event_is Client at.Connected bodies = refl
in_event_is Client at.Request bodies = refl
in_event_is Client at.RequestData bodies = refl
in_event_is Client at.Response bodies = refl
in_event_is Client at.ResponseData bodies = refl
in_event_is Client at.Leaving bodies = refl
in_event_is Client at.ServerData bodies = refl
in_event_is Client at.ServerClosed bodies = refl
in_event_is Client at.Closed bodies = refl
in_event_is Server at.Accepted bodies = refl
in_event_is Server at.ClientData bodies = refl
in_event_is Server at.Selected bodies = refl
in_event_is Server at.Failed bodies = refl
in_event_is Server at.Connected bodies = refl
in_event_is Server at.Request bodies = refl
in_event_is Server at.RequestData bodies = refl
in_event_is Server at.Response bodies = refl
in_event_is Server at.ResponseData bodies = refl
in_event_is Server at.Leaving bodies = refl
in_event_is Server at.ServerData bodies = refl
in_event_is Server at.ServerClosed bodies = refl
in_event_is Server at.Closed bodies = refl

abbrev is_in_event : Phase → Bool
is_in_event (InEvent e bodies) = true
is_in_event other = false

not_in : (side : Side) (p : Phase) → is_in_event p ≡ false → query.in_event_of side p ≡ false
not_in side (InEvent event bodies) e = absurd (true≢false e)
not_in Client p e = refl
not_in Server p e = refl

-- what counts as held is read of the same event, and where that is none of this side, of the same collect
record SameHeld (side : Side) (l : TraceState) (c : Conn) (st : Stage) : Type 0 where
  event : query.in_event_of side l.phase ≡ in_event_of side st
  asks : in_event_of side st ≡ false → (collected side l.host.net).asks ≡ (collected side c.host.net).asks

gated_event : (side : Side) (e : At) (hs : List Handler) (p : Phase) → GatedBefore (event_of e) hs p → query.in_event_of side p ≡ collects_in side (event_of e)
gated_event side e [] p k = absurd k
gated_event side e (b ∷ bs) p k = ap (query.in_event_of side) k ∙ in_event_is side e (Gated b bs)

first_held : (g : Setup) (side : Side) (e : At) (hs : List Handler) (n waiting : ℕ) (l : TraceState) (c : Conn) → RunsFirst g (event_of e) hs waiting l c → SameHeld side l c (stage.Running e n)
first_held g side e [] n waiting l c k = absurd k
first_held g side e (b ∷ bs) n waiting l c k = record { event = ap (query.in_event_of side) k.phase ∙ in_event_is side e (Running b bs _); asks = λ free. ap (λ x. x.asks) (sym (k.kept side free)) }

between_held : (side : Side) (l : TraceState) (c : Conn) (st : Stage) → Between l c → query.in_event_of side l.phase ≡ in_event_of side st → SameHeld side l c st
between_held side l c st b is = record { event = is; asks = λ free. ap (λ h. (collected side h.net).asks) b.host }

-- no event
plain_held : (side : Side) (l : TraceState) (c : Conn) (st : Stage) (p : Phase) → Between l c → l.phase ≡ p → is_in_event p ≡ false → in_event_of side st ≡ false → SameHeld side l c st
plain_held side l c st p b is none quiet = between_held side l c st b (ap (query.in_event_of side) is ∙ not_in side p none ∙ sym quiet)

same_held : (g : Setup) (side : Side) (st : Stage) (l : TraceState) (c : Conn) → Stands g st l c → SameHeld side l c st
same_held g side (stage.Gated e) l c k = between_held side l c (stage.Gated e) k.1 (gated_event side e (g.handlers (event_of e)) l.phase k.0)
same_held g side (stage.Running e n) l c k = first_held g side e (drop n (g.handlers (event_of e))) n 0 l c k.0
same_held g side (stage.Asking e n) l c k =
    let h = first_held g side e (drop n (g.handlers (event_of e))) n 1 l c k.0 in
    record { event = h.event; asks = h.asks }
same_held g side (stage.Failing e n kind line) l c k = between_held side l c (stage.Failing e n kind line) k.1 (ap (query.in_event_of side) k.0 ∙ in_event_is side e (Failing kind line (drop n (g.handlers (event_of e)))))
same_held g side stage.Choosing l c k = plain_held side l c stage.Choosing Choosing k.1 k.0 refl refl
same_held g side stage.Selecting l c k = plain_held side l c stage.Selecting _ k.1 k.0 refl refl
same_held g side (stage.Chosen addr) l c k = record { event = ap (query.in_event_of side) k.0 ∙ not_in side _ refl; asks = λ free. ap (λ h. (collected side h.net).asks) k.1.host }
same_held g side (stage.Connecting to) l c k = plain_held side l c (stage.Connecting to) (Connecting to) k.1 k.0 refl refl
same_held g side (stage.Answering to) l c k = plain_held side l c (stage.Answering to) (Answering to) k.1 k.0 refl refl
same_held g side stage.Collecting l c k = plain_held side l c stage.Collecting Collecting k.1 k.0 refl refl
same_held g side stage.AtHead l c k = plain_held side l c stage.AtHead _ k.1 k.0 refl refl
same_held g side stage.Continuing l c k = plain_held side l c stage.Continuing _ k.1 k.0 refl refl
same_held g side (stage.Gathering of wanted reader) l c k = plain_held side l c (stage.Gathering of wanted reader) _ k.1 k.0 refl refl
same_held g side stage.AtReuse l c k = plain_held side l c stage.AtReuse _ k.1 k.0 refl refl
same_held g side (stage.GivingUp w) l c k = plain_held side l c (stage.GivingUp w) _ k.1 k.0 refl refl
same_held g side (stage.Retiring w) l c k = plain_held side l c (stage.Retiring w) _ k.1 k.0 refl refl
same_held g side (stage.Heading of) l c k = plain_held side l c (stage.Heading of) _ k.1 k.0 refl refl
same_held g side (stage.Forwarding of reader standing) l c k = plain_held side l c (stage.Forwarding of reader standing) _ k.1 k.0 refl refl
same_held g side stage.AtResponse l c k = plain_held side l c stage.AtResponse _ k.1 k.0 refl refl
same_held g side (stage.Dropping reader) l c k = plain_held side l c (stage.Dropping reader) _ k.1 k.0 refl refl
same_held g side stage.Releasing l c k = plain_held side l c stage.Releasing Releasing k.1 k.0 refl refl
same_held g side (stage.Relaying first) l c k = plain_held side l c (stage.Relaying first) Relaying k.1 k.0 refl refl
same_held g side (stage.Finishing f) l c k = plain_held side l c (stage.Finishing f) _ k.1 k.0 refl refl
same_held g side stage.Draining l c k = plain_held side l c stage.Draining Draining k.1 k.0 refl refl
same_held g side stage.OutOfMemory l c k = absurd k
same_held g side (stage.Dropped n) l c k = absurd k

-- what lies unread is that of the end
server_unread : (k : Link) (s : ConnectionEnd) → (has_stream k ≡ false → s ≡ fresh_end) → unread_at (first_some (last_made (connects_by k s)) (own_stream (server_by k s))) ≡ s.unread
server_unread link.Absent s none = sym (ap (λ x. x.unread) (none refl))
server_unread link.Asked s none = sym (ap (λ x. x.unread) (none refl))
server_unread link.Refused s none = sym (ap (λ x. x.unread) (none refl))
server_unread link.Made s none = refl
server_unread link.Up s none = refl
server_unread link.GivenUp s none = refl
server_unread (link.Leaving w) s none = refl

unread_is : (a : Around) (l : TraceState) (e : Ends) → HoldsEnds a l e → (side : Side) → unread_at (arriving side l) ≡ (end_of side e).unread
unread_is a l e h Client = ap (λ s. s.unread) h.client
unread_is a l e h Server =
    ap (λ k. unread_at (first_some (last_made k) (own_stream l.server))) h.connects
    ∙ ap (λ v. unread_at (first_some (last_made (connects_by e.link e.server)) (own_stream v))) h.server
    ∙ server_unread e.link e.server h.nothing_came

-- what counts as held is that of the fields
abbrev held_by : Bool → Asks → ℕ → ℕ
held_by b asks n = if b then 0 else held_under asks n

held_is : (g : Setup) (a : Around) (l : TraceState) (c : Conn) → Holds g a l c → (side : Side) → query.counted_held side l ≡ counted_held side c
held_is g a l c h side =
    ap (λ b. held_by b (collected side l.host.net).asks (length (unread_at (arriving side l)))) same.event
    ∙ ap (λ u. held_by (in_event_of side c.stage) (collected side l.host.net).asks (length u)) (unread_is a l c.ends h.ends side)
    ∙ by_event (in_event_of side c.stage) refl
  where
    same : SameHeld side l c c.stage
    same = same_held g side c.stage l c h.stage

    by_event : (b : Bool) → in_event_of side c.stage ≡ b → held_by b (collected side l.host.net).asks (length (end_of side c.ends).unread) ≡ held_by b (collected side c.host.net).asks (length (end_of side c.ends).unread)
    by_event true is = refl
    by_event false is = ap (λ x. held_under x (length (end_of side c.ends).unread)) (same.asks is)

-- by whether it has finished, what lies unread, and what of it counts as held
abbrev wants_by : Bool → ℕ → ℕ → ℕ
wants_by b n k = if b then unread_limit else unread_limit - (n - k)

pub wants : (side : Side) (c : Conn) (n : ℕ) → n ≡ wanted_in side c → Wants side c n
wants side c n is g a l h order =
    is ∙ sym (
    ap (λ b. wants_by b (length (unread_at (arriving side l))) (query.counted_held side l)) h.finished
    ∙ ap (λ u. wants_by (has_finished c.stage) (length u) (query.counted_held side l)) (unread_is a l c.ends h.ends side)
    ∙ ap (wants_by (has_finished c.stage) (length (end_of side c.ends).unread)) (held_is g a l c h side))
