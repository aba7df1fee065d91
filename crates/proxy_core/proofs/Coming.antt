-- What comes of a connection, as the connection takes it.
use Rattle.std.proofs.Common.{◌≡◌, refl, sym, subst, ◌∙◌, ℕ, ◌≤◌, List, [], ◌++◌, length, length-append, Bool, true, false, ◌&&◌, if◌then◌else◌, arith}
use Rattle.std.specs.Prelude.{OnOk}
use Rattle.std.specs.declared.result.Result.{Result}
use Rattle.std.specs.declared.result.Result.TheVariants.{Ok, Err}
use Rattle.std.proofs.lemmas.List.{append_cancel_left}
use Rattle.px_bytes.specs.declared.addr.Side.{Side}
use Rattle.px_bytes.specs.declared.addr.Side.TheVariants.{Client, Server}
use Rattle.conn_trace.specs.Further.{longer, nothing_further}
use Rattle.core_events.specs.declared.input.Input.{Input}
use Rattle.core_events.specs.declared.input.Input.TheVariants.{Bytes, Ends, Resets, Connects, Takes}
use Rattle.conn_trace.specs.Heard.{edges_met}
use Rattle.conn_trace.specs.State.{TraceState}
use Rattle.conn.specs.Calls.{Connects as Answers, Hears, Resets as Reset, Takes as Took, connected_ends, ended_ends, heard_ends, reset_ends, reset_in, took_ends, took_more, unless_finished}
use Rattle.conn.specs.Holds.{Holds}
use Rattle.conn.specs.Queues.{queue_in}
use Rattle.conn.specs.Stages.{has_finished, is_draining}
use Rattle.conn.specs.declared.connection.Conn.{Conn}
use Rattle.conn.specs.declared.setup.Setup as given
use Rattle.conn.specs.declared.stage.Stage.TheVariants.{OutOfMemory}
use Rattle.conn.specs.declared.turn.ConnTurn.{ConnTurn}
use Rattle.conn.specs.declared.ends.Ends.{Ends as BothEnds}
use Rattle.conn.specs.Ends.{has_stream, heard_end, queued_in}
use Rattle.conn.specs.Runs.{DropsQueued, Runs}
use Rattle.conn.specs.Settling.{client_notes, close_notes, closing, gave_up, is_there, note_if, server_notes, settle_notes, settling}
use Rattle.core_events.specs.Edges.{edges_noted}
use Rattle.core_events.specs.declared.edges.Edges.{Edges}
use Rattle.core_events.specs.declared.note.Note.{Note}
use Rattle.core_events.specs.declared.note.Note.TheVariants.{CloseClient, CloseServer, Ended}
use Rattle.seg_buffer.specs.Bytes.{is_empty}
use Rattle.conn.proofs.Joining.{longer_nothing}
use Rattle.proxy_core.specs.Live.{ConnHears, ConnRuns, ends_met}

pub bytes_heard : (side : Side) (bytes : List ℕ) (old new : Conn) → Hears side (record { bytes = bytes; ended = false }) old new → new ≡ record old { ends = heard_ends (has_finished old.stage) side (record { bytes = bytes; ended = false }) old.ends } → ConnHears (Bytes side bytes) old new
bytes_heard Client bytes old new k is = record { hears = k; is = is }
bytes_heard Server bytes old new k is = record { hears = k; is = is }

pub end_heard : (side : Side) (old new : Conn) → Hears side (record { bytes = []; ended = true }) old new → new ≡ record old { ends = ended_ends (has_finished old.stage) side old.ends } → ConnHears (Ends side) old new
end_heard Client old new k is = record { hears = k; is = is }
end_heard Server old new k is = record { hears = k; is = is }

nothing_comes_of : (b : Bool) (l : TraceState) → longer (unless_finished b nothing_further) l ≡ longer nothing_further l
nothing_comes_of true l = refl
nothing_comes_of false l = refl

pub took_heard : (side : Side) (n : ℕ) (old new : Conn) → Took side n old new → new ≡ record old { ends = took_ends side n old.ends } → ConnHears (Takes side n) old new
took_heard side n old new k is = record {
  hears = λ g a l h order. (let P : TraceState → Type 0 = λ x. Holds g (took_more side n a) x new in subst P (sym (nothing_comes_of l.finished l ∙ longer_nothing l h.no_cut)) (k g a l h));
  is = is;
}

pub reset_heard : (side : Side) (old new : Conn) → Reset side old new → new ≡ record old { ends = reset_ends side old.ends } → ConnHears (Resets side) old new
reset_heard side old new k is = record {
  hears = λ g a l h order. (let P : TraceState → Type 0 = λ x. Holds g (reset_in side a) x new in subst P (sym (nothing_comes_of l.finished l ∙ longer_nothing l h.no_cut)) (k g a l h));
  is = is;
}

pub answer_heard : (made : Bool) (old new : Conn) → Answers made old new → new ≡ record old { ends = connected_ends (has_finished old.stage) made old.ends } → ConnHears (Connects made) old new
answer_heard true old new k is = record { hears = k; is = is }
answer_heard false old new k is = record { hears = k; is = is }

-- where memory was found
pub arrives : (side : Side) (bytes : List ℕ) {T E : Type 0} (result : Result T E) (old new : Conn) → OnOk result (Hears side (record { bytes = bytes; ended = false }) old new) → OnOk result (new ≡ record old { ends = heard_ends (has_finished old.stage) side (record { bytes = bytes; ended = false }) old.ends })
    → OnOk result (ConnHears (Bytes side bytes) old new)
arrives side bytes (Ok t) old new k is = bytes_heard side bytes old new k is
arrives side bytes (Err e) old new k is = tt

-- what a Run gave, and that one that found no memory before gave its last notes alone
pub conn_runs : (s : given.Setup) (number : ℕ) (old new : Conn) (before group after : List Note) (t : ConnTurn) (steps : ℕ) → after ≡ before ++ group → new.ends.edges ≡ edges_noted group old.ends.edges → Runs s number old new group t steps
    → (old.stage ≡ OutOfMemory → DropsQueued number (queued_in old.ends) old new before after t) → ConnRuns s number old new group t steps
conn_runs s number old new before group after t steps is edges runs failed = record {
  runs = runs;
  edges = edges;
  failed = λ there. (let d = failed there in (append_cancel_left before group (closing number old.ends.edges (queued_in old.ends)) (sym is ∙ d.noted), d.over));
}

-- where its ends stand for the outside
pub ends_edges : (i : Input) (f : Bool) (e : BothEnds) → (ends_met i f e).edges ≡ edges_met i e.edges
ends_edges (Bytes Client bytes) true e = refl
ends_edges (Bytes Client bytes) false e = refl
ends_edges (Bytes Server bytes) true e = refl
ends_edges (Bytes Server bytes) false e = by_stream (has_stream e.link)
  where
    by_stream : (b : Bool) → (if b then record e { server = heard_end (record { bytes = bytes; ended = false }) e.server } else e).edges ≡ e.edges
    by_stream true = refl
    by_stream false = refl
ends_edges (Ends side) f e = refl
ends_edges (Resets Client) f e = refl
ends_edges (Resets Server) f e = refl
ends_edges (Takes Client n) f e = refl
ends_edges (Takes Server n) f e = refl
ends_edges (Connects made) f e = refl

-- what is due is three notes at most
one_at_most : (b : Bool) (n : Note) → length (note_if b n) ≤ 1
one_at_most true n = omega arith
one_at_most false n = omega arith

few_settling : (over given : Bool) (c : ℕ) (e : Edges) (s k : Bool) (d : ℕ) → length (settling over given c e s k d) ≤ 3
few_settling true given c e s k d =
    let server : length (server_notes c s e) ≤ 1 = one_at_most (s && is_there e.server.state) (CloseServer c) in
    let client : length (client_notes c k e) ≤ 1 = one_at_most (k && is_there e.client.state) (CloseClient c) in
    let last : length (note_if (k && s) (Ended c d)) ≤ 1 = one_at_most (k && s) (Ended c d) in
    let closes = length-append (server_notes c s e) (client_notes c k e) in
    let all = length-append (close_notes c s k e) (note_if (k && s) (Ended c d)) in
    omega (arith, server, client, last, closes, all)
few_settling false given c e s k d =
    let server : length (server_notes c (given && s) e) ≤ 1 = one_at_most ((given && s) && is_there e.server.state) (CloseServer c) in
    omega (arith, server)

pub few_settled : (c : ℕ) (conn : Conn) → length (settle_notes c conn) ≤ 3
few_settled c conn = few_settling (is_draining conn.stage) (gave_up conn) c conn.ends.edges (is_empty (queue_in Server conn)) (is_empty (queue_in Client conn)) (queued_in conn.ends)
