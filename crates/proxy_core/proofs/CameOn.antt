-- A connection of the code on which something came: what it goes on with, for what was heard then.
use Rattle.std.proofs.Common.{◌≡◌, ◌⊎◌, inl, inr, refl, sym, ap, subst, ◌∙◌, ℕ, ◌*◌, ◌-◌, ◌≤◌, List, [], ◌∷◌, length, append-nil, Bool, true, false, true≢false, ◌||◌, Option, Some, None, if◌then◌else◌, arith, length-append}
use Rattle.std.specs.Bool.{MatchBool}
use Rattle.std.proofs.lemmas.List.{length-drop}
use Rattle.px_bytes.specs.declared.addr.Side.TheVariants.{Client, Server}
use Rattle.core_events.specs.declared.edges.Edges.{Edges}
use Rattle.core_events.specs.declared.note.Cause.TheVariants.{Memory}
use Rattle.core_events.specs.declared.note.Note.{Note}
use Rattle.core_events.specs.declared.note.Note.TheVariants.{Finish}
use Rattle.core_events.specs.Edges.{answered_edge, edge_ends, edge_resets, edges_noted}
use Rattle.conn_trace.specs.Further.{longer, nothing_comes, nothing_further}
use Rattle.core_events.specs.declared.event_kind.EventKind.TheVariants.{Comes}
use Rattle.core_events.specs.declared.input.Input.{Input}
use Rattle.core_events.specs.declared.input.Input.TheVariants.{Bytes, Ends, Resets, Connects, Takes}
use Rattle.conn_trace.specs.Heard.{Heard, taken, edges_met, hears, taken_by, has_made}
use Rattle.conn_trace.specs.Heard.{further_of, start_of}
use Rattle.conn_trace.specs.HeardLaws.{TellsNothing}
use Rattle.conn_trace.specs.Costs.{paid_by}
use Rattle.conn_trace.specs.Item.{Item, client_output}
use Rattle.conn_trace.specs.Phases.{Orderly}
use Rattle.conn_trace.specs.Setup.{Setup}
use Rattle.conn_trace.specs.State.{Cut, TraceState, link_of}
use Rattle.conn_trace.specs.Tellings.{notes_about, finish_told, failure_told}
use Rattle.conn_trace.specs.Trace.{Unfolds}
use Rattle.conn_trace.proofs.Streams.{nothing_stream, nothing_server, nothing_on_last}
use Rattle.conn.specs.Calls.{reset_end, reset_ends, unless_finished}
use Rattle.conn.specs.Ends.{connects_by, fresh_end, has_stream, queue_of, queued_in, server_by, servers_by}
use Rattle.conn.specs.Holds.{Around, Holds, HoldsEnds}
use Rattle.conn.specs.Paid.{Paid}
use Rattle.conn.specs.Settling.{is_over, noted_in, over_in, settle_notes, settling_at, took_all, given_up_at, gave_up}
use Rattle.conn.specs.Stages.{has_finished, is_asking, is_draining}
use Rattle.conn.specs.declared.connection.Conn.{Conn}
use Rattle.conn.specs.declared.ends.ConnectionEnd.{ConnectionEnd}
use Rattle.conn.specs.declared.ends.Ends.{Ends as BothEnds}
use Rattle.conn.specs.declared.ends.Link.{Link}
use Rattle.conn.specs.declared.ends.Link.TheVariants as link
use Rattle.conn.specs.declared.stage.Stage.{Stage}
use Rattle.conn.specs.declared.stage.Stage.TheVariants.{OutOfMemory}
use Rattle.conn.proofs.Arriving.{holds, resets_ends, with_edges}
use Rattle.conn.proofs.Giving.{ends_kept}
use Rattle.conn.proofs.Joining.{longer_nothing}
use Rattle.conn.proofs.Paying.{paid_ends, paid_longer}
use Rattle.conn.proofs.Taking.{takes_ends}
use Rattle.proxy_core.specs.Live.{ConnComes, ConnLacks, ConnMay, LiveComes, asks_in, edges_by_conn, ends_met, further_in, met_by, takes_memory}
use Rattle.proxy_core.specs.Moves.{came, is_drained_at, lacked, MovesBy, MovesFailed, MovesLacks, MovesOn}
use Rattle.record_model.specs.Past.{Past, ended_in, heard}
use Rattle.proxy_core.specs.Represents.{ConnectionContinues, Continues, HoldsQueues, Lacks, NeverBegan, around}
use Rattle.proxy_core.specs.Scheduler.{State, last_took, seen, seen_after, untaken_all}
use Rattle.record_model.specs.Setup.{setup_in, setup_of, stand_of}
use Rattle.run_config.specs.declared.config.Config.{Config}
use Rattle.proxy_core.proofs.CameAt.{UncutOr, heard_uncut, stands_come, stands_uncut}
use Rattle.proxy_core.proofs.Coming.{ends_edges}
use Rattle.proxy_core.proofs.GroupNotes.{About, AreDue, due_about, due_asks, due_failure, due_finish, due_quiet, ended_settling, quiet_finish, settling_due, tells_all}
use Rattle.proxy_core.proofs.Meeting.{TakesThere, met_at, around_last, around_met, come_further, come_told, last_further, none_made}
use Rattle.proxy_core.proofs.QueuesCame.{ComesThere, came_connects, connects_came, connects_last, queues_came}
use Rattle.proxy_core.proofs.ServerCounts.{took_last}
use Rattle.proxy_core.proofs.ServerLaws.{none_sent}
use Rattle.proxy_core.proofs.Standing.{stands_at}
use Rattle.proxy_core.proofs.ServerLeft.{all_made}
use Rattle.proxy_core.specs.Servers.{LateServer, Linked, has_server, made, serves_at}
use Rattle.proxy_core.specs.Sound.{TookWithin}

-- what goes on is what was told of it
pub to_standing : (C : Config) (h : Heard) (g : Setup) (place : List Item) (at : TraceState) (conn : Conn) → setup_of C h ≡ g → Unfolds g (start_of g h) place at → Holds g (around h) at conn → Holds (setup_of C h) (around h) (stand_of C h place) conn
to_standing C h g place at conn e u k =
    let P : TraceState → Type 0 = λ l. Holds (setup_of C h) (around h) l conn in
    let Q : Setup → Type 0 = λ y. Holds y (around h) at conn in
    subst P (sym (stands_at C h g place at e u)) (subst Q (sym e) k)

pub paid_standing : (C : Config) (h : Heard) (g : Setup) (place : List Item) (at : TraceState) (conn : Conn) (t p : ℕ) → setup_of C h ≡ g → Unfolds g (start_of g h) place at → Paid g at conn t p → Paid (setup_of C h) (stand_of C h place) conn t p
paid_standing C h g place at conn t p e u k =
    let P : TraceState → Type 0 = λ l. Paid (setup_of C h) l conn t p in
    let Q : Setup → Type 0 = λ y. Paid y at conn t p in
    subst P (sym (stands_at C h g place at e u)) (subst Q (sym e) k)

-- what comes of it brings no reply
none_replied : (input : Input) (finished : Bool) → (unless_finished finished (further_in input)).replies ≡ []
none_replied input true = refl
none_replied input false = refl

pub ends_standing : (C : Config) (h : Heard) (g : Setup) (place : List Item) (at : TraceState) (e : BothEnds) → setup_of C h ≡ g → Unfolds g (start_of g h) place at → HoldsEnds (around h) at e → HoldsEnds (around h) (stand_of C h place) e
ends_standing C h g place at e same u k = let P : TraceState → Type 0 = λ l. HoldsEnds (around h) l e in subst P (sym (stands_at C h g place at same u)) k

-- the outside was told of it what was due
pub noted_holds : (g : Setup) (a : Around) (l : TraceState) (c : ℕ) (notes : List Note) (conn : Conn) → AreDue c notes → Holds g a l conn → Holds g a l (noted_in notes conn)
noted_holds g a l c notes conn due h =
    holds g a a l l.client l.server l.answers.connects conn (noted_in notes conn).ends h (with_edges a l conn.ends h.ends (edges_noted notes conn.ends.edges) (due_asks c notes due conn.ends.edges)) h.fits (λ u. u) (λ e. e)

-- ---- its ends

pub no_stream : (ts : List (Option ℕ)) (k : Link) (b : Bool) (n : ℕ) → servers_by ts k b n ≡ [] → has_stream k ≡ false
no_stream ts link.Absent b n e = refl
no_stream ts link.Asked b n e = refl
no_stream ts link.Refused b n e = refl
no_stream ts link.Made b n e = absurd (let l = length-append ts (taken_by b n ∷ []) in let z = ap length e in omega (arith, l, z))
no_stream ts link.Up b n e = absurd (let l = length-append ts (taken_by b n ∷ []) in let z = ap length e in omega (arith, l, z))
no_stream ts (link.Leaving w) b n e = absurd (let l = length-append ts (taken_by b n ∷ []) in let z = ap length e in omega (arith, l, z))
no_stream ts link.GivenUp b n e = absurd (let l = length-append ts (taken_by b n ∷ []) in let z = ap length e in omega (arith, l, z))

none_queued : (e : ConnectionEnd) → e ≡ fresh_end → length (queue_of e) ≡ 0
none_queued e is = ap (λ x. length (queue_of x)) is

-- bytes of a server may come where the trace says so
pub stream_is : (a : Around) (l : TraceState) (e : BothEnds) → HoldsEnds a l e → serves_at l ≡ has_stream e.link
stream_is a l e k = ap (λ v. has_server (link_of v) l.answers.connects) k.server ∙ ap (has_server (link_of (server_by e.link e.server))) k.connects ∙ by_link e.link
  where
    by_link : (x : Link) → has_server (link_of (server_by x e.server)) (connects_by x e.server) ≡ has_stream x
    by_link link.Absent = refl
    by_link link.Asked = refl
    by_link link.Refused = refl
    by_link link.Made = refl
    by_link link.Up = refl
    by_link link.GivenUp = refl
    by_link (link.Leaving w) = refl

-- what a server takes is taken by one that was made
pub takes_there : (i : Input) (h : Heard) (l : TraceState) (conn : Conn) → (h.late ≡ true → has_stream conn.ends.link ≡ false) → HoldsEnds (around h) l conn.ends → ConnMay i conn → TakesThere i h
takes_there (Bytes side bytes) h l conn away k m = tt
takes_there (Ends side) h l conn away k m = tt
takes_there (Resets Client) h l conn away k m = tt
takes_there (Resets Server) h l conn away k m = tt
takes_there (Connects made) h l conn away k m = tt
takes_there (Takes Client n) h l conn away k m = tt
takes_there (Takes Server n) h l conn away k m =
    let none : has_stream conn.ends.link ≡ false → n ≡ 0 = λ e. (let z = none_queued conn.ends.server (k.nothing_came e) in omega (arith, m, z)) in
    (λ e. none (no_stream k.earlier conn.ends.link conn.ends.server.reset (last_took h.connects) (sym k.servers_took ∙ none_made h.connects e)), λ e. none (away e))

-- a reset leaves the ends where no server is there
late_ends : (a : Around) (l : TraceState) (e : BothEnds) → has_stream e.link ≡ false → HoldsEnds a l e → HoldsEnds a l (reset_ends Server e)
late_ends a l e none h =
    let P : Bool → Type 0 = λ b. HoldsEnds a l (record e { server = if b then reset_end e.server else e.server; edges = edge_resets Server e.edges }) in
    subst P (sym none) (with_edges a l e h (edge_resets Server e.edges) (λ is. is))

-- what it holds behind something that comes, by whether the last one was made behind the finish
met_holds : (g : Setup) (late : Bool) (i : Input) (a : Around) (l : TraceState) (old new : Conn) → (late ≡ true → has_stream old.ends.link ≡ false) → Holds g a l old → new ≡ record old { ends = ends_met i (has_finished old.stage) old.ends }
    → Holds g (met_by i l.finished a) (longer (unless_finished l.finished (further_in i)) l) new → Holds g (met_at late i l.finished a) (longer (unless_finished l.finished (further_in i)) l) new
met_holds g late (Bytes side bytes) a l old new away h is held = held
met_holds g late (Ends side) a l old new away h is held = held
met_holds g late (Resets Client) a l old new away h is held = held
met_holds g late (Takes side n) a l old new away h is held = held
met_holds g late (Connects made) a l old new away h is held = held
met_holds g late (Resets Server) a l old new away h is held = by_late late away
  where
    by_finish : (b : Bool) → longer (unless_finished b (further_in (Resets Server))) l ≡ longer nothing_further l
    by_finish true = refl
    by_finish false = refl

    by_late : (b : Bool) → (b ≡ true → has_stream old.ends.link ≡ false) → Holds g (met_at b (Resets Server) l.finished a) (longer (unless_finished l.finished (further_in (Resets Server))) l) new
    by_late false none = held
    by_late true none =
        let x = reset_ends Server old.ends in
        let P : Conn → Type 0 = λ y. Holds g a (longer (unless_finished l.finished (further_in (Resets Server))) l) y in
        let Q : TraceState → Type 0 = λ y. Holds g a y (record old { ends = x }) in
        subst P (sym is) (subst Q (sym (by_finish l.finished ∙ longer_nothing l h.no_cut)) (holds g a a l l.client l.server l.answers.connects old x h (late_ends a l old.ends (none refl) h.ends) h.fits (λ u. u) (λ e. e)))

-- what is known of its ends where something comes
pub comes_there : (g : Setup) (i : Input) (b : Bool) (h : Heard) (place : List Item) (l : TraceState) (conn : Conn) → Unfolds g (start_of g h) place l → TookWithin h place → (h.late ≡ true → has_stream conn.ends.link ≡ false) → HoldsEnds (around h) l conn.ends → ConnMay i conn → ComesThere h place i b conn.ends
comes_there g i b h place l conn u within away k m = record {
  later = λ n above. none_sent g (start_of g h) l place n u (let all = all_made g h place l u in omega (arith, above, all));
  within = (let w = within.servers (made h.connects) in let t = took_last h.connects in omega (arith, w, t));
  free = λ answer is going. ap (λ x. x.queued) (k.nothing_came (ap has_stream (k.connecting (subst (λ x. ConnMay x conn) is m))));
  few = λ n is. by_reset n conn.ends.server.reset (subst (λ x. ConnMay x conn) is m);
  there = λ s. by_made (has_made h.connects) refl s;
  none = λ s. ap (λ x. x.queued) (k.nothing_came s);
  late = away;
}
  where
    by_reset : (n : ℕ) (b : Bool) → n ≤ length (if b then [] else conn.ends.server.queued) → n ≤ length conn.ends.server.queued
    by_reset n true le = omega (arith, le)
    by_reset n false le = le

    by_made : (b : Bool) → has_made h.connects ≡ b → has_stream conn.ends.link ≡ true → has_made h.connects ≡ true
    by_made true e s = e
    by_made false e s = absurd (true≢false (sym s ∙ no_stream k.earlier conn.ends.link conn.ends.server.reset (last_took h.connects) (sym k.servers_took ∙ none_made h.connects e)))

-- the ends of one that has finished
pub finished_ends : (late : Bool) (i : Input) (a : Around) (l : TraceState) (conn : Conn) → (late ≡ true → has_stream conn.ends.link ≡ false) → ConnMay i conn → HoldsEnds a l conn.ends → HoldsEnds (met_at late i true a) l (ends_met i true conn.ends)
finished_ends late (Bytes side bytes) a l conn away m h = h
finished_ends late (Ends Client) a l conn away m h = with_edges a l conn.ends h (edge_ends Client conn.ends.edges) (λ is. is)
finished_ends late (Ends Server) a l conn away m h = with_edges a l conn.ends h (edge_ends Server conn.ends.edges) (λ is. is)
finished_ends late (Resets Client) a l conn away m h = resets_ends a l Client conn.ends h
finished_ends true (Resets Server) a l conn away m h = late_ends a l conn.ends (away refl) h
finished_ends false (Resets Server) a l conn away m h = resets_ends a l Server conn.ends h
finished_ends late (Takes side n) a l conn away m h = takes_ends a l side n conn.ends m h
finished_ends late (Connects true) a l conn away m h = with_edges a l conn.ends h (record conn.ends.edges { server = answered_edge true }) (λ is. absurd (let x : false ≡ true = is in cc))
finished_ends late (Connects false) a l conn away m h = with_edges a l conn.ends h (record conn.ends.edges { server = answered_edge false }) (λ is. absurd (let x : false ≡ true = is in cc))

-- nothing that comes leaves them
nothing_ends : (a : Around) (l : TraceState) (e : BothEnds) → HoldsEnds a l e → HoldsEnds a (longer nothing_further l) e
nothing_ends a l e h = ends_kept a l (longer nothing_further l) e e h (nothing_stream nothing_comes l.client refl) (nothing_server nothing_comes l.answers.connects l.server refl) (append-nil _ ∙ nothing_on_last nothing_comes l.answers.connects refl) refl refl

-- what is queued to both, and was lost, is what was sent and not taken
pub queued_untaken : (h : Heard) (place : List Item) (e : BothEnds) → HoldsQueues h place e → queued_in e ≡ untaken_all h place
queued_untaken h place e q =
    let client : length e.client.queued ≡ length (client_output place) - h.client.took = ap length q.client ∙ length-drop h.client.took (client_output place) in
    let lost = q.lost in
    omega (arith, client, lost)

-- ---- what came

-- where the scheduler stands then
abbrev pub state_came : (lacks over : Bool) → ℕ → State → State
state_came true over c s = lacked c s
state_came false over c s = came c over s

-- whether it waits for a reply stays, unless it found no memory
pub record AsksOn (lacks : Bool) (before after : Option Conn) : Type 0 where
  pub same : lacks ≡ false → asks_in after ≡ asks_in before
  pub gone : lacks ≡ true → asks_in after ≡ false

-- what may come of it, where there is a connection
abbrev pub MayConn : Input → Option Conn → Type 0
MayConn input None = Unit {0}
MayConn input (Some conn) = ConnMay input conn

-- what its trace stands at, by what was heard
pub record Stood (C : Config) (h : Heard) (place : List Item) : Type 0 where
  pub stands : Unfolds (setup_of C h) (start_of (setup_of C h) h) place (stand_of C h place)
  pub orderly : Orderly (stand_of C h place)
  pub finished : h.failed ≡ false → (stand_of C h place).finished ≡ h.finished
  pub within : TookWithin h place
  pub linked : Linked h.finished (taken h) (stand_of C h place) h.edges.server.state
  pub late : LateServer h.late h.finished (stand_of C h place) h.edges.server.state

-- of the connection of which this came: whether it is over, and what it goes on with
pub record CameOn (C : Config) (past : Past) (s : State) (c : ℕ) (input : Input) (group : List Note) (over : Bool) (o o' : Option Conn) : Type 0 where
  pub lacks : Bool
  pub moves : MovesBy C past (Comes c input) group s (state_came lacks over c s)
  pub on : over ≡ false → ConnectionContinues C (seen_after past (Comes c input) group (state_came lacks over c s) c) o'
  pub about : About c group
  pub ended : ended_in group ≡ (if over then c ∷ [] else [])
  pub stays : lacks ≡ true → over ≡ false
  pub asks : AsksOn lacks o o'

or_false : (b : Bool) → (b || false) ≡ b
or_false true = refl
or_false false = refl

or_true : (b : Bool) → (b || true) ≡ true
or_true true = refl
or_true false = refl

module _ (C : Config) (past : Past) (s : State) (c : ℕ) (input : Input) (k : Stood C (heard c past) (s.places c)) where
  abbrev h : Heard
  h = heard c past

  abbrev place : List Item
  place = s.places c

  abbrev now : List Note → Heard
  now group = hears c h (Comes c input) group

  -- none is there behind one that was made behind the finish
  gone : (conn : Conn) → HoldsEnds (around h) (stand_of C h place) conn.ends → h.late ≡ true → has_stream conn.ends.link ≡ false
  gone conn held is = sym (stream_is (around h) (stand_of C h place) conn.ends held) ∙ k.late.gone is

  moves_failed : (group : List Note) (over : Bool) → h.failed ≡ true → group ≡ [] → over ≡ false → MovesBy C past (Comes c input) group s (came c over s)
  moves_failed group over failed none going =
      let M : Bool → Type 0 = λ b. MatchBool b (MovesFailed c group s (came c over s)) (MovesOn C (now group) c (edges_met input h.edges) group s (came c over s) ⊎ MovesLacks input c group s (came c over s)) in
      subst M (sym failed) (record { notes = none; state = ap (λ b. came c b s) going })

  moves_going : (group : List Note) (over : Bool) → h.failed ≡ false → group ≡ settling_at (setup_of C (now group)) (taken (now group)) (stand_of C (now group) place) c (edges_met input h.edges) (untaken_all (now group) place)
      → over ≡ is_drained_at C (now group) place → MovesBy C past (Comes c input) group s (came c over s)
  moves_going group over found notes drained =
      let M : Bool → Type 0 = λ b. MatchBool b (MovesFailed c group s (came c over s)) (MovesOn C (now group) c (edges_met input h.edges) group s (came c over s) ⊎ MovesLacks input c group s (came c over s)) in
      subst M (sym found) (inl (record { notes = notes; state = ap (λ b. came c b s) drained }))

  moves_lacks : takes_memory input ≡ true → h.failed ≡ false → MovesBy C past (Comes c input) (Finish c Memory ∷ []) s (lacked c s)
  moves_lacks memory found =
      let group : List Note = Finish c Memory ∷ [] in
      let M : Bool → Type 0 = λ b. MatchBool b (MovesFailed c group s (lacked c s)) (MovesOn C (now group) c (edges_met input h.edges) group s (lacked c s) ⊎ MovesLacks input c group s (lacked c s)) in
      subst M (sym found) (inr (record { memory = memory; notes = refl; state = refl }))

  -- one that found no memory before stays so
  stays_failed : (group : List Note) → h.failed ≡ true → (now group).failed ≡ true
  stays_failed group e = (come_told c h input group).failed ∙ ap (λ b. b || failure_told (notes_about c group)) e

  stays_finished : (group : List Note) → h.finished ≡ true → (now group).finished ≡ true
  stays_finished group e = (come_told c h input group).finished ∙ ap (λ b. b || finish_told (notes_about c group)) e

  same_setup : (group : List Note) → setup_of C (now group) ≡ setup_of C h
  same_setup group = ap (setup_in C) (come_told c h input group).accepted

  none_came : (group : List Note) (over : Bool) → NeverBegan (seen past s c) → group ≡ [] → over ≡ false → CameOn C past s c input group over None None
  none_came group over z none going = record {
    lacks = false;
    moves = moves_failed group over z.failed none going;
    on = λ e. record { failed = stays_failed group z.failed; finished = stays_finished group z.finished; no_items = z.no_items };
    about = (let P : List Note → Type 0 = λ x. About c x in subst P (sym none) tt);
    ended = ap ended_in none ∙ ap (λ (b : Bool). if b then c ∷ [] else []) (sym going);
    stays = λ e. cc;
    asks = record { same = λ e. refl; gone = λ e. cc };
  }

  -- not over, as nothing of it runs
  lacking_came : (old new : Conn) (group : List Note) (over : Bool) → Lacks C (seen past s c) old → ConnMay input old → ConnComes input c old new group over → CameOn C past s c input group over (Some old) (Some new)
  lacking_came old new group over z may w =
      let there : w.mid.stage ≡ OutOfMemory = ap (λ x. x.stage) w.hears.is ∙ z.there in
      let silent : settle_notes c w.mid ≡ [] = ap (λ (st : Stage). settle_notes c (record w.mid { stage = st })) there in
      let none : group ≡ [] = w.notes ∙ silent in
      let going : over ≡ false = w.over_is ∙ ap (λ (st : Stage). over_in (record w.mid { stage = st })) there in
      let new_is : new ≡ w.mid = w.is ∙ ap (λ ns. noted_in ns w.mid) silent in
      let quiet : TellsNothing c group = (let P : List Note → Type 0 = λ x. TellsNothing c x in subst P (sym none) (due_quiet c [] tt)) in
      let no_end : finish_told (notes_about c group) ≡ false = ap (λ x. finish_told (notes_about c x)) none in
      let first = takes_there input h (stand_of C h place) old (gone old z.ends) z.ends may in
      let ends_are : new.ends ≡ ends_met input true old.ends = ap (λ x. x.ends) new_is ∙ ap (λ x. x.ends) w.hears.is ∙ ap (λ st. ends_met input (has_finished st) old.ends) z.there in
      let told : around (now group) ≡ met_at h.late input true (around h) = around_met c h input group no_end first ∙ ap (λ b. met_at h.late input b (around h)) z.finished in
      let further : further_of c h (Comes c input) group ≡ nothing_further = come_further c h input group quiet no_end ∙ ap (λ b. unless_finished b (further_in input)) z.finished in
      let stands = stands_come (setup_of C h) c h input group place (stand_of C h place) (heard_uncut c past) quiet no_end k.stands in
      let F : _ → Type 0 = λ f. Unfolds (setup_of C h) (start_of (setup_of C h) (now group)) place (longer f (stand_of C h place)) in
      let A : Around → Type 0 = λ a. HoldsEnds a (longer nothing_further (stand_of C h place)) new.ends in
      let E : BothEnds → Type 0 = λ e. HoldsEnds (met_at h.late input true (around h)) (stand_of C h place) e in
      let held = nothing_ends (met_at h.late input true (around h)) (stand_of C h place) new.ends (subst E (sym ends_are) (finished_ends h.late input (around h) (stand_of C h place) old (gone old z.ends) may z.ends)) in
      let Q : BothEnds → Type 0 = λ e. HoldsQueues (now group) place e in
      record {
        lacks = false;
        moves = moves_failed group over z.failed none going;
        on = λ e. inr (record {
          failed = stays_failed group z.failed;
          finished = stays_finished group z.finished;
          there = ap (λ x. x.stage) new_is ∙ there;
          ends = ends_standing C (now group) (setup_of C h) place (longer nothing_further (stand_of C h place)) new.ends (same_setup group) (subst F further stands) (subst A (sym told) held);
          queues = subst Q (sym ends_are) (queues_came h (now group) place input true old.ends told (connects_came c h input group no_end ∙ ap (λ b. came_connects input b h) z.finished) (comes_there (setup_of C h) input true h place (stand_of C h place) old k.stands k.within (gone old z.ends) z.ends may) z.queues);
        });
        about = (let P : List Note → Type 0 = λ x. About c x in subst P (sym none) tt);
        ended = ap ended_in none ∙ ap (λ (b : Bool). if b then c ∷ [] else []) (sym going);
        stays = λ e. cc;
        asks = record { same = λ e. ap (λ x. is_asking x.stage) new_is ∙ ap (λ x. is_asking x.stage) w.hears.is; gone = λ e. cc };
      }

  going_came : (old new : Conn) (group : List Note) (over : Bool) → Continues C (seen past s c) old → h.edges ≡ old.ends.edges → ConnMay input old → ConnComes input c old new group over → CameOn C past s c input group over (Some old) (Some new)
  going_came old new group over z edges may w =
      let g = setup_of C h in
      let l = stand_of C h place in
      let mid = w.mid in
      let h' = now group in
      let f = further_of c h (Comes c input) group in
      let due : AreDue c group = (let P : List Note → Type 0 = λ x. AreDue c x in subst P (sym w.notes) (settling_due (is_draining mid.stage) (gave_up mid) c mid.ends.edges _ _ (queued_in mid.ends))) in
      let quiet = due_quiet c group due in
      let no_end : finish_told (notes_about c group) ≡ false = ap finish_told (tells_all c group (due_about c group due)) ∙ due_finish c group due in
      let no_failure : failure_told (notes_about c group) ≡ false = ap failure_told (tells_all c group (due_about c group due)) ∙ due_failure c group due in
      let finished : l.finished ≡ h.finished = k.finished z.not_failed in
      let away = gone old z.holds.ends in
      let there = takes_there input h l old away z.holds.ends may in
      let met = met_holds g h.late input (around h) l old mid away z.holds w.hears.is (w.hears.hears g (around h) l z.holds k.orderly) in
      let told : around h' ≡ met_at h.late input h.finished (around h) = around_met c h input group no_end there in
      let stands = stands_come g c h input group place l (heard_uncut c past) quiet no_end k.stands in
      let same : longer (unless_finished l.finished (further_in input)) l ≡ longer f l =
      ap (λ b. longer (unless_finished b (further_in input)) l) finished ∙ ap (λ x. longer x l) (sym (come_further c h input group quiet no_end)) in
      let P : TraceState → Type 0 = λ x. Holds g (around h') x mid in
      let Q : Around → Type 0 = λ y. Holds g y (longer (unless_finished l.finished (further_in input)) l) mid in
      let held : Holds g (around h') (longer f l) mid = subst P same (subst Q (ap (λ b. met_at h.late input b (around h)) finished ∙ sym told) met) in
      let standing : Holds (setup_of C h') (around h') (stand_of C h' place) mid = to_standing C h' g place (longer f l) mid (same_setup group) stands held in
      let longer_now = longer (unless_finished l.finished (further_in input)) l in
      let M : Conn → Type 0 = λ x. Paid g longer_now x (1991 * s.spent c) (paid_by place) in
      let L : TraceState → Type 0 = λ x. Paid g x mid (1991 * s.spent c) (paid_by place) in
      let grown = subst M (sym w.hears.is) (paid_longer g l old (ends_met input (has_finished old.stage) old.ends) (unless_finished l.finished (further_in input)) (1991 * s.spent c) (paid_by place) (none_replied input l.finished) z.paid) in
      let paid = paid_standing C h' g place (longer f l) mid (1991 * s.spent c) (paid_by place) (same_setup group) stands (subst L same grown) in
      let ends_are : mid.ends ≡ ends_met input (has_finished old.stage) old.ends = ap (λ x. x.ends) w.hears.is in
      let same_end : has_finished old.stage ≡ h.finished = sym z.holds.finished ∙ finished in
      let R : BothEnds → Type 0 = λ e. HoldsQueues h' place e in
      let queues : HoldsQueues h' place mid.ends = subst R (sym (ends_are ∙ ap (λ b. ends_met input b old.ends) same_end)) (queues_came h h' place input h.finished old.ends told (connects_came c h input group no_end) (comes_there g input h.finished h place l old k.stands k.within away z.holds.ends may) z.queues) in
      let S : Setup → Type 0 = λ y. Unfolds y (start_of y h') place (longer f l) in
      let left : queued_in mid.ends ≡ untaken_all h' place = queued_untaken h' place mid.ends queues in
      let edges_are : mid.ends.edges ≡ edges_met input h.edges = ap (λ x. x.edges) ends_are ∙ ends_edges input (has_finished old.stage) old.ends ∙ ap (edges_met input) (sym edges) in
      let settled = settling_at (setup_of C h') (taken h') (stand_of C h' place) c in
      let notes : group ≡ settled (edges_met input h.edges) (untaken_all h' place) =
      w.notes ∙ w.told (setup_of C h') (around h') (stand_of C h' place) standing ∙ ap (λ x. settled x (queued_in mid.ends)) edges_are ∙ ap (settled (edges_met input h.edges)) left in
      let drained : over ≡ is_drained_at C h' place = w.settles (setup_of C h') (around h') (stand_of C h' place) standing in
      let new_is : new ≡ noted_in group mid = w.is ∙ ap (λ ns. noted_in ns mid) (sym w.notes) in
      let N : Conn → Type 0 = λ x. Continues C (seen_after past (Comes c input) group (came c over s) c) x in
      record {
        lacks = false;
        moves = moves_going group over z.not_failed notes drained;
        on = λ e. inl (subst N (sym new_is) (record {
          not_failed = (come_told c h input group).failed ∙ ap (λ b. b || failure_told (notes_about c group)) z.not_failed ∙ no_failure;
          holds = noted_holds (setup_of C h') (around h') (stand_of C h' place) c group mid due standing;
          queues = record { client = queues.client; server = queues.server; lost = queues.lost };
          paid = paid_ends (setup_of C h') (stand_of C h' place) mid (noted_in group mid).ends _ _ paid;
        }));
        about = due_about c group due;
        ended = ap ended_in notes ∙ ended_settling (is_over _) (given_up_at (stand_of C h' place)) c (edges_met input h.edges) (took_all (stand_of C h' place) (taken h') Server) (took_all (stand_of C h' place) (taken h') Client) (untaken_all h' place) ∙ ap (λ (b : Bool). if b then c ∷ [] else []) (sym drained);
        stays = λ e. cc;
        asks = record { same = λ e. ap (λ x. is_asking x.stage) new_is ∙ ap (λ x. is_asking x.stage) w.hears.is; gone = λ e. cc };
      }

  -- bytes change no count
  met_bytes : (late : Bool) (i : Input) (a : Around) → takes_memory i ≡ true → met_at late i true a ≡ a
  met_bytes late (Bytes side bytes) a e = refl
  met_bytes late (Ends side) a e = cc
  met_bytes late (Resets side) a e = cc
  met_bytes late (Takes side n) a e = cc
  met_bytes late (Connects made) a e = cc

  met_ends : (i : Input) (e : BothEnds) → takes_memory i ≡ true → ends_met i true e ≡ e
  met_ends (Bytes side bytes) e m = refl
  met_ends (Ends side) e m = cc
  met_ends (Resets side) e m = cc
  met_ends (Takes side n) e m = cc
  met_ends (Connects made) e m = cc

  lacks_came : (old new : Conn) (group : List Note) (over : Bool) → Continues C (seen past s c) old → ConnMay input old → ConnLacks input c old new group over → CameOn C past s c input group over (Some old) (Some new)
  lacks_came old new group over z may lacks =
      let g = setup_of C h in
      let l = stand_of C h place in
      let last : List Note = Finish c Memory ∷ [] in
      let h' = now last in
      let going : h.finished ≡ false = sym (k.finished z.not_failed) ∙ z.holds.finished ∙ lacks.goes_on in
      let uncut = no_cut_yet h.cut h.finished going (heard_uncut c past) in
      let ends_it : finish_told (notes_about c last) ≡ true = ap finish_told (tells_all c last (refl, tt)) in
      let fails_it : failure_told (notes_about c last) ≡ true = ap failure_told (tells_all c last (refl, tt)) in
      let stands = stands_uncut g c h (Comes c input) last place l uncut (quiet_finish c) k.stands in
      let F : _ → Type 0 = λ f. Unfolds g (start_of g h') place (longer f l) in
      let away = gone old z.holds.ends in
      let met = around_last c h input last ends_it (takes_there input h l old away z.holds.ends may) in
      let told : around h' ≡ around h = met ∙ met_bytes h.late input (around h) lacks.memory in
      let queues = queues_came h h' place input true old.ends met (connects_last c h input last ends_it) (comes_there g input true h place l old k.stands k.within away z.holds.ends may) z.queues in
      let A : Around → Type 0 = λ a. HoldsEnds a (longer nothing_further l) new.ends in
      let E : BothEnds → Type 0 = λ e. HoldsEnds (around h) l e in
      let Q : BothEnds → Type 0 = λ e. HoldsQueues h' place e in
      let P : Bool → Type 0 = λ b. CameOn C past s c input group b (Some old) (Some new) in
      let G : List Note → Type 0 = λ x. CameOn C past s c input x false (Some old) (Some new) in
      subst P (sym lacks.not_over) (subst G (sym lacks.notes) (record {
        lacks = true;
        moves = moves_lacks lacks.memory z.not_failed;
        on = λ e. inr (record {
          failed = (come_told c h input last).failed ∙ ap (λ b. h.failed || b) fails_it ∙ or_true h.failed;
          finished = (come_told c h input last).finished ∙ ap (λ b. h.finished || b) ends_it ∙ or_true h.finished;
          there = lacks.there;
          ends = ends_standing C h' g place (longer nothing_further l) new.ends (same_setup last) (subst F (last_further c h (Comes c input) last (quiet_finish c) ends_it) stands)
              (subst A (sym told) (nothing_ends (around h) l new.ends (subst E (sym lacks.ends) z.holds.ends)));
          queues = subst Q (sym (lacks.ends ∙ sym (met_ends input old.ends lacks.memory))) queues;
        });
        about = (refl, tt);
        ended = refl;
        stays = λ e. refl;
        asks = record { same = λ e. cc; gone = λ e. ap is_asking lacks.there };
      }))
    where
      no_cut_yet : (o : Option Cut) (b : Bool) → b ≡ false → UncutOr o b → o ≡ None
      no_cut_yet o b e (inl u) = u
      no_cut_yet o b e (inr u) = cc

  pub came_on : (o o' : Option Conn) (edges : Edges) (group : List Note) (over : Bool) → ConnectionContinues C (seen past s c) o → h.edges ≡ edges_by_conn o edges → MayConn input o → LiveComes input c o o' group over → CameOn C past s c input group over o o'
  came_on None None edges group over z e may w = none_came group over z w.0 w.1
  came_on None (Some new) edges group over z e may w = absurd w
  came_on (Some old) None edges group over z e may w = absurd w
  came_on (Some old) (Some new) edges group over (inl z) e may (inl w) = going_came old new group over z e may w
  came_on (Some old) (Some new) edges group over (inr z) e may (inl w) = lacking_came old new group over z may w
  came_on (Some old) (Some new) edges group over (inl z) e may (inr w) = lacks_came old new group over z may w
  came_on (Some old) (Some new) edges group over (inr z) e may (inr w) = absurd (let x : true ≡ false = sym (ap has_finished z.there) ∙ w.goes_on in cc)
