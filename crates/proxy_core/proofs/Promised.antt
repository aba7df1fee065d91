-- Parts of the promise, of a connection of which `Served` holds.
use Rattle.std.proofs.Common.{◌≡◌, refl, sym, ap, subst, ◌∙◌, ℕ, ◌+◌, ◌≤◌, List, [], ◌∷◌, ◌++◌, length, take, map, Bool, true, false, ◌&&◌, ◌||◌, true≢false, not, nat_eq, arith, eqb-true, append-nil, is_none, zero-add, ◌-◌, Option, Some, None, is_some}
use Rattle.std.proofs.lemmas.Bool.{and_parts}
use Rattle.std.proofs.lemmas.List.{take-append-le}
use Rattle.std.proofs.lemmas.Grind.{flat_map-append}
use Rattle.px_bytes.specs.declared.addr.Side.{Side}
use Rattle.px_bytes.specs.declared.addr.Side.TheVariants.{Client, Server}
use Rattle.core_events.specs.declared.edges.Edges.{Edges}
use Rattle.core_events.specs.declared.note.Cause.{Cause}
use Rattle.core_events.specs.declared.note.Cause.TheVariants.{Memory}
use Rattle.core_events.specs.declared.note.Note.{Note}
use Rattle.conn_trace.specs.Further.{is_some_of}
use Rattle.conn_trace.specs.Gates.{Counts, TakenCounts, no_bytes, to_take, untaken}
use Rattle.conn_trace.specs.Heard.{Heard, taken, taken_by}
use Rattle.conn_trace.specs.Item.{Item, Reason, cause_of, to_client, to_server, client_output, server_output, notes_of, reasons_in}
use Rattle.conn_trace.specs.Laws.{Stops, cut_is_taken, takes_cut}
use Rattle.conn_trace.specs.Setup.{Setup}
use Rattle.conn_trace.specs.State.{TraceState, Next, Does, Waits, Over, link_of, ForReply}
use Rattle.conn_trace.specs.Trace.{next_item, trace, GivesNoMore}
use Rattle.conn_trace.proofs.Given.{sent_output}
use Rattle.conn_trace.proofs.Stepping.{finishes_once}
use Rattle.conn_trace.proofs.Taking.{taken_all_opens}
use Rattle.conn_trace.proofs.Telling.{items_tell}
use Rattle.conn_trace.proofs.Unfolding.{trace_unfolds, stopped_is_whole}
use Rattle.core_events.specs.Edges.{edge_of}
use Rattle.conn_trace.specs.Queries.{half_close_due}
use Rattle.conn_trace.specs.Tellings.{failure_told, notes_about}
use Rattle.core_events.specs.declared.note.Note.TheVariants.{HalfClose}
use Rattle.core_events.specs.declared.note.CutReason.{CutReason}
use Rattle.core_events.specs.declared.note.CutReason.TheVariants.{ClientReset, ServerReset, Idle}
use Rattle.conn.specs.RunsItems.{cut_due, is_cut, licenses}
use Rattle.conn.specs.Settling.{half_close, is_drained, is_over, note_if, settling_at}
use Rattle.proxy_core.specs.declared.call.Asleep.{Asleep}
use Rattle.proxy_core.specs.Calls.{calls_of}
use Rattle.proxy_core.specs.Headline.{first_items, SentIsPrefix, IsSettled, EntriesAreCalls}
use Rattle.record_model.specs.Past.{Past, heard}
use Rattle.proxy_core.specs.Scheduler.{State, entries, Seen, seen, untaken_of, called_by, open_calls}
use Rattle.proxy_core.specs.Servers.{took_of}
use Rattle.record_model.specs.Setup.{setup_of, begins_at, stand_of}
use Rattle.proxy_core.specs.Shown.{causes_behind}
use Rattle.proxy_core.specs.Sound.{Rested, Spot, Served}
use Rattle.run_config.specs.declared.config.Config.{Config}
use Rattle.proxy_core.proofs.Answering.{heard_recorded}
use Rattle.proxy_core.proofs.Ending.{finished_is_over}
use Rattle.proxy_core.proofs.Finished.{heard_finish, stands_orderly, trace_finished}
use Rattle.conn_trace.specs.Phases.{Orderly, OrderlyIn}
use Rattle.proxy_core.proofs.Overs.{finished_plain, over_done}
use Rattle.proxy_core.proofs.Standing.{sent_at}

-- its trace behind its place
longer_front : (C : Config) (c : ℕ) (z : Seen) → Served C c z → (n : ℕ) → first_items C z.heard (length z.place + n) ≡ z.place ++ trace n (setup_of C z.heard) (stand_of C z.heard z.place)
longer_front C c z k n = trace_unfolds n (setup_of C z.heard) (begins_at C z.heard) (stand_of C z.heard z.place) z.place k.stands

same_taken : (took : ℕ) (place rest : List Item) → took ≤ length (client_output place) → take took (client_output (place ++ rest)) ≡ take took (client_output place)
same_taken took place rest h = ap (take took) (flat_map-append to_client place rest) ∙ take-append-le took (client_output place) (client_output rest) h

same_server : (took k : ℕ) (place rest : List Item) → took ≤ length (server_output k place) → take took (server_output k (place ++ rest)) ≡ take took (server_output k place)
same_server took k place rest h = ap (take took) (flat_map-append (to_server k) place rest) ∙ take-append-le took (server_output k place) (server_output k rest) h

pub sent_is_prefix : (C : Config) (c : ℕ) (z : Seen) → Served C c z → SentIsPrefix C z.heard z.place
sent_is_prefix C c z k =
    let e : length z.place + 0 ≡ length z.place = omega arith in
    record {
      passed = sym (ap (first_items C z.heard) (sym e) ∙ longer_front C c z k 0 ∙ append-nil z.place);
      longer = λ n. (trace n (setup_of C z.heard) (stand_of C z.heard z.place), longer_front C c z k n);
      took_within = k.within.client;
      taken = λ n. ap (λ items. take z.heard.client.took (client_output items)) (longer_front C c z k n) ∙ same_taken z.heard.client.took z.place _ k.within.client;
      server_took_within = k.within.servers;
      server_taken = λ n j. ap (λ items. take (took_of z.heard.connects j) (server_output j items)) (longer_front C c z k n) ∙ same_server (took_of z.heard.connects j) j z.place _ (k.within.servers j);
    }

-- where all is taken and no more may be given, the trace stops
stops_at : (asleep : Bool) (sent : Counts) (took : TakenCounts) (o : Next) → to_take sent took Client ≡ 0 → to_take sent took Server ≡ 0 → GivesNoMore asleep sent took o → Stops o
stops_at asleep sent took (Does i m) c s k = let t = taken_all_opens i sent took c s in let e : true ≡ false = sym t ∙ k in cc
stops_at asleep sent took (Waits w) c s k = tt
stops_at asleep sent took Over c s k = tt

-- and is whole
pub drained_is_whole : (asleep : Bool) (C : Config) (c : ℕ) (z : Seen) (k : Served C c z) → untaken_of z.heard z.place Client ≡ 0 → untaken_of z.heard z.place Server ≡ 0
    → GivesNoMore asleep (stand_of C z.heard z.place).sent (taken z.heard) (next_item (setup_of C z.heard) (stand_of C z.heard z.place)) → (n : ℕ) → first_items C z.heard (length z.place + n) ≡ z.place
drained_is_whole asleep C c z k client server gives n =
    let l = stand_of C z.heard z.place in
    let e = sent_at (setup_of C z.heard) z.heard z.place l k.stands in
    stopped_is_whole n (setup_of C z.heard) (begins_at C z.heard) l z.place k.stands
    (stops_at asleep l.sent (taken z.heard) (next_item (setup_of C z.heard) l) (ap (λ s. to_take s (taken z.heard) Client) e ∙ client) (ap (λ s. to_take s (taken z.heard) Server) e ∙ server) gives)

over_stops : (o : Next) → o ≡ Over → Stops o
over_stops o e = let P : Next → Type 0 = λ n. Stops n in subst P (sym e) tt

pub drained_over : (g : Setup) (took : TakenCounts) (at : TraceState) → is_drained g took at ≡ true → (next_item g at ≡ Over) × ((to_take at.sent took Client ≡ 0) × (to_take at.sent took Server ≡ 0))
drained_over g took at e =
    let parts = and_parts (is_over (next_item g at)) _ e in
    let counts = and_parts (nat_eq (to_take at.sent took Client) 0) (nat_eq (to_take at.sent took Server) 0) parts.1 in
    (is_over_at (next_item g at) parts.0, (eqb-true (to_take at.sent took Client) 0 counts.0, eqb-true (to_take at.sent took Server) 0 counts.1))
  where
    is_over_at : (o : Next) → is_over o ≡ true → o ≡ Over
    is_over_at (Does i l) k = cc
    is_over_at (Waits w) k = cc
    is_over_at Over k = refl

-- at rest
at_rest : (failed live : Bool) (g : Setup) (took : TakenCounts) (l : TraceState) (e : Edges) → live ≡ true → Spot failed live [] [] g took l e → (failed ≡ false) × Rested g took l e
at_rest false true g took l x e s = (refl, s)
at_rest true true g took l x e s = absurd s
at_rest failed false g took l x e s = cc

-- ended
at_end : (failed live : Bool) (ready : List ℕ) (asked : List (List (List ℕ))) (g : Setup) (took : TakenCounts) (l : TraceState) (x : Edges) → live ≡ false → failed ≡ false → Spot failed live ready asked g took l x → is_drained g took l ≡ true
at_end false false [] [] g took l x e f s = s
at_end false false [] (y ∷ ys) g took l x e f s = absurd s
at_end false false (y ∷ ys) asked g took l x e f s = absurd s
at_end true live ready asked g took l x e f s = cc
at_end false true ready asked g took l x e f s = cc

-- a call waits that sleeps
at_call : (failed live : Bool) (call : List (List ℕ)) (g : Setup) (took : TakenCounts) (l : TraceState) (e : Edges) → live ≡ true → Spot failed live [] (call ∷ []) g took l e → (failed ≡ false) × (next_item g l ≡ Waits (ForReply call))
at_call false true call g took l x e s = (refl, s)
at_call true true call g took l x e s = absurd s
at_call failed false call g took l x e s = cc

-- where it is settled: it rests, or its call sleeps
abbrev pub AtRest : Setup → TakenCounts → TraceState → Edges → Option Asleep → Type 0
AtRest g took l e None = Rested g took l e
AtRest g took l e (Some a) = next_item g l ≡ Waits (ForReply a.call)

pub settled_at : (C : Config) (c : ℕ) (s : State) (z : Seen) → z.ready ≡ entries c s.ring → z.asked ≡ open_calls c s → Served C c z → IsSettled s → z.live ≡ true
    → (z.heard.failed ≡ false) × AtRest (setup_of C z.heard) (taken z.heard) (stand_of C z.heard z.place) z.heard.edges (s.asleep c)
settled_at C c s z is asks k e live =
    let P : List ℕ → Type 0 = λ r. Spot z.heard.failed z.live r z.asked (setup_of C z.heard) (taken z.heard) (stand_of C z.heard z.place) z.heard.edges in
    let Q : List (List (List ℕ)) → Type 0 = λ a. Spot z.heard.failed z.live [] a (setup_of C z.heard) (taken z.heard) (stand_of C z.heard z.place) z.heard.edges in
    by_asleep (s.asleep c) (subst Q (asks ∙ ap (λ q. calls_of c q ++ called_by (s.asleep c)) e.none_asks) (subst P (is ∙ ap (entries c) e.none_ready) k.spot))
  where
    by_asleep : (o : Option Asleep) → Spot z.heard.failed z.live [] (called_by o) (setup_of C z.heard) (taken z.heard) (stand_of C z.heard z.place) z.heard.edges
        → (z.heard.failed ≡ false) × AtRest (setup_of C z.heard) (taken z.heard) (stand_of C z.heard z.place) z.heard.edges o
    by_asleep None s = at_rest z.heard.failed z.live (setup_of C z.heard) (taken z.heard) (stand_of C z.heard z.place) z.heard.edges live s
    by_asleep (Some a) s = at_call z.heard.failed z.live a.call (setup_of C z.heard) (taken z.heard) (stand_of C z.heard z.place) z.heard.edges live s

-- it gives no more, but for the reply to the call that sleeps
pub at_rest_gives : (g : Setup) (took : TakenCounts) (l : TraceState) (e : Edges) (o : Option Asleep) → AtRest g took l e o → GivesNoMore (is_some o) l.sent took (next_item g l)
at_rest_gives g took l e None r = r.gives_no_more
at_rest_gives g took l e (Some a) r = subst (λ n. GivesNoMore true l.sent took n) (sym r) refl

-- and no cut takes it
pub asleep_not_cut : (g : Setup) (l : TraceState) (call : List (List ℕ)) (took : TakenCounts) (reason : CutReason) → next_item g l ≡ Waits (ForReply call) → cut_is_taken g (record { reason = reason; took = took }) l ≡ false
asleep_not_cut g l call took reason e = ap (λ o. not l.finished && takes_cut g (record { reason = reason; took = took }) l.sent o) e ∙ by_reason reason
  where
    none : (b : Bool) → (b && false) ≡ false
    none true = refl
    none false = refl

    by_reason : (r : CutReason) → (not l.finished && takes_cut g (record { reason = r; took = took }) l.sent (Waits (ForReply call))) ≡ false
    by_reason ClientReset = none (not l.finished)
    by_reason ServerReset = none (not l.finished)
    by_reason Idle = none (not l.finished)

-- an ended one's trace is over and its sides took all
pub ended_at : (C : Config) (c : ℕ) (z : Seen) → Served C c z → z.live ≡ false → z.heard.failed ≡ false
    → (next_item (setup_of C z.heard) (stand_of C z.heard z.place) ≡ Over) × ((untaken_of z.heard z.place Client ≡ 0) × (untaken_of z.heard z.place Server ≡ 0))
ended_at C c z k e n =
    let g = setup_of C z.heard in
    let l = stand_of C z.heard z.place in
    let took = taken z.heard in
    let sent = sent_at g z.heard z.place l k.stands in
    let d = drained_over g took l (at_end z.heard.failed z.live z.ready z.asked g took l z.heard.edges e n k.spot) in
    (d.0, (ap (λ s. to_take s took Client) (sym sent) ∙ d.1.0, ap (λ s. to_take s took Server) (sym sent) ∙ d.1.1))

pub ended_is_whole : (C : Config) (c : ℕ) (z : Seen) → Served C c z → z.live ≡ false → z.heard.failed ≡ false → (n : ℕ) → first_items C z.heard (length z.place + n) ≡ z.place
ended_is_whole C c z k e n m =
    let g = setup_of C z.heard in
    let l = stand_of C z.heard z.place in
    stopped_is_whole m g (begins_at C z.heard) l z.place k.stands (over_stops (next_item g l) (ended_at C c z k e n).0)

second : (rs : List Reason) (failed : Bool) (first other : Cause) (more : List Cause) → length rs ≤ 1 → map cause_of rs ++ causes_behind failed ≡ first ∷ other ∷ more → (other ≡ Memory) × (more ≡ [])
second [] false first other more le e = cc
second [] true first other more le e = cc
second (r ∷ []) false first other more le e = cc
second (r ∷ []) true first other more le e = let f : Memory ≡ other = cc in let k : [] ≡ more = cc in (sym f, sym k)
second (r ∷ s ∷ rs) failed first other more le e = absurd (omega (arith, le))

pub one_reason : (rs : List Reason) → length rs ≤ 1 → is_some_of rs ≡ true → length rs ≡ 1
one_reason [] le e = cc
one_reason (r ∷ rs) le e = omega (arith, le)

-- a Finish more is for want of memory
pub second_memory : (C : Config) (c : ℕ) (z : Seen) → Served C c z → (first other : Cause) (more : List Cause) → map cause_of (reasons_in z.place) ++ causes_behind z.heard.failed ≡ first ∷ other ∷ more → (other ≡ Memory) × (more ≡ [])
second_memory C c z k first other more e =
    let f = finishes_once (setup_of C z.heard) (begins_at C z.heard).client (begins_at C z.heard).answers (stand_of C z.heard z.place) z.place k.stands in
    second (reasons_in z.place) z.heard.failed first other more f.once e

pub calls_promised : (past : Past) (s : State) (c : ℕ) (C : Config) → Served C c (seen past s c) → EntriesAreCalls (heard c past) (seen past s c).asked (s.places c)
calls_promised past s c C k = record {
  unanswered = k.told.unanswered;
  entries_are_calls = k.told.calls;
  answers_are_replies = heard_recorded c past;
  unanswered_is_last = k.told.few;
  unanswered_is_open = k.told.open_now;
}

-- ---- at rest nothing is due

none_first : (a b : List Note) → a ++ b ≡ [] → a ≡ []
none_first [] b e = refl
none_first (n ∷ a) b e = cc

none_second : (a b : List Note) → a ++ b ≡ [] → b ≡ []
none_second [] b e = e
none_second (n ∷ a) b e = cc

told_half : (due half : Bool) (n : Note) → note_if (due && not half) n ≡ [] → due ≡ true → half ≡ true
told_half true true n e d = refl
told_half true false n e d = cc
told_half false half n e d = cc

-- a half-close that is due was told
pub half_at_rest : (g : Setup) (took : TakenCounts) (l : TraceState) (e : Edges) → Rested g took l e → (side : Side) → half_close_due l took side ≡ true → (edge_of side e).half ≡ true
half_at_rest g took l e r Client due =
    told_half (half_close_due l took Client) e.client.half (HalfClose 0 Client)
    (none_first (half_close took l 0 e Client) (half_close took l 0 e Server ++ settling_at g took l 0 e 0) (r.told 0 0)) due
half_at_rest g took l e r Server due =
    told_half (half_close_due l took Server) e.server.half (HalfClose 0 Server)
    (none_first (half_close took l 0 e Server) (settling_at g took l 0 e 0) (none_second (half_close took l 0 e Client) (half_close took l 0 e Server ++ settling_at g took l 0 e 0) (r.told 0 0))) due

-- its causes, all but who allowed a cut and that it has finished where it ended
pub trace_memory : (c : ℕ) (place : List Item) → failure_told (notes_about c (notes_of c place)) ≡ false
trace_memory c place = (items_tell c place).found_memory

pub once_finished : (C : Config) (c : ℕ) (z : Seen) → Served C c z → length (reasons_in z.place) ≤ 1
once_finished C c z k = (finishes_once (setup_of C z.heard) (begins_at C z.heard).client (begins_at C z.heard).answers (stand_of C z.heard z.place) z.place k.stands).once

-- one that is over has finished
pub ended_finished : (C : Config) (c : ℕ) (z : Seen) → Served C c z → z.live ≡ false → z.heard.failed ≡ false → length (reasons_in z.place) ≡ 1
ended_finished C c z k e n =
    let g = setup_of C z.heard in
    let l = stand_of C z.heard z.place in
    let f = finishes_once g (begins_at C z.heard).client (begins_at C z.heard).answers l z.place k.stands in
    one_reason (reasons_in z.place) f.once (sym f.finished ∙ over_done g l f.orderly (ended_at C c z k e n).0)

-- ---- the client's counts

pub client_left : (h : Heard) (place : List Item) → untaken_of h place Client ≡ untaken (length (client_output place)) (taken_by h.client.reset h.client.took)
client_left h place = ap (λ n. untaken n (taken_by h.client.reset h.client.took)) (sent_output no_bytes place ∙ zero-add (length (client_output place)))

-- taken and pending are what was sent
pub client_counts : (h : Heard) (place : List Item) → h.client.took ≤ length (client_output place) → h.client.reset ≡ false → h.client.took + untaken_of h place Client ≡ length (client_output place)
client_counts h place within kept =
    let b : untaken_of h place Client ≡ length (client_output place) - h.client.took = client_left h place ∙ ap (λ x. untaken (length (client_output place)) (taken_by x h.client.took)) kept in
    omega (arith, b, within)

pub client_gone : (h : Heard) (place : List Item) → h.client.reset ≡ true → untaken_of h place Client ≡ 0
client_gone h place e = client_left h place ∙ ap (λ x. untaken (length (client_output place)) (taken_by x h.client.took)) e

-- an ended one's client took all, unless it was reset
pub client_took_all : (C : Config) (c : ℕ) (z : Seen) → Served C c z → z.live ≡ false → z.heard.failed ≡ false → z.heard.client.reset ≡ false → length (client_output z.place) ≡ z.heard.client.took
client_took_all C c z k e n kept =
    let a = (ended_at C c z k e n).1.0 in
    let b = client_counts z.heard z.place k.within.client kept in
    omega (arith, a, b)

-- ---- at rest no cut is due

-- what is licensed there isn't taken
none_taken : (licensed taken : Bool) → (licensed && taken) ≡ false → licensed ≡ true → taken ≡ false
none_taken true taken none e = none
none_taken false taken none e = absurd (true≢false (sym e))

neither : (a b : Bool) → (a || b) ≡ false → (a ≡ false) × (b ≡ false)
neither true b e = absurd (true≢false e)
neither false b e = (refl, e)

pub rest_not_cut : (g : Setup) (took : TakenCounts) (l : TraceState) → is_cut g took l ≡ false → (reason : CutReason) → licenses reason l took ≡ true
    → cut_is_taken g (record { reason = reason; took = took }) l ≡ false
rest_not_cut g took l none ClientReset e = none_taken (licenses ClientReset l took) (cut_is_taken g (record { reason = ClientReset; took = took }) l) (neither (cut_due g ClientReset took l) (cut_due g ServerReset took l) none).0 e
rest_not_cut g took l none ServerReset e = none_taken (licenses ServerReset l took) (cut_is_taken g (record { reason = ServerReset; took = took }) l) (neither (cut_due g ClientReset took l) (cut_due g ServerReset took l) none).1 e
rest_not_cut g took l none Idle e = absurd (true≢false (sym e))

-- a reset of the client is a licence there
pub client_license : (h : Heard) (at : TraceState) → h.client.reset ≡ true → licenses ClientReset at (taken h) ≡ true
client_license h at e = ap (λ b. is_none (taken_by b h.client.took)) e

-- ---- a settled one that has finished has ended

finished_over : (g : Setup) (l : TraceState) (took : TakenCounts) → Orderly l → l.finished ≡ true → to_take l.sent took Client ≡ 0 → to_take l.sent took Server ≡ 0
    → GivesNoMore false l.sent took (next_item g l) → next_item g l ≡ Over
finished_over g l took o f c s k =
    let P : Bool → Type 0 = λ b. OrderlyIn l.phase b (link_of l.server) in
    let Q : Next → Type 0 = λ n. GivesNoMore false l.sent took n in
    finished_plain g l f ∙ finished_is_over g l.phase l took (subst P f o) c s (subst Q (finished_plain g l f) k)

is_drained_by : (g : Setup) (took : TakenCounts) (l : TraceState) → next_item g l ≡ Over → to_take l.sent took Client ≡ 0 → to_take l.sent took Server ≡ 0 → is_drained g took l ≡ true
is_drained_by g took l o c s =
    ap (λ n. is_over n && (nat_eq (to_take l.sent took Client) 0 && nat_eq (to_take l.sent took Server) 0)) o
    ∙ ap (λ n. nat_eq n 0 && nat_eq (to_take l.sent took Server) 0) c ∙ ap (λ n. nat_eq n 0) s

not_live : (b : Bool) → (b ≡ true → ⊥) → b ≡ false
not_live true n = absurd (n refl)
not_live false n = refl

pub settled_has_ended : (C : Config) (past : Past) (s : State) (c : ℕ) → Served C c (seen past s c) → IsSettled s → (heard c past).finished ≡ true → s.asleep c ≡ None
    → untaken_of (heard c past) (s.places c) Client ≡ 0 → untaken_of (heard c past) (s.places c) Server ≡ 0 → (seen past s c).live ≡ false
settled_has_ended C past s c k e finished none a b = not_live (seen past s c).live (λ live. (let r = settled_at C c s (seen past s c) refl refl k e live in by_rest (r.0, subst (λ o. AtRest g (taken z.heard) l z.heard.edges o) none r.1)))
  where
    z : Seen
    z = seen past s c

    g : Setup
    g = setup_of C z.heard

    l : TraceState
    l = stand_of C z.heard z.place

    by_rest : (z.heard.failed ≡ false) × Rested g (taken z.heard) l z.heard.edges → ⊥
    by_rest r =
        let sent = sent_at g z.heard z.place l k.stands in
        let x : to_take l.sent (taken z.heard) Client ≡ 0 = ap (λ y. to_take y (taken z.heard) Client) sent ∙ a in
        let y : to_take l.sent (taken z.heard) Server ≡ 0 = ap (λ y. to_take y (taken z.heard) Server) sent ∙ b in
        let done = trace_finished C c z k (heard_finish c past) r.0 ∙ finished in
        let o = finished_over g l (taken z.heard) (stands_orderly C c z k) done x y r.1.gives_no_more in
        let m : true ≡ false = sym (is_drained_by g (taken z.heard) l o x y) ∙ r.1.not_over in cc
