-- What a Turn owes: the connection whose call is answered.
use Rattle.std.proofs.Common.{◌≡◌, refl, sym, ap, subst, ◌∙◌, ℕ, ◌+◌, ◌≤◌, List, [], ◌∷◌, ◌++◌, length, map, Bool, true, false, ◌||◌, Option, None, arith, append-nil, length-append, ◌-◌, ◌⊎◌, inl, inr}
use Rattle.std.specs.List.{filter, list_any}
use Rattle.std.proofs.lemmas.Grind.{flat_map-append}
use Rattle.px_bytes.specs.declared.addr.Side.{Side}
use Rattle.core_events.specs.declared.edges.Edges.{Edges}
use Rattle.core_events.specs.declared.note.Note.{Note}
use Rattle.core_events.specs.Edges.{edge_of, edges_noted, is_connecting}
use Rattle.conn_trace.specs.Further.{Further, longer, replies_only, CutMeets}
use Rattle.conn_trace.specs.Gates.{TakenCounts, no_bytes, Met, sent_from, to_take}
use Rattle.core_events.specs.declared.event_kind.EventKind.TheVariants.{Turns}
use Rattle.conn_trace.specs.Heard.{SideHeard, Heard, taken, hears, start_of}
use Rattle.conn_trace.specs.Item.{Item, to_client, to_server, cause_of, client_output, server_output, reasons_in}
use Rattle.conn_trace.specs.Setup.{Setup}
use Rattle.conn_trace.specs.State.{Cut, TraceState, ForReply, Waits}
use Rattle.conn_trace.specs.Tellings.{tells, notes_about, replies_told, choices_told, cut_told, finish_told, failure_told}
use Rattle.conn_trace.specs.Trace.{next_item, Unfolds}
use Rattle.conn_trace.proofs.Hearing.{event_stands, finished_stands}
use Rattle.record_model.specs.History.{called_in, entries_in}
use Rattle.proxy_core.specs.declared.call.Asked.{Asked}
use Rattle.record_model.specs.Past.{Past, heard, ended_in, without_all, shared}
use Rattle.proxy_core.specs.Ready.{is_in, with_ready}
use Rattle.proxy_core.specs.Scheduler.{State, seen, seen_after, untaken_all, servers_left}
use Rattle.proxy_core.specs.Servers.{took_of}
use Rattle.record_model.specs.Setup.{setup_in, setup_of, stand_of}
use Rattle.proxy_core.specs.Shown.{shows, closes_for_good, ends_it, causes_told, causes_behind}
use Rattle.proxy_core.specs.Servers.{Linked, closed_servers, draining, given_up}
use Rattle.proxy_core.specs.Sound.{is_closed, TookWithin, Spot, CallsTold, Served}
use Rattle.run_config.specs.declared.config.Config.{Config}
use Rattle.proxy_core.proofs.CameAt.{UncutOr, heard_uncut}
use Rattle.proxy_core.proofs.EdgeNotes.{edges_told}
use Rattle.proxy_core.proofs.Entries.{ready_of, entries_ready_self, open_front, open_with}
use Rattle.proxy_core.proofs.GroupNotes.{About, tells_all}
use Rattle.proxy_core.proofs.Hearing.{turn_told, turn_stays, turn_further}
use Rattle.proxy_core.proofs.Licensing.{cut_stays, stays_licensed}
use Rattle.proxy_core.proofs.Linking.{linked_now, longer_linked}
use Rattle.proxy_core.proofs.Standing.{longer_pays, served_at}
use Rattle.proxy_core.proofs.Sums.{causes_on, shown_on}
use Rattle.proxy_core.proofs.SoundComes.{calls_on, calls_answered, or_first, or_none, ends_told, ClosedNow, closed_by, closed_stays, closed_where, come_drains, longer_drains, took_each}
use Rattle.proxy_core.proofs.LateServers.{late_stays, turns_late, longer_serves}

pub within_same : (h h' : Heard) (place more : List Item) → h'.client ≡ h.client → h'.connects ≡ h.connects → TookWithin h place → TookWithin h' (place ++ more)
within_same h h' place more e f k = record {
  client = (let P : SideHeard → Type 0 = λ s. s.took ≤ length (client_output (place ++ more)) in
      subst P (sym e) (rw (ap length (flat_map-append to_client place more)) (simp length-append (omega (arith, k.client)))));
  servers = λ n. (let P : List (Option SideHeard) → Type 0 = λ cs. took_of cs n ≤ length (server_output n (place ++ more)) in
      subst P (sym f) (rw (ap length (flat_map-append (to_server n) place more)) (simp length-append (let w = k.servers n in omega (arith, w)))));
}

pub same_within : (h h' : Heard) (place : List Item) → h'.client ≡ h.client → h'.connects ≡ h.connects → TookWithin h place → TookWithin h' place
same_within h h' place e f k = record {
  client = (let P : SideHeard → Type 0 = λ s. s.took ≤ length (client_output place) in subst P (sym e) k.client);
  servers = λ n. (let P : List (Option SideHeard) → Type 0 = λ cs. took_of cs n ≤ length (server_output n place) in subst P (sym f) (k.servers n));
}

pub left_same : (h h' : Heard) (place : List Item) → h'.client ≡ h.client → h'.connects ≡ h.connects → untaken_all h' place ≡ untaken_all h place
left_same h h' place e f =
    let left : SideHeard → List (Option SideHeard) → ℕ = λ s cs. (length (client_output place) - s.took) + servers_left 1 cs place in
    ap (λ s. left s h'.connects) e ∙ ap (left h.client) f

-- Turns: the notes of an answered call, by whether memory was refused
pub record Answers (c : ℕ) (group : List Note) (fails : Bool) : Type 0 where
  pub about : About c group
  pub choices : choices_told (map tells group) ≡ []
  pub cut : (took : TakenCounts) → cut_told took (map tells group) ≡ None
  pub failure : failure_told (map tells group) ≡ fails
  pub ended : ended_in group ≡ []
  pub hidden : filter shows group ≡ []
  pub causes : causes_told group ≡ causes_behind fails
  pub goes_on : list_any ends_it group ≡ false
  pub opens : list_any closes_for_good group ≡ false
  pub closes_none : closed_servers group ≡ 0
  pub edges : (x : Edges) → edges_noted group x ≡ x

stands_turn : (g : Setup) (c : ℕ) (h : Heard) (group : List Note) (place : List Item) (l : TraceState) → UncutOr h.cut h.finished → choices_told (notes_about c group) ≡ [] → ((took : TakenCounts) → cut_told took (notes_about c group) ≡ None) → Unfolds g (start_of g h) place l
    → Unfolds g (start_of g (hears c h Turns group)) place (longer (replies_only (replies_told (notes_about c group))) l)
stands_turn g c h group place l (inl none) choices cut u =
    let P : Further → Type 0 = λ f. Unfolds g (start_of g (hears c h Turns group)) place (longer f l) in
    let Q : Option Cut → Type 0 = λ o. CutMeets o no_bytes place in
    subst P (turn_further c h group choices cut) (event_stands g c h Turns group place l none (subst Q (sym (cut _)) tt) u)
stands_turn g c h group place l (inr done) choices cut u = finished_stands g c h Turns group place l done choices cut u

-- the connection whose call is in front waits for its reply, and for no other
pub record AtCall (failed live : Bool) (ready : List ℕ) (call : List (List ℕ)) (more : List (List (List ℕ))) (g : Setup) (l : TraceState) : Type 0 where
  pub found : failed ≡ false
  pub is_live : live ≡ true
  pub not_ready : ready ≡ []
  pub one : more ≡ []
  pub waits : next_item g l ≡ Waits (ForReply call)

pub at_call : (failed live : Bool) (ready : List ℕ) (call : List (List ℕ)) (more : List (List (List ℕ))) (g : Setup) (took : TakenCounts) (l : TraceState) (ends : Edges) → Spot failed live ready (call ∷ more) g took l ends → AtCall failed live ready call more g l
at_call false true [] call [] g took l ends s = record { found = refl; is_live = refl; not_ready = refl; one = refl; waits = s }
at_call false true [] call (k ∷ ks) g took l ends s = absurd s
at_call false true (x ∷ []) call more g took l ends s = absurd s
at_call false true (x ∷ (y ∷ ys)) call more g took l ends s = absurd s
at_call false false [] call more g took l ends s = absurd s
at_call false false (x ∷ xs) call more g took l ends s = absurd s
at_call true true [] call more g took l ends s = absurd s
at_call true true (x ∷ []) call more g took l ends s = absurd s
at_call true true (x ∷ (y ∷ ys)) call more g took l ends s = absurd s
at_call true false [] call more g took l ends s = absurd s
at_call true false (x ∷ xs) call more g took l ends s = absurd s

ready_once : (failed : Bool) (c : ℕ) (g : Setup) (took : TakenCounts) (at : TraceState) (ends : Edges) → Spot failed true (c ∷ []) [] g took at ends
ready_once true c g took at ends = tt
ready_once false c g took at ends = tt

abbrev pub turned_to : Asked → List Asked → State → State
turned_to a rest old = record old { ring = with_ready old.ring a.conn; queue = rest }

-- where its call is in front
pub front_call : (C : Config) (past : Past) (a : Asked) (rest : List Asked) (old : State) → old.queue ≡ a ∷ rest → Served C a.conn (seen past old a.conn)
    → AtCall (heard a.conn past).failed (seen past old a.conn).live (seen past old a.conn).ready a.call (open_with a.conn rest (old.asleep a.conn)) (setup_of C (heard a.conn past)) (stand_of C (heard a.conn past) (old.places a.conn))
front_call C past a rest old e k =
    let z = seen past old a.conn in
    let S : List (List (List ℕ)) → Type 0 = λ x. Spot z.heard.failed z.live z.ready x (setup_of C z.heard) (taken z.heard) (stand_of C z.heard z.place) z.heard.edges in
    at_call z.heard.failed z.live z.ready a.call (open_with a.conn rest (old.asleep a.conn)) (setup_of C z.heard) (taken z.heard) (stand_of C z.heard z.place) z.heard.edges (subst S (open_front a rest old e) k.spot)

pub turn_served : (C : Config) (past : Past) (a : Asked) (rest : List Asked) (old : State) (group : List Note) (fails : Bool) → old.queue ≡ a ∷ rest → Served C a.conn (seen past old a.conn) → Answers a.conn group fails
    → (called_in group ≡ a.call ∷ []) ⊎ ((entries_in group ≡ []) × (fails ≡ true)) → Served C a.conn (seen_after past Turns group (turned_to a rest old) a.conn)
turn_served C past a rest old group fails e k b entry =
    let c = a.conn in
    let z = seen past old c in
    let h = z.heard in
    let h' = hears c h Turns group in
    let g = setup_of C h in
    let l = stand_of C h z.place in
    let f = front_call C past a rest old e k in
    let t = turn_told c h group b.about in
    let s = turn_stays c h group in
    let about = tells_all c group b.about in
    let choices = ap choices_told about ∙ b.choices in
    let cut : (took : TakenCounts) → cut_told took (notes_about c group) ≡ None = λ took. ap (cut_told took) about ∙ b.cut took in
    let stands = stands_turn g c h group z.place l (heard_uncut c past) choices cut k.stands in
    let at = longer (replies_only (replies_told (notes_about c group))) l in
    let z' = seen_after past Turns group (turned_to a rest old) c in
    let failed : h'.failed ≡ fails = t.failed ∙ ap (λ x. x || failure_told (map tells group)) f.found ∙ b.failure in
    let live : z'.live ≡ true = ap (λ x. is_in (without_all x (shared past).live) c) b.ended ∙ f.is_live in
    let ready : z'.ready ≡ c ∷ [] = entries_ready_self c old.ring ∙ ap (ready_of c) f.not_ready in
    let asked : z.asked ≡ a.call ∷ [] = open_front a rest old e ∙ ap (λ x. a.call ∷ x) f.one in
    let edges : h'.edges ≡ h.edges = edges_told c h Turns group b.about ∙ b.edges h.edges in
    let K : List Note → Type 0 = λ ns. CallsTold h'.failed z'.asked z.place ns in
    let A : List (List (List ℕ)) → Type 0 = λ x. CallsTold h'.failed x z.place (h.notes ++ group) in
    let B : Bool → List (List (List ℕ)) → Type 0 = λ x y. CallsTold x y z.place h.notes in
    let X : List (List (List ℕ)) → Type 0 = λ y. B h.failed y in
    let Y : Bool → Type 0 = λ x. B x (a.call ∷ []) in
    let was : CallsTold false (a.call ∷ []) z.place h.notes = subst Y f.found (subst X asked k.told) in
    let F : Bool → Type 0 = λ x. Spot x z'.live z'.ready z'.asked g (taken h') at h'.edges in
    let L : Bool → Type 0 = λ x. Spot fails x z'.ready z'.asked g (taken h') at h'.edges in
    let R : List ℕ → Type 0 = λ r. Spot fails true r z'.asked g (taken h') at h'.edges in
    let Q : List (List (List ℕ)) → Type 0 = λ x. Spot fails true (c ∷ []) x g (taken h') at h'.edges in
    let M : TakenCounts → Type 0 = λ y. Met no_bytes y z.place in
    let told : CallsTold h'.failed [] z.place (h.notes ++ group) = by_entry h'.failed failed was entry in
    let was_closed : (side : Side) → is_closed (edge_of side h'.edges).state ≡ true → is_closed (edge_of side h.edges).state ≡ true = λ side q. (let P : Edges → Type 0 = λ x. is_closed (edge_of side x).state ≡ true in subst P edges q) in
    let now : (side : Side) → is_closed (edge_of side h'.edges).state ≡ true → ClosedNow g at h' z.place side = λ side q. record {
      there = closed_stays g l (replies_only (replies_told (notes_about c group))) side (closed_by g l h.edges (k.closed_over f.found) side (was_closed side q));
      none = ap (λ y. to_take (sent_from no_bytes z.place) y side) s.taken ∙ took_each c z k.ends f.found side (was_closed side q);
    } in
    let causes = map cause_of (reasons_in z.place) in
    served_at C c z' g at (ap (setup_in C) t.accepted) (record {
      stands = stands;
      met = subst M (sym s.taken) k.met;
      within = same_within h h' z.place s.client s.connects k.within;
      paid = longer_pays g z.place l (replies_only (replies_told (notes_about c group))) z.spent k.paid;
      shown = ap (filter shows) t.notes ∙ shown_on h.notes group ∙ ap (λ x. filter shows h.notes ++ x) b.hidden ∙ append-nil (filter shows h.notes) ∙ k.shown;
      causes = ap causes_told t.notes ∙ causes_on h.notes group ∙ ap (λ x. x ++ causes_told group) (k.causes ∙ ap (λ x. causes ++ causes_behind x) f.found ∙ append-nil causes) ∙ ap (λ x. causes ++ x) b.causes ∙ ap (λ x. causes ++ causes_behind x) (sym failed);
      ends = ends_told c z z' group false k.ends f.is_live t.notes live (record { going = λ n. b.goes_on; last = λ o. absurd (let x : false ≡ true = o in cc) }) (λ o. absurd (let x : false ≡ true = o in cc)) (λ o. t.finished ∙ or_first h.finished (finish_told (map tells group)) o) (λ o. absurd (let x : false ≡ true = sym b.opens ∙ o in cc)) (λ x side q. (now side q).none);
      closed_over = λ x. closed_where g at h' z.place now;
      linked = subst (λ y. Linked h'.finished y at h'.edges.server.state) (sym s.taken) (linked_now h.finished h'.finished (taken h) at h.edges.server.state h'.edges.server.state (λ x. or_none h.finished (finish_told (map tells group)) (sym t.finished ∙ x)) (λ x. ap (λ y. y.server.state) edges) (longer_linked h.finished (taken h) (replies_only (replies_told (notes_about c group))) l h.edges.server.state refl k.linked));
      late = late_stays h.late h'.late h.finished h'.finished l at h.edges.server.state h'.edges.server.state (turns_late c h group) (λ x. t.finished ∙ or_first h.finished (finish_told (map tells group)) x) (longer_serves (replies_only (replies_told (notes_about c group))) l refl)
          (λ x. sym (ap (λ y. is_connecting y.server.state) edges) ∙ x) k.late;
      drains = λ x. come_drains h.notes group h'.notes (draining (taken h) l) (draining (taken h') at) (given_up z.place) t.notes (let a = ap (λ y. draining y at) s.taken in let d = longer_drains (taken h) (replies_only (replies_told (notes_about c group))) l in let none = b.closes_none in omega (arith, a, d, none)) (k.drains (or_none h.finished (finish_told (map tells group)) (sym t.finished ∙ x)));
      licensed = stays_licensed h h' (cut_stays c h Turns group cut) s.client s.connects k.licensed;
      told = subst K (sym t.notes) (subst A (sym f.one) told);
      spot = subst F (sym failed) (subst L (sym live) (subst R (sym ready) (subst Q (sym f.one) (ready_once fails c g (taken h') at h'.edges))));
    })
  where
    by_entry : (b : Bool) → b ≡ fails → CallsTold false (a.call ∷ []) (old.places a.conn) (heard a.conn past).notes → (called_in group ≡ a.call ∷ []) ⊎ ((entries_in group ≡ []) × (fails ≡ true)) → CallsTold b [] (old.places a.conn) ((heard a.conn past).notes ++ group)
    by_entry b e was (inl all) = calls_answered b a.call (old.places a.conn) (heard a.conn past).notes group was all
    by_entry b e was (inr (none, failing)) = calls_on false b (a.call ∷ []) [] (old.places a.conn) (heard a.conn past).notes group was none (λ x. absurd (let y : true ≡ false = sym failing ∙ sym e ∙ x in cc))
