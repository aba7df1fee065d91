-- What a Run owes: the connection that is first in the ring.
use Rattle.std.proofs.Common.{◌≡◌, refl, sym, ap, subst, ◌∙◌, ℕ, ◌+◌, ◌≤◌, List, [], ◌∷◌, ◌++◌, length, map, Bool, true, false, ◌||◌, ◌&&◌, not, Option, Some, None, nat_eq, append-nil, append_assoc, if◌then◌else◌, ◌⊎◌, inl, inr, eqb-true, arith}
use Rattle.std.specs.List.{IsDistinct, filter, list_any}
use Rattle.std.proofs.lemmas.Grind.{flat_map-append}
use Rattle.px_bytes.specs.declared.addr.Side.{Side}
use Rattle.px_bytes.specs.declared.addr.Side.TheVariants.{Client, Server}
use Rattle.std.specs.Bool.{MatchBool}
use Rattle.core_events.specs.declared.edges.EdgeState.{EdgeState}
use Rattle.px_bytes.specs.declared.fault.Reply.{Reply}
use Rattle.core_events.specs.declared.edges.Edges.{Edges}
use Rattle.core_events.specs.declared.note.Note.{Note}
use Rattle.core_events.specs.Edges.{edge_of, edges_noted, is_connecting}
use Rattle.conn_trace.specs.Further.{Further, longer, replies_only, choosing, CutMeets}
use Rattle.conn_trace.specs.Further as further
use Rattle.conn_trace.specs.Costs.{SlicesPaid}
use Rattle.conn_trace.specs.Gates.{Counts, TakenCounts, no_bytes, sent_from, to_take, Met}
use Rattle.core_events.specs.declared.event_kind.EventKind.TheVariants.{Runs}
use Rattle.conn_trace.specs.Heard.{Brought, Heard, as_answer, brought, brought_nothing, further_of, hear_brought, taken, hears, start_of}
use Rattle.conn_trace.specs.HeardLaws.{cut_in, cut_for, taken_by_items, TellsNothing}
use Rattle.conn_trace.specs.Item.{Item, Reason, Closed, Tcl, Http, Unselected, Rejected, CutBy, Choice, note_of, shown, listed, calls_in, cause_of, notes_of, reasons_in}
use Rattle.conn_trace.specs.Phases.{Orderly}
use Rattle.conn_trace.specs.Setup.{Setup}
use Rattle.conn_trace.specs.State.{link_of, Asked as AskedFor, Cut, Over, TraceState}
use Rattle.conn_trace.specs.Tellings.{tells, notes_about, choices_told, cut_told, finish_told, failure_told, replies_told}
use Rattle.conn_trace.specs.Trace.{next_item, Unfolds}
use Rattle.conn_trace.proofs.Hearing.{event_lengthens, finished_stands, run_stands}
use Rattle.conn_trace.proofs.Querying.{met_joins}
use Rattle.conn_trace.proofs.Stepping.{finishes_once}
use Rattle.conn_trace.proofs.Telling.{run_tells}
use Rattle.conn_trace.proofs.Unfolding.{unfolds_on}
use Rattle.conn.specs.RunsItems.{Passes}
use Rattle.conn.specs.Servers.{run_notes}
use Rattle.conn.specs.Settling.{closing, given_up_at, is_given_up, is_over, is_there, server_notes, took_all}
use Rattle.record_model.specs.History.{entries_in}
use Rattle.proxy_core.specs.declared.call.Asleep.{Asleep}
use Rattle.proxy_core.specs.Moves.{ran}
use Rattle.proxy_core.specs.declared.call.Asked.{Asked}
use Rattle.record_model.specs.Past.{Past, heard, ended_in, without_all, shared}
use Rattle.proxy_core.specs.Ready.{is_in}
use Rattle.proxy_core.specs.Scheduler.{State, entries, seen, seen_after, untaken_all, untaken_of, open_calls}
use Rattle.proxy_core.specs.Servers.{Linked, awaits, closed_servers, draining, given_up}
use Rattle.record_model.specs.Setup.{begins_at, setup_in, setup_of, stand_of}
use Rattle.proxy_core.specs.Shown.{shows, closes_for_good, causes_told, causes_behind}
use Rattle.proxy_core.specs.Sound.{is_closed, Spot, CallsTold, ServedAt, Served}
use Rattle.run_config.specs.declared.config.Config.{Config}
use Rattle.proxy_core.proofs.CameAt.{UncutOr, heard_uncut, stands_uncut}
use Rattle.proxy_core.proofs.Closings.{EndsBy, closes_at, none_on, closing_ends, closing_gone, ends_behind}
use Rattle.proxy_core.proofs.EdgeNotes.{edges_joined, edges_told}
use Rattle.proxy_core.proofs.Finished.{heard_finish, trace_finished}
use Rattle.proxy_core.proofs.GroupNotes.{About, about_joined, tells_all, due_about, due_failure, due_quiet, due_entries, closing_due, ended_closing, entries_on, due_asks}
use Rattle.proxy_core.proofs.Hearing.{run_told, run_stays, run_further}
use Rattle.proxy_core.proofs.Members.{eq_self, not_in_without}
use Rattle.proxy_core.proofs.Licensing.{cut_stays, run_licensed, stays_licensed}
use Rattle.proxy_core.proofs.Linking.{ClosedGiven, closed_joined, linked_now, linked_over, longer_linked, run_linked}
use Rattle.proxy_core.proofs.LinkedComes.{settles}
use Rattle.proxy_core.proofs.RunNotes.{about_runs, ended_runs, entries_runs, failure_runs, of_runs, run_causes, run_notes_tell, run_shown, runs_closed, runs_go_on, runs_open}
use Rattle.proxy_core.proofs.ServerLaws.{ordered, ordered_longer}
use Rattle.proxy_core.proofs.ServerLeft.{ordered_at}
use Rattle.conn_trace.proofs.Streams.{link_same}
use Rattle.proxy_core.proofs.Overs.{over_at, over_done, still_over}
use Rattle.proxy_core.proofs.Drains.{drained_items, longer_orderly}
use Rattle.std.proofs.lemmas.List.{map-append}
use Rattle.proxy_core.proofs.Standing.{longer_pays, served_at, sent_at}
use Rattle.proxy_core.proofs.Sums.{causes_due, causes_on, shown_due, shown_on}
use Rattle.proxy_core.proofs.SoundAccepts.{or_false}
use Rattle.proxy_core.proofs.SoundComes.{calls_on, calls_more, took_each, or_split, or_true, or_first, unless, ends_told, ended_if, ClosedNow, closed_where, due_closed, either, longer_drains, over_closed}
use Rattle.proxy_core.proofs.SoundLacks.{failed_finished}
use Rattle.proxy_core.proofs.SoundTurns.{within_same, same_within, left_same}
use Rattle.proxy_core.proofs.LateServers.{late_stays, runs_late, longer_serves, run_late}

-- the front of the ring is there once, and no call of it waits
pub record AtFront (live : Bool) (more : List ℕ) (asked : List (List (List ℕ))) : Type 0 where
  pub is_live : live ≡ true
  pub once : more ≡ []
  pub none_asked : asked ≡ []

pub at_front : (c : ℕ) (rest : List ℕ) (failed live : Bool) (asked : List (List (List ℕ))) (g : Setup) (took : TakenCounts) (l : TraceState) (ends : Edges) → Spot failed live (c ∷ entries c rest) asked g took l ends → AtFront live (entries c rest) asked
at_front c rest failed live asked g took l ends s = by_spot failed live (entries c rest) asked s
  where
    by_spot : (f b : Bool) (r : List ℕ) (as' : List (List (List ℕ))) → Spot f b (c ∷ r) as' g took l ends → AtFront b r as'
    by_spot true true [] [] k = record { is_live = refl; once = refl; none_asked = refl }
    by_spot false true [] [] k = record { is_live = refl; once = refl; none_asked = refl }
    by_spot true true [] (x ∷ xs) k = absurd k
    by_spot false true [] (x ∷ xs) k = absurd k
    by_spot true true (x ∷ xs) as' k = absurd k
    by_spot false true (x ∷ xs) as' k = absurd k
    by_spot true false r as' k = absurd k
    by_spot false false r as' k = absurd k

-- ---- Runs

stands_still : (g : Setup) (c : ℕ) (h : Heard) (group : List Note) (place : List Item) (l : TraceState) → UncutOr h.cut h.finished → TellsNothing c group → Unfolds g (start_of g h) place l → Unfolds g (start_of g (hears c h Runs group)) place (longer (replies_only []) l)
stands_still g c h group place l (inl none) quiet u =
    let P : Further → Type 0 = λ f. Unfolds g (start_of g (hears c h Runs group)) place (longer f l) in
    subst P (run_further c h group quiet.choices quiet.cut ∙ ap replies_only quiet.replies) (stands_uncut g c h Runs group place l none quiet u)
stands_still g c h group place l (inr done) quiet u =
    let P : List Reply → Type 0 = λ rs. Unfolds g (start_of g (hears c h Runs group)) place (longer (replies_only rs) l) in
    subst P quiet.replies (finished_stands g c h Runs group place l done quiet.choices quiet.cut u)

pub failed_served : (C : Config) (past : Past) (c : ℕ) (rest : List ℕ) (old : State) → IsDistinct nat_eq (shared past).live → old.ring ≡ c ∷ rest → (heard c past).failed ≡ true → Served C c (seen past old c)
    → Served C c (seen_after past Runs (closing c (heard c past).edges (untaken_all (heard c past) (old.places c))) (record old { ring = rest }) c)
failed_served C past c rest old distinct front_is has_failed k =
    let z = seen past old c in
    let h = z.heard in
    let d = untaken_all h z.place in
    let group = closing c h.edges d in
    let h' = hears c h Runs group in
    let g = setup_of C h in
    let l = stand_of C h z.place in
    let due = closing_due c h.edges d in
    let about = due_about c group due in
    let t = run_told c h group about in
    let s = run_stays c h group in
    let stands = stands_still g c h group z.place l (heard_uncut c past) (due_quiet c group due) k.stands in
    let at = longer (replies_only []) l in
    let z' = seen_after past Runs group (record old { ring = rest }) c in
    let ready : z.ready ≡ c ∷ entries c rest = ap (entries c) front_is ∙ ap (λ x. if x then c ∷ entries c rest else entries c rest) (eq_self c) in
    let S : List ℕ → Type 0 = λ r. Spot h.failed z.live r z.asked g (taken h) l h.edges in
    let f = at_front c rest h.failed z.live z.asked g (taken h) l h.edges (subst S ready k.spot) in
    let same : h'.failed ≡ h.failed = t.failed ∙ ap (λ b. h.failed || b) (due_failure c group due) ∙ or_false h.failed in
    let failed : h'.failed ≡ true = same ∙ has_failed in
    let finished = failed_finished C c z k (heard_finish c past) has_failed in
    let live : z'.live ≡ false = ap (λ ns. is_in (without_all ns (shared past).live) c) (ended_closing c h.edges d) ∙ not_in_without c (shared past).live distinct in
    let left = left_same h h' z.place s.client s.connects in
    let edges = edges_told c h Runs group about in
    let gone = closing_gone c h.edges d in
    let D : ℕ → Type 0 = λ n. EndsBy c n true group in
    let M : TakenCounts → Type 0 = λ y. Met no_bytes y z.place in
    let F : Bool → Type 0 = λ x. Spot x z'.live z'.ready z'.asked g (taken h') at h'.edges in
    let L : Bool → Type 0 = λ x. Spot true x z'.ready z'.asked g (taken h') at h'.edges in
    let R : List ℕ → Type 0 = λ r. Spot true false r z'.asked g (taken h') at h'.edges in
    let A : List (List (List ℕ)) → Type 0 = λ x. Spot true false [] x g (taken h') at h'.edges in
    let K : List Note → Type 0 = λ ns. CallsTold h'.failed z'.asked z.place ns in
    served_at C c z' g at (ap (setup_in C) t.accepted) (record {
      stands = stands;
      met = subst M (sym s.taken) k.met;
      within = same_within h h' z.place s.client s.connects k.within;
      paid = longer_pays g z.place l (replies_only []) z.spent k.paid;
      shown = ap (filter shows) t.notes ∙ shown_due c h.notes group (notes_of c z.place) due k.shown;
      causes = ap causes_told t.notes ∙ causes_due c h.notes group (map cause_of (reasons_in z.place) ++ causes_behind h.failed) due k.causes ∙ ap (λ b. map cause_of (reasons_in z.place) ++ causes_behind b) (sym same);
      ends = ends_told c z z' group true k.ends f.is_live t.notes live (subst D (sym left) (closing_ends c h.edges d))
          (λ o. (ap (λ x. is_there x.client.state) edges ∙ gone.client, ap (λ x. is_there x.server.state) edges ∙ gone.server))
          (λ o. t.finished ∙ or_first h.finished (finish_told (map tells group)) finished) (λ o. t.finished ∙ or_first h.finished (finish_told (map tells group)) finished)
          (λ x side q. absurd (let y : true ≡ false = sym failed ∙ x in cc));
      closed_over = λ x. absurd (let y : true ≡ false = sym failed ∙ x in cc);
      linked = linked_over h.finished h'.finished (taken h) (taken h') at h.edges.server.state h'.edges.server.state (t.finished ∙ or_first h.finished (finish_told (map tells group)) finished) (longer_linked h.finished (taken h) (replies_only []) l h.edges.server.state refl k.linked);
      late = late_stays h.late h'.late h.finished h'.finished l at h.edges.server.state h'.edges.server.state (runs_late c h group) (λ x. t.finished ∙ or_first h.finished (finish_told (map tells group)) x) (longer_serves (replies_only []) l refl)
          (λ x. due_asks c group due h.edges (sym (ap (λ y. is_connecting y.server.state) edges) ∙ x)) k.late;
      drains = λ x. absurd (let y : true ≡ false = sym (t.finished ∙ or_first h.finished (finish_told (map tells group)) finished) ∙ x in cc);
      licensed = stays_licensed h h' (cut_stays c h Runs group (due_quiet c group due).cut) s.client s.connects k.licensed;
      told = subst K (sym t.notes) (calls_on h.failed h'.failed z.asked z'.asked z.place h.notes group k.told (due_entries c group due) (λ x. (sym same ∙ x, refl)));
      spot = subst F (sym failed) (subst L (sym live) (subst R (sym f.once) (subst A (sym f.none_asked) tt)));
    })

-- the server's end stays, or it is closed as is due of one that is given up
abbrev pub SettledBy : TakenCounts → TraceState → ℕ → Edges → List Note → Type 0
SettledBy took at c ends behind =
    (((edges_noted behind ends).server.state ≡ ends.server.state) × (closed_servers behind ≡ 0))
    ⊎ (((edges_noted behind ends).server.state ≡ (edges_noted (server_notes c (given_up_at at && took_all at took Server) ends) ends).server.state) × (closed_servers behind ≡ closed_servers (server_notes c (given_up_at at && took_all at took Server) ends)))

-- what is told behind the items
pub record Behind (g : Setup) (took : TakenCounts) (at : TraceState) (c d : ℕ) (ends : Edges) (behind : List Note) (fails over : Bool) : Type 0 where
  pub about : About c behind
  pub quiet : TellsNothing c behind
  pub failure : failure_told (map tells behind) ≡ fails
  pub ended : ended_in behind ≡ (if over then c ∷ [] else [])
  pub hidden : filter shows behind ≡ []
  pub causes : causes_told behind ≡ causes_behind fails
  pub entries : entries_in behind ≡ []
  pub by : EndsBy c d over behind
  pub gone : over ≡ true → (is_there (edges_noted behind ends).client.state ≡ false) × (is_there (edges_noted behind ends).server.state ≡ false)
  pub asks : is_connecting (edges_noted behind ends).server.state ≡ true → is_connecting ends.server.state ≡ true
  pub server : finish_told (map tells behind) ≡ false → is_over (next_item g at) ≡ false → SettledBy took at c ends behind
  pub opens : list_any closes_for_good behind ≡ true → (finish_told (map tells behind) ≡ true) ⊎ (is_over (next_item g at) ≡ true)
  pub closed : fails ≡ false → (side : Side) → is_closed (edge_of side (edges_noted behind ends)).state ≡ true → ((closes_at side (is_over (next_item g at)) (given_up_at at) ≡ true) × (took_all at took side ≡ true)) ⊎ (is_closed (edge_of side ends).state ≡ true)

-- where it stands behind the items that it gave
cut_meets : (took : TakenCounts) (more place : List Item) → Met no_bytes took place → CutMeets (cut_in took more) no_bytes place
cut_meets took [] place m = tt
cut_meets took (i ∷ more) place m = by_reason (shown i).reason (cut_meets took more place m)
  where
    by_reason : (o : Option Reason) → CutMeets (cut_in took more) no_bytes place → CutMeets (cut_for o took (cut_in took more)) no_bytes place
    by_reason None r = r
    by_reason (Some Closed) r = r
    by_reason (Some (Tcl kind)) r = r
    by_reason (Some (Http fault)) r = r
    by_reason (Some Unselected) r = r
    by_reason (Some Rejected) r = r
    by_reason (Some (CutBy why)) r = m

abbrev adds : Brought → List Reply → List Choice → Option Cut → Further
adds b replies choices cut = record { client = b.client; server = b.server; connects = map as_answer b.connects; replies = replies; choices = choices; cut = cut }

runs_bring : (c : ℕ) (h : Heard) (group : List Note) → brought c h Runs group ≡ brought_nothing
runs_bring c h group = by_test (h.finished || finish_told (notes_about c group))
  where
    by_test : (b : Bool) → (if b then brought_nothing else brought_nothing) ≡ brought_nothing
    by_test true = refl
    by_test false = refl

-- groups that tell the same bring the same
told_same : (c : ℕ) (h : Heard) (some others : List Note) → replies_told (notes_about c some) ≡ replies_told (notes_about c others) → choices_told (notes_about c some) ≡ choices_told (notes_about c others)
    → ((counts : TakenCounts) → cut_told counts (notes_about c some) ≡ cut_told counts (notes_about c others)) → further_of c h Runs some ≡ further_of c h Runs others
told_same c h some others replies choices cut =
    ap (λ b. adds b (replies_told (notes_about c some)) (choices_told (notes_about c some)) (cut_told (taken (hear_brought b h)) (notes_about c some))) (runs_bring c h some)
    ∙ ap (λ r. adds brought_nothing r (choices_told (notes_about c some)) (cut_told (taken (hear_brought brought_nothing h)) (notes_about c some))) replies
    ∙ ap (λ r. adds brought_nothing (replies_told (notes_about c others)) r (cut_told (taken (hear_brought brought_nothing h)) (notes_about c some))) choices
    ∙ ap (λ r. adds brought_nothing (replies_told (notes_about c others)) (choices_told (notes_about c others)) r) (cut (taken (hear_brought brought_nothing h)))
    ∙ sym (ap (λ b. adds b (replies_told (notes_about c others)) (choices_told (notes_about c others)) (cut_told (taken (hear_brought b h)) (notes_about c others))) (runs_bring c h others))

-- what the notes of items tell of where its trace begins
same_start : (g : Setup) (c : ℕ) (h : Heard) (sent : Counts) (took : TakenCounts) (more : List Item) (behind : List Note) → TellsNothing c behind → start_of g (hears c h Runs (run_notes c sent took more ++ behind)) ≡ start_of g (hears c h Runs (notes_of c more ++ behind))
same_start g c h sent took more behind quiet =
    let group = run_notes c sent took more ++ behind in
    let items = notes_of c more ++ behind in
    let r = run_notes_tell c sent took more behind in
    let k = run_tells c more behind in
    event_lengthens g c h Runs group
    ∙ ap (λ f. longer f (start_of g h)) (told_same c h group items (r.replies ∙ sym k.replies) (r.choices ∙ sym k.choices) (λ counts. r.cut counts (quiet.cut counts) ∙ sym (k.cut counts (quiet.cut counts))))
    ∙ sym (event_lengthens g c h Runs items)

pub ran_at : (g : Setup) (c : ℕ) (h : Heard) (sent : Counts) (took : TakenCounts) (place more : List Item) (behind : List Note) (l at : TraceState) → UncutOr h.cut h.finished → l.finished ≡ h.finished → Orderly l → TellsNothing c behind → Met no_bytes (taken h) place → Unfolds g (start_of g h) place l
    → Unfolds g (longer (taken_by_items (taken h) more) l) more at → Unfolds g (start_of g (hears c h Runs (run_notes c sent took more ++ behind))) (place ++ more) at
ran_at g c h sent took place more behind l at uncut same o quiet met u passed =
    subst (λ x. Unfolds g x (place ++ more) at) (sym (same_start g c h sent took more behind quiet)) (items_at uncut)
  where
    items_at : UncutOr h.cut h.finished → Unfolds g (start_of g (hears c h Runs (notes_of c more ++ behind))) (place ++ more) at
    items_at (inl none) = run_stands g c h place more behind l at none quiet (cut_meets (taken h) more place met) u passed
    items_at (inr done) =
        let group = notes_of c more ++ behind in
        let r = run_tells c more behind in
        let p = drained_items g (longer (taken_by_items (taken h) more) l) at more (longer_orderly (taken_by_items (taken h) more) l o) (same ∙ done) passed in
        let P : List Reply → Type 0 = λ rs. Unfolds g (start_of g (hears c h Runs group)) place (longer (replies_only rs) l) in
        let front = subst P (r.replies ∙ quiet.replies) (finished_stands g c h Runs group place l done (r.choices ∙ ap (λ x. x ++ choices_told (notes_about c behind)) p.choices ∙ quiet.choices) (λ took. r.cut took (quiet.cut took) ∙ p.cut took) u) in
        let make : List Choice → Option Cut → TraceState = λ cs o. longer (choosing cs o) l in
        let Q : TraceState → Type 0 = λ x. Unfolds g x more at in
        unfolds_on g (start_of g (hears c h Runs group)) (longer (replies_only []) l) at place more front (subst Q (ap (λ cs. make cs (cut_in (taken h) more)) p.choices ∙ ap (make []) (p.cut (taken h))) passed)

some_on : {A : Type 0} (xs ys : List A) → further.is_some_of (xs ++ ys) ≡ (further.is_some_of xs || further.is_some_of ys)
some_on [] ys = refl
some_on (x ∷ xs) ys = refl

pub run_about : (c : ℕ) (sent : Counts) (took : TakenCounts) (more : List Item) (behind : List Note) → About c behind → About c (run_notes c sent took more ++ behind)
run_about c sent took more behind a = about_joined c (run_notes c sent took more) behind (about_runs c (run_notes c sent took more) (of_runs c sent took more)) a

pub given_joined : (some more : List Item) → given_up (some ++ more) ≡ given_up some + given_up more
given_joined [] more = omega arith
given_joined (i ∷ some) more = let r = given_joined some more in omega (arith, r)

-- the server's end behind what is told
settled_linked : (took : TakenCounts) (at : TraceState) (c : ℕ) (ends : Edges) (behind : List Note) → (awaits at.phase ≡ true → link_of at.server ≡ AskedFor) → Linked false took at ends.server.state → SettledBy took at c ends behind → Linked false took at (edges_noted behind ends).server.state × (closed_servers behind ≡ 0)
settled_linked took at c ends behind asks k (inl s) = (let L : EdgeState → Type 0 = λ y. Linked false took at y in subst L (sym s.0) k, s.1)
settled_linked took at c ends behind asks k (inr s) =
    let d = settles took took at c ends asks (λ e. e) k in
    let L : EdgeState → Type 0 = λ y. Linked false took at y in
    (subst L (sym s.0) d.linked, (let a = s.1 in let b = d.drains in omega (arith, a, b)))

-- an end that is closed before its items is closed behind them
closed_start : (g : Setup) (l at : TraceState) (took : TakenCounts) (more : List Item) (e : Edges) → ((is_closed e.server.state ≡ true) → ((next_item g l ≡ Over) × (l.finished ≡ true)) ⊎ (given_up_at l ≡ true)) → (is_closed e.server.state ≡ true → to_take l.sent took Server ≡ 0)
    → (b : Bool) → is_closed e.server.state ≡ b → ((is_closed e.server.state ≡ true) × ((next_item g l ≡ Over) × (l.finished ≡ true))) ⊎ ClosedGiven took l e.server.state
closed_start g l at took more e where_is none false c = inr (λ x. absurd (let y : true ≡ false = sym x ∙ c in cc))
closed_start g l at took more e where_is none true c = by (where_is c)
  where
    by : ((next_item g l ≡ Over) × (l.finished ≡ true)) ⊎ (given_up_at l ≡ true) → ((is_closed e.server.state ≡ true) × ((next_item g l ≡ Over) × (l.finished ≡ true))) ⊎ ClosedGiven took l e.server.state
    by (inl o) = inl (c, o)
    by (inr given) = inr (λ x. (given, none c))

pub run_served : (C : Config) (past : Past) (c : ℕ) (rest after ready : List ℕ) (queue : List Asked) (asleep : Option Asleep) (called asked : List (List (List ℕ))) (old : State) (more : List Item) (slices : ℕ) (at : TraceState) (behind : List Note) (fails over : Bool)
    → IsDistinct nat_eq (shared past).live → old.ring ≡ c ∷ rest → (heard c past).failed ≡ false → Served C c (seen past old c)
    → Passes (setup_of C (heard c past)) (taken (heard c past)) (stand_of C (heard c past) (old.places c)) more at
    → Behind (setup_of C (heard c past)) (taken (heard c past)) at c (untaken_all (heard c past) (old.places c ++ more)) (edges_noted (run_notes c (stand_of C (heard c past) (old.places c)).sent (taken (heard c past)) more) (heard c past).edges) behind fails over
    → (entries c rest ≡ [] → entries c after ≡ ready) → (open_calls c old ≡ [] → open_calls c (ran c after queue asleep more slices old) ≡ asked) → calls_in more ≡ called → length called ≤ 1 → (fails ≡ false → called ≡ asked)
    → Spot fails (not over) ready asked (setup_of C (heard c past)) (taken (heard c past)) at (edges_noted behind (edges_noted (run_notes c (stand_of C (heard c past) (old.places c)).sent (taken (heard c past)) more) (heard c past).edges))
    → SlicesPaid (setup_of C (heard c past)) (old.places c ++ more) at (old.spent c + slices)
    → Served C c (seen_after past Runs (run_notes c (stand_of C (heard c past) (old.places c)).sent (taken (heard c past)) more ++ behind) (ran c after queue asleep more slices old) c)
run_served C past c rest after ready queue asleep called asked old more slices at behind fails over distinct front_is not_failed k p b put puts all few opens spot pays =
    let z = seen past old c in
    let h = z.heard in
    let g = setup_of C h in
    let l = stand_of C h z.place in
    let notes = run_notes c l.sent (taken h) more in
    let runs = of_runs c l.sent (taken h) more in
    let group = notes ++ behind in
    let h' = hears c h Runs group in
    let d = untaken_all h (z.place ++ more) in
    let ends = edges_noted notes h.edges in
    let about = run_about c l.sent (taken h) more behind b.about in
    let t = run_told c h group about in
    let s = run_stays c h group in
    let z' = seen_after past Runs group (ran c after queue asleep more slices old) c in
    let place : z'.place ≡ z.place ++ more = ap (λ x. if x then z.place ++ more else z.place) (eq_self c) in
    let front : z.ready ≡ c ∷ entries c rest = ap (entries c) front_is ∙ ap (λ x. if x then c ∷ entries c rest else entries c rest) (eq_self c) in
    let S : List ℕ → Type 0 = λ r. Spot h.failed z.live r z.asked g (taken h) l h.edges in
    let f = at_front c rest h.failed z.live z.asked g (taken h) l h.edges (subst S front k.spot) in
    let failed : h'.failed ≡ fails = t.failed ∙ ap (λ x. x || failure_told (map tells group)) not_failed ∙ failure_runs c notes behind runs ∙ b.failure in
    let live : z'.live ≡ not over = ap (λ ns. is_in (without_all ns (shared past).live) c) (ended_runs c notes behind runs ∙ b.ended) ∙ ended_if over c (shared past).live distinct f.is_live in
    let asks : z'.asked ≡ asked = puts f.none_asked in
    let edges : h'.edges ≡ edges_noted behind ends = edges_told c h Runs group about ∙ edges_joined notes behind h.edges in
    let same = trace_finished C c z k (heard_finish c past) not_failed in
    let began = begins_at C h in
    let old_done = finishes_once g began.client began.answers l z.place k.stands in
    let stands = ran_at g c h l.sent (taken h) z.place more behind l at (heard_uncut c past) same old_done.orderly b.quiet k.met k.stands p.passed in
    let start = start_of g h' in
    let new_done = finishes_once g start.client start.answers at (z.place ++ more) stands in
    let finishes : at.finished ≡ true → h'.finished ≡ true = λ o. t.finished ∙ by_finish (or_split (further.is_some_of (reasons_in z.place)) (further.is_some_of (reasons_in more)) (sym (ap (λ x. further.is_some_of x) (flat_map-append (λ i. listed (shown i).reason) z.place more) ∙ some_on (reasons_in z.place) (reasons_in more)) ∙ sym new_done.finished ∙ o)) (sym same ∙ old_done.finished) in
    let over_finishes : is_over (next_item g at) ≡ true → h'.finished ≡ true = λ o. finishes (over_done g at new_done.orderly (over_at (next_item g at) o)) in
    let sent = sent_at g h' (z.place ++ more) at stands in
    let f' = taken_by_items (taken h) more in
    let state = h.edges.server.state in
    let un = ordered_at g h z.place l k.stands in
    let lk : Linked l.finished (taken h) l state = linked_now h.finished l.finished (taken h) l state state (λ x. sym same ∙ x) (λ x. refl) k.linked in
    let ran = run_linked g (taken h) (longer f' l) at more c h.edges (ordered_longer f' l un) (longer_linked l.finished (taken h) f' l state refl lk) p.met p.passed in
    let serves = longer_serves f' l refl in
    let late_run = run_late h.late g (taken h) (longer f' l) at more c h.edges (ordered_longer f' l un) (longer_linked l.finished (taken h) f' l state refl lk) p.met p.passed (record {
      going = λ x. unless h.late (λ o. (let y = sym (same ∙ k.late.finishes o) ∙ x in cc));
      gone = λ x. serves ∙ k.late.gone x;
      asked = λ x. (let w = k.late.asked x in (w.0, serves ∙ w.1));
    }) in
    let going_at = (ordered g (longer f' l) at more (ordered_longer f' l un) p.passed).going in
    let sent_left : (side : Side) → to_take at.sent (taken h) side ≡ 0 → untaken_of h' (z.place ++ more) side ≡ 0 = λ side e. ap (λ x. to_take (sent_from no_bytes (z.place ++ more)) x side) s.taken ∙ ap (λ x. to_take x (taken h) side) (sym sent) ∙ e in
    let was_over : (side : Side) → is_closed (edge_of side h.edges).state ≡ true → next_item g l ≡ Over → l.finished ≡ true → ClosedNow g at h' (z.place ++ more) side = λ side v o y. (let still = still_over g l at (taken h) more y o p.passed in
    record { there = over_closed side g at still.next still.finished; none = ap (λ x. to_take (sent_from no_bytes (z.place ++ more)) x side) s.taken ∙ ap (λ ms. to_take (sent_from no_bytes (z.place ++ ms)) (taken h) side) still.none ∙ ap (λ ms. to_take (sent_from no_bytes ms) (taken h) side) (append-nil z.place) ∙ took_each c z k.ends not_failed side v }) in
    let before_left : is_closed h.edges.server.state ≡ true → to_take l.sent (taken h) Server ≡ 0 = λ v. ap (λ x. to_take x (taken h) Server) (sent_at g h z.place l k.stands) ∙ took_each c z k.ends not_failed Server v in
    let in_ends : (side : Side) → is_closed (edge_of side ends).state ≡ true → ClosedNow g at h' (z.place ++ more) side = λ side w. by_side (λ s. is_closed (edge_of s ends).state ≡ true) (λ s. ClosedNow g at h' (z.place ++ more) s) side w
    (λ w. (let v = runs_closed c notes h.edges runs w in let o = (k.closed_over not_failed).client v in was_over Client v o.0 o.1))
    (λ w. elim (closed_start g l at (taken h) more h.edges (k.closed_over not_failed).server before_left (is_closed h.edges.server.state) refl) [
      | inl o ↦ was_over Server o.0 o.1.0 o.1.1
      | inr given ↦ (let x = ran.closed (λ q. (let y = given q in (ap is_given_up (link_same f' l) ∙ y.0, y.1))) w in record { there = inr x.0; none = sent_left Server x.1 })
    ]) in
    let now : (side : Side) → is_closed (edge_of side h'.edges).state ≡ true → h'.failed ≡ false → ClosedNow g at h' (z.place ++ more) side = λ side q found. either
    (b.closed (sym failed ∙ found) side (let Q : Edges → Type 0 = λ x. is_closed (edge_of side x).state ≡ true in subst Q edges q))
    (λ o y. record { there = due_closed side g at o (λ v. over_done g at new_done.orderly (over_at (next_item g at) v)); none = sent_left side (eqb-true (to_take at.sent (taken h) side) 0 y) })
    (λ w. in_ends side w) in
    let not_finish : h'.finished ≡ false → finish_told (map tells behind) ≡ false = λ x. unless (finish_told (map tells behind)) (λ o. (let y = sym (t.finished ∙ ap (λ y. h.finished || y) (finish_group ∙ ap (λ y. further.is_some_of (reasons_in more) || y) o ∙ or_true (further.is_some_of (reasons_in more))) ∙ or_true h.finished) ∙ x in cc)) in
    let settled_now : h'.finished ≡ false → Linked false (taken h) at (edges_noted behind ends).server.state × (closed_servers behind ≡ 0) = λ x. settled_linked (taken h) at c ends behind going_at.asked
    (subst (λ y. Linked y (taken h) at ends.server.state) (unless at.finished (λ o. (let y = sym (finishes o) ∙ x in cc))) ran.linked)
    (b.server (not_finish x) (unless (is_over (next_item g at)) (λ o. (let y = sym (over_finishes o) ∙ x in cc)))) in
    let M : TakenCounts → Type 0 = λ y. Met no_bytes y (z.place ++ more) in
    let N : Counts → Type 0 = λ x. Met x (taken h) more in
    let W : List Item → ℕ → Type 0 = λ place n. ServedAt g c (record z' { place = place; spent = n }) at in
    let spent : z'.spent ≡ z.spent + slices = ap (λ x. if x then z.spent + slices else z.spent) (eq_self c) in
    let F : Bool → Type 0 = λ x. Spot x z'.live z'.ready z'.asked g (taken h') at h'.edges in
    let L : Bool → Type 0 = λ x. Spot fails x z'.ready z'.asked g (taken h') at h'.edges in
    let R : List ℕ → Type 0 = λ r. Spot fails (not over) r z'.asked g (taken h') at h'.edges in
    let A : List (List (List ℕ)) → Type 0 = λ x. Spot fails (not over) ready x g (taken h') at h'.edges in
    let T : TakenCounts → Type 0 = λ y. Spot fails (not over) ready asked g y at h'.edges in
    let E : Edges → Type 0 = λ x. Spot fails (not over) ready asked g (taken h) at x in
    let K : List Note → Type 0 = λ ns. CallsTold h'.failed z'.asked (z.place ++ more) ns in
    let B : Bool → List (List (List ℕ)) → Type 0 = λ x y. CallsTold x y z.place h.notes in
    let X : List (List (List ℕ)) → Type 0 = λ y. B h.failed y in
    let Y : Bool → Type 0 = λ x. B x [] in
    let was : CallsTold false [] z.place h.notes = subst Y not_failed (subst X f.none_asked k.told) in
    let none_told : entries_in group ≡ [] = entries_on notes behind ∙ ap (λ es. es ++ entries_in behind) (entries_runs c notes runs) ∙ b.entries in
    let D : ℕ → Type 0 = λ n. EndsBy c n over group in
    let causes = map cause_of (reasons_in z.place) in
    served_at C c z' g at (ap (setup_in C) t.accepted) (subst (λ x. W x z'.spent) (sym place) (subst (W (z.place ++ more)) (sym spent) (record {
      stands = stands;
      met = subst M (sym s.taken) (met_joins no_bytes (taken h) z.place more k.met (subst N (sent_at g h z.place l k.stands) p.met));
      within = within_same h h' z.place more s.client s.connects k.within;
      paid = pays;
      shown =
          ap (filter shows) t.notes ∙ shown_on h.notes group ∙ ap (λ x. x ++ filter shows group) k.shown
          ∙ ap (λ x. notes_of c z.place ++ x) (shown_on notes behind ∙ ap (λ x. x ++ filter shows behind) (run_shown c l.sent (taken h) more) ∙ ap (λ x. notes_of c more ++ x) b.hidden ∙ append-nil (notes_of c more))
          ∙ sym (flat_map-append (note_of c) z.place more);
      causes =
          ap causes_told t.notes ∙ causes_on h.notes group ∙ ap (λ x. x ++ causes_told group) (k.causes ∙ ap (λ x. causes ++ causes_behind x) not_failed ∙ append-nil causes)
          ∙ ap (λ x. causes ++ x) (causes_on notes behind ∙ ap (λ x. x ++ causes_told behind) (run_causes c l.sent (taken h) more) ∙ ap (λ x. map cause_of (reasons_in more) ++ x) b.causes)
          ∙ sym (append_assoc causes (map cause_of (reasons_in more)) (causes_behind fails))
          ∙ ap (λ x. x ++ causes_behind fails) (sym (ap (map cause_of) (flat_map-append (λ i. listed (shown i).reason) z.place more) ∙ map-append cause_of (reasons_in z.place) (reasons_in more)))
          ∙ ap (λ x. map cause_of (reasons_in (z.place ++ more)) ++ causes_behind x) (sym failed);
      ends = ends_told c z (record z' { place = z.place ++ more; spent = z.spent + slices }) group over k.ends f.is_live t.notes live (subst D (sym (left_same h h' (z.place ++ more) s.client s.connects)) (ends_behind c d over notes behind (runs_go_on c notes runs) b.by))
          (λ o. (let x = b.gone o in (ap (λ y. is_there y.client.state) edges ∙ x.0, ap (λ y. is_there y.server.state) edges ∙ x.1)))
          (λ o. t.finished ∙ or_first h.finished (finish_told (map tells group)) o)
          (λ o. by_opens (b.opens (sym (none_on closes_for_good notes behind (runs_open c notes runs)) ∙ o)) t.finished over_finishes)
          (λ found side q. (now side q found).none);
      closed_over = λ found. closed_where g at h' (z.place ++ more) (λ side q. now side q found);
      linked = by_going h'.finished refl settled_now ran.linked.waits (taken h') s.taken h'.edges.server.state (ap (λ y. y.server.state) edges);
      late = record {
        finishes = λ x. t.finished ∙ or_first h.finished (finish_told (map tells group)) (k.late.finishes (sym (runs_late c h group) ∙ x));
        gone = λ x. late_run.gone (sym (runs_late c h group) ∙ x);
        asked = λ x. (let w = late_run.asked (b.asks (sym (ap (λ y. is_connecting y.server.state) edges) ∙ x)) in (runs_late c h group ∙ w.0, w.1));
      };
      drains = λ x. (
          let n = settled_now x in
          let a = ap closed_servers t.notes in
          let j = closed_joined h.notes group in
          let i = closed_joined notes behind in
          let none = n.1 in
          let run = ran.drains in
          let before = k.drains (unless h.finished (λ o. (let y = sym (t.finished ∙ or_first h.finished (finish_told (map tells group)) o) ∙ x in cc))) in
          let long = longer_drains (taken h) f' l in
          let same_took = ap (λ y. draining y at) s.taken in
          let total = given_joined z.place more in
          omega (arith, a, j, i, none, run, before, long, same_took, total)
          );
      licensed = run_licensed g c h z.place more l.sent (taken h) behind l at k.stands k.linked.waits b.quiet p k.licensed;
      told = subst K (sym t.notes) (calls_more h'.failed called z'.asked z.place more h.notes group was none_told all few (λ e. opens (sym failed ∙ e) ∙ sym asks));
      spot = subst F (sym failed) (subst L (sym live) (subst R (sym (put f.once)) (subst A (sym asks) (subst T (sym s.taken) (subst E (sym edges) spot)))));
    })))
  where
    finish_group : finish_told (map tells (run_notes c (stand_of C (heard c past) (old.places c)).sent (taken (heard c past)) more ++ behind)) ≡ (further.is_some_of (reasons_in more) || finish_told (map tells behind))
    finish_group =
        let sent = (stand_of C (heard c past) (old.places c)).sent in
        let took = taken (heard c past) in
        ap finish_told (sym (tells_all c (run_notes c sent took more ++ behind) (run_about c sent took more behind b.about))) ∙ (run_notes_tell c sent took more behind).finish ∙ ap (λ x. further.is_some_of (reasons_in more) || finish_told x) (tells_all c behind b.about)

    by_finish : (further.is_some_of (reasons_in (old.places c)) ≡ true) ⊎ (further.is_some_of (reasons_in more) ≡ true) → (heard c past).finished ≡ further.is_some_of (reasons_in (old.places c)) → ((heard c past).finished || finish_told (map tells (run_notes c (stand_of C (heard c past) (old.places c)).sent (taken (heard c past)) more ++ behind))) ≡ true
    by_finish (inl x) same = or_first (heard c past).finished (finish_told (map tells (run_notes c (stand_of C (heard c past) (old.places c)).sent (taken (heard c past)) more ++ behind))) (same ∙ x)
    by_finish (inr x) same = ap (λ y. (heard c past).finished || y) (finish_group ∙ or_first (further.is_some_of (reasons_in more)) (finish_told (map tells behind)) x) ∙ or_true (heard c past).finished

    by_opens : {A : Bool} → (finish_told (map tells behind) ≡ true) ⊎ (is_over (next_item (setup_of C (heard c past)) at) ≡ true) → A ≡ ((heard c past).finished || finish_told (map tells (run_notes c (stand_of C (heard c past) (old.places c)).sent (taken (heard c past)) more ++ behind))) → (is_over (next_item (setup_of C (heard c past)) at) ≡ true → A ≡ true) → A ≡ true
    by_opens (inl x) e o = e ∙ ap (λ y. (heard c past).finished || y) (finish_group ∙ ap (λ y. further.is_some_of (reasons_in more) || y) x ∙ or_true (further.is_some_of (reasons_in more))) ∙ or_true (heard c past).finished
    by_opens (inr x) e o = o x

    by_side : (P Q : Side → Type 0) (side : Side) → P side → (P Client → Q Client) → (P Server → Q Server) → Q side
    by_side P Q Client w x y = x w
    by_side P Q Server w x y = y w

    by_going : (f : Bool) {b' : Bool} → b' ≡ f → (b' ≡ false → Linked false (taken (heard c past)) at (edges_noted behind (edges_noted (run_notes c (stand_of C (heard c past) (old.places c)).sent (taken (heard c past)) more) (heard c past).edges)).server.state × (closed_servers behind ≡ 0))
        → MatchBool (awaits at.phase) (length at.answers.connects ≤ 1) (at.answers.connects ≡ []) → (took' : TakenCounts) → took' ≡ taken (heard c past) → (s : EdgeState) → s ≡ (edges_noted behind (edges_noted (run_notes c (stand_of C (heard c past) (old.places c)).sent (taken (heard c past)) more) (heard c past).edges)).server.state → Linked b' took' at s
    by_going true {b'} is k w took' t s e = record { waits = w; edge = λ x. absurd (let y : true ≡ false = sym is ∙ x in cc) }
    by_going false {b'} is k w took' t s e =
        let n = (k is).0 in
        let P : Bool → Type 0 = λ b. Linked b took' at s in
        let Q : TakenCounts → Type 0 = λ y. Linked false y at s in
        let R : EdgeState → Type 0 = λ y. Linked false (taken (heard c past)) at y in
        subst P (sym is) (subst Q (sym t) (subst R (sym e) n))
