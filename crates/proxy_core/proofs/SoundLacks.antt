-- What an event of a connection owes for which memory was refused.
use Rattle.std.proofs.Common.{◌≡◌, refl, sym, ap, subst, ◌∙◌, ℕ, List, [], ◌∷◌, ◌++◌, map, Bool, true, false, ◌||◌, append-nil, inl, inr}
use Rattle.std.specs.List.{filter}
use Rattle.px_bytes.specs.declared.fault.Reply.{Reply}
use Rattle.core_events.specs.declared.edges.Edges.{Edges}
use Rattle.core_events.specs.declared.note.Cause.{Cause}
use Rattle.core_events.specs.declared.note.Cause.TheVariants.{Memory}
use Rattle.core_events.specs.declared.note.Note.{Note}
use Rattle.core_events.specs.declared.note.Note.TheVariants.{Finish}
use Rattle.conn_trace.specs.Further.{Further, longer, replies_only, nothing_further}
use Rattle.conn_trace.specs.Further as further
use Rattle.conn_trace.specs.Gates.{TakenCounts, no_bytes}
use Rattle.core_events.specs.declared.event_kind.EventKind.TheVariants.{Comes}
use Rattle.core_events.specs.declared.input.Input.{Input}
use Rattle.conn_trace.specs.Heard.{Heard, taken, hears, start_of, further_of}
use Rattle.conn_trace.specs.HeardLaws.{TellsNothing}
use Rattle.conn_trace.specs.Item.{Item, cause_of, notes_of, reasons_in}
use Rattle.conn_trace.specs.Setup.{Setup}
use Rattle.conn_trace.specs.State.{TraceState}
use Rattle.conn_trace.specs.Tellings.{tells, notes_about, finish_told}
use Rattle.conn_trace.specs.Trace.{Unfolds}
use Rattle.conn_trace.proofs.Hearing.{finished_stands}
use Rattle.conn_trace.proofs.Taking.{met_more}
use Rattle.conn.specs.Calls.{unless_finished}
use Rattle.proxy_core.specs.Calls.{is_any}
use Rattle.proxy_core.specs.Live.{further_in}
use Rattle.proxy_core.specs.Moves.{came, lacked}
use Rattle.record_model.specs.Past.{Past, heard}
use Rattle.proxy_core.specs.Scheduler.{State, Seen, seen, seen_after, untaken_all}
use Rattle.record_model.specs.Setup.{setup_in, setup_of, stand_of}
use Rattle.proxy_core.specs.Shown.{shows, causes_told, causes_behind}
use Rattle.proxy_core.specs.Sound.{Spot, CallsTold, Served}
use Rattle.run_config.specs.declared.config.Config.{Config}
use Rattle.proxy_core.proofs.CameAt.{UncutOr, heard_uncut, stands_come, stands_uncut}
use Rattle.proxy_core.proofs.Closings.{none_ends}
use Rattle.proxy_core.proofs.Entries.{ready_of, woken_of, entries_ready_self, lacked_open}
use Rattle.proxy_core.proofs.Finished.{heard_finish}
use Rattle.proxy_core.proofs.GroupNotes.{About, tells_all, due_quiet, quiet_finish}
use Rattle.proxy_core.proofs.Hearing.{come_told, come_takes}
use Rattle.proxy_core.proofs.Meeting.{come_further, last_further}
use Rattle.proxy_core.proofs.Licensing.{come_licensed}
use Rattle.proxy_core.proofs.Linking.{linked_over, longer_linked}
use Rattle.proxy_core.proofs.Standing.{longer_pays, served_at}
use Rattle.proxy_core.proofs.Sums.{causes_due, causes_on, finish_of_causes, shown_due, shown_on}
use Rattle.proxy_core.proofs.SoundAccepts.{or_false}
use Rattle.proxy_core.proofs.SoundComes.{ring_came, calls_on, MayCome, or_true, or_first, ends_told}
use Rattle.proxy_core.proofs.EdgeNotes.{edges_come}
use Rattle.proxy_core.proofs.LateServers.{come_late}
use Rattle.core_events.specs.Edges.{is_connecting}

-- one that found no memory has finished
some_last : (cs : List Cause) → further.is_some_of (cs ++ Memory ∷ []) ≡ true
some_last [] = refl
some_last (x ∷ xs) = refl

pub failed_finished : (C : Config) (c : ℕ) (z : Seen) → Served C c z → z.heard.finished ≡ finish_told (map tells z.heard.notes) → z.heard.failed ≡ true → z.heard.finished ≡ true
failed_finished C c z k told has =
    let causes = map cause_of (reasons_in z.place) in
    told ∙ finish_of_causes z.heard.notes ∙ ap (λ x. further.is_some_of x) (k.causes ∙ ap (λ b. causes ++ causes_behind b) has) ∙ some_last causes

-- something comes of one that found no memory
spot_failed : (c : ℕ) (ready : List ℕ) (asked : List (List (List ℕ))) (g : Setup) (took took' : TakenCounts) (l at : TraceState) (e e' : Edges) → Spot true true ready asked g took l e → Spot true true (woken_of (is_any asked) c ready) asked g took' at e'
spot_failed c [] asked g took took' l at e e' s = absurd s
spot_failed c (x ∷ []) [] g took took' l at e e' s = tt
spot_failed c (x ∷ []) (call ∷ ks) g took took' l at e e' s = absurd s
spot_failed c (x ∷ (y ∷ ys)) asked g took took' l at e e' s = absurd s

pub failed_comes : (C : Config) (past : Past) (c : ℕ) (input : Input) (old : State) → MayCome C c input (seen past old c) → (heard c past).failed ≡ true → Served C c (seen_after past (Comes c input) [] (came c false old) c)
failed_comes C past c input old m has_failed =
    let z = seen past old c in
    let h = z.heard in
    let v = Comes c input in
    let h' = hears c h v [] in
    let g = setup_of C h in
    let k = m.served in
    let l = stand_of C h z.place in
    let f = further_of c h v [] in
    let at = longer f l in
    let took = taken h' in
    let t = come_told c h input [] tt in
    let quiet = due_quiet c [] tt in
    let going : finish_told (notes_about c []) ≡ false = ap finish_told (tells_all c [] tt) in
    let stands = stands_come g c h input [] z.place l (heard_uncut c past) quiet going k.stands in
    let same : h'.failed ≡ h.failed = t.failed ∙ or_false h.failed in
    let failed : h'.failed ≡ true = same ∙ has_failed in
    let finished = failed_finished C c z k (heard_finish c past) has_failed in
    let none : f.connects ≡ [] = ap (λ x. x.connects) (come_further c h input [] quiet going) ∙ ap (λ b. (unless_finished b (further_in input)).connects) finished in
    let z' = seen_after past v [] (came c false old) c in
    let ready : z'.ready ≡ woken_of (is_any z.asked) c z.ready = ring_came false c old in
    let T : Bool → Type 0 = λ b. Spot b z.live z.ready z.asked g (taken h) l h.edges in
    let S : Bool → Type 0 = λ b. Spot true b z.ready z.asked g (taken h) l h.edges in
    let spot = spot_failed c z.ready z.asked g (taken h) took l at h.edges h'.edges (subst S m.live (subst T has_failed k.spot)) in
    let F : Bool → Type 0 = λ b. Spot b z'.live z'.ready z.asked g took at h'.edges in
    let L : Bool → Type 0 = λ b. Spot true b z'.ready z.asked g took at h'.edges in
    let R : List ℕ → Type 0 = λ r. Spot true true r z.asked g took at h'.edges in
    let K : List Note → Type 0 = λ ns. CallsTold h'.failed z'.asked z.place ns in
    served_at C c z' g at (ap (setup_in C) t.accepted) (record {
      stands = stands;
      met = met_more no_bytes (taken h) took z.place (come_takes c h input []) k.met;
      within = m.within [];
      paid = longer_pays g z.place l f z.spent k.paid;
      shown = ap (filter shows) t.notes ∙ shown_due c h.notes [] (notes_of c z.place) tt k.shown;
      causes = ap causes_told t.notes ∙ causes_due c h.notes [] (map cause_of (reasons_in z.place) ++ causes_behind h.failed) tt k.causes ∙ ap (λ b. map cause_of (reasons_in z.place) ++ causes_behind b) (sym same);
      ends = ends_told c z z' [] false k.ends m.live t.notes m.live (none_ends c (untaken_all h' z.place)) (λ o. absurd (let x : false ≡ true = o in cc)) (λ o. t.finished ∙ or_first h.finished (finish_told (map tells [])) o) (λ o. absurd (let x : false ≡ true = o in cc)) (λ x side q. absurd (let y : true ≡ false = sym failed ∙ x in cc));
      closed_over = λ x. absurd (let y : true ≡ false = sym failed ∙ x in cc);
      linked = linked_over h.finished h'.finished (taken h) took at h.edges.server.state h'.edges.server.state (t.finished ∙ or_first h.finished (finish_told (map tells [])) finished) (longer_linked h.finished (taken h) f l h.edges.server.state none k.linked);
      late = come_late c h input [] f l h'.edges.server.state (t.finished ∙ ap (λ ts. h.finished || finish_told ts) (sym (tells_all c [] tt))) (come_further c h input [] quiet going ∙ ap (λ b. unless_finished b (further_in input)) (sym (or_false h.finished) ∙ ap (λ b. h.finished || b) (sym going))) m.asked
          (λ x. sym (ap (λ y. is_connecting y.server.state) (edges_come c h input [] tt)) ∙ x) k.late;
      drains = λ x. absurd (let y : true ≡ false = sym (t.finished ∙ or_first h.finished (finish_told (map tells [])) finished) ∙ x in cc);
      licensed = come_licensed c h input [] (heard_uncut c past) quiet.cut k.licensed;
      told = subst K (sym t.notes) (calls_on h.failed h'.failed z.asked z'.asked z.place h.notes [] k.told refl (λ x. (sym same ∙ x, refl)));
      spot = subst F (sym failed) (subst L (sym m.live) (subst R (sym ready) spot));
    })

-- bytes that found no memory
spot_lacks : (c : ℕ) (ready : List ℕ) (asked : List (List (List ℕ))) (g : Setup) (took took' : TakenCounts) (l at : TraceState) (e e' : Edges) → Spot false true ready asked g took l e → Spot true true (ready_of c ready) [] g took' at e'
spot_lacks c [] [] g took took' l at e e' s = tt
spot_lacks c [] (call ∷ []) g took took' l at e e' s = tt
spot_lacks c [] (call ∷ (k ∷ ks)) g took took' l at e e' s = absurd s
spot_lacks c (x ∷ []) [] g took took' l at e e' s = tt
spot_lacks c (x ∷ []) (call ∷ ks) g took took' l at e e' s = absurd s
spot_lacks c (x ∷ (y ∷ ys)) asked g took took' l at e e' s = absurd s

-- where it stands once it has finished for want of memory
stands_last : (g : Setup) (c : ℕ) (h : Heard) (input : Input) (group : List Note) (place : List Item) (l : TraceState) → UncutOr h.cut h.finished → TellsNothing c group → finish_told (notes_about c group) ≡ true → Unfolds g (start_of g h) place l → Unfolds g (start_of g (hears c h (Comes c input) group)) place (longer nothing_further l)
stands_last g c h input group place l (inl none) quiet last u =
    let P : Further → Type 0 = λ f. Unfolds g (start_of g (hears c h (Comes c input) group)) place (longer f l) in
    subst P (last_further c h (Comes c input) group quiet last) (stands_uncut g c h (Comes c input) group place l none quiet u)
stands_last g c h input group place l (inr done) quiet last u =
    let P : List Reply → Type 0 = λ rs. Unfolds g (start_of g (hears c h (Comes c input) group)) place (longer (replies_only rs) l) in
    subst P quiet.replies (finished_stands g c h (Comes c input) group place l done quiet.choices quiet.cut u)

pub lack_served : (C : Config) (past : Past) (c : ℕ) (input : Input) (old : State) → MayCome C c input (seen past old c) → (heard c past).failed ≡ false → Served C c (seen_after past (Comes c input) (Finish c Memory ∷ []) (lacked c old) c)
lack_served C past c input old m found =
    let z = seen past old c in
    let h = z.heard in
    let v = Comes c input in
    let group : List Note = Finish c Memory ∷ [] in
    let h' = hears c h v group in
    let g = setup_of C h in
    let k = m.served in
    let l = stand_of C h z.place in
    let at = longer nothing_further l in
    let took = taken h' in
    let about : About c group = (refl, tt) in
    let t = come_told c h input group about in
    let stands = stands_last g c h input group z.place l (heard_uncut c past) (quiet_finish c) (ap finish_told (tells_all c group about)) k.stands in
    let failed : h'.failed ≡ true = t.failed ∙ ap (λ b. b || true) found in
    let finished : h'.finished ≡ true = t.finished ∙ or_true h.finished in
    let z' = seen_after past v group (lacked c old) c in
    let ready : z'.ready ≡ ready_of c z.ready = entries_ready_self c old.ring in
    let asked : z'.asked ≡ [] = lacked_open c old in
    let T : Bool → Type 0 = λ b. Spot b z.live z.ready z.asked g (taken h) l h.edges in
    let S : Bool → Type 0 = λ b. Spot false b z.ready z.asked g (taken h) l h.edges in
    let spot = spot_lacks c z.ready z.asked g (taken h) took l at h.edges h'.edges (subst S m.live (subst T found k.spot)) in
    let F : Bool → Type 0 = λ b. Spot b z'.live z'.ready z'.asked g took at h'.edges in
    let L : Bool → Type 0 = λ b. Spot true b z'.ready z'.asked g took at h'.edges in
    let R : List ℕ → Type 0 = λ r. Spot true true r z'.asked g took at h'.edges in
    let A : List (List (List ℕ)) → Type 0 = λ x. Spot true true (ready_of c z.ready) x g took at h'.edges in
    let K : List Note → Type 0 = λ ns. CallsTold h'.failed z'.asked z.place ns in
    let causes = map cause_of (reasons_in z.place) in
    served_at C c z' g at (ap (setup_in C) t.accepted) (record {
      stands = stands;
      met = met_more no_bytes (taken h) took z.place (come_takes c h input group) k.met;
      within = m.within group;
      paid = longer_pays g z.place l nothing_further z.spent k.paid;
      shown = ap (filter shows) t.notes ∙ shown_on h.notes group ∙ append-nil (filter shows h.notes) ∙ k.shown;
      causes = ap causes_told t.notes ∙ causes_on h.notes group ∙ ap (λ x. x ++ Memory ∷ []) (k.causes ∙ ap (λ b. causes ++ causes_behind b) found ∙ append-nil causes) ∙ ap (λ b. causes ++ causes_behind b) (sym failed);
      ends = ends_told c z z' group false k.ends m.live t.notes m.live (record { going = λ n. refl; last = λ o. absurd (let x : false ≡ true = o in cc) }) (λ o. absurd (let x : false ≡ true = o in cc)) (λ o. finished) (λ o. finished) (λ x side q. absurd (let y : true ≡ false = sym failed ∙ x in cc));
      closed_over = λ x. absurd (let y : true ≡ false = sym failed ∙ x in cc);
      linked = linked_over h.finished h'.finished (taken h) took at h.edges.server.state h'.edges.server.state finished (longer_linked h.finished (taken h) nothing_further l h.edges.server.state refl k.linked);
      late = come_late c h input group nothing_further l h'.edges.server.state (t.finished ∙ ap (λ ts. h.finished || finish_told ts) (sym (tells_all c group about))) (ap (λ b. unless_finished b (further_in input)) (sym (or_true h.finished) ∙ ap (λ b. h.finished || b) (sym (ap finish_told (tells_all c group about))))) m.asked
          (λ x. sym (ap (λ y. is_connecting y.server.state) (edges_come c h input group about)) ∙ x) k.late;
      drains = λ x. absurd (let y : true ≡ false = sym finished ∙ x in cc);
      licensed = come_licensed c h input group (heard_uncut c past) (quiet_finish c).cut k.licensed;
      told = subst K (sym t.notes) (calls_on h.failed h'.failed z.asked z'.asked z.place h.notes group k.told refl (λ x. absurd (let y : true ≡ false = sym failed ∙ x in cc)));
      spot = subst F (sym failed) (subst L (sym m.live) (subst R (sym ready) (subst A (sym asked) spot)));
    })

-- ---- events that tell nothing of the sides
