-- The notes of each event fit where the ends of their connection stand.
use Rattle.std.proofs.Common.{◌≡◌, ◌⊎◌, inl, inr, refl, sym, ap, subst, ◌∙◌, ℕ, List, [], ◌∷◌, ◌++◌, Bool, true, false, ◌&&◌, not, true≢false, nat_eq, if◌then◌else◌}
use Rattle.std.specs.Prelude.{is_some}
use Rattle.std.specs.Bool.{MatchBool}
use Rattle.std.proofs.lemmas.Bool.{and_parts}
use Rattle.px_bytes.specs.declared.addr.Side.{Side}
use Rattle.px_bytes.specs.declared.addr.Side.TheVariants.{Client, Server}
use Rattle.px_bytes.specs.declared.fault.Reply.{Reply}
use Rattle.event_order.specs.declared.event.EventName.TheVariants.{ClientData, ServerData}
use Rattle.core_events.specs.declared.edges.Edges.{Edges}
use Rattle.core_events.specs.declared.edges.EdgeState.{EdgeState}
use Rattle.core_events.specs.declared.note.Cause.TheVariants.{Memory}
use Rattle.core_events.specs.declared.note.Note.{Note}
use Rattle.core_events.specs.declared.note.Note.TheVariants as note
use Rattle.core_events.specs.Edges.{edge_of, edges_noted}
use Rattle.conn_trace.specs.Further.{longer}
use Rattle.conn_trace.specs.Gates.{Counts, TakenCounts, to_take}
use Rattle.core_events.specs.declared.event_kind.EventKind.{EventKind}
use Rattle.core_events.specs.declared.event_kind.EventKind.TheVariants.{Accepts, Comes, Ticks}
use Rattle.core_events.specs.declared.event_kind.EventKind.TheVariants.{Turns, Runs, Marks}
use Rattle.core_events.specs.declared.input.Input.{Input}
use Rattle.conn_trace.specs.Heard.{Heard, hears, edges_met, event_edges, taken}
use Rattle.conn_trace.specs.HeardLaws.{taken_by_items}
use Rattle.conn_trace.specs.Item.{Item}
use Rattle.conn_trace.specs.Phases.{Orderly}
use Rattle.conn_trace.specs.Places.{is_up}
use Rattle.conn_trace.specs.Queries.{half_close_due, relays_at}
use Rattle.conn_trace.specs.Setup.{Setup}
use Rattle.conn_trace.specs.State.{Phase, InEvent, Relaying, Link, Absent, Asked, Up, Left, GivenUp, TraceState, link_of}
use Rattle.conn_trace.specs.Tellings.{own}
use Rattle.conn_trace.specs.Trace.{next_item, Unfolds}
use Rattle.conn_trace.proofs.Stepping.{steps}
use Rattle.conn.specs.RunsItems.{Passes}
use Rattle.conn.specs.Servers.{run_notes}
use Rattle.conn.specs.Settling.{closing, is_over, settling_at, took_all, given_up_at}
use Rattle.shared_store.specs.Calls.{reply}
use Rattle.shared_store.specs.Store.{StoreState}
use Rattle.proxy_core.specs.Calls.{asker}
use Rattle.proxy_core.specs.Fitting.{Fit, NotesFitEdges}
use Rattle.record_model.specs.History.{store_of}
use Rattle.proxy_core.specs.Live.{entry_note}
use Rattle.proxy_core.specs.Moves.{MovesFailed, MovesLacks, MovesOn, MovesCome, MovesRing, MovesFront, MovesQueue, TurnNotes, MovesBy, RunsOn, RunsOut, RunsFailed, told_last}
use Rattle.proxy_core.specs.Others.{about, front}
use Rattle.core_events.specs.Kinds.{kind_of}
use Rattle.record_model.specs.Past.{Past, heard, shared}
use Rattle.proxy_core.specs.Scheduler.{State, Seen, seen, untaken_all}
use Rattle.proxy_core.specs.Servers.{is_serving, is_used, awaits, LinkedAt, Linked}
use Rattle.record_model.specs.Setup.{setup_of, stand_of}
use Rattle.proxy_core.specs.Sound.{is_closed, Served, Sound}
use Rattle.proxy_core.specs.declared.call.Asked.{Asked as Call}
use Rattle.run_config.specs.declared.config.Config.{Config}
use Rattle.proxy_core.proofs.Drains.{longer_orderly}
use Rattle.proxy_core.proofs.Finished.{heard_finish, stands_orderly, trace_finished}
use Rattle.proxy_core.proofs.Framing.{touches, about_last}
use Rattle.proxy_core.proofs.GroupNotes.{About, about_joined, closing_due, due_about, own_all, own_none, settling_due, whole_notes}
use Rattle.proxy_core.proofs.Linking.{RunLinked, fit_joined, linked_now, linked_then, longer_linked, run_linked}
use Rattle.proxy_core.proofs.Members.{eq_same, eq_self}
use Rattle.proxy_core.proofs.RunNotes.{about_runs, of_runs, runs_client}
use Rattle.proxy_core.proofs.ServerLaws.{ordered_longer, went_on}
use Rattle.proxy_core.proofs.ServerLeft.{ordered_at}
use Rattle.proxy_core.proofs.SoundPast.{front_served, leads_sound}
use Rattle.proxy_core.proofs.ServerGone.{never}
use Rattle.proxy_core.proofs.DueFits.{Begun, client_begun, fit_settling, fit_closing, HalvesThere, fit_last}

-- ---- a half-close is due on a connection that relays

record Relays (at : TraceState) : Type 0 where
  going : at.finished ≡ false
  up : is_up (link_of at.server) ≡ true
  settled : awaits at.phase ≡ false

up_only : (p : Phase) (k : Link) → relays_at p k ≡ true → is_up k ≡ true
up_only Relaying Up e = refl
up_only Relaying Absent e = never e
up_only Relaying Asked e = never e
up_only Relaying (Left b) e = never e
up_only Relaying GivenUp e = never e
up_only (InEvent ClientData bodies) Up e = refl
up_only (InEvent ClientData bodies) Absent e = never e
up_only (InEvent ClientData bodies) Asked e = never e
up_only (InEvent ClientData bodies) (Left b) e = never e
up_only (InEvent ClientData bodies) GivenUp e = never e
up_only (InEvent ServerData bodies) Up e = refl
up_only (InEvent ServerData bodies) Absent e = never e
up_only (InEvent ServerData bodies) Asked e = never e
up_only (InEvent ServerData bodies) (Left b) e = never e
up_only (InEvent ServerData bodies) GivenUp e = never e
up_only other k e = never e

awaits_none : (p : Phase) (k : Link) → relays_at p k ≡ true → awaits p ≡ false
awaits_none Relaying k e = refl
awaits_none (InEvent event bodies) k e = refl
awaits_none other k e = never e

not_true : (b : Bool) → not b ≡ true → b ≡ false
not_true true e = never e
not_true false e = refl

relays : (at : TraceState) (took : TakenCounts) (side : Side) → half_close_due at took side ≡ true → Relays at
relays at took side e =
    let first = (and_parts (relays_at at.phase (link_of at.server) && not at.finished) _ e).0 in
    let parts = and_parts (relays_at at.phase (link_of at.server)) (not at.finished) first in
    record { going = not_true at.finished parts.1; up = up_only at.phase (link_of at.server) parts.0; settled = awaits_none at.phase (link_of at.server) parts.0 }

-- ---- a Run

not_before : (g : Setup) (l at : TraceState) (items : List Item) → Orderly l → Unfolds g l items at → at.finished ≡ false → l.finished ≡ false
not_before g l at [] o is e = ap (λ x. x.finished) is ∙ e
not_before g l at (i ∷ items) o (mid, step, rest) e = let s = steps g l mid i o step in went_on l mid i s (not_before g mid at items s.orderly rest e)

-- its items' notes fit, and behind them what is to be half closed is there
record RunFits (took : TakenCounts) (l at : TraceState) (c : ℕ) (more : List Item) (e : Edges) : Type 0 where
  items : Fit (run_notes c l.sent took more) e
  halves : HalvesThere took at (edges_noted (run_notes c l.sent took more) e)

-- one that is up is served
up_serves : (k : Link) → is_up k ≡ true → is_serving k ≡ true
up_serves Up e = refl
up_serves Absent e = never e
up_serves Asked e = never e
up_serves (Left b) e = never e
up_serves GivenUp e = never e

module _ (C : Config) (past : Past) (old : State) (sound : Sound C past old) where
  front_fits : (c : ℕ) (more : List Item) (at : TraceState) → (heard c past).failed ≡ false → is_some (heard c past).accepted ≡ true → Served C c (seen past old c)
      → Passes (setup_of C (heard c past)) (taken (heard c past)) (stand_of C (heard c past) (old.places c)) more at → RunFits (taken (heard c past)) (stand_of C (heard c past) (old.places c)) at c more (heard c past).edges
  front_fits c more at found accepted k p =
      record { items = ran.fits; halves = λ side due. by_side side due (relays at (taken h) side due) }
    where
      z : Seen
      z = seen past old c

      h : Heard
      h = heard c past

      g : Setup
      g = setup_of C h

      l : TraceState
      l = stand_of C h z.place

      s : EdgeState
      s = h.edges.server.state

      same : l.finished ≡ h.finished
      same = trace_finished C c z k (heard_finish c past) found

      was : Linked l.finished (taken h) l s
      was = linked_now h.finished l.finished (taken h) l s s (λ x. sym same ∙ x) (λ x. refl) k.linked

      ran : RunLinked (taken h) (longer (taken_by_items (taken h) more) l) at c more h.edges
      ran =
          let f = taken_by_items (taken h) more in
          run_linked g (taken h) (longer f l) at more c h.edges (ordered_longer f l (ordered_at g h z.place l k.stands)) (longer_linked l.finished (taken h) f l s refl was) p.met p.passed

      notes : List Note
      notes = run_notes c l.sent (taken h) more

      ends : Edges
      ends = edges_noted notes h.edges

      by_begun : l.finished ≡ false → Begun h.edges → is_used h.edges.client.state ≡ true
      by_begun going (inl opens) = ap is_used opens
      by_begun going (inr shut) = absurd (true≢false (sym ((k.closed_over found).client (ap is_closed shut)).1 ∙ going))

      by_side : (side : Side) → half_close_due at (taken h) side ≡ true → Relays at → is_used (edge_of side ends).state ≡ true
      by_side Client due r =
          let f = taken_by_items (taken h) more in
          let going = not_before g (longer f l) at more (longer_orderly f l (stands_orderly C c z k)) p.passed r.going in
          ap is_used (runs_client c notes h.edges (of_runs c l.sent (taken h) more)) ∙ by_begun going (client_begun c past accepted)
      by_side Server due r = ap is_used (subst (λ b. LinkedAt b (given_up_at at) (to_take at.sent (taken h) Server) ends.server.state) (up_serves (link_of at.server) r.up) (linked_then at.finished (taken h) at ends.server.state ran.linked r.settled r.going))

  -- its notes fit
  fit_told : (c : ℕ) (group notes : List Note) (e : Edges) → group ≡ notes → About c notes → Fit notes e → Fit (own c group) e
  fit_told c group notes e k a f =
      let P : List Note → Type 0 = λ g. Fit g e in
      subst P (sym (ap (own c) k ∙ own_all c notes a)) f

  none_fits : (c : ℕ) (group : List Note) (e : Edges) → group ≡ [] → Fit (own c group) e
  none_fits c group e k = fit_told c group [] e k tt tt

  come_fits : (c : ℕ) (input : Input) (group : List Note) (new : State) → MovesCome C input (heard c past) (hears c (heard c past) (Comes c input) group) c group old new → Fit (own c group) (event_edges c (Comes c input) (heard c past).edges)
  come_fits c input group new m = by_failed (heard c past).failed m
    where
      now : Heard
      now = hears c (heard c past) (Comes c input) group

      e : Edges
      e = event_edges c (Comes c input) (heard c past).edges

      met : Edges
      met = edges_met input (heard c past).edges

      by_failed : (b : Bool) → MatchBool b (MovesFailed c group old new) (MovesOn C now c met group old new ⊎ MovesLacks input c group old new) → Fit (own c group) e
      by_failed true k = none_fits c group e k.notes
      by_failed false (inl k) =
          let there = stand_of C now (old.places c) in
          let took = taken now in
          let d = untaken_all now (old.places c) in
          let over = is_over (next_item (setup_of C now) there) in
          let notes = settling_at (setup_of C now) took there c met d in
          let P : Edges → Type 0 = λ y. Fit notes y in
          let same : e ≡ met = ap (λ b. if b then met else (heard c past).edges) (eq_self c) in
          fit_told c group notes e k.notes (due_about c notes (settling_due over (given_up_at there) c met (took_all there took Server) (took_all there took Client) d))
          (subst P (sym same) (fit_settling over (given_up_at there) c met met (took_all there took Server) (took_all there took Client) d refl refl))
      by_failed false (inr k) = fit_told c group (note.Finish c Memory ∷ []) e k.notes (refl, tt) (refl, tt)

  run_fits : (c : ℕ) (rest : List ℕ) (group : List Note) (new : State) → old.ring ≡ c ∷ rest → MovesFront C (heard c past) (shared past).moment c rest group old new → Fit (own c group) (heard c past).edges
  run_fits c rest group new ring m = by_failed (heard c past).failed refl m
    where
      h : Heard
      h = heard c past

      sent : Counts
      sent = (stand_of C h (old.places c)).sent

      behind : (more : List Item) (last : List Note) → group ≡ run_notes c sent (taken h) more ++ last → About c last → Fit (run_notes c sent (taken h) more) h.edges → Fit last (edges_noted (run_notes c sent (taken h) more) h.edges) → Fit (own c group) h.edges
      behind more last k a f f' =
          let notes = run_notes c sent (taken h) more in
          fit_told c group (notes ++ last) h.edges k (about_joined c notes last (about_runs c notes (of_runs c sent (taken h) more)) a) (fit_joined notes last h.edges f f')

      by_failed : (b : Bool) → h.failed ≡ b → MatchBool b (RunsFailed h c rest group old new) (RunsOn C h (shared past).moment c rest group old new ⊎ RunsOut C h c rest group old new) → Fit (own c group) h.edges
      by_failed true found k =
          let d = untaken_all h (old.places c) in
          fit_told c group (closing c h.edges d) h.edges k.notes (due_about c (closing c h.edges d) (closing_due c h.edges d)) (fit_closing c h.edges d)
      by_failed false found (inl k) =
          let v = front_served C past c rest old ring (sound.each c) in
          let d = untaken_all h (old.places c ++ k.more) in
          let e = edges_noted (run_notes c sent (taken h) k.more) h.edges in
          let r = front_fits c k.more k.at found v.0 v.1 k.items.passes in
          let m = (shared past).moment in
          behind k.more (told_last k.turn (setup_of C h) (taken h) k.at c e d m) (whole_notes k.turn c m group k.told _ _ k.notes k.items.noted) (about_last k.turn (setup_of C h) (taken h) k.at c e d m) r.items (fit_last k.turn (setup_of C h) (taken h) k.at c e d m r.halves)
      by_failed false found (inr k) =
          let v = front_served C past c rest old ring (sound.each c) in
          let d = untaken_all h (old.places c ++ k.more) in
          let e = edges_noted (run_notes c sent (taken h) k.more) h.edges in
          let r = front_fits c k.more k.at found v.0 v.1 k.passes in
          behind k.more (note.Finish c Memory ∷ closing c e d) k.notes (refl, due_about c (closing c e d) (closing_due c e d)) r.items (refl, fit_closing c e d)

  ring_fits : (ring : List ℕ) (group : List Note) (new : State) → old.ring ≡ ring → MovesRing C past ring group old new → Fit (own (front ring) group) (heard (front ring) past).edges
  ring_fits [] group new e m = none_fits 0 group (heard 0 past).edges m.0
  ring_fits (c ∷ rest) group new e m = run_fits c rest group new e m

  queue_fits : (store : StoreState) (moment : ℕ) (queue : List Call) (group : List Note) (new : State) (e : Edges) → MovesQueue store moment queue group old new → Fit (own (asker queue) group) e
  queue_fits store moment [] group new e m = none_fits 0 group e m.0
  queue_fits store moment (a ∷ rest) group new e m = by_notes (reply store moment a.call).reply m.notes
    where
      by_notes : (r : Reply) → TurnNotes a moment r group → Fit (own a.conn group) e
      by_notes r (inl f) = fit_told a.conn group (entry_note a moment r ∷ []) e f (refl, tt) (refl, tt)
      by_notes r (inr (inl f)) = fit_told a.conn group (entry_note a moment r ∷ note.Finish a.conn Memory ∷ []) e f (refl, (refl, tt)) (refl, (refl, tt))
      by_notes r (inr (inr f)) = fit_told a.conn group (note.Finish a.conn Memory ∷ []) e f (refl, tt) (refl, tt)

  accept_fits : (c : ℕ) (group : List Note) (e : Edges) → (group ≡ []) ⊎ (group ≡ note.Finish c Memory ∷ []) → Fit (own c group) e
  accept_fits c group e (inl k) = none_fits c group e k
  accept_fits c group e (inr k) = fit_told c group (note.Finish c Memory ∷ []) e k (refl, tt) (refl, tt)

  own_fits : (v : EventKind) (group : List Note) (new : State) → MovesBy C past v group old new → Fit (own (about v old) group) (event_edges (about v old) v (heard (about v old) past).edges)
  own_fits (Accepts c vs from) group new m = accept_fits c group (event_edges c (Accepts c vs from) (heard c past).edges) m.notes
  own_fits (Comes c input) group new m = come_fits c input group new m
  own_fits (Ticks moment) group new m = none_fits 0 group (heard 0 past).edges m.notes
  own_fits Turns group new m = queue_fits (store_of C past) (shared past).moment old.queue group new (heard (asker old.queue) past).edges m
  own_fits Runs group new m = ring_fits old.ring group new refl m
  own_fits (Marks pool member up) group new m = none_fits 0 group (heard 0 past).edges m.0

pub notes_fit_edges : NotesFitEdges
notes_fit_edges C past s x next leads accepted moves q = by_test (nat_eq (about v s) q) refl
  where
    v : EventKind
    v = kind_of x.event

    by_test : (b : Bool) → nat_eq (about v s) q ≡ b → Fit (own q x.group) (event_edges q v (heard q past).edges)
    by_test true e =
        let P : ℕ → Type 0 = λ n. Fit (own n x.group) (event_edges n v (heard n past).edges) in
        subst P (eq_same (about v s) q e) (own_fits C past s (leads_sound C past s leads) v x.group next moves)
    by_test false e =
        let P : List Note → Type 0 = λ g. Fit g (event_edges q v (heard q past).edges) in
        subst P (sym (own_none (about v s) q x.group (touches C past v x.group s next moves).notes e)) tt
