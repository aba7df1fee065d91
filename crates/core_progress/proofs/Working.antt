-- Each Run or Turn that finds something to do gives something, or leaves less to do.
use Rattle.std.proofs.Common.{◌≡◌, ◌⊎◌, inl, inr, refl, sym, subst, ℕ, suc, ◌+◌, ◌-◌, ◌*◌, ◌≤◌, List, [], ◌∷◌, ◌++◌, length, Bool, true, false, Option, nat_eq, if◌then◌else◌, arith}
use Rattle.std.specs.Bool.{MatchBool}
use Rattle.std.proofs.lemmas.Bool.Decides.{nat_tests}
use Rattle.std.proofs.lemmas.List.{length-append}
use Rattle.core_events.specs.Edges.{edges_noted}
use Rattle.core_events.specs.Kinds.{kind_of}
use Rattle.core_events.specs.declared.event_kind.EventKind.{EventKind}
use Rattle.core_events.specs.declared.event_kind.EventKind.TheVariants.{Accepts, Comes, Ticks, Turns, Runs, Marks}
use Rattle.core_events.specs.declared.note.Note.{Note}
use Rattle.conn_trace.specs.Gates.{Counts, TakenCounts}
use Rattle.conn_trace.specs.Heard.{Heard, taken}
use Rattle.conn_trace.specs.Item.{Item, calls_in}
use Rattle.conn.specs.RunsItems.{asked_at, slices_in, told_behind}
use Rattle.conn_trace.specs.Setup.{Setup}
use Rattle.conn_trace.specs.State.{TraceState}
use Rattle.core_events.specs.declared.edges.Edges.{Edges}
use Rattle.conn.specs.Servers.{run_notes}
use Rattle.conn.specs.declared.turn.ConnTurn.{ConnTurn}
use Rattle.conn.specs.declared.turn.ConnTurn.TheVariants as turn
use Rattle.proxy_core.specs.Calls.{queue_behind, sleeps}
use Rattle.proxy_core.specs.Moves.{MovesQueue, MovesRing, MovesBy, RunsFailed, RunsOn, RunsOut, asleep_behind, ran}
use Rattle.proxy_core.specs.Ready.{is_in, ring_behind, with_ready}
use Rattle.proxy_core.specs.Scheduler.{State, untaken_all}
use Rattle.proxy_core.specs.declared.call.Asked.{Asked}
use Rattle.proxy_core.specs.declared.call.Asleep.{Asleep}
use Rattle.record_model.specs.History.{store_of}
use Rattle.record_model.specs.Past.{Past, heard, shared}
use Rattle.record_model.specs.Setup.{setup_of, stand_of}
use Rattle.run_config.specs.declared.config.Config.{Config}
use Rattle.shared_store.specs.Store.{StoreState}
use Rattle.core_progress.specs.Progress.{FindsWork, Works, all_gave, front_gave, gave, to_do, SettledComes}

-- ---- what gets ready, and what is asked

ready_by : (there : Bool) (ring : List ℕ) (n : ℕ) → length (if there then ring else ring ++ n ∷ []) ≤ length ring + 1
ready_by true ring n = omega arith
ready_by false ring n = let k = length-append ring (n ∷ []) in omega (arith, k)

one_ready : (ring : List ℕ) (n : ℕ) → length (with_ready ring n) ≤ length ring + 1
one_ready ring n = ready_by (is_in ring n) ring n

asked_by : (asleep : Bool) (queue : List Asked) (a : Asked) → length (if asleep then queue else queue ++ a ∷ []) ≤ length queue + 1
asked_by true queue a = omega arith
asked_by false queue a = let k = length-append queue (a ∷ []) in omega (arith, k)

-- ---- what a Run gives

some_call : (call : List (List ℕ)) (more : List Item) → calls_in more ≡ call ∷ [] → 1 ≤ length more
some_call call [] e = cc
some_call call (i ∷ more) e = omega arith

-- in the middle: behind notes, or as a slice
some_slice : (c : ℕ) (sent : Counts) (took : TakenCounts) (more : List Item) (told : List Note) → told ≡ run_notes c sent took more ++ [] → 1 ≤ length more + slices_in turn.More (length told)
some_slice c sent took [] told e = subst (λ t. 1 ≤ 0 + slices_in turn.More (length t)) (sym e) (omega arith)
some_slice c sent took (i ∷ more) told e = omega arith

-- what is to do behind it: one Run less, but for what the items and slices are for
left : (t : ConnTurn) (g : Setup) (at : TraceState) (e : Edges) (dropped c : ℕ) (rest : List ℕ) (queue : List Asked) (more : List Item) (sent : Counts) (took : TakenCounts) (told : List Note) → told ≡ run_notes c sent took more ++ told_behind t g took at c e dropped → calls_in more ≡ asked_at t
    → 1 + (length (ring_behind t c rest) + 2 * length (queue_behind t c queue)) ≤ (suc (length rest)) + 2 * length queue + 2 * (length more + slices_in t (length told))
left turn.More g at e dropped c rest queue more sent took told noted calls =
    let k = one_ready rest c in
    let p = some_slice c sent took more told noted in
    omega (arith, k, p)
left (turn.Asks call) g at e dropped c rest queue more sent took told noted calls =
    let k = asked_by (sleeps call) queue (record { conn = c; call = call }) in
    let p = some_call call more calls in
    omega (arith, k, p)
left turn.NotYet g at e dropped c rest queue more sent took told noted calls = omega arith
left turn.Over g at e dropped c rest queue more sent took told noted calls = omega arith

same_number : (c : ℕ) → nat_eq c c ≡ true
same_number c = grind (arith, nat_tests)

-- how many items and slices the front of a ring gave, by what they were
gave_so : (c slices : ℕ) (rest ring : List ℕ) (queue : List Asked) (asleep : Option Asleep) (more : List Item) (old : State) → front_gave (c ∷ rest) old (ran c ring queue asleep more slices old) ≡ length more + slices
gave_so c slices rest ring queue asleep more old =
    let by : (b : Bool) → b ≡ true → (length (if b then old.places c ++ more else old.places c) - length (old.places c)) + ((if b then old.spent c + slices else old.spent c) - old.spent c) ≡ length more + slices
    = λ b is. subst (λ b. (length (if b then old.places c ++ more else old.places c) - length (old.places c)) + ((if b then old.spent c + slices else old.spent c) - old.spent c) ≡ length more + slices) (sym is)
    (let k = length-append (old.places c) more in omega (arith, k)) in
    by (nat_eq c c) (same_number c)

-- a Run of a ring leaves less to do, but for what it gave
abbrev Less : List ℕ → (old new : State) → Type 0
Less ring old new = 1 + to_do new ≤ (length ring + 2 * length old.queue) + 2 * front_gave ring old new

runs_on : (C : Config) (h : Heard) (moment c : ℕ) (rest : List ℕ) (group : List Note) (old new : State) → RunsOn C h moment c rest group old new → Less (c ∷ rest) old new
runs_on C h moment c rest group old new k =
    let slices = slices_in k.turn (length k.told) in
    let ring = ring_behind k.turn c rest in
    let queue = queue_behind k.turn c old.queue in
    let P : ℕ → Type 0 = λ n. 1 + (length ring + 2 * length queue) ≤ (suc (length rest) + 2 * length old.queue) + 2 * n in
    subst (Less (c ∷ rest) old) (sym k.state)
    (subst P (sym (gave_so c slices rest ring queue (asleep_behind k.turn c moment (old.asleep c)) k.more old))
    (left k.turn (setup_of C h) k.at (edges_noted (run_notes c (stand_of C h (old.places c)).sent (taken h) k.more) h.edges) (untaken_all h (old.places c ++ k.more)) c rest old.queue k.more (stand_of C h (old.places c)).sent (taken h) k.told k.items.noted k.items.calls))

runs_out : (C : Config) (h : Heard) (c : ℕ) (rest : List ℕ) (group : List Note) (old new : State) → RunsOut C h c rest group old new → Less (c ∷ rest) old new
runs_out C h c rest group old new k = subst (Less (c ∷ rest) old) (sym k.state) (omega arith)

runs_failed : (h : Heard) (c : ℕ) (rest : List ℕ) (group : List Note) (old new : State) → RunsFailed h c rest group old new → Less (c ∷ rest) old new
runs_failed h c rest group old new k = subst (Less (c ∷ rest) old) (sym k.state) (omega arith)

front_runs : (C : Config) (h : Heard) (failed : Bool) (moment c : ℕ) (rest : List ℕ) (group : List Note) (old new : State) → MatchBool failed (RunsFailed h c rest group old new) (RunsOn C h moment c rest group old new ⊎ RunsOut C h c rest group old new) → Less (c ∷ rest) old new
front_runs C h true moment c rest group old new k = runs_failed h c rest group old new k
front_runs C h false moment c rest group old new (inl k) = runs_on C h moment c rest group old new k
front_runs C h false moment c rest group old new (inr k) = runs_out C h c rest group old new k

ring_runs : (C : Config) (past : Past) (ring : List ℕ) (group : List Note) (old new : State) → (ring ≡ [] → ⊥) → MovesRing C past ring group old new → Less ring old new
ring_runs C past [] group old new some k = absurd (some refl)
ring_runs C past (c ∷ rest) group old new some k = front_runs C (heard c past) (heard c past).failed (shared past).moment c rest group old new k

-- ---- a Turn leaves a Run to do where there was a call

queue_turns : (store : StoreState) (moment : ℕ) (queue : List Asked) (group : List Note) (old new : State) → (queue ≡ [] → ⊥) → MovesQueue store moment queue group old new → 1 + to_do new ≤ length old.ring + 2 * length queue
queue_turns store moment [] group old new some k = absurd (some refl)
queue_turns store moment (a ∷ rest) group old new some k =
    let r = one_ready old.ring a.conn in
    subst (λ s. 1 + to_do s ≤ length old.ring + 2 * suc (length rest)) (sym k.state) (omega (arith, r))

-- ---- one event, and all

one : (C : Config) (past : Past) (v : EventKind) (group : List Note) (old new : State) → FindsWork v old → MovesBy C past v group old new → 1 + to_do new ≤ to_do old + 2 * gave v old new
one C past Runs group old new some k = ring_runs C past old.ring group old new some k
one C past Turns group old new some k = let q = queue_turns (store_of C past) (shared past).moment old.queue group old new some k in omega (arith, q)
one C past (Accepts c vs from) group old new some k = absurd some
one C past (Comes c input) group old new some k = absurd some
one C past (Ticks moment) group old new some k = absurd some
one C past (Marks pool member up) group old new some k = absurd some

each : (C : Config) (past more : Past) (from to : State) (w : Works C past more from to) → length more + to_do to ≤ to_do from + 2 * all_gave C past more from to w
each C past [] from to w = subst (λ s. 0 + to_do s ≤ to_do from + 2 * 0) (sym w) (omega arith)
each C past (x ∷ more) from to w =
    let before = each C past more from w.0 w.1 in
    let last = one C (more ++ past) (kind_of x.event) x.group w.0 to w.2 w.3 in
    omega (arith, before, last)

none : {T : Type 0} (xs : List T) → ((xs ≡ [] → ⊥) → ⊥) → xs ≡ []
none [] k = refl
none (x ∷ xs) k = absurd (k (λ e. cc))

pub comes : SettledComes
comes = record {
  each_gives_or_leaves_less = each;
  settled_behind_all = λ s runs turns. record { none_ready = none s.ring runs; none_asks = none s.queue turns };
}
