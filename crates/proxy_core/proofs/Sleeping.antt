-- Each open call stands in time, behind every past: it has slept, or sleeps as was noted. And so the history's entries stand where their calls have
-- slept, and each note that a call sleeps is right.
use Rattle.std.proofs.Common.{◌≡◌, ◌⊎◌, inl, inr, refl, sym, ap, subst, ◌∙◌, ℕ, ◌+◌, ◌≤◌, ◌<◌, min, nat_eq, nat_le, nat_lt, arith, List, [], ◌∷◌, ◌++◌, length, map, Bool, true, false, true≢false, ◌||◌, ◌&&◌, Option, Some, None, if◌then◌else◌}
use Rattle.std.specs.Bool.{MatchBool}
use Rattle.std.specs.List.{list_any}
use Rattle.std.proofs.lemmas.Bool.Decides.{nat_tests}
use Rattle.px_bytes.specs.declared.fault.Reply.{Reply}
use Rattle.core_events.specs.declared.event_kind.EventKind.{EventKind}
use Rattle.core_events.specs.declared.event_kind.EventKind.TheVariants.{Accepts, Comes, Ticks}
use Rattle.core_events.specs.declared.event_kind.EventKind.TheVariants.{Turns, Runs, Marks}
use Rattle.core_events.specs.declared.input.Input.{Input}
use Rattle.core_events.specs.declared.note.Cause.TheVariants.{Memory}
use Rattle.core_events.specs.declared.note.Note.{Note}
use Rattle.core_events.specs.declared.note.Note.TheVariants as note
use Rattle.core_events.specs.Edges.{edges_noted}
use Rattle.core_events.specs.Kinds.{kind_of}
use Rattle.shared_store.specs.Calls.{reply, sleeps_for}
use Rattle.shared_store.specs.Store.{StoreState}
use Rattle.conn_trace.specs.Heard.{Heard, edges_met, hears, taken}
use Rattle.conn_trace.specs.Item.{calls_in}
use Rattle.conn_trace.specs.Tellings.{failure_told, tells}
use Rattle.conn.specs.RunsItems.{told_behind, slices_in}
use Rattle.conn.specs.Servers.{run_notes}
use Rattle.conn.specs.Settling.{closing}
use Rattle.conn.specs.declared.turn.ConnTurn.{ConnTurn}
use Rattle.conn.specs.declared.turn.ConnTurn.TheVariants as turn
use Rattle.record_model.specs.Clock.{AllSlept, AreSleeps, Clock, EntriesAwake, HasSlept, IsSleep, SleepsTold, clock, clock_after, event_clock, is_due, never, notes_clock, wakes_at}
use Rattle.record_model.specs.History.{AreAnswers, Entry, called_in, entries_in, store_of}
use Rattle.record_model.specs.Past.{Happened, Past, heard, shared}
use Rattle.record_model.specs.Refusal.{refusal_rows}
use Rattle.record_model.specs.Setup.{setup_of, stand_of}
use Rattle.run_config.specs.declared.config.Config.{Config}
use Rattle.conn_trace.proofs.Hearing.{others_not_heard}
use Rattle.conn_trace.specs.Gates.{TakenCounts}
use Rattle.conn_trace.specs.State.{TraceState}
use Rattle.conn_trace.specs.Setup.{Setup}
use Rattle.core_events.specs.declared.edges.Edges.{Edges}
use Rattle.px_bytes.specs.declared.addr.Addr.{Addr}
use Rattle.std.proofs.Math.Nat.{min-eq_left, min-eq_right}
use Rattle.proxy_core.specs.Ready.{ring_behind, with_ready}
use Rattle.proxy_core.proofs.SoundRuns.{at_front}
use Rattle.proxy_core.specs.Calls.{asker, calls_of, queue_behind, sleep_note, sleeps}
use Rattle.proxy_core.specs.Headline.{SleepersNotDue}
use Rattle.proxy_core.specs.Live.{entry_note}
use Rattle.proxy_core.specs.Moves.{Leads, MovesBy, MovesCome, MovesFailed, MovesFront, MovesLacks, MovesOn, MovesQueue, MovesRing, MovesTick, Rests, RunsFailed, RunsOn, RunsOut, TurnNotes, asleep_behind, came, is_drained_at, sleeps_on, wakes}
use Rattle.proxy_core.specs.Others.{about, front}
use Rattle.proxy_core.specs.Refusal.{known, refused}
use Rattle.proxy_core.specs.Scheduler.{State, called_by, open_calls, seen, untaken_all, Seen, entries}
use Rattle.proxy_core.specs.Sleeping.{AllInTime, StandsInTime}
use Rattle.proxy_core.specs.Sound.{Served, Sound, SoundAt, unseen, Spot}
use Rattle.proxy_core.specs.declared.call.Asked.{Asked}
use Rattle.proxy_core.specs.declared.call.Asleep.{Asleep}
use Rattle.proxy_core.proofs.Answering.{are_answers}
use Rattle.proxy_core.proofs.Clocks.{clock_joined, clock_moment, other_event, other_notes, timeless_settling_at, timeless_told, untimed, or_none, timeless_closing}
use Rattle.proxy_core.proofs.Closings.{none_on}
use Rattle.proxy_core.proofs.Entries.{asleep_other, asleep_self, calls_behind, calls_front, calls_joined, calls_rest, calls_without, open_front, open_none, open_with, asked_behind, ran_open}
use Rattle.proxy_core.proofs.Framing.{only_changed, touches}
use Rattle.proxy_core.proofs.GroupNotes.{About}
use Rattle.proxy_core.proofs.Hearing.{come_told, run_told, turn_told}
use Rattle.proxy_core.proofs.Members.{eq_same, eq_self, eq_turned}
use Rattle.proxy_core.proofs.RunNotes.{failure_runs, is_timed, of_runs, timeless_runs}
use Rattle.proxy_core.proofs.SoundPast.{front_served, leads_sound, none_holds, not_accepted, seen_tick}
use Rattle.proxy_core.proofs.Standing.{is_served}
use Rattle.proxy_core.proofs.Promised.{sent_is_prefix}

-- ---- one that found memory before and after

before_failed : (b d : Bool) {f : Bool} → f ≡ (b || d) → f ≡ false → (b ≡ false) × (d ≡ false)
before_failed true d e found = absurd (true≢false (sym e ∙ found))
before_failed false d e found = (refl, sym e ∙ found)

-- ---- what an event changes of the calls of others

record KeepsCalls (c : ℕ) (old new : State) : Type 0 where
  queue : (q : ℕ) → nat_eq c q ≡ false → calls_of q new.queue ≡ calls_of q old.queue
  asleep : (q : ℕ) → nat_eq c q ≡ false → new.asleep q ≡ old.asleep q

kept_by : (c : ℕ) (old new after : State) → new ≡ after → KeepsCalls c old after → KeepsCalls c old new
kept_by c old new after e k = let P : State → Type 0 = λ s. KeepsCalls c old s in subst P (sym e) k

all_kept : (c : ℕ) (old : State) → KeepsCalls c old old
all_kept c old = record { queue = λ q e. refl; asleep = λ q e. refl }

front_keeps : (C : Config) (past : Past) (c : ℕ) (rest : List ℕ) (group : List Note) (old new : State) → MovesFront C (heard c past) (shared past).moment c rest group old new → KeepsCalls c old new
front_keeps C past c rest group old new m = by_failed (heard c past).failed m
  where
    by_failed : (b : Bool) → MatchBool b (RunsFailed (heard c past) c rest group old new) (RunsOn C (heard c past) (shared past).moment c rest group old new ⊎ RunsOut C (heard c past) c rest group old new) → KeepsCalls c old new
    by_failed true k = kept_by c old new (record old { ring = rest }) k.state (record { queue = λ q e. refl; asleep = λ q e. refl })
    by_failed false (inl k) = kept_by c old new _ k.state (record {
      queue = λ q e. calls_behind k.turn c q old.queue (eq_turned c q e);
      asleep = λ q e. asleep_other c q (asleep_behind k.turn c (shared past).moment (old.asleep c)) old.asleep e;
    })
    by_failed false (inr k) = kept_by c old new _ k.state (record { queue = λ q e. refl; asleep = λ q e. asleep_other c q (old.asleep c) old.asleep e })

input_keeps : (C : Config) (input : Input) (before now : Heard) (c : ℕ) (group : List Note) (old new : State) → MovesCome C input before now c group old new → KeepsCalls c old new
input_keeps C input before now c group old new m = by_failed before.failed m
  where
    by_failed : (b : Bool) → MatchBool b (MovesFailed c group old new) (MovesOn C now c (edges_met input before.edges) group old new ⊎ MovesLacks input c group old new) → KeepsCalls c old new
    by_failed true k = kept_by c old new (came c false old) k.state (record { queue = λ q e. refl; asleep = λ q e. refl })
    by_failed false (inl k) = kept_by c old new (came c (is_drained_at C now (old.places c)) old) k.state (record { queue = λ q e. refl; asleep = λ q e. refl })
    by_failed false (inr k) = kept_by c old new _ k.state (record { queue = λ q e. calls_without c q old.queue (eq_turned c q e); asleep = λ q e. asleep_other c q None old.asleep e })

ring_keeps : (C : Config) (past : Past) (ring : List ℕ) (group : List Note) (old new : State) → MovesRing C past ring group old new → KeepsCalls (front ring) old new
ring_keeps C past [] group old new m = kept_by 0 old new old m.1 (all_kept 0 old)
ring_keeps C past (c ∷ rest) group old new m = front_keeps C past c rest group old new m

queue_keeps : (store : StoreState) (moment : ℕ) (queue : List Asked) (group : List Note) (old new : State) → old.queue ≡ queue → MovesQueue store moment queue group old new → KeepsCalls (asker queue) old new
queue_keeps store moment [] group old new e m = kept_by 0 old new old m.1 (all_kept 0 old)
queue_keeps store moment (a ∷ rest) group old new e m =
    kept_by a.conn old new _ m.state (record { queue = λ q f. calls_rest q a rest (eq_turned a.conn q f) ∙ ap (calls_of q) (sym e); asleep = λ q f. refl })

-- a Turn
abbrev is_turn : EventKind → Bool
is_turn Turns = true
is_turn other = false

-- any event but a Tick
abbrev is_tick : EventKind → Bool
is_tick (Ticks moment) = true
is_tick other = false

keeps_calls : (C : Config) (past : Past) (v : EventKind) (group : List Note) (old new : State) → is_tick v ≡ false → MovesBy C past v group old new → KeepsCalls (about v old) old new
keeps_calls C past (Accepts c vs from) group old new t m = kept_by c old new _ m.state (record { queue = λ q e. refl; asleep = λ q e. refl })
keeps_calls C past (Comes c input) group old new t m = input_keeps C input (heard c past) (hears c (heard c past) (Comes c input) group) c group old new m
keeps_calls C past (Ticks moment) group old new t m = absurd (true≢false t)
keeps_calls C past Turns group old new t m = queue_keeps (store_of C past) (shared past).moment old.queue group old new refl m
keeps_calls C past Runs group old new t m = ring_keeps C past old.ring group old new m
keeps_calls C past (Marks pool member up) group old new t m = kept_by 0 old new old m.1 (all_kept 0 old)

-- ---- clocks

-- two clocks that are alike but for what sleeps
clocks_same : (k l : Clock) → k.moment ≡ l.moment → k.sleeps ≡ l.sleeps → k ≡ l
clocks_same k l m s =
    let make : ℕ → Option ℕ → Clock = λ x y. record { moment = x; sleeps = y } in
    ap (λ x. make x k.sleeps) m ∙ ap (make l.moment) s

-- no event but a Tick moves the moment
still_moment : (c : ℕ) (v : EventKind) (k : Clock) → is_tick v ≡ false → (event_clock c v k).moment ≡ k.moment
still_moment c (Accepts d vs from) k t = by_test (nat_eq d c)
  where
    by_test : (b : Bool) → (if b then record k { sleeps = None } else k).moment ≡ k.moment
    by_test true = refl
    by_test false = refl
still_moment c (Ticks moment) k t = absurd (true≢false t)
still_moment c other k t = refl

-- of another connection none moves
still_clock : (c : ℕ) (v : EventKind) (s : State) (group : List Note) (k : Clock) → is_tick v ≡ false → About (about v s) group → nat_eq (about v s) c ≡ false → clock_after c v group k ≡ k
still_clock c v s group k t a e = other_notes (about v s) c group (event_clock c v k) a e ∙ clocks_same (event_clock c v k) k (still_moment c v k t) (other_event c v s k e)

-- ---- where a call stands in time, behind each event

abbrev InTimeAt : Past → State → ℕ → Type 0
InTimeAt past s c = StandsInTime (calls_of c s.queue) (s.asleep c) (clock c past)

-- nothing but what is told moves it
same_in_time : (c : ℕ) (queue queue' : List (List (List ℕ))) (o o' : Option Asleep) (k k' : Clock) → queue' ≡ queue → o' ≡ o → k' ≡ k → StandsInTime queue o k → StandsInTime queue' o' k'
same_in_time c queue queue' o o' k k' e f g h =
    subst (λ x. StandsInTime x o' k') (sym e) (subst (λ x. StandsInTime queue x k') (sym f) (subst (λ x. StandsInTime queue o x) (sym g) h))

-- where none is open nothing sleeps
none_in_time : (queue : List (List (List ℕ))) (o : Option Asleep) (k : Clock) → queue ≡ [] → o ≡ None → StandsInTime queue o k → k.sleeps ≡ None
none_in_time queue o k e f h = let h' : StandsInTime [] None k = subst (λ x. StandsInTime [] x k) f (subst (λ x. StandsInTime x o k) e h) in h'

-- one waits in the queue
one_in_time : (call : List (List ℕ)) (more : List (List (List ℕ))) (o : Option Asleep) (k : Clock) → StandsInTime (call ∷ more) o k → (more ≡ []) × ((o ≡ None) × HasSlept call k.sleeps k.moment)
one_in_time call [] None k h = (refl, (refl, h))
one_in_time call [] (Some a) k h = absurd h
one_in_time call (other ∷ more) o k h = absurd h

-- a moment that isn't below the sum lies behind the time
later_slept : (call : List (List ℕ)) (o : Option ℕ) (m n : ℕ) → m ≤ n → HasSlept call o m → HasSlept call o n
later_slept call None m n le h = h
later_slept call (Some due) m n le h = omega (arith, le, h)

due_passed : (m due : ℕ) → is_due m due ≡ true → due ≤ m
due_passed m due e = by_test (nat_le due m) refl e
  where
    by_test : (b : Bool) → nat_le due m ≡ b → (b && nat_lt due never) ≡ true → due ≤ m
    by_test true f g = grind (arith, nat_tests, f)
    by_test false f g = absurd (true≢false (sym g))

-- a Tick: what is due comes to the queue, all else sleeps on
ticks_in_time : (m : ℕ) (queue woken : List (List (List ℕ))) (o : Option Asleep) (k : Clock) → k.moment ≤ m → woken ≡ called_by (wakes m o) → StandsInTime queue o k → StandsInTime (queue ++ woken) (sleeps_on m o) (record k { moment = m })
ticks_in_time m [] woken None k le e h = subst (λ x. StandsInTime x None (record k { moment = m })) (sym e) h
ticks_in_time m (call ∷ []) woken None k le e h = subst (λ x. StandsInTime (call ∷ x) None (record k { moment = m })) (sym e) (later_slept call k.sleeps k.moment m le h)
ticks_in_time m (call ∷ (other ∷ more)) woken o k le e h = absurd h
ticks_in_time m (call ∷ []) woken (Some a) k le e h = absurd h
ticks_in_time m [] woken (Some a) k le e h = by_due (is_due m a.due) refl e
  where
    by_due : (b : Bool) → is_due m a.due ≡ b → woken ≡ called_by (if b then Some a else None) → StandsInTime woken (if b then None else Some a) (record k { moment = m })
    by_due true f g = subst (λ x. StandsInTime x None (record k { moment = m })) (sym g) (subst (λ o. HasSlept a.call o m) (sym h.0) (due_passed m a.due f))
    by_due false f g = subst (λ x. StandsInTime x (Some a) (record k { moment = m })) (sym g) (h.0, f)

-- the moment up to which a call sleeps isn't due when it is asked
not_due : (m : ℕ) (call : List (List ℕ)) → sleeps call ≡ true → is_due m (wakes_at m call) ≡ false
not_due m call e = by_test (nat_lt (m + sleeps_for call) never) refl
  where
    long : 0 < sleeps_for call
    long = grind (arith, nat_tests, e)

    and_none : (b : Bool) → (b && false) ≡ false
    and_none true = refl
    and_none false = refl

    by_test : (b : Bool) → nat_lt (m + sleeps_for call) never ≡ b → (nat_le (min (m + sleeps_for call) never) m && nat_lt (min (m + sleeps_for call) never) never) ≡ false
    by_test true f =
        let below : m + sleeps_for call < never = grind (arith, nat_tests, f) in
        let is : min (m + sleeps_for call) never ≡ m + sleeps_for call = min-eq_left (omega (arith, below)) in
        let above : nat_le (m + sleeps_for call) m ≡ false = grind (arith, nat_tests, long) in
        ap (λ n. nat_le n m && nat_lt n never) is ∙ ap (λ b. b && nat_lt (m + sleeps_for call) never) above
    by_test false f =
        let above : never ≤ m + sleeps_for call = grind (arith, nat_tests, f) in
        let is : min (m + sleeps_for call) never ≡ never = min-eq_right above in
        ap (λ n. nat_le n m && nat_lt n never) is ∙ and_none (nat_le never m)

-- behind a Run that found none open
ran_in_time : (t : ConnTurn) (c m : ℕ) (queue : List Asked) (o : Option Asleep) (k : Clock) → calls_of c queue ≡ [] → o ≡ None → k.sleeps ≡ None → k.moment ≡ m
    → StandsInTime (calls_of c (queue_behind t c queue)) (asleep_behind t c m o) (notes_clock c (sleep_note t c m) k)
ran_in_time turn.More c m queue o k e f s at = same_in_time c [] (calls_of c queue) None o k k e f refl s
ran_in_time turn.NotYet c m queue o k e f s at = same_in_time c [] (calls_of c queue) None o k k e f refl s
ran_in_time turn.Over c m queue o k e f s at = same_in_time c [] (calls_of c queue) None o k k e f refl s
ran_in_time (turn.Asks call) c m queue o k e f s at = by_test (sleeps call) refl
  where
    by_test : (b : Bool) → sleeps call ≡ b
        → StandsInTime (calls_of c (if b then queue else queue ++ record { conn = c; call = call } ∷ [])) (if b then Some (record { conn = c; call = call; due = wakes_at m call }) else o) (notes_clock c (if b then note.Sleep c (wakes_at m call) ∷ [] else []) k)
    by_test true long =
        let is : (if nat_eq c c then record k { sleeps = Some (wakes_at m call) } else k) ≡ record k { sleeps = Some (wakes_at m call) } = ap (λ b. if b then record k { sleeps = Some (wakes_at m call) } else k) (eq_self c) in
        subst (λ x. StandsInTime x (Some (record { conn = c; call = call; due = wakes_at m call })) (if nat_eq c c then record k { sleeps = Some (wakes_at m call) } else k)) (sym e)
        (subst (λ x. StandsInTime [] (Some (record { conn = c; call = call; due = wakes_at m call })) x) (sym is) (refl, ap (λ n. is_due n (wakes_at m call)) at ∙ not_due m call long))
    by_test false short =
        let put : calls_of c (queue ++ record { conn = c; call = call } ∷ []) ≡ call ∷ [] =
        calls_joined c queue (record { conn = c; call = call } ∷ []) ∙ ap (λ x. x ++ calls_of c (record { conn = c; call = call } ∷ [])) e ∙ ap (λ b. if b then call ∷ [] else []) (eq_self c) in
        let none : sleeps_for call ≡ 0 = grind (arith, nat_tests, short) in
        same_in_time c (call ∷ []) _ None o k k put f refl (subst (λ x. HasSlept call x k.moment) (sym s) none)

-- the calls stand in time where no note is timed and none of them changed
still_in_time : (c : ℕ) (v : EventKind) (group : List Note) (past : Past) (old new : State) → is_tick v ≡ false → (event_clock c v (clock c past)).sleeps ≡ (clock c past).sleeps → list_any is_timed group ≡ false
    → calls_of c new.queue ≡ calls_of c old.queue → new.asleep c ≡ old.asleep c → InTimeAt past old c → StandsInTime (calls_of c new.queue) (new.asleep c) (clock_after c v group (clock c past))
still_in_time c v group past old new t s none e f h =
    let k = clock c past in
    same_in_time c (calls_of c old.queue) _ (old.asleep c) _ k _ e f (untimed c group (event_clock c v k) none ∙ clocks_same (event_clock c v k) k (still_moment c v k t) s) h

timeless : (group notes : List Note) → group ≡ notes → list_any is_timed notes ≡ false → list_any is_timed group ≡ false
timeless group notes e f = ap (list_any is_timed) e ∙ f

module _ (C : Config) (past : Past) (old : State) (sound : Sound C past old) (all : AllInTime past old) where
  abbrev Own : EventKind → List Note → State → ℕ → Type 0
  Own v group new c = (hears c (heard c past) v group).failed ≡ false → StandsInTime (calls_of c new.queue) (new.asleep c) (clock_after c v group (clock c past))

  own_accept : (c : ℕ) (vs : List ℕ) (from : Addr) (group : List Note) (new : State) → seen past old c ≡ unseen → MovesBy C past (Accepts c vs from) group old new → Own (Accepts c vs from) group new c
  own_accept c vs from group new u m found =
      let none = open_none c old (ap (λ z. z.asked) u) in
      let k = clock c past in
      let fresh : (event_clock c (Accepts c vs from) k).sleeps ≡ None = ap (λ b. (if b then record k { sleeps = None } else k).sleeps) (eq_self c) in
      same_in_time c [] _ None _ (event_clock c (Accepts c vs from) k) _ (ap (λ s. calls_of c s.queue) m.state ∙ none.0) (ap (λ s. s.asleep c) m.state ∙ none.1) (untimed c group (event_clock c (Accepts c vs from) k) (by_notes m.notes)) fresh
    where
      by_notes : (group ≡ []) ⊎ (group ≡ note.Finish c Memory ∷ []) → list_any is_timed group ≡ false
      by_notes (inl e) = timeless group [] e refl
      by_notes (inr e) = timeless group (note.Finish c Memory ∷ []) e refl

  own_come : (c : ℕ) (input : Input) (group : List Note) (new : State) → MovesBy C past (Comes c input) group old new → Own (Comes c input) group new c
  own_come c input group new m found = by_failed h.failed refl m
    where
      h : Heard
      h = heard c past

      now : Heard
      now = hears c h (Comes c input) group

      told : (h.failed ≡ false) × (failure_told (map tells group) ≡ false)
      told = before_failed h.failed (failure_told (map tells group)) (come_told c h input group (touches C past (Comes c input) group old new m).notes).failed found

      by_failed : (b : Bool) → h.failed ≡ b → MatchBool b (MovesFailed c group old new) (MovesOn C now c (edges_met input h.edges) group old new ⊎ MovesLacks input c group old new)
          → StandsInTime (calls_of c new.queue) (new.asleep c) (clock_after c (Comes c input) group (clock c past))
      by_failed true f k = absurd (true≢false (sym f ∙ told.0))
      by_failed false f (inl k) =
          still_in_time c (Comes c input) group past old new refl refl (timeless group _ k.notes (timeless_settling_at (setup_of C now) (taken now) (stand_of C now (old.places c)) c (edges_met input h.edges) (untaken_all now (old.places c))))
          (ap (λ s. calls_of c s.queue) k.state) (ap (λ s. s.asleep c) k.state) (all c f)
      by_failed false f (inr k) = absurd (true≢false (sym (ap (λ g. failure_told (map tells g)) k.notes) ∙ told.1))

  own_run : (c : ℕ) (rest : List ℕ) (group : List Note) (new : State) → old.ring ≡ c ∷ rest → open_calls c old ≡ [] → MovesFront C (heard c past) (shared past).moment c rest group old new → About c group → Own Runs group new c
  own_run c rest group new ring none m a found = by_failed h.failed refl m
    where
      h : Heard
      h = heard c past

      moment : ℕ
      moment = (shared past).moment

      told : (h.failed ≡ false) × (failure_told (map tells group) ≡ false)
      told = before_failed h.failed (failure_told (map tells group)) (run_told c h group a).failed found

      calls : (calls_of c old.queue ≡ []) × (old.asleep c ≡ None)
      calls = open_none c old none

      by_failed : (b : Bool) → h.failed ≡ b → MatchBool b (RunsFailed h c rest group old new) (RunsOn C h moment c rest group old new ⊎ RunsOut C h c rest group old new) → StandsInTime (calls_of c new.queue) (new.asleep c) (clock_after c Runs group (clock c past))
      by_failed true f k = absurd (true≢false (sym f ∙ told.0))
      by_failed false f (inl k) =
          let items = run_notes c (stand_of C h (old.places c)).sent (taken h) k.more in
          let rested = told_behind k.turn (setup_of C h) (taken h) k.at c (edges_noted items h.edges) (untaken_all h (old.places c ++ k.more)) in
          let quiet : list_any is_timed k.told ≡ false = timeless k.told (items ++ rested) k.items.noted (none_on is_timed items rested (timeless_runs c items (of_runs c (stand_of C h (old.places c)).sent (taken h) k.more)) ∙ timeless_told k.turn (setup_of C h) (taken h) k.at c (edges_noted items h.edges) (untaken_all h (old.places c ++ k.more))) in
          let k' = clock c past in
          let is : clock_after c Runs group k' ≡ notes_clock c (sleep_note k.turn c moment) k' =
          ap (λ g. notes_clock c g k') k.notes ∙ clock_joined c k.told (sleep_note k.turn c moment) k' ∙ ap (notes_clock c (sleep_note k.turn c moment)) (untimed c k.told k' quiet) in
          same_in_time c (calls_of c (queue_behind k.turn c old.queue)) _ (asleep_behind k.turn c moment (old.asleep c)) _ (notes_clock c (sleep_note k.turn c moment) k') _
          (ap (λ s. calls_of c s.queue) k.state) (ap (λ s. s.asleep c) k.state ∙ asleep_self c (asleep_behind k.turn c moment (old.asleep c)) old.asleep) is
          (ran_in_time k.turn c moment old.queue (old.asleep c) k' calls.0 calls.1 (none_in_time (calls_of c old.queue) (old.asleep c) k' calls.0 calls.1 (all c f)) (clock_moment c past))
      by_failed false f (inr k) =
          let sent = (stand_of C h (old.places c)).sent in
          let items = run_notes c sent (taken h) k.more in
          let last = closing c (edges_noted items h.edges) (untaken_all h (old.places c ++ k.more)) in
          let fails : failure_told (map tells group) ≡ true = ap (λ g. failure_told (map tells g)) k.notes ∙ failure_runs c items (note.Finish c Memory ∷ last) (of_runs c sent (taken h) k.more) in
          absurd (true≢false (sym fails ∙ told.1))

  own_turn : (a : Asked) (rest : List Asked) (group : List Note) (new : State) → old.queue ≡ a ∷ rest → (r : Reply) → TurnNotes a (shared past).moment r group → (ring : List ℕ) → new ≡ record old { ring = ring; queue = rest } → About a.conn group → Own Turns group new a.conn
  own_turn a rest group new e r notes ring state ab found = by_notes notes
    where
      c : ℕ
      c = a.conn

      k : Clock
      k = clock c past

      told : ((heard c past).failed ≡ false) × (failure_told (map tells group) ≡ false)
      told = before_failed (heard c past).failed (failure_told (map tells group)) (turn_told c (heard c past) group ab).failed found

      one : (calls_of c rest ≡ []) × ((old.asleep c ≡ None) × HasSlept a.call k.sleeps k.moment)
      one = one_in_time a.call (calls_of c rest) (old.asleep c) k (subst (λ x. StandsInTime x (old.asleep c) k) (ap (calls_of c) e ∙ calls_front a rest) (all c told.0))

      answered : group ≡ entry_note a (shared past).moment r ∷ [] → StandsInTime (calls_of c new.queue) (new.asleep c) (clock_after c Turns group k)
      answered f =
          let is : clock_after c Turns group k ≡ record k { sleeps = None } = ap (λ g. notes_clock c g k) f ∙ ap (λ b. if b then record k { sleeps = None } else k) (eq_self c) in
          same_in_time c [] _ None _ (record k { sleeps = None }) _ (ap (λ s. calls_of c s.queue) state ∙ one.0) (ap (λ s. s.asleep c) state ∙ one.1.0) is refl

      by_notes : TurnNotes a (shared past).moment r group → StandsInTime (calls_of c new.queue) (new.asleep c) (clock_after c Turns group k)
      by_notes (inl f) = answered f
      by_notes (inr (inl f)) = absurd (true≢false (sym (ap (λ g. failure_told (map tells g)) f) ∙ told.1))
      by_notes (inr (inr f)) = absurd (true≢false (sym (ap (λ g. failure_told (map tells g)) f) ∙ told.1))

  rest_in_time : (v : EventKind) (group : List Note) (new : State) → is_tick v ≡ false → (event_clock 0 v (clock 0 past)).sleeps ≡ (clock 0 past).sleeps → ((h : Heard) → hears 0 h v [] ≡ h) → Rests group old new → Own v group new 0
  rest_in_time v group new t s same m found =
      still_in_time 0 v group past old new t s (timeless group [] m.0 refl) (ap (λ x. calls_of 0 x.queue) m.1) (ap (λ x. x.asleep 0) m.1)
      (all 0 (sym (ap (λ x. x.failed) (ap (hears 0 (heard 0 past) v) m.0 ∙ same (heard 0 past))) ∙ found))

  -- the front of the ring has no open call
  pub front_none : (c : ℕ) (rest : List ℕ) → old.ring ≡ c ∷ rest → open_calls c old ≡ []
  front_none c rest e =
      let z = seen past old c in
      let v = (front_served C past c rest old e (sound.each c)).1 in
      let ready : z.ready ≡ c ∷ entries c rest = ap (entries c) e ∙ ap (λ x. if x then c ∷ entries c rest else entries c rest) (eq_self c) in
      let S : List ℕ → Type 0 = λ r. Spot z.heard.failed z.live r z.asked (setup_of C z.heard) (taken z.heard) (stand_of C z.heard z.place) z.heard.edges in
      (at_front c rest z.heard.failed z.live z.asked (setup_of C z.heard) (taken z.heard) (stand_of C z.heard z.place) z.heard.edges (subst S ready v.spot)).none_asked

  queue_in_time : (queue : List Asked) (group : List Note) (new : State) → old.queue ≡ queue → MovesQueue (store_of C past) (shared past).moment queue group old new → About (asker queue) group → Own Turns group new (asker queue)
  queue_in_time [] group new e m a = rest_in_time Turns group new refl refl (λ h. others_not_heard 0 h Turns [] refl refl) m
  queue_in_time (a ∷ rest) group new e m ab = own_turn a rest group new e (reply (store_of C past) (shared past).moment a.call).reply m.notes (with_ready old.ring a.conn) m.state ab

  ring_in_time : (ring : List ℕ) (group : List Note) (new : State) → old.ring ≡ ring → MovesRing C past ring group old new → About (front ring) group → Own Runs group new (front ring)
  ring_in_time [] group new e m a = rest_in_time Runs group new refl refl (λ h. others_not_heard 0 h Runs [] refl refl) m
  ring_in_time (c ∷ rest) group new e m a = own_run c rest group new e (front_none c rest e) m a

  own_in_time : (v : EventKind) (group : List Note) (new : State) → is_tick v ≡ false → refused C past old v ≡ None → MovesBy C past v group old new → Own v group new (about v old)
  own_in_time (Accepts c vs from) group new t fine m = own_accept c vs from group new (not_accepted C past c vs from old sound fine) m
  own_in_time (Comes c input) group new t fine m = own_come c input group new m
  own_in_time (Ticks moment) group new t fine m = absurd (true≢false t)
  own_in_time Turns group new t fine m = queue_in_time old.queue group new refl m (touches C past Turns group old new m).notes
  own_in_time Runs group new t fine m = ring_in_time old.ring group new refl m (touches C past Runs group old new m).notes
  own_in_time (Marks pool member up) group new t fine m = rest_in_time (Marks pool member up) group new refl refl (λ h. others_not_heard 0 h (Marks pool member up) [] refl refl) m

  -- of each connection, behind an event that is no Tick
  event_in_time : (v : EventKind) (group : List Note) (new : State) → is_tick v ≡ false → refused C past old v ≡ None → MovesBy C past v group old new → (q : ℕ) → Own v group new q
  event_in_time v group new t fine m q = by_test (nat_eq (about v old) q) refl
    where
      by_test : (b : Bool) → nat_eq (about v old) q ≡ b → Own v group new q
      by_test true e = subst (λ n. Own v group new n) (eq_same (about v old) q e) (own_in_time v group new t fine m)
      by_test false e =
          let k = keeps_calls C past v group old new t m in
          let touched = touches C past v group old new m in
          let same = ap (λ z. z.heard.failed) ((only_changed past v group old new touched).others q e) in
          λ found. same_in_time q (calls_of q old.queue) _ (old.asleep q) _ (clock q past) _ (k.queue q e) (k.asleep q e) (still_clock q v old group (clock q past) t touched.notes e) (all q (sym same ∙ found))

  -- and behind a Tick, which isn't before the last
  tick_in_time : (moment : ℕ) (group : List Note) (new : State) → refused C past old (Ticks moment) ≡ None → MovesTick moment group old new → (q : ℕ) → Own (Ticks moment) group new q
  tick_in_time moment group new fine m q found =
      let k = clock q past in
      let r = none_holds (refusal_rows C (known C past old (Ticks moment)) (Ticks moment)) fine in
      let back : nat_lt moment (shared past).moment ≡ false = r.1.1.1.1.1.1.0 in
      let later : (shared past).moment ≤ moment = grind (arith, nat_tests, back) in
      let at = clock_moment q past in
      let le : k.moment ≤ moment = omega (arith, at, later) in
      let same = ap (λ z. z.heard.failed) (seen_tick past moment group old new q m) in
      same_in_time q (calls_of q old.queue ++ calls_of q m.calls) _ (sleeps_on moment (old.asleep q)) _ (record k { moment = moment }) _
      (ap (λ s. calls_of q s.queue) m.state ∙ calls_joined q old.queue m.calls) (ap (λ s. s.asleep q) m.state) (ap (λ g. notes_clock q g (record k { moment = moment })) m.notes)
      (ticks_in_time moment (calls_of q old.queue) (calls_of q m.calls) (old.asleep q) k le (m.woken q) (all q (sym same ∙ found)))

  moved_in_time : (v : EventKind) (group : List Note) (new : State) → refused C past old v ≡ None → MovesBy C past v group old new → (q : ℕ) → Own v group new q
  moved_in_time (Ticks moment) group new fine m = tick_in_time moment group new fine m
  moved_in_time (Accepts c vs from) group new fine m = event_in_time (Accepts c vs from) group new refl fine m
  moved_in_time (Comes c input) group new fine m = event_in_time (Comes c input) group new refl fine m
  moved_in_time Turns group new fine m = event_in_time Turns group new refl fine m
  moved_in_time Runs group new fine m = event_in_time Runs group new refl fine m
  moved_in_time (Marks pool member up) group new fine m = event_in_time (Marks pool member up) group new refl fine m

-- ---- behind every past

pub all_in_time : (C : Config) (past : Past) (s : State) → Leads C past s → AllInTime past s
all_in_time C [] s leads c = subst (λ x. AllInTime [] x) (sym leads) (λ c found. refl) c
all_in_time C (x ∷ past) s (before, leads, fine, moves) c =
    moved_in_time C past before (leads_sound C past before leads) (all_in_time C past before leads) (kind_of x.event) x.group s fine moves c

-- one that found no memory has no open call
failed_open : (live : Bool) (ready : List ℕ) (asked : List (List (List ℕ))) (g : Setup) (took : TakenCounts) (at : TraceState) (e : Edges) → Spot true live ready asked g took at e → asked ≡ []
failed_open live ready [] g took at e s = refl
failed_open true [] (call ∷ ks) g took at e s = absurd s
failed_open true (x ∷ []) (call ∷ ks) g took at e s = absurd s
failed_open true (x ∷ (y ∷ ys)) (call ∷ ks) g took at e s = absurd s
failed_open false [] (call ∷ ks) g took at e s = absurd s
failed_open false (x ∷ xs) (call ∷ ks) g took at e s = absurd s

open_found : (C : Config) (c : ℕ) (z : Seen) (call : List (List ℕ)) (more : List (List (List ℕ))) → Served C c z → z.asked ≡ call ∷ more → z.heard.failed ≡ false
open_found C c z call more v e = by_failed z.heard.failed refl
  where
    by_failed : (b : Bool) → z.heard.failed ≡ b → z.heard.failed ≡ false
    by_failed false f = f
    by_failed true f =
        let S : Bool → Type 0 = λ b. Spot b z.live z.ready z.asked (setup_of C z.heard) (taken z.heard) (stand_of C z.heard z.place) z.heard.edges in
        let none = failed_open z.live z.ready z.asked (setup_of C z.heard) (taken z.heard) (stand_of C z.heard z.place) z.heard.edges (subst S f v.spot) in
        absurd (let x : call ∷ more ≡ [] = sym e ∙ none in cc)

-- one with an open call was accepted
open_served : (C : Config) (c : ℕ) (z : Seen) (call : List (List ℕ)) (more : List (List (List ℕ))) → SoundAt C c z → z.asked ≡ call ∷ more → Served C c z
open_served C c z call more s e = (is_served C c z (λ u. let n = sym e ∙ ap (λ y. y.asked) u in cc) s).1

-- of the sleeping one
sleeping_one : (queue : List (List (List ℕ))) (a : Asleep) (k : Clock) → StandsInTime queue (Some a) k → (k.sleeps ≡ Some a.due) × (is_due k.moment a.due ≡ false)
sleeping_one [] a k h = h
sleeping_one (call ∷ []) a k h = absurd h
sleeping_one (call ∷ (other ∷ more)) a k h = absurd h

sleeping_open : (calls : List (List (List ℕ))) (a : Asleep) → (call : List (List ℕ)) × (more : List (List (List ℕ))) × (calls ++ a.call ∷ [] ≡ call ∷ more)
sleeping_open [] a = (a.call, [], refl)
sleeping_open (call ∷ calls) a = (call, calls ++ a.call ∷ [], refl)

pub sleepers_not_due : (C : Config) (past : Past) (s : State) → Leads C past s → Sound C past s → (c : ℕ) → SleepersNotDue past c (s.asleep c)
sleepers_not_due C past s leads sound c a e =
    let z = seen past s c in
    let o = sleeping_open (calls_of c s.queue) a in
    let asked : z.asked ≡ o.0 ∷ o.1 = ap (λ x. calls_of c s.queue ++ called_by x) e ∙ o.2 in
    let found = open_found C c z o.0 o.1 (open_served C c z o.0 o.1 (sound.each c) asked) asked in
    let h = sleeping_one (calls_of c s.queue) a (clock c past) (subst (λ x. StandsInTime (calls_of c s.queue) x (clock c past)) e (all_in_time C past s leads c found)) in
    (h.0, sym (ap (λ m. is_due m a.due) (clock_moment c past)) ∙ h.1)

-- ---- the entries

none_answered : (C : Config) (past : Past) (v : EventKind) (es : List Entry) → is_turn v ≡ false → AreAnswers C past v es → es ≡ []
none_answered C past Turns es t a = absurd (true≢false t)
none_answered C past (Accepts c vs from) [] t a = refl
none_answered C past (Accepts c vs from) (e ∷ es) t a = absurd a
none_answered C past (Comes c input) [] t a = refl
none_answered C past (Comes c input) (e ∷ es) t a = absurd a
none_answered C past (Ticks moment) [] t a = refl
none_answered C past (Ticks moment) (e ∷ es) t a = absurd a
none_answered C past Runs [] t a = refl
none_answered C past Runs (e ∷ es) t a = absurd a
none_answered C past (Marks pool member up) [] t a = refl
none_answered C past (Marks pool member up) (e ∷ es) t a = absurd a

module _ (C : Config) (past : Past) (old new : State) (leads : Leads C past old) (group : List Note) where
  queue_slept : (queue : List Asked) → old.queue ≡ queue → MovesQueue (store_of C past) (shared past).moment queue group old new → AllSlept past (entries_in group)
  queue_slept [] e m = subst (λ g. AllSlept past (entries_in g)) (sym m.0) tt
  queue_slept (a ∷ rest) e m = by_notes m.notes
    where
      z : Seen
      z = seen past old a.conn

      k : Clock
      k = clock a.conn past

      asked : z.asked ≡ a.call ∷ open_with a.conn rest (old.asleep a.conn)
      asked = open_front a rest old e

      found : (heard a.conn past).failed ≡ false
      found = open_found C a.conn z a.call (open_with a.conn rest (old.asleep a.conn)) (open_served C a.conn z a.call (open_with a.conn rest (old.asleep a.conn)) ((leads_sound C past old leads).each a.conn) asked) asked

      one : HasSlept a.call k.sleeps (shared past).moment
      one =
          let h = one_in_time a.call (calls_of a.conn rest) (old.asleep a.conn) k (subst (λ x. StandsInTime x (old.asleep a.conn) k) (ap (calls_of a.conn) e ∙ calls_front a rest) (all_in_time C past old leads a.conn found)) in
          subst (λ m. HasSlept a.call k.sleeps m) (clock_moment a.conn past) h.1.1

      by_notes : TurnNotes a (shared past).moment (reply (store_of C past) (shared past).moment a.call).reply group → AllSlept past (entries_in group)
      by_notes (inl f) = subst (λ g. AllSlept past (entries_in g)) (sym f) (one, tt)
      by_notes (inr (inl f)) = subst (λ g. AllSlept past (entries_in g)) (sym f) (one, tt)
      by_notes (inr (inr f)) = subst (λ g. AllSlept past (entries_in g)) (sym f) tt

  none_slept : (v : EventKind) → is_turn v ≡ false → MovesBy C past v group old new → AllSlept past (entries_in group)
  none_slept v t m = subst (λ es. AllSlept past es) (sym (none_answered C past v (entries_in group) t (are_answers C past v group old new m))) tt

  group_slept : (v : EventKind) → MovesBy C past v group old new → AllSlept past (entries_in group)
  group_slept Turns m = queue_slept old.queue refl m
  group_slept (Accepts c vs from) m = none_slept (Accepts c vs from) refl m
  group_slept (Comes c input) m = none_slept (Comes c input) refl m
  group_slept (Ticks moment) m = none_slept (Ticks moment) refl m
  group_slept Runs m = none_slept Runs refl m
  group_slept (Marks pool member up) m = none_slept (Marks pool member up) refl m

pub entries_awake : (C : Config) (past : Past) (s : State) → Leads C past s → EntriesAwake past
entries_awake C [] s leads = tt
entries_awake C (x ∷ past) s (before, leads, fine, moves) = (entries_awake C past before leads, group_slept C past before s leads x.group (kind_of x.event) moves)

-- ---- the notes

quiet_sleeps : (C : Config) (past : Past) (x : Happened) (notes : List Note) → list_any is_timed notes ≡ false → AreSleeps C past x notes
quiet_sleeps C past x [] e = tt
quiet_sleeps C past x (note.Sleep c until ∷ notes) e = absurd (true≢false e)
quiet_sleeps C past x (other ∷ notes) e = quiet_sleeps C past x notes (or_none (is_timed other) (list_any is_timed notes) e).1

sleeps_behind : (C : Config) (past : Past) (x : Happened) (some more : List Note) → list_any is_timed some ≡ false → AreSleeps C past x more → AreSleeps C past x (some ++ more)
sleeps_behind C past x [] more e k = k
sleeps_behind C past x (note.Sleep c until ∷ some) more e k = absurd (true≢false e)
sleeps_behind C past x (other ∷ some) more e k = sleeps_behind C past x some more (or_none (is_timed other) (list_any is_timed some) e).1 k

module _ (C : Config) (past : Past) (x : Happened) (old new : State) (leads : Leads C past old) (now : Sound C (x ∷ past) new) where
  abbrev Told : List Note → Type 0
  Told notes = AreSleeps C past x notes

  quiet_told : (notes : List Note) → x.group ≡ notes → list_any is_timed notes ≡ false → Told x.group
  quiet_told notes e none = subst (λ g. Told g) (sym e) (quiet_sleeps C past x notes none)

  -- its call sleeps from its Run on
  slept_told : (c : ℕ) (call : List (List ℕ)) → kind_of x.event ≡ Runs → (clock c past).sleeps ≡ None → sleeps call ≡ true → open_calls c new ≡ call ∷ [] → IsSleep C past x c (wakes_at (shared past).moment call)
  slept_told c call is none long asked =
      let z = seen (x ∷ past) new c in
      let v = open_served C c z call [] (now.each c) asked in
      let found = open_found C c z call [] v asked in
      record {
        runs = is;
        first = none;
        call = call;
        items = length z.place;
        follows = ap calls_in (sym (sent_is_prefix C c z v).passed) ∙ v.told.calls ∙ ap (λ u. called_in z.heard.notes ++ u) (v.told.open_now found ∙ asked);
        long = grind (arith, nat_tests, long);
        until_is = refl;
      }

  run_told_asleep : (c : ℕ) (rest : List ℕ) → kind_of x.event ≡ Runs → old.ring ≡ c ∷ rest → MovesFront C (heard c past) (shared past).moment c rest x.group old new → Told x.group
  run_told_asleep c rest is ring m = by_failed (heard c past).failed refl m
    where
      h : Heard
      h = heard c past

      moment : ℕ
      moment = (shared past).moment

      none : open_calls c old ≡ []
      none = front_none C past old (leads_sound C past old leads) (all_in_time C past old leads) c rest ring

      by_failed : (b : Bool) → h.failed ≡ b → MatchBool b (RunsFailed h c rest x.group old new) (RunsOn C h moment c rest x.group old new ⊎ RunsOut C h c rest x.group old new) → Told x.group
      by_failed true f k = quiet_told (closing c h.edges (untaken_all h (old.places c))) k.notes (timeless_closing c h.edges (untaken_all h (old.places c)))
      by_failed false f (inr k) =
          let items = run_notes c (stand_of C h (old.places c)).sent (taken h) k.more in
          let last = closing c (edges_noted items h.edges) (untaken_all h (old.places c ++ k.more)) in
          quiet_told (items ++ note.Finish c Memory ∷ last) k.notes (none_on is_timed items (note.Finish c Memory ∷ last) (timeless_runs c items (of_runs c (stand_of C h (old.places c)).sent (taken h) k.more)) ∙ timeless_closing c (edges_noted items h.edges) (untaken_all h (old.places c ++ k.more)))
      by_failed false f (inl k) = subst (λ g. Told g) (sym k.notes) (sleeps_behind C past x k.told (sleep_note k.turn c moment) quiet (by_turn k.turn refl))
        where
          items : List Note
          items = run_notes c (stand_of C h (old.places c)).sent (taken h) k.more

          rested : List Note
          rested = told_behind k.turn (setup_of C h) (taken h) k.at c (edges_noted items h.edges) (untaken_all h (old.places c ++ k.more))

          quiet : list_any is_timed k.told ≡ false
          quiet = timeless k.told (items ++ rested) k.items.noted (none_on is_timed items rested (timeless_runs c items (of_runs c (stand_of C h (old.places c)).sent (taken h) k.more)) ∙ timeless_told k.turn (setup_of C h) (taken h) k.at c (edges_noted items h.edges) (untaken_all h (old.places c ++ k.more)))

          asked : open_calls c new ≡ asked_behind k.turn
          asked = ap (open_calls c) k.state ∙ ran_open k.turn c moment (ring_behind k.turn c rest) k.more (slices_in k.turn (length k.told)) old none

          first : (clock c past).sleeps ≡ None
          first = let calls = open_none c old none in none_in_time (calls_of c old.queue) (old.asleep c) (clock c past) calls.0 calls.1 (all_in_time C past old leads c f)

          by_turn : (t : ConnTurn) → k.turn ≡ t → Told (sleep_note t c moment)
          by_turn turn.More e = tt
          by_turn turn.NotYet e = tt
          by_turn turn.Over e = tt
          by_turn (turn.Asks call) e = by_test (sleeps call) refl
            where
              by_test : (b : Bool) → sleeps call ≡ b → Told (if b then note.Sleep c (wakes_at moment call) ∷ [] else [])
              by_test true long = (slept_told c call is first long (asked ∙ ap asked_behind e), tt)
              by_test false short = tt

  ring_told : (ring : List ℕ) → kind_of x.event ≡ Runs → old.ring ≡ ring → MovesRing C past ring x.group old new → Told x.group
  ring_told [] is e m = quiet_told [] m.0 refl
  ring_told (c ∷ rest) is e m = run_told_asleep c rest is e m

  queue_told : (queue : List Asked) → MovesQueue (store_of C past) (shared past).moment queue x.group old new → Told x.group
  queue_told [] m = quiet_told [] m.0 refl
  queue_told (a ∷ rest) m = by_notes (reply (store_of C past) (shared past).moment a.call).reply m.notes
    where
      by_notes : (r : Reply) → TurnNotes a (shared past).moment r x.group → Told x.group
      by_notes r (inl f) = subst (λ g. Told g) (sym f) tt
      by_notes r (inr (inl f)) = subst (λ g. Told g) (sym f) tt
      by_notes r (inr (inr f)) = subst (λ g. Told g) (sym f) tt

  input_told : (c : ℕ) (input : Input) → MovesBy C past (Comes c input) x.group old new → Told x.group
  input_told c input m = by_failed (heard c past).failed m
    where
      after : Heard
      after = hears c (heard c past) (Comes c input) x.group

      by_failed : (b : Bool) → MatchBool b (MovesFailed c x.group old new) (MovesOn C after c (edges_met input (heard c past).edges) x.group old new ⊎ MovesLacks input c x.group old new) → Told x.group
      by_failed true k = quiet_told [] k.notes refl
      by_failed false (inl k) = quiet_told _ k.notes (timeless_settling_at (setup_of C after) (taken after) (stand_of C after (old.places c)) c (edges_met input (heard c past).edges) (untaken_all after (old.places c)))
      by_failed false (inr k) = quiet_told (note.Finish c Memory ∷ []) k.notes refl

  accept_told : (c : ℕ) → (x.group ≡ []) ⊎ (x.group ≡ note.Finish c Memory ∷ []) → Told x.group
  accept_told c (inl e) = quiet_told [] e refl
  accept_told c (inr e) = quiet_told (note.Finish c Memory ∷ []) e refl

  group_told : (v : EventKind) → kind_of x.event ≡ v → MovesBy C past v x.group old new → Told x.group
  group_told (Accepts c vs from) is m = accept_told c m.notes
  group_told (Comes c input) is m = input_told c input m
  group_told (Ticks moment) is m = quiet_told [] m.notes refl
  group_told Turns is m = queue_told old.queue m
  group_told Runs is m = ring_told old.ring is refl m
  group_told (Marks pool member up) is m = quiet_told [] m.0 refl

pub sleeps_told : (C : Config) (past : Past) (s : State) → Leads C past s → SleepsTold C past
sleeps_told C [] s leads = tt
sleeps_told C (x ∷ past) s (before, leads, fine, moves) =
    (sleeps_told C past before leads, group_told C past x before s leads (leads_sound C (x ∷ past) s (before, leads, fine, moves)) (kind_of x.event) refl moves)
