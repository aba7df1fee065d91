-- Behind every past few bytes of a connection lie unread, and few are pending to its sides.
use Rattle.std.proofs.Common.{◌≡◌, ◌⊎◌, inl, inr, refl, sym, ap, subst, ◌∙◌, ℕ, ◌+◌, ◌-◌, ◌≤◌, List, [], ◌∷◌, ◌++◌, length, map, Bool, true, false, ◌||◌, true≢false, None, nat_eq, nat_lt, if◌then◌else◌, arith}
use Rattle.std.specs.Bool.{MatchBool}
use Rattle.std.proofs.lemmas.Bool.Decides.{nat_tests}
use Rattle.px_bytes.specs.declared.addr.Addr.{Addr}
use Rattle.px_bytes.specs.declared.addr.Side.{Side}
use Rattle.px_bytes.specs.declared.addr.Side.TheVariants.{Client, Server}
use Rattle.px_bytes.specs.declared.fault.Reply.{Reply}
use Rattle.shared_store.specs.Calls.{reply}
use Rattle.shared_store.specs.Store.{StoreState}
use Rattle.conn_trace.specs.Bounds.{PassWithin}
use Rattle.core_events.specs.Edges.{edges_noted}
use Rattle.conn_trace.specs.Further.{CutMeets, is_some_of, longer, replies_only}
use Rattle.conn_trace.specs.Gates.{TakenCounts, no_bytes}
use Rattle.core_events.specs.declared.event_kind.EventKind.{EventKind}
use Rattle.core_events.specs.declared.event_kind.EventKind.TheVariants.{Accepts, Comes, Ticks}
use Rattle.core_events.specs.declared.event_kind.EventKind.TheVariants.{Turns, Runs, Marks}
use Rattle.core_events.specs.declared.input.Input.{Input}
use Rattle.core_events.specs.declared.input.Input.TheVariants.{Bytes, Ends, Resets, Connects, Takes}
use Rattle.conn_trace.specs.Heard.{Accepted, Heard, Brought, as_answer, brings_in, brought}
use Rattle.conn_trace.specs.Heard.{brought_nothing, edges_met, event_brings, further_of, hears}
use Rattle.conn_trace.specs.Heard.{marks, nothing_heard, start_of, taken}
use Rattle.conn_trace.specs.HeardLaws.{TellsNothing, taken_by_items}
use Rattle.conn_trace.specs.Item.{Item, cause_of, reasons_in}
use Rattle.conn_trace.specs.Queries.{arriving, counted_held, unread_at, unread_limit}
use Rattle.conn_trace.specs.Queries as query
use Rattle.conn_trace.specs.Setup.{Setup}
use Rattle.conn_trace.specs.State.{TraceState, no_answers, no_stream}
use Rattle.conn_trace.specs.Tellings.{choices_told, cut_told, finish_told, notes_about, replies_told, tells}
use Rattle.conn_trace.specs.Trace.{Unfolds, next_item}
use Rattle.core_events.specs.declared.note.Cause.{Cause}
use Rattle.core_events.specs.declared.note.Cause.TheVariants.{Memory}
use Rattle.core_events.specs.declared.note.Note.{Note}
use Rattle.core_events.specs.declared.note.Note.TheVariants.{Finish}
use Rattle.conn_trace.proofs.Hearing.{event_stands, finished_stands, others_not_heard}
use Rattle.conn_trace.proofs.PendingFits.{pending_bounded}
use Rattle.conn_trace.proofs.Lying.{Lies, allowed, start_lies}
use Rattle.conn.specs.RunsItems.{Passes}
use Rattle.conn.specs.Settling.{closing, is_over, settling_at, took_all, given_up_at}
use Rattle.proxy_core.specs.Bounds.{BytesAreBounded}
use Rattle.proxy_core.specs.Calls.{asker}
use Rattle.record_model.proofs.FewRows.{rows_are_few}
use Rattle.record_model.specs.History.{store_of}
use Rattle.proxy_core.specs.Live.{entry_note}
use Rattle.proxy_core.specs.Moves.{MovesFailed, MovesLacks, MovesOn, MovesCome, MovesRing, MovesFront, MovesQueue, Rests, TurnNotes, MovesBy, RunsOn, RunsOut, RunsFailed, Leads, told_last}
use Rattle.proxy_core.specs.Others.{about, front}
use Rattle.core_events.specs.Kinds.{kind_of}
use Rattle.record_model.specs.Past.{Past, heard, shared}
use Rattle.record_model.specs.Refusal.{comes_too_much, refusal_rows}
use Rattle.proxy_core.specs.Refusal.{known, refused, standing_by}
use Rattle.proxy_core.specs.Scheduler.{State, Seen, seen, untaken_all}
use Rattle.record_model.specs.Setup.{begins_at, setup_in, setup_of, stand_of}
use Rattle.proxy_core.specs.Shown.{causes_behind}
use Rattle.proxy_core.specs.Sound.{unseen, Served, Sound, SoundAt}
use Rattle.proxy_core.specs.declared.call.Asked.{Asked}
use Rattle.run_config.specs.declared.config.Config.{Config}
use Rattle.proxy_core.proofs.Setups.{heads_fit}
use Rattle.proxy_core.proofs.Arriving.{HeldOf, Room, Waiting, held_of, lies_along, longer_lies, nothing_fits, speaks_along, waiting_at}
use Rattle.proxy_core.proofs.CameAt.{UncutOr, heard_uncut}
use Rattle.proxy_core.proofs.Entries.{open_front, open_with}
use Rattle.proxy_core.proofs.Drains.{longer_orderly}
use Rattle.proxy_core.proofs.Finished.{heard_finish, stands_orderly, trace_finished}
use Rattle.proxy_core.proofs.Framing.{each_by, only_changed, touches}
use Rattle.proxy_core.proofs.GroupNotes.{About, closing_due, due_about, due_choices, due_cut, due_quiet, due_replies, quiet_by, quiet_finish, settling_due, tells_all, whole_notes}
use Rattle.proxy_core.proofs.Members.{eq_self}
use Rattle.proxy_core.proofs.RunOn.{last_due}
use Rattle.proxy_core.proofs.SoundComes.{MayCome}
use Rattle.proxy_core.proofs.SoundAccepts.{first_notes, fresh, seen_accept}
use Rattle.proxy_core.proofs.SoundPast.{front_served, leads_sound, marked_accepted, may_come_at, none_holds, not_accepted, ran_on}
use Rattle.proxy_core.proofs.Standing.{as_served, is_served, stands_at}
use Rattle.proxy_core.proofs.Sums.{finish_of_causes}
use Rattle.conn.specs.Servers.{run_notes}
use Rattle.conn_trace.proofs.Speaking.{longer_speaks, start_speaks}

-- of a connection few bytes lie unread, and no item passed on more
pub record FewBytes (C : Config) (h : Heard) (place : List Item) : Type 0 where
  pub lies : Lies (stand_of C h place)
  pub passes : PassWithin unread_limit place

joined : (n : ℕ) (place more : List Item) → PassWithin n place → PassWithin n more → PassWithin n (place ++ more)
joined n [] more w v = v
joined n (i ∷ place) more w v = (w.0, joined n place more w.1 v)

-- an answer waits only where nothing of the server is collected
waits_for : (C : Config) (c : ℕ) (z : Seen) → Served C c z → Lies (stand_of C z.heard z.place) → Waiting (stand_of C z.heard z.place)
waits_for C c z k w = waiting_at (stand_of C z.heard z.place) z.heard.finished (taken z.heard) z.heard.edges.server.state (stands_orderly C c z k) w k.linked

-- ---- what comes has room

some_last : (cs : List Cause) → is_some_of (cs ++ Memory ∷ []) ≡ true
some_last [] = refl
some_last (x ∷ xs) = refl

-- one that goes on found memory
found_memory : (C : Config) (c : ℕ) (z : Seen) → Served C c z → z.heard.finished ≡ finish_told (map tells z.heard.notes) → z.heard.finished ≡ false → z.heard.failed ≡ false
found_memory C c z k told going = by_failed z.heard.failed refl
  where
    by_failed : (b : Bool) → z.heard.failed ≡ b → b ≡ false
    by_failed false e = refl
    by_failed true e =
        let causes = map cause_of (reasons_in z.place) in
        let done : z.heard.finished ≡ true = told ∙ finish_of_causes z.heard.notes ∙ ap (λ x. is_some_of x) (k.causes ∙ ap (λ b. causes ++ causes_behind b) e) ∙ some_last causes in
        absurd (true≢false (sym done ∙ going))

-- no more than is wanted
few_wanted : (limit unread held n asked : ℕ) (finished : Bool) → finished ≡ false → held ≤ unread → held ≤ asked → unread - held ≤ limit → nat_lt (if finished then limit else limit - (unread - held)) n ≡ false → unread + n ≤ limit + asked
few_wanted limit unread held n asked true going a b few e = absurd (true≢false going)
few_wanted limit unread held n asked false going a b few e =
    let m : n ≤ limit - (unread - held) = grind (arith, nat_tests) in omega (arith, m, a, b, few)

module _ (C : Config) (past : Past) (old : State) (c : ℕ) where
  abbrev z : Seen
  z = seen past old c

  abbrev h : Heard
  h = heard c past

  abbrev g : Setup
  g = setup_of C h

  abbrev l : TraceState
  l = stand_of C h (old.places c)

  abbrev place : List Item
  place = old.places c

  abbrev Fits : Brought → Type 0
  Fits b = Room l b.client b.server (map as_answer b.connects)

  bytes_fit : (side : Side) (bytes : List ℕ) → Served C c z → FewBytes C h place → refused C past old (Comes c (Bytes side bytes)) ≡ None → z.live ≡ true → h.finished ≡ false → length (unread_at (arriving side l)) + length bytes ≤ unread_limit + allowed side l
  bytes_fit side bytes k few fine live going =
      let rows = none_holds (refusal_rows C (known C past old (Comes c (Bytes side bytes))) (Comes c (Bytes side bytes))) fine in
      by_side side rows.1.1.1.1.1.1.1.0
    where
      done : l.finished ≡ false
      done = trace_finished C c z k (heard_finish c past) (found_memory C c z k (heard_finish c past) going) ∙ going

      held : (to : Side) → HeldOf to l
      held to = held_of to l few.lies

      by_side : (to : Side) → comes_too_much (standing_by C z.live z) (Bytes to bytes) ≡ false → length (unread_at (arriving to l)) + length bytes ≤ unread_limit + allowed to l
      by_side Client much =
          let Q : Bool → Type 0 = λ b. comes_too_much (standing_by C b z) (Bytes Client bytes) ≡ false in
          let P : Bool → Type 0 = λ b. nat_lt (if b then unread_limit else query.wanted Client l) (length bytes) ≡ false in
          few_wanted unread_limit (length (unread_at (arriving Client l))) (counted_held Client l) (length bytes) (allowed Client l) l.finished done (held Client).of_unread (held Client).of_asked (held Client).rest (subst P going (subst Q live much))
      by_side Server much =
          let Q : Bool → Type 0 = λ b. comes_too_much (standing_by C b z) (Bytes Server bytes) ≡ false in
          let P : Bool → Type 0 = λ b. nat_lt (if b then unread_limit else query.wanted Server l) (length bytes) ≡ false in
          few_wanted unread_limit (length (unread_at (arriving Server l))) (counted_held Server l) (length bytes) (allowed Server l) l.finished done (held Server).of_unread (held Server).of_asked (held Server).rest (subst P going (subst Q live much))

  quiet_fits : FewBytes C h place → Fits brought_nothing
  quiet_fits few = nothing_fits l few.lies

  input_fits : (input : Input) → Served C c z → FewBytes C h place → refused C past old (Comes c input) ≡ None → z.live ≡ true → h.finished ≡ false → Fits (brings_in input)
  input_fits (Bytes Client bytes) k few fine live going = record { of_client = bytes_fit Client bytes k few fine live going; of_server = (quiet_fits few).of_server; of_made = tt }
  input_fits (Bytes Server bytes) k few fine live going = record { of_client = (quiet_fits few).of_client; of_server = bytes_fit Server bytes k few fine live going; of_made = tt }
  input_fits (Ends Client) k few fine live going = quiet_ends Client (quiet_fits few)
    where
      quiet_ends : (side : Side) → Fits brought_nothing → Fits (brings_in (Ends side))
      quiet_ends Client q = record { of_client = q.of_client; of_server = q.of_server; of_made = tt }
      quiet_ends Server q = record { of_client = q.of_client; of_server = q.of_server; of_made = tt }
  input_fits (Ends Server) k few fine live going = (let q = quiet_fits few in record { of_client = q.of_client; of_server = q.of_server; of_made = tt })
  input_fits (Resets side) k few fine live going = quiet_fits few
  input_fits (Connects true) k few fine live going = (let q = quiet_fits few in record { of_client = q.of_client; of_server = q.of_server; of_made = (omega arith, tt) })
  input_fits (Connects false) k few fine live going = (let q = quiet_fits few in record { of_client = q.of_client; of_server = q.of_server; of_made = tt })
  input_fits (Takes side n) k few fine live going = quiet_fits few

  -- once it has finished nothing is brought
  brought_fits : (v : EventKind) (group : List Note) → FewBytes C h place → (h.finished ≡ false → Fits (event_brings c v)) → Fits (brought c h v group)
  brought_fits v group few fits = by_end h.finished (finish_told (notes_about c group)) fits
    where
      by_end : (a b : Bool) → (a ≡ false → Fits (event_brings c v)) → Fits (if a || b then brought_nothing else event_brings c v)
      by_end true b f = quiet_fits few
      by_end false true f = quiet_fits few
      by_end false false f = f refl

  -- ---- an event that gives no item

  lengthened : (v : EventKind) (group : List Note) → Served C c z → setup_of C (hears c h v group) ≡ g → choices_told (notes_about c group) ≡ [] → ((took : TakenCounts) → cut_told took (notes_about c group) ≡ None)
      → Fits (brought c h v group) → FewBytes C h place → FewBytes C (hears c h v group) place
  lengthened v group k setup choices cut fits few = by_cut (heard_uncut c past)
    where
      there : (m : TraceState) → Unfolds g (start_of g (hears c h v group)) place m → Lies m → FewBytes C (hears c h v group) place
      there m u w = record { lies = subst Lies (sym (stands_at C (hears c h v group) g place m setup u)) w; passes = few.passes }

      by_cut : UncutOr h.cut h.finished → FewBytes C (hears c h v group) place
      by_cut (inl none) =
          let f = further_of c h v group in
          there (longer f l) (event_stands g c h v group place l none (subst (λ o. CutMeets o no_bytes place) (sym (cut _)) tt) k.stands) (longer_lies l f few.lies (waits_for C c z k few.lies) fits)
      by_cut (inr done) =
          let f = replies_only (replies_told (notes_about c group)) in
          there (longer f l) (finished_stands g c h v group place l done choices cut k.stands) (longer_lies l f few.lies (waits_for C c z k few.lies) (nothing_fits l few.lies))

  -- the same of a group that is told so
  with_notes : (v : EventKind) (group notes : List Note) (places : List Item) → group ≡ notes → places ≡ place → Served C c z → setup_of C (hears c h v notes) ≡ g → choices_told (notes_about c notes) ≡ [] → ((took : TakenCounts) → cut_told took (notes_about c notes) ≡ None)
      → Fits (brought c h v notes) → FewBytes C h place → FewBytes C (hears c h v group) places
  with_notes v group notes places is same k setup choices cut fits few =
      subst (λ p. FewBytes C (hears c h v group) p) (sym same) (subst (λ ns. FewBytes C (hears c h v ns) place) (sym is) (lengthened v notes k setup choices cut fits few))

  come_setup : (input : Input) (group : List Note) → setup_of C (hears c h (Comes c input) group) ≡ g
  come_setup input group = ap (λ b. setup_in C (if b then marks input h else h).accepted) (eq_self c) ∙ ap (setup_in C) (marked_accepted input h)

  come_fits : (input : Input) (group : List Note) → MayCome C c input z → refused C past old (Comes c input) ≡ None → FewBytes C h place → Fits (brought c h (Comes c input) group)
  come_fits input group m fine few =
      brought_fits (Comes c input) group few (λ going. subst (λ b. Fits (if b then brings_in input else brought_nothing)) (sym (eq_self c)) (input_fits input m.served few fine m.live going))

  come_few : (input : Input) (group : List Note) (new : State) → MayCome C c input z → refused C past old (Comes c input) ≡ None → MovesCome C input h (hears c h (Comes c input) group) c group old new → FewBytes C h place → FewBytes C (hears c h (Comes c input) group) (new.places c)
  come_few input group new m fine moves few = by_failed h.failed moves
    where
      now : Heard
      now = hears c h (Comes c input) group

      told : (notes : List Note) → group ≡ notes → new.places c ≡ place → TellsNothing c notes → FewBytes C now (new.places c)
      told notes is same quiet = with_notes (Comes c input) group notes (new.places c) is same m.served (come_setup input notes) quiet.choices quiet.cut (come_fits input notes m fine few) few

      by_failed : (b : Bool) → MatchBool b (MovesFailed c group old new) (MovesOn C now c (edges_met input h.edges) group old new ⊎ MovesLacks input c group old new) → FewBytes C now (new.places c)
      by_failed true j = told [] j.notes (ap (λ s. s.places c) j.state) (due_quiet c [] tt)
      by_failed false (inl j) =
          let there = stand_of C now place in
          let e = edges_met input h.edges in
          let d = untaken_all now place in
          let due = settling_due (is_over (next_item (setup_of C now) there)) (given_up_at there) c e (took_all there (taken now) Server) (took_all there (taken now) Client) d in
          told (settling_at (setup_of C now) (taken now) there c e d) j.notes (ap (λ s. s.places c) j.state) (due_quiet c _ due)
      by_failed false (inr j) = told (Finish c Memory ∷ []) j.notes (ap (λ s. s.places c) j.state) (quiet_finish c)

  -- ---- a Run

  -- behind the items that it gave
  gave : (more : List Item) (at : TraceState) (last group : List Note) (new : State) → h.failed ≡ false → Served C c z → Passes g (taken h) l more at → TellsNothing c last → group ≡ run_notes c l.sent (taken h) more ++ last → new.places c ≡ place ++ more → FewBytes C h place
      → FewBytes C (hears c h Runs group) (new.places c)
  gave more at last group new found k p quiet is same few =
      let all = run_notes c l.sent (taken h) more ++ last in
      let f = taken_by_items (taken h) more in
      let s = start_of g h in
      let speaks = speaks_along g s l place (start_speaks g s.client s.answers) k.stands in
      let r = lies_along g (heads_fit C h) (longer f l) at more (longer_orderly f l (stands_orderly C c z k)) (longer_speaks g.http f l speaks) (longer_lies l f few.lies (waits_for C c z k few.lies) (nothing_fits l few.lies)) p.passed in
      let stands = ran_on C past old c k found more at last quiet p in
      let there : FewBytes C (hears c h Runs all) (place ++ more) = record {
        lies = subst Lies (sym (stands_at C (hears c h Runs all) g (place ++ more) at refl stands)) r.0;
        passes = joined unread_limit place more few.passes r.1;
      } in
      subst (λ ps. FewBytes C (hears c h Runs group) ps) (sym same) (subst (λ ns. FewBytes C (hears c h Runs ns) (place ++ more)) (sym is) there)

  run_few : (rest : List ℕ) (group : List Note) (new : State) → old.ring ≡ c ∷ rest → SoundAt C c z → MovesFront C h (shared past).moment c rest group old new → FewBytes C h place → FewBytes C (hears c h Runs group) (new.places c)
  run_few rest group new ring sound m few = by_failed h.failed refl m
    where
      k : Served C c z
      k = (front_served C past c rest old ring sound).1

      placed : (more : List Item) → (if nat_eq c c then place ++ more else place) ≡ place ++ more
      placed more = ap (λ b. if b then place ++ more else place) (eq_self c)

      by_failed : (b : Bool) → h.failed ≡ b → MatchBool b (RunsFailed h c rest group old new) (RunsOn C h (shared past).moment c rest group old new ⊎ RunsOut C h c rest group old new) → FewBytes C (hears c h Runs group) (new.places c)
      by_failed true e j =
          let notes = closing c h.edges (untaken_all h place) in
          let quiet = due_quiet c notes (closing_due c h.edges (untaken_all h place)) in
          with_notes Runs group notes (new.places c) j.notes (ap (λ s. s.places c) j.state) k refl quiet.choices quiet.cut (brought_fits Runs notes few (λ going. quiet_fits few)) few
      by_failed false e (inl j) =
          let es = edges_noted (run_notes c l.sent (taken h) j.more) h.edges in
          let d = untaken_all h (place ++ j.more) in
          let m = (shared past).moment in
          gave j.more j.at (told_last j.turn g (taken h) j.at c es d m) group new e k j.items.passes (due_quiet c _ (last_due j.turn g (taken h) j.at c es d m)) (whole_notes j.turn c m group j.told _ _ j.notes j.items.noted) (ap (λ s. s.places c) j.state ∙ placed j.more) few
      by_failed false e (inr j) =
          let es = edges_noted (run_notes c l.sent (taken h) j.more) h.edges in
          let d = untaken_all h (place ++ j.more) in
          let last = closing c es d in
          let due = closing_due c es d in
          gave j.more j.at (Finish c Memory ∷ last) group new e k j.passes (quiet_by c (Finish c Memory ∷ last) (refl, due_about c last due) (due_replies c last due) (due_choices c last due) (λ t. due_cut c t last due)) j.notes
          (ap (λ s. s.places c) j.state ∙ placed j.more) few

  -- ---- a Turn

  turn_few : (group notes : List Note) (new : State) → Served C c z → group ≡ notes → About c notes → choices_told (map tells notes) ≡ [] → ((took : TakenCounts) → cut_told took (map tells notes) ≡ None) → new.places c ≡ place → FewBytes C h place
      → FewBytes C (hears c h Turns group) (new.places c)
  turn_few group notes new k is a choices cut same few =
      let all = tells_all c notes a in
      with_notes Turns group notes (new.places c) is same k refl (ap choices_told all ∙ choices) (λ took. ap (cut_told took) all ∙ cut took) (brought_fits Turns notes few (λ going. quiet_fits few)) few

-- ---- each event

-- the front of the calls was accepted
asker_served : (C : Config) (past : Past) (a : Asked) (rest : List Asked) (old : State) → old.queue ≡ a ∷ rest → SoundAt C a.conn (seen past old a.conn) → Served C a.conn (seen past old a.conn)
asker_served C past a rest old e s =
    let z = seen past old a.conn in
    let asked : z.asked ≡ a.call ∷ open_with a.conn rest (old.asleep a.conn) = open_front a rest old e in
    (is_served C a.conn z (λ u. let n = sym asked ∙ ap (λ y. y.asked) u in cc) s).1

-- of one that is accepted nothing came
accept_few : (C : Config) (past : Past) (old : State) (c : ℕ) (vs : List ℕ) (from : Addr) (group : List Note) (new : State) → seen past old c ≡ unseen → (group ≡ []) ⊎ (group ≡ Finish c Memory ∷ []) → new ≡ record old { ring = old.ring ++ c ∷ [] }
    → FewBytes C (hears c (heard c past) (Accepts c vs from) group) (new.places c)
accept_few C past old c vs from group new u e f = by_notes e
  where
    begun : (failed : Bool) → group ≡ first_notes c failed → FewBytes C (hears c (heard c past) (Accepts c vs from) group) (new.places c)
    begun failed k =
        let a : Accepted = record { virtual = vs; from = from } in
        let P : Seen → Type 0 = λ z. FewBytes C z.heard z.place in
        subst P (sym (seen_accept past c a failed group old new u k f)) (record { lies = start_lies (setup_of C (fresh c a failed).heard) (heads_fit C (fresh c a failed).heard) no_stream no_answers (omega arith) tt; passes = tt })

    by_notes : (group ≡ []) ⊎ (group ≡ Finish c Memory ∷ []) → FewBytes C (hears c (heard c past) (Accepts c vs from) group) (new.places c)
    by_notes (inl k) = begun false k
    by_notes (inr k) = begun true k

module _ (C : Config) (past : Past) (old : State) (sound : Sound C past old) where
  abbrev Few : State → EventKind → List Note → ℕ → Type 0
  Few new v group c = FewBytes C (hears c (heard c past) v group) (new.places c)

  rest_few : (v : EventKind) (group : List Note) (new : State) → Rests group old new → ((h : Heard) → hears 0 h v [] ≡ h) → FewBytes C (heard 0 past) (old.places 0) → Few new v group 0
  rest_few v group new m same few =
      subst (λ s. FewBytes C (hears 0 (heard 0 past) v group) (s.places 0)) (sym m.1)
      (subst (λ ns. FewBytes C (hears 0 (heard 0 past) v ns) (old.places 0)) (sym m.0) (subst (λ x. FewBytes C x (old.places 0)) (sym (same (heard 0 past))) few))

  ring_few : (ring : List ℕ) (group : List Note) (new : State) → old.ring ≡ ring → MovesRing C past ring group old new → FewBytes C (heard (front ring) past) (old.places (front ring)) → Few new Runs group (front ring)
  ring_few [] group new e m few = rest_few Runs group new m (λ h. others_not_heard 0 h Runs [] refl refl) few
  ring_few (c ∷ rest) group new e m few = run_few C past old c rest group new e (sound.each c) m few

  queue_few : (store : StoreState) (moment : ℕ) (queue : List Asked) (group : List Note) (new : State) → old.queue ≡ queue → MovesQueue store moment queue group old new → FewBytes C (heard (asker queue) past) (old.places (asker queue)) → Few new Turns group (asker queue)
  queue_few store moment [] group new e m few = rest_few Turns group new m (λ h. others_not_heard 0 h Turns [] refl refl) few
  queue_few store moment (a ∷ rest) group new e m few = by_notes (reply store moment a.call).reply m.notes
    where
      k : Served C a.conn (seen past old a.conn)
      k = asker_served C past a rest old e (sound.each a.conn)

      same : new.places a.conn ≡ old.places a.conn
      same = ap (λ s. s.places a.conn) m.state

      by_notes : (r : Reply) → TurnNotes a moment r group → Few new Turns group a.conn
      by_notes r (inl f) = turn_few C past old a.conn group (entry_note a moment r ∷ []) new k f (refl, tt) refl (λ took. refl) same few
      by_notes r (inr (inl f)) = turn_few C past old a.conn group (entry_note a moment r ∷ Finish a.conn Memory ∷ []) new k f (refl, (refl, tt)) refl (λ took. refl) same few
      by_notes r (inr (inr f)) = turn_few C past old a.conn group (Finish a.conn Memory ∷ []) new k f (refl, tt) refl (λ took. refl) same few

  own_few : (v : EventKind) (group : List Note) (new : State) → refused C past old v ≡ None → MovesBy C past v group old new → FewBytes C (heard (about v old) past) (old.places (about v old)) → Few new v group (about v old)
  own_few (Accepts c vs from) group new fine m few = accept_few C past old c vs from group new (not_accepted C past c vs from old sound fine) m.notes m.state
  own_few (Comes c input) group new fine m few = come_few C past old c input group new (may_come_at C past old c input (sound.each c) fine) fine m few
  own_few (Ticks moment) group new fine m few =
      subst (λ s. FewBytes C (hears 0 (heard 0 past) (Ticks moment) group) (s.places 0)) (sym m.state)
      (subst (λ ns. FewBytes C (hears 0 (heard 0 past) (Ticks moment) ns) (old.places 0)) (sym m.notes) (subst (λ x. FewBytes C x (old.places 0)) (sym (others_not_heard 0 (heard 0 past) (Ticks moment) [] refl refl)) few))
  own_few Turns group new fine m few = queue_few (store_of C past) (shared past).moment old.queue group new refl m few
  own_few Runs group new fine m few = ring_few old.ring group new refl m few
  own_few (Marks pool member up) group new fine m few = rest_few (Marks pool member up) group new m (λ h. others_not_heard 0 h (Marks pool member up) [] refl refl) few

-- ---- behind every past

pub few_bytes : (C : Config) (past : Past) (s : State) → Leads C past s → (c : ℕ) → FewBytes C (heard c past) (s.places c)
few_bytes C [] s leads c = subst (λ x. FewBytes C (heard c []) (x.places c)) (sym leads) (record { lies = start_lies (setup_of C nothing_heard) (heads_fit C nothing_heard) no_stream no_answers (omega arith) tt; passes = tt })
few_bytes C (x ∷ past) s (before, leads, fine, moves) c =
    let v = kind_of x.event in
    let first = few_bytes C past before leads in
    each_by {A = Unit {0}} (λ q z a. FewBytes C z.heard z.place) (λ q. tt) (λ q. tt) (about v before) past v x.group before s (only_changed past v x.group before s (touches C past v x.group before s moves)) (λ q e. refl) first
    (own_few C past before (leads_sound C past before leads) v x.group s fine moves (first (about v before))) c

pub bytes_bounded : BytesAreBounded
bytes_bounded C past s leads c accepted side =
    let z = seen past s c in
    let k = as_served C c z accepted ((leads_sound C past s leads).each c) in
    let few = few_bytes C past s leads c in
    let l = stand_of C z.heard z.place in
    let began = begins_at C z.heard in
    record {
      unread_is_bounded = (held_of side l few.lies).rest;
      pending_is_bounded = pending_bounded (setup_of C z.heard) (heads_fit C z.heard) began.client began.answers l z.place (taken z.heard) side k.stands k.met few.passes;
      payload_is_bounded = few.lies.host.payload;
      heads_are_bounded = few.lies.host.heads;
      rows_are_bounded = rows_are_few C past;
    }
