-- The core stands for the past of the events that a run gave.
use Rattle.std.proofs.Common.{◌≡◌, ◌⊎◌, ℕ, ◌+◌, ◌^◌, ◌≤◌, List, [], ◌∷◌, ◌++◌, true, false, Option, Some, None, refl, ap, sym, ◌∙◌, subst, append_assoc, inl, inr}
use Rattle.std.proofs.lemmas.List.{append-nil}
use Rattle.std.specs.Prelude.{Bool, IfOk, IfSome, Result, Ok, Err, cond, flat_map, option_to_list}
use Rattle.core_events.specs.Face.{end_event, from_event, reset_event}
use Rattle.core_events.specs.Kinds.{kind_of}
use Rattle.core_events.specs.declared.bad_event.BadEvent.{BadEvent}
use Rattle.core_events.specs.declared.event.Event.{Event}
use Rattle.core_events.specs.declared.event.Event.TheVariants as event
use Rattle.core_events.specs.declared.note.Note.{Note}
use Rattle.core_events.specs.declared.note.Note.TheVariants as note
use Rattle.proxy_core.proofs.Promises.{every_past_matches}
use Rattle.proxy_core.proofs.Stepping.{refusal_same}
use Rattle.proxy_core.specs.Face.{TakesEvent, core_face}
use Rattle.proxy_core.specs.Refusal.{refused}
use Rattle.proxy_core.specs.Represents.{Represents}
use Rattle.proxy_core.specs.Scheduler.{State, no_connections}
use Rattle.proxy_core.specs.declared.core_state.Core.{Core}
use Rattle.px_bytes.specs.declared.addr.Addr.{Addr}
use Rattle.px_bytes.specs.declared.addr.Side.{Side}
use Rattle.record_model.specs.Past.{Past}
use Rattle.record_model.specs.Setup.{init_notes}
use Rattle.run_config.specs.declared.config.Config.{Config}
use Rattle.test_past.specs.declared.entry.RunEntry.{RunEntry}
use Rattle.test_past.specs.declared.entry.RunEntry.TheVariants as entry
use Rattle.test_plan.specs.declared.plan.TestMove.{TestMove}
use Rattle.test_plan.specs.declared.plan.TestMove.TheVariants as move
use Rattle.test_run.specs.Deeds.{DoesDeed, DoesPeer, RefusesAccept, RefusesDeed, RefusesOn, RefusesPeer, TicksNot}
use Rattle.test_run.specs.Due.{Answering, DoesDue, Goes, RefusesAnswer, RefusesDue, Stays, Then}
use Rattle.test_run.specs.Moves.{DoesMove, DoesSome, Follows, More, RefusesMove, RefusesPiece, RefusesSending, RefusesSome}
use Rattle.test_run.specs.Moves.{RefusesUnless, RestlessMove, RunEnds, SendsSome, SendsUnless, Still, deed_at, sender_at}
use Rattle.test_run.specs.Stand.{Gives, Refuses, RefusesTake, Stand, Takes, stand}
use Rattle.test_run.specs.Told.{called, told}
use Rattle.test_run.specs.declared.due.Due.{Due}
use Rattle.test_run.specs.declared.due.Due.TheVariants as due
use Rattle.test_run.specs.declared.known.SendingText.{SendingText}
use Rattle.test_run.specs.declared.moves.SendingSide.{SendingSide}
use Rattle.test_text.specs.declared.deed.Deed.{Deed}
use Rattle.test_text.specs.declared.deed.Deed.TheVariants as deed
use Rattle.test_text.specs.declared.deed.PeerDeed.{PeerDeed}
use Rattle.test_text.specs.declared.deed.PeerDeed.TheVariants as peer
use Rattle.test_text.specs.declared.test_file.PlacedStep.{PlacedStep}
use Rattle.test_past.specs.declared.verdict.RunEnd.{RunEnd}
use Rattle.test_past.specs.declared.verdict.RunEnd.TheVariants as run_end
use Rattle.test_run.specs.declared.run.TestRun.{TestRun}
use Rattle.tested_core.specs.Runs.{Followed, IsPromised, IsPromisedBefore, IsRefused, PromisedAt, Ran, event_in, events_in, events_of, started}
use Rattle.tested_core.specs.declared.runs.RunDone.{RunDone}

-- ---- entries

events_append : (xs ys : List RunEntry) → events_in (xs ++ ys) ≡ events_in xs ++ events_in ys
events_append [] ys = refl
events_append (x ∷ xs) ys =
    ap (λ l. event_in x ++ l) (events_append xs ys) ∙ sym (append_assoc (event_in x) (events_in xs) (events_in ys))

called_none : (moment : ℕ) (words : List (List ℕ)) (b : Bool)
    → events_in (cond b (entry.Called moment words ∷ []) []) ≡ []
called_none moment words true = refl
called_none moment words false = refl

of_call : (moment : ℕ) (call : List (List ℕ)) → events_in (called moment call) ≡ []
of_call moment [] = refl
of_call moment (first ∷ words) = called_none moment words _

of_note : (n : Note) → events_in (told n) ≡ []
of_note (note.Connect conn to) = refl
of_note (note.Sleep conn until) = refl
of_note (note.History conn moment call reply) = of_call moment call
of_note (note.Log conn text) = refl
of_note (note.Pass conn side n) = refl
of_note (note.Fired conn side) = refl
of_note (note.Reuse conn kept) = refl
of_note (note.Finish conn cause) = refl
of_note (note.HalfClose conn side) = refl
of_note (note.CloseServer conn) = refl
of_note (note.CloseClient conn) = refl
of_note (note.Ended conn dropped) = refl

of_notes : (group : List Note) → events_in (flat_map told group) ≡ []
of_notes [] = refl
of_notes (n ∷ group) =
    events_append (told n) (flat_map told group) ∙ ap (λ l. l ++ events_in (flat_map told group)) (of_note n) ∙ of_notes group

-- ---- a stand

-- the core stands for a past of exactly the events that were given
record StandsFor (C : Config) (s : Stand Core) : Type 0 where
  past : Past
  state : State
  represents : Represents C past state s.core
  events : events_in s.entries ≡ events_of past

-- an entry that is no event
quiet : (C : Config) (s : Stand Core) (x : RunEntry) → event_in x ≡ [] → StandsFor C s
    → StandsFor C (record s { entries = s.entries ++ x ∷ [] })
quiet C s x none p = record {
  past = p.past;
  state = p.state;
  represents = p.represents;
  events = events_append s.entries (x ∷ []) ∙ ap (λ l. events_in s.entries ++ (l ++ [])) none
      ∙ append-nil (events_in s.entries) ∙ p.events;
}

gives : (C : Config) (e : Event) (a b : Stand Core) → Gives core_face e a b → StandsFor C a → StandsFor C b
gives C e a b g p =
    let after = g.moved.keeps C p.past p.state p.represents in
    record {
      past = record { event = e; group = g.group } ∷ p.past;
      state = after.next;
      represents = after.represents;
      events = ap events_in g.entries ∙ events_append (a.entries ++ entry.Given e ∷ []) (flat_map told g.group)
          ∙ ap (λ l. events_in (a.entries ++ entry.Given e ∷ []) ++ l) (of_notes g.group)
          ∙ append-nil (events_in (a.entries ++ entry.Given e ∷ []))
          ∙ events_append a.entries (entry.Given e ∷ []) ∙ ap (λ l. l ++ e ∷ []) p.events;
    }

-- ---- what is due

takes : (C : Config) (side : Side) (conn n : ℕ) (a b : Stand Core) → Takes core_face side conn n a b → StandsFor C a → StandsFor C b
takes C side conn n a b t p =
    gives C _ t.between b t.gives
    (subst (StandsFor C) (sym t.keeps.kept) (quiet C a (entry.Took conn side _) refl p))

answers : (C : Config) (conn : ℕ) (made : Bool) (a b : Stand Core) → Answering core_face conn made a b → StandsFor C a → StandsFor C b
answers C conn true a b g p = gives C _ a b g p
answers C conn false a b g p = gives C _ a b g p

does_due : (C : Config) (d : Due) (a b : Stand Core) → DoesDue core_face d a b → StandsFor C a → StandsFor C b
does_due C due.Runs a b g p = gives C _ a b g p
does_due C due.Turns a b g p = gives C _ a b g p
does_due C (due.Answers conn made) a b g p = answers C conn made a b g p
does_due C (due.Takes side conn n) a b t p = takes C side conn n a b t p

goes : (C : Config) {a b : Stand Core} → Goes core_face a b → StandsFor C a → StandsFor C b
goes C Stays p = p
goes C (Then between d before is does) p = does_due C d _ _ does (goes C before p)

-- ---- moves

does_peer : (C : Config) (side : Side) (client : ℕ) (it : PeerDeed) (a b : Stand Core) → DoesPeer core_face side client it a b
    → StandsFor C a → StandsFor C b
does_peer C side client (peer.Sends bytes) a b g p = gives C _ a b g.gives p
does_peer C side client peer.Ends a b g p = gives C _ a b g.gives p
does_peer C side client peer.Resets a b g p = gives C _ a b g.gives p
does_peer C side client (peer.Takes most) a b is p =
    subst (StandsFor C) (sym is)
    (record { past = p.past; state = p.state; represents = p.represents; events = p.events })

does_deed : (C : Config) (it : Deed) (a b : Stand Core) → DoesDeed core_face it a b → StandsFor C a → StandsFor C b
does_deed C (deed.Comes client from to) a b c p =
    let here = gives C _ a c.between c.gives p in
    subst (StandsFor C) (sym c.came)
    (record { past = here.past; state = here.state; represents = here.represents; events = here.events })
does_deed C (deed.Does side client it) a b d p = does_peer C side client it a b d p
does_deed C (deed.Meets server meeting) a b is p =
    subst (StandsFor C) (sym is)
    (record { past = p.past; state = p.state; represents = p.represents; events = p.events })
does_deed C (deed.Marks pool member up) a b g p = gives C _ a b g p
does_deed C (deed.Waits milliseconds) a b t p = gives C _ a b t.gives p

does_some : (C : Config) (it : Option Deed) (a b : Stand Core) → DoesSome core_face it a b → StandsFor C a → StandsFor C b
does_some C None a b never p = absurd never
does_some C (Some it) a b d p = does_deed C it a b d p

sends : (C : Config) (dropped : Bool) (sending : SendingText) (sender : SendingSide) (conn : ℕ) (bytes : List ℕ) (a b : Stand Core)
    → SendsUnless dropped core_face sending sender conn bytes a b → StandsFor C a → StandsFor C b
sends C true sending sender conn bytes a b is p = subst (StandsFor C) (sym is) p
sends C false sending sender conn bytes a b g p =
    gives C _ _ b g (record { past = p.past; state = p.state; represents = p.represents; events = p.events })

sends_some : (C : Config) (sending : SendingText) (sender : Option SendingSide) (bytes : List ℕ) (a b : Stand Core)
    → SendsSome core_face sending sender bytes a b → StandsFor C a → StandsFor C b
sends_some C sending None bytes a b never p = absurd never
sends_some C sending (Some sender) bytes a b d p = sends C _ sending sender d.conn bytes a b d.sends p

makes : (C : Config) (steps : List PlacedStep) (one : TestMove) (a b : Stand Core) → DoesMove core_face steps one a b → StandsFor C a
    → StandsFor C b
makes C steps (move.Does number at) a b d p = does_some C (deed_at steps number at) a b d p
makes C steps (move.Sends number at bytes) a b d p = sends_some C _ (sender_at steps number at) bytes a b d p
makes C steps move.Rests a b d p = goes C d.goes (quiet C a entry.Rests refl p)
makes C steps (move.Asks number) a b is p = subst (StandsFor C) (sym is) (quiet C a (entry.Asks number) refl p)

follows : (C : Config) (steps : List PlacedStep) {moves : List TestMove} {a b : Stand Core} → Follows core_face steps moves a b
    → StandsFor C a → StandsFor C b
follows C steps Still p = p
follows C steps (More moves one between before does) p = makes C steps one between _ does (follows C steps before p)

-- ---- what is refused

-- the core stood for a past of the events that were given, but for the last, if it refuses one
record StandsBefore (C : Config) (s : Stand Core) : Type 0 where
  past : Past
  state : State
  core : Core
  represents : Represents C past state core
  last : Option Event
  events : events_in s.entries ≡ events_of past ++ option_to_list last
  refused : IfSome last (IsRefused C past state)

-- whatever a core stands for, it refuses the same
refused_by : (C : Config) (past : Past) (state : State) (core : Core) (e : Event) → Represents C past state core
    → (TakesEvent core e → ⊥) → (o : Option BadEvent) → refused C past state (kind_of e) ≡ o → IsRefused C past state e
refused_by C past state core e r never None is =
    absurd (never (λ D p t there. sym (refusal_same D p t core (kind_of e) there) ∙ refusal_same C past state core (kind_of e) r ∙ is))
refused_by C past state core e r never (Some why) is = (why, is)

refuses : (C : Config) (e : Event) (a b : Stand Core) → Refuses core_face e a b → StandsFor C a → StandsBefore C b
refuses C e a b r p = record {
  past = p.past;
  state = p.state;
  core = a.core;
  represents = p.represents;
  last = Some e;
  events = ap events_in r.entries ∙ events_append a.entries (entry.Given e ∷ []) ∙ ap (λ l. l ++ e ∷ []) p.events;
  refused = refused_by C p.past p.state a.core e p.represents
      (r.not_taken (record { config = C; past = p.past; state = p.state; represents = p.represents })) _ refl;
}

-- nothing was given
stays : (C : Config) (a b : Stand Core) → b ≡ a → StandsFor C a → StandsBefore C b
stays C a b is p = record {
  past = p.past;
  state = p.state;
  core = a.core;
  represents = p.represents;
  last = None;
  events = ap (λ s. events_in s.entries) is ∙ p.events ∙ sym (append-nil (events_of p.past));
  refused = tt;
}

refuses_take : (C : Config) (side : Side) (conn n : ℕ) (a b : Stand Core) → RefusesTake core_face side conn n a b → StandsFor C a
    → StandsBefore C b
refuses_take C side conn n a b t p =
    refuses C _ t.between b t.refuses
    (subst (StandsFor C) (sym t.keeps.kept) (quiet C a (entry.Took conn side _) refl p))

refuses_answer : (C : Config) (conn : ℕ) (made : Bool) (a b : Stand Core) → RefusesAnswer core_face conn made a b → StandsFor C a
    → StandsBefore C b
refuses_answer C conn true a b r p = refuses C _ a b r p
refuses_answer C conn false a b r p = refuses C _ a b r p

refuses_due : (C : Config) (d : Due) (a b : Stand Core) → RefusesDue core_face d a b → StandsFor C a → StandsBefore C b
refuses_due C due.Runs a b r p = refuses C _ a b r p
refuses_due C due.Turns a b r p = refuses C _ a b r p
refuses_due C (due.Answers conn made) a b r p = refuses_answer C conn made a b r p
refuses_due C (due.Takes side conn n) a b r p = refuses_take C side conn n a b r p

refuses_on : (C : Config) (conn : Option ℕ) (event : ℕ → Event) (a b : Stand Core) → RefusesOn core_face conn event a b → StandsFor C a
    → StandsBefore C b
refuses_on C None event a b is p = stays C a b is p
refuses_on C (Some conn) event a b r p = refuses C (event conn) a b r p

refuses_accept : (C : Config) (number : Option ℕ) (from : Addr) (to : List ℕ) (a b : Stand Core) → RefusesAccept core_face number from to a b
    → StandsFor C a → StandsBefore C b
refuses_accept C None from to a b is p = stays C a b is p
refuses_accept C (Some number) from to a b r p = refuses C _ a b r p

refuses_peer : (C : Config) (side : Side) (client : ℕ) (it : PeerDeed) (a b : Stand Core) → RefusesPeer core_face side client it a b
    → StandsFor C a → StandsBefore C b
refuses_peer C side client (peer.Sends bytes) a b r p = refuses_on C _ (λ conn. from_event side conn bytes) a b r p
refuses_peer C side client peer.Ends a b r p = refuses_on C _ (end_event side) a b r p
refuses_peer C side client peer.Resets a b r p = refuses_on C _ (reset_event side) a b r p
refuses_peer C side client (peer.Takes most) a b never p = absurd never

refuses_tick : (C : Config) (milliseconds : ℕ) (a b : Stand Core) (t : TicksNot core_face milliseconds a b) → StandsFor C a
    → ((2 ^ 64 ≤ t.moment + milliseconds) × (b ≡ a)) ⊎ Refuses core_face (event.Tick (t.moment + milliseconds)) a b → StandsBefore C b
refuses_tick C milliseconds a b t p (inl late) = stays C a b late.1 p
refuses_tick C milliseconds a b t p (inr r) = refuses C _ a b r p

refuses_deed : (C : Config) (it : Deed) (a b : Stand Core) → RefusesDeed core_face it a b → StandsFor C a → StandsBefore C b
refuses_deed C (deed.Comes client from to) a b r p = refuses_accept C r.number from to.name a b r.refuses p
refuses_deed C (deed.Does side client it) a b r p = refuses_peer C side client it a b r p
refuses_deed C (deed.Meets server meeting) a b never p = absurd never
refuses_deed C (deed.Marks pool member up) a b r p = refuses C _ a b r p
refuses_deed C (deed.Waits milliseconds) a b r p = refuses_tick C milliseconds a b r p r.refuses

refuses_some : (C : Config) (it : Option Deed) (a b : Stand Core) → RefusesSome core_face it a b → StandsFor C a → StandsBefore C b
refuses_some C None a b is p = stays C a b is p
refuses_some C (Some it) a b r p = refuses_deed C it a b r p

refuses_unless : (C : Config) (dropped : Bool) (sending : SendingText) (sender : SendingSide) (conn : ℕ) (bytes : List ℕ) (a b : Stand Core)
    → RefusesUnless dropped core_face sending sender conn bytes a b → StandsFor C a → StandsBefore C b
refuses_unless C true sending sender conn bytes a b never p = absurd never
refuses_unless C false sending sender conn bytes a b r p =
    refuses C _ _ b r (record { past = p.past; state = p.state; represents = p.represents; events = p.events })

refuses_piece : (C : Config) (sending : SendingText) (sender : SendingSide) (conn : Option ℕ) (bytes : List ℕ) (a b : Stand Core)
    → RefusesPiece core_face sending sender conn bytes a b → StandsFor C a → StandsBefore C b
refuses_piece C sending sender None bytes a b is p = stays C a b is p
refuses_piece C sending sender (Some conn) bytes a b r p = refuses_unless C _ sending sender conn bytes a b r p

refuses_sending : (C : Config) (sending : SendingText) (sender : Option SendingSide) (bytes : List ℕ) (a b : Stand Core)
    → RefusesSending core_face sending sender bytes a b → StandsFor C a → StandsBefore C b
refuses_sending C sending None bytes a b is p = stays C a b is p
refuses_sending C sending (Some sender) bytes a b r p = refuses_piece C sending sender _ bytes a b r p

refuses_move : (C : Config) (steps : List PlacedStep) (one : TestMove) (a b : Stand Core) → RefusesMove core_face steps one a b
    → StandsFor C a → StandsBefore C b
refuses_move C steps (move.Does number at) a b r p = refuses_some C (deed_at steps number at) a b r p
refuses_move C steps (move.Sends number at bytes) a b r p = refuses_sending C _ (sender_at steps number at) bytes a b r p
refuses_move C steps move.Rests a b r p = refuses_due C r.it r.between b r.refuses (goes C r.goes (quiet C a entry.Rests refl p))
refuses_move C steps (move.Asks number) a b never p = absurd never

restless : (C : Config) (one : TestMove) (a b : Stand Core) → RestlessMove core_face one a b → StandsFor C a → StandsFor C b
restless C (move.Does number at) a b never p = absurd never
restless C (move.Sends number at bytes) a b never p = absurd never
restless C move.Rests a b r p = goes C r.goes (quiet C a entry.Rests refl p)
restless C (move.Asks number) a b never p = absurd never

-- ---- all moves

kept : (C : Config) (b : Stand Core) → StandsFor C b → IsPromised C b
kept C b p = record {
  past = p.past;
  state = p.state;
  represents = p.represents;
  events = p.events;
  matches = every_past_matches C p.past p.state p.represents.sound.leads;
}

kept_before : (C : Config) (b : Stand Core) → StandsBefore C b → IsPromisedBefore C b
kept_before C b p = record {
  past = p.past;
  state = p.state;
  core = p.core;
  represents = p.represents;
  last = p.last;
  events = p.events;
  refused = p.refused;
  matches = every_past_matches C p.past p.state p.represents.sound.leads;
}

promised : (C : Config) (steps : List PlacedStep) (moves : List TestMove) (end : RunEnd) (a b : Stand Core) → StandsFor C a
    → RunEnds core_face steps moves end a b → PromisedAt C end b
promised C steps moves run_end.Done a b p made = kept C b (follows C steps made p)
promised C steps moves (run_end.Refused step) a b p k = kept_before C b (refuses_move C steps k.one k.between b k.ends (follows C steps k.follows p))
promised C steps moves (run_end.Restless step) a b p k = kept C b (restless C k.one k.between b k.ends (follows C steps k.follows p))

pub ran_by : (C : Config) (steps : List PlacedStep) (moves : List TestMove) (start : Core) (run : TestRun Core) (notes : List Note)
    → Represents C [] no_connections start → notes ≡ init_notes C → stand run ≡ started start notes → (done : RunDone)
    → Followed run steps moves done → Ran C steps moves done
ran_by C steps moves start run notes stands is at done followed =
    let begins : stand run ≡ started start (init_notes C) = at ∙ ap (started start) is in
    let ends : RunEnds core_face steps moves done.end (started start (init_notes C)) (stand done.run)
    = subst (λ s. RunEnds core_face steps moves done.end s (stand done.run)) begins followed in
    record {
      start = start;
      stands = stands;
      follows = ends;
      promised = promised C steps moves done.end (started start (init_notes C)) (stand done.run)
          (record { past = []; state = no_connections; represents = stands; events = of_notes (init_notes C) }) ends;
    }

pub if_ok_then : {A E : Type 0} (r : Result A E) (P Q : A → Type 0) → ((x : A) → P x → Q x) → IfOk r P → IfOk r Q
if_ok_then (Ok x) P Q f h = f x h
if_ok_then (Err e) P Q f h = h
