-- What an Accept owes: its own connection.
use Rattle.std.proofs.Common.{◌≡◌, refl, sym, ap, ◌∙◌, ℕ, zero, suc, ◌≤◌, List, [], ◌∷◌, ◌++◌, length, map, Bool, true, false, ◌||◌, Some, None, arith, if◌then◌else◌}
use Rattle.px_bytes.specs.declared.addr.Side.{Side}
use Rattle.px_bytes.specs.declared.addr.Side.TheVariants.{Client, Server}
use Rattle.core_events.specs.declared.note.Cause.TheVariants.{Memory}
use Rattle.core_events.specs.declared.note.Note.{Note}
use Rattle.core_events.specs.declared.note.Note.TheVariants.{Finish}
use Rattle.core_events.specs.Edges.{accepted_edges, edge_of}
use Rattle.core_events.specs.declared.event_kind.EventKind.TheVariants.{Accepts}
use Rattle.conn_trace.specs.Gates.{TakenCounts}
use Rattle.conn_trace.specs.Heard.{Accepted, nothing_heard, hears, taken}
use Rattle.conn_trace.specs.Host.{first_host}
use Rattle.core_events.specs.declared.edges.EdgeState.TheVariants as state
use Rattle.event_order.specs.declared.event.EventName.TheVariants.{ClientAccepted}
use Rattle.conn_trace.specs.Item.{server_output}
use Rattle.conn_trace.specs.Setup.{Setup}
use Rattle.conn_trace.specs.State.{Stream, Absent, Answers as Recorded, Cut, TraceState}
use Rattle.conn_trace.specs.Trace.{start}
use Rattle.record_model.specs.History.{entries_in}
use Rattle.record_model.specs.Past.{Past, ended_in, without_all, shared}
use Rattle.proxy_core.specs.Ready.{is_in}
use Rattle.proxy_core.specs.Scheduler.{State, entries, Seen, seen, seen_after, open_calls}
use Rattle.proxy_core.specs.Servers.{took_of, Linked, LateServer}
use Rattle.record_model.specs.Setup.{begins_at, setup_of}
use Rattle.proxy_core.specs.Sound.{unseen, is_closed, TookWithin, EndsTold, CallsTold, SoundAt}
use Rattle.run_config.specs.declared.config.Config.{Config}
use Rattle.proxy_core.proofs.Entries.{entries_pushed_self}
use Rattle.proxy_core.proofs.Framing.{same_seen}
use Rattle.proxy_core.proofs.Members.{eq_self, in_pushed_self}
use Rattle.proxy_core.proofs.Linking.{settled}
use Rattle.proxy_core.proofs.ServerGone.{enter_goes}

pub or_false : (b : Bool) → (b || false) ≡ b
or_false true = refl
or_false false = refl

-- Accepts: a connection that begins, or for which no memory was found
abbrev pub first_notes : ℕ → Bool → List Note
first_notes c failed = if failed then Finish c Memory ∷ [] else []

abbrev pub fresh : ℕ → Accepted → Bool → Seen
fresh c a failed = record {
  heard = record nothing_heard { accepted = Some a; finished = failed; failed = failed; notes = first_notes c failed; edges = accepted_edges };
  live = true;
  ready = c ∷ [];
  asked = [];
  place = [];
  spent = 0;
}

-- the calls of no item
no_calls : (failed : Bool) (notes : List Note) → entries_in notes ≡ [] → CallsTold failed [] [] notes
no_calls failed notes none = record { unanswered = []; calls = sym (ap (λ es. map (λ e. e.call) es ++ []) none); few = omega arith; open_now = λ e. refl }

none_took : (k : ℕ) → took_of [] k ≤ length (server_output k [])
none_took zero = omega arith
none_took (suc k) = omega arith

took_nothing : TookWithin nothing_heard []
took_nothing = record { client = omega arith; servers = none_took }

-- no server is asked for where it begins
first_linked : (g : Setup) (took : TakenCounts) (client : Stream) (answers : Recorded) (failed : Bool) → answers.connects ≡ [] → Linked failed took (start g client answers) state.Absent
first_linked g took client answers failed none = settled failed took (start g client answers) state.Absent (enter_goes g ClientAccepted false Absent (first_host g) refl).waits none (λ x. refl)

no_cut : {A : Type 0} (cut : Cut) → None ≡ Some cut → A
no_cut cut e = absurd (cc)

none_closed : (side : Side) → is_closed (edge_of side accepted_edges).state ≡ true → ⊥
none_closed Client e = cc
none_closed Server e = cc

first_ends : (c : ℕ) (a : Accepted) (failed : Bool) → EndsTold c (fresh c a failed)
first_ends c a true = record { while_live = λ e. refl; over = λ e. absurd (let f : true ≡ false = e in cc); closed_has_finished = λ e. refl; client_took_all = λ f e. absurd (none_closed Client e); server_took_all = λ f e. absurd (none_closed Server e) }
first_ends c a false = record { while_live = λ e. refl; over = λ e. absurd (let f : true ≡ false = e in cc); closed_has_finished = λ e. absurd (let f : false ≡ true = e in cc); client_took_all = λ f e. absurd (none_closed Client e); server_took_all = λ f e. absurd (none_closed Server e) }

pub none_late : (finished : Bool) (at : TraceState) → LateServer false finished at state.Absent
none_late finished at = record { finishes = λ x. absurd (let y : false ≡ true = x in cc); gone = λ x. absurd (let y : false ≡ true = x in cc); asked = λ x. absurd (let y : false ≡ true = x in cc) }

pub fresh_sound : (C : Config) (c : ℕ) (a : Accepted) (failed : Bool) → SoundAt C c (fresh c a failed)
fresh_sound C c a true = record { stands = refl; met = tt; within = record { client = took_nothing.client; servers = none_took }; paid = omega arith; linked = (let l = begins_at C (fresh c a true).heard in first_linked (setup_of C (fresh c a true).heard) (taken (fresh c a true).heard) l.client l.answers true refl); late = none_late true _; drains = λ e. refl; licensed = λ cut e. no_cut cut e; shown = refl; causes = refl; ends = first_ends c a true; closed_over = λ f. record { client = λ e. absurd (none_closed Client e); server = λ e. absurd (none_closed Server e) }; told = no_calls true (Finish c Memory ∷ []) refl; spot = tt }
fresh_sound C c a false = record { stands = refl; met = tt; within = record { client = took_nothing.client; servers = none_took }; paid = omega arith; linked = (let l = begins_at C (fresh c a false).heard in first_linked (setup_of C (fresh c a false).heard) (taken (fresh c a false).heard) l.client l.answers false refl); late = none_late false _; drains = λ e. refl; licensed = λ cut e. no_cut cut e; shown = refl; causes = refl; ends = first_ends c a false; closed_over = λ f. record { client = λ e. absurd (none_closed Client e); server = λ e. absurd (none_closed Server e) }; told = no_calls false [] refl; spot = tt }

first_heard : (c : ℕ) (a : Accepted) (failed : Bool) → hears c nothing_heard (Accepts c a.virtual a.from) (first_notes c failed) ≡ (fresh c a failed).heard
first_heard c a true = rw (eq_self c) refl
first_heard c a false = rw (eq_self c) refl

first_ended : (c : ℕ) (failed : Bool) (live : List ℕ) → without_all (ended_in (first_notes c failed)) live ≡ live
first_ended c true live = refl
first_ended c false live = refl

pub seen_accept : (past : Past) (c : ℕ) (a : Accepted) (failed : Bool) (group : List Note) (old new : State) → seen past old c ≡ unseen → group ≡ first_notes c failed → new ≡ record old { ring = old.ring ++ c ∷ [] }
    → seen_after past (Accepts c a.virtual a.from) group new c ≡ fresh c a failed
seen_accept past c a failed group old new u e f =
    let v = Accepts c a.virtual a.from in
    same_seen (seen_after past v group new c) (fresh c a failed)
    (ap (λ h. hears c h v group) (ap (λ z. z.heard) u) ∙ ap (hears c nothing_heard v) e ∙ first_heard c a failed)
    (ap (λ g. is_in (without_all (ended_in g) ((shared past).live ++ c ∷ [])) c) e ∙ ap (λ ns. is_in ns c) (first_ended c failed ((shared past).live ++ c ∷ [])) ∙ in_pushed_self c (shared past).live)
    (ap (λ s. entries c s.ring) f ∙ entries_pushed_self c old.ring ∙ ap (λ z. z.ready ++ c ∷ []) u)
    (ap (open_calls c) f ∙ ap (λ z. z.asked) u)
    (ap (λ s. s.places c) f ∙ ap (λ z. z.place) u) (ap (λ s. s.spent c) f ∙ ap (λ z. z.spent) u)
