-- A connection that was just accepted, or for which no memory was found.
use Rattle.std.proofs.Common.{◌≡◌, refl, ap, ◌∙◌, ℕ, List, [], ◌∷◌, ◌++◌, Bool, true, false, Some, None, if◌then◌else◌, arith}
use Rattle.std.proofs.lemmas.Bool.Decides.{nat_tests}
use Rattle.px_bytes.specs.declared.addr.Addr.{Addr}
use Rattle.core_events.specs.declared.note.Cause.TheVariants.{Memory}
use Rattle.core_events.specs.declared.note.Note.{Note}
use Rattle.core_events.specs.declared.note.Note.TheVariants.{Finish}
use Rattle.core_events.specs.Edges.{accepted_edges}
use Rattle.core_events.specs.declared.event_kind.EventKind.TheVariants.{Accepts}
use Rattle.conn_trace.specs.Heard.{Accepted, nothing_heard, hears}
use Rattle.record_model.specs.Past.{Past, ended_in, shared, without_all}
use Rattle.proxy_core.specs.Ready.{is_in}
use Rattle.record_model.specs.Refusal.{Row, first_of, refusal_rows}
use Rattle.proxy_core.specs.Refusal.{known, refused}
use Rattle.proxy_core.specs.Scheduler.{Seen, State, entries, seen, seen_after, open_calls}
use Rattle.proxy_core.specs.Sound.{Sound, unseen}
use Rattle.run_config.specs.declared.config.Config.{Config}
use Rattle.proxy_core.proofs.Entries.{entries_pushed_self}
use Rattle.proxy_core.proofs.Framing.{same_seen}
use Rattle.proxy_core.proofs.Members.{eq_self, in_pushed_self}
use Rattle.proxy_core.proofs.Standing.{is_unseen}

abbrev pub first_notes : ℕ → Bool → List Note
first_notes c failed = if failed then Finish c Memory ∷ [] else []

abbrev pub fresh : ℕ → Accepted → Bool → Seen
fresh c a failed = record {
  heard = record nothing_heard { accepted = Some a; finished = failed; failed = failed; notes = first_notes c failed; edges = accepted_edges };
  live = true;
  ready = c ∷ [];
  asked = [];
  place = [];
  spent = 0;
}

first_heard : (c : ℕ) (a : Accepted) (failed : Bool) → hears c nothing_heard (Accepts c a.virtual a.from) (first_notes c failed) ≡ (fresh c a failed).heard
first_heard c a true = rw (eq_self c) refl
first_heard c a false = rw (eq_self c) refl

first_ended : (c : ℕ) (failed : Bool) (live : List ℕ) → without_all (ended_in (first_notes c failed)) live ≡ live
first_ended c true live = refl
first_ended c false live = refl

pub seen_accept : (past : Past) (c : ℕ) (a : Accepted) (failed : Bool) (group : List Note) (old new : State) → seen past old c ≡ unseen → group ≡ first_notes c failed → new ≡ record old { ring = old.ring ++ c ∷ [] }
    → seen_after past (Accepts c a.virtual a.from) group new c ≡ fresh c a failed
seen_accept past c a failed group old new u e f =
    let v = Accepts c a.virtual a.from in
    same_seen (seen_after past v group new c) (fresh c a failed)
    (ap (λ h. hears c h v group) (ap (λ z. z.heard) u) ∙ ap (hears c nothing_heard v) e ∙ first_heard c a failed)
    (ap (λ g. is_in (without_all (ended_in g) ((shared past).live ++ c ∷ [])) c) e ∙ ap (λ ns. is_in ns c) (first_ended c failed ((shared past).live ++ c ∷ [])) ∙ in_pushed_self c (shared past).live)
    (ap (λ s. entries c s.ring) f ∙ entries_pushed_self c old.ring ∙ ap (λ z. z.ready ++ c ∷ []) u)
    (ap (open_calls c) f ∙ ap (λ z. z.asked) u)
    (ap (λ s. s.places c) f ∙ ap (λ z. z.place) u) (ap (λ s. s.spent c) f ∙ ap (λ z. z.spent) u)

-- no row of a list holds
abbrev pub NoneHolds : List Row → Type 0
NoneHolds [] = Unit {0}
NoneHolds (r ∷ rows) = (r.holds ≡ false) × NoneHolds rows

pub none_holds : (rows : List Row) → first_of rows ≡ None → NoneHolds rows
none_holds [] h = tt
none_holds (r ∷ rows) h = by_row r.holds refl h (none_holds rows)
  where
    by_row : (b : Bool) → r.holds ≡ b → (if b then Some r.why else first_of rows) ≡ None → (first_of rows ≡ None → NoneHolds rows) → (r.holds ≡ false) × NoneHolds rows
    by_row true e k rest = cc
    by_row false e k rest = (e, rest k)

-- a connection above the last number wasn't accepted
pub not_accepted : (C : Config) (past : Past) (c : ℕ) (vs : List ℕ) (from : Addr) (s : State) → Sound C past s → refused C past s (Accepts c vs from) ≡ None → seen past s c ≡ unseen
not_accepted C past c vs from s k h =
    let r = (none_holds (refusal_rows C (known C past s (Accepts c vs from)) (Accepts c vs from)) h).1.0 in
    is_unseen C c (seen past s c) (k.unheard c (grind (arith, nat_tests))) (k.each c)
