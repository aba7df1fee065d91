-- A schedule is read as exactly the events of its run, in one way.
use Rattle.std.proofs.Common.{◌≡◌, inr, refl, sym, ap, subst, ℕ, suc, List, [], ◌∷◌, ◌++◌, ◌∙◌, append_assoc, append-nil, flat_map, reverse}
use Rattle.std.specs.List.{All}
use Rattle.std.proofs.lemmas.List.{reverse-append}
use Rattle.std.proofs.lemmas.List.Elements.{All-head, All-tail}
use Rattle.core_events.specs.declared.event.Event.{Event}
use Rattle.journal_text.specs.Line.{event_line, event_text}
use Rattle.journal_text.proofs.Written.{written_is_read}
use Rattle.proxy.specs.Journal.{HasLine}
use Rattle.proxy.specs.Lines.{Gives, Reads, events_of}
use Rattle.proxy.proofs.WholeReading.{read_once, whole_has_no_fault}
use Rattle.test_past.specs.declared.entry.RunEntry.{RunEntry}
use Rattle.test_past.specs.declared.entry.RunEntry.TheVariants.{Given, Took, Logged, Asked, Finished, Over, Called, Rests, Asks}
use Rattle.tested_core.specs.Runs.{events_in}
use Rattle.tested_runs.specs.Schedules.{ScheduleHasNoFault, ScheduleIsRead, ScheduleReplays, schedule_text}

-- a text that is read as these events, in so many lines
abbrev IsRead : List ℕ → List Event → Type 0
IsRead text events = (n : ℕ) × Reads text n events

read_nothing : IsRead [] []
read_nothing = (0, record { lines = []; text_is = refl; all_lines = tt; number_is = refl; spell = refl })

event_given : (e : Event) → HasLine e → Gives (event_text e) e
event_given e h =
    let read = written_is_read e h.writable h.within in
    record { not_skipped = read.1; spells = read.0 }

one_more : (text : List ℕ) (e : Event) (events : List Event) → HasLine e → IsRead text events
    → IsRead (text ++ event_line e) (e ∷ events)
one_more text e events h (n, r) = (
  suc n,
  record {
    lines = event_text e ∷ r.lines;
    text_is = ap (λ t. t ++ (event_text e ++ 10 ∷ [])) r.text_is;
    all_lines = (h.is_line, r.all_lines);
    number_is = ap suc r.number_is;
    spell = inr (e, events, refl, event_given e h, r.spell);
  },
)

events_read : (text : List ℕ) (events before : List Event) → All HasLine events → IsRead text before
    → IsRead (text ++ flat_map event_line events) (reverse events ++ before)
events_read text [] before h r = subst (λ t. IsRead t before) (sym (append-nil text)) r
events_read text (e ∷ events) before h r =
    let more = events_read (text ++ event_line e) events (e ∷ before) (All-tail HasLine e events h)
    (one_more text e before (All-head HasLine e events h) r) in
    let turned : reverse (e ∷ events) ++ before ≡ reverse events ++ e ∷ before =
    ap (λ es. es ++ before) (reverse-append (e ∷ []) events) ∙ append_assoc (reverse events) (e ∷ []) before in
    subst (λ es. IsRead (text ++ flat_map event_line (e ∷ events)) es) (sym turned)
    (subst (λ t. IsRead t (reverse events ++ e ∷ before)) (append_assoc text (event_line e) (flat_map event_line events)) more)

text_is : (entries : List RunEntry) → schedule_text entries ≡ flat_map event_line (events_in entries)
text_is [] = refl
text_is (Given e ∷ entries) = ap (λ t. event_line e ++ t) (text_is entries)
text_is (Took c s b ∷ entries) = text_is entries
text_is (Logged c t ∷ entries) = text_is entries
text_is (Asked c a ∷ entries) = text_is entries
text_is (Finished c k ∷ entries) = text_is entries
text_is (Over c ∷ entries) = text_is entries
text_is (Called m w ∷ entries) = text_is entries
text_is (Rests ∷ entries) = text_is entries
text_is (Asks s ∷ entries) = text_is entries

pub schedule_is_read : ScheduleIsRead
schedule_is_read entries h =
    subst (λ t. IsRead t (reverse (events_in entries))) (sym (text_is entries))
    (subst (λ es. IsRead (flat_map event_line (events_in entries)) es) (append-nil (reverse (events_in entries)))
    (events_read [] (events_in entries) [] h read_nothing))

pub schedule_has_no_fault : ScheduleHasNoFault
schedule_has_no_fault K entries h old new m =
    let r = schedule_is_read entries h in
    whole_has_no_fault (schedule_text entries) m.text m.rest r.0 m.number
    (reverse (events_in entries)) (events_of m.past) m.kind r.1 m.schedule_is m.reports.reads m.faulty

pub schedule_replays : ScheduleReplays
schedule_replays K entries h old new m =
    let r = schedule_is_read entries h in
    read_once (schedule_text entries) r.0 m.number (reverse (events_in entries)) (events_of m.past) r.1 m.reports.reads
