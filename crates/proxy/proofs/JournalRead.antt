-- A journal is read as exactly the events that were served, in one way.
use Rattle.std.proofs.Common.{◌≡◌, inl, inr, refl, sym, ap, subst, ℕ, suc, List, [], ◌∷◌, ◌++◌, Some, None, append_assoc, append-nil}
use Rattle.core_events.specs.declared.note.Note.{Note}
use Rattle.journal_text.specs.Line.{IsSkipped, event_text}
use Rattle.journal_text.specs.Notes.{note_line, note_lines}
use Rattle.journal_text.proofs.Written.{written_is_read}
use Rattle.record_model.specs.Past.{Past}
use Rattle.record_model.specs.Setup.{init_notes}
use Rattle.core_events.specs.declared.event.Event.{Event}
use Rattle.serve_loop.specs.Events.{group_text}
use Rattle.serve_loop.specs.Walk.{Given, Step, Own, Asked, text_in}
use Rattle.served_core.specs.Serves.{happened, past_after}
use Rattle.proxy.specs.Journal.{HasLine, HaveLines, JournalHasNoFault, JournalIsRead, JournalReplays, journal_of}
use Rattle.proxy.specs.Lines.{IsLine, Gives, Reads, events_of}
use Rattle.proxy.proofs.NoteLines.{note_is_skipped}
use Rattle.proxy.proofs.WholeReading.{read_once, whole_has_no_fault}

-- a text that is read as these events, in so many lines
abbrev IsRead : List ℕ → List Event → Type 0
IsRead text events = (n : ℕ) × Reads text n events

read_nothing : IsRead [] []
read_nothing = (0, record { lines = []; text_is = refl; all_lines = tt; number_is = refl; spell = refl })

skips : (text line : List ℕ) (events : List Event) → IsRead text events → IsLine line → IsSkipped line → IsRead (text ++ (line ++ 10 ∷ [])) events
skips text line events (n, r) is skipped =
    (suc n, record { lines = line ∷ r.lines; text_is = ap (λ t. t ++ (line ++ 10 ∷ [])) r.text_is; all_lines = (is, r.all_lines); number_is = ap suc r.number_is; spell = inl (skipped, r.spell) })

gives : (text line : List ℕ) (event : Event) (events : List Event) → IsRead text events → IsLine line → Gives line event → IsRead (text ++ (line ++ 10 ∷ [])) (event ∷ events)
gives text line event events (n, r) is g =
    (suc n, record { lines = line ∷ r.lines; text_is = ap (λ t. t ++ (line ++ 10 ∷ [])) r.text_is; all_lines = (is, r.all_lines); number_is = ap suc r.number_is; spell = inr (event, events, refl, g, r.spell) })

-- ---- notes are skipped

notes_read : (text : List ℕ) (notes : List Note) (events : List Event) → IsRead text events → IsRead (text ++ note_lines notes) events
notes_read text [] events r = subst (λ t. IsRead t events) (sym (append-nil text)) r
notes_read text (n ∷ notes) events r =
    let s = note_is_skipped n in
    let one : IsRead (text ++ note_line n) events = subst (λ t. IsRead (text ++ t) events) (sym s.text_is) (skips text s.line events r s.is_line s.skipped) in
    subst (λ t. IsRead t events) (append_assoc text (note_line n) (note_lines notes)) (notes_read (text ++ note_line n) notes events one)

-- ---- events are read

event_given : (e : Event) → HasLine e → Gives (event_text e) e
event_given e h =
    let read = written_is_read e h.writable h.within in
    record { not_skipped = read.1; spells = read.0 }

group_read : (text : List ℕ) (g : Given) (events : List Event) → HasLine g.event → IsRead text events → IsRead (text ++ group_text g.event g.group) (g.event ∷ events)
group_read text g events h r =
    let line = event_text g.event ++ 10 ∷ [] in
    let one = gives text (event_text g.event) g.event events r h.is_line (event_given g.event h) in
    subst (λ t. IsRead t (g.event ∷ events)) (append_assoc text line (note_lines g.group)) (notes_read (text ++ line) g.group (g.event ∷ events) one)

steps_read : (text : List ℕ) (steps : List Step) (past : Past) → HaveLines steps → IsRead text (events_of past) → IsRead (text ++ text_in steps) (events_of (past_after steps past))
steps_read text [] past h r = subst (λ t. IsRead t (events_of past)) (sym (append-nil text)) r
steps_read text (Own g ∷ steps) past h r =
    let one = group_read text g (events_of past) h.0 r in
    let P : List ℕ → Type 0 = λ t. IsRead t (events_of (past_after steps (happened g ∷ past))) in
    subst P (append_assoc text (group_text g.event g.group) (text_in steps)) (steps_read (text ++ group_text g.event g.group) steps (happened g ∷ past) h.1 one)
steps_read text (Asked call None ∷ steps) past h r = steps_read text steps past h r
steps_read text (Asked call (Some g) ∷ steps) past h r =
    let one = group_read text g (events_of past) h.0 r in
    let P : List ℕ → Type 0 = λ t. IsRead t (events_of (past_after steps (happened g ∷ past))) in
    subst P (append_assoc text (group_text g.event g.group) (text_in steps)) (steps_read (text ++ group_text g.event g.group) steps (happened g ∷ past) h.1 one)

pub journal_is_read : JournalIsRead
journal_is_read C steps h = steps_read (note_lines (init_notes C)) steps [] h (notes_read [] (init_notes C) [] read_nothing)

pub journal_has_no_fault : JournalHasNoFault
journal_has_no_fault C K steps h old new m =
    let r = journal_is_read C steps h in
    whole_has_no_fault (journal_of C steps) m.text m.rest r.0 m.number (events_of (past_after steps [])) (events_of m.past) m.kind r.1 m.schedule_is m.reports.reads m.faulty

pub journal_replays : JournalReplays
journal_replays C K steps h old new m =
    let r = journal_is_read C steps h in
    read_once (journal_of C steps) r.0 m.number (events_of (past_after steps [])) (events_of m.past) r.1 m.reports.reads
