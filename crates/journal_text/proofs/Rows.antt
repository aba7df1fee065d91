-- Worked lines of a schedule and of a report.
use Rattle.std.proofs.Common.{◌≡◌, ℕ, List, [], ◌∷◌, ◌++◌, true, refl, arith}
use Rattle.std.specs.Prelude.{codes}
use Rattle.std.specs.Fmt.{digits}
use Rattle.journal_text.specs.Line.{SpellsEvent, event_line, words_of}
use Rattle.journal_text.specs.Notes.{note_line, note_lines}
use Rattle.core_events.specs.declared.event.Event.TheVariants as event
use Rattle.px_bytes.specs.declared.fault.FaultKind.TheVariants.{NoVariable}
use Rattle.core_events.specs.declared.note.Cause.TheVariants as cause
use Rattle.core_events.specs.declared.note.Note.TheVariants as note

took : SpellsEvent (codes "client-took 1 4") (event.ClientTook 1 4)
unfolding digits
took = record { within = omega arith; spelled = record { none_empty = refl; rest = codes "1" ∷ codes "4" ∷ []; words_are = refl; read = ((refl, omega arith), ((refl, omega arith), tt)) } }

-- hexadecimal is read in either case, and written in lower case
sent : SpellsEvent (codes "client 7 0A") (event.FromClient 7 (10 ∷ []))
unfolding digits
sent = record { within = omega arith; spelled = record { none_empty = refl; rest = codes "7" ∷ codes "0A" ∷ []; words_are = refl; read = ((refl, omega arith), (refl, tt)) } }

written : event_line (event.FromClient 7 (10 ∷ [])) ≡ codes "client 7 0a\n"
unfolding digits
written = refl

marked : event_line (event.Mark (codes "p") (record { ip = 167772161; port = 80 }) true) ≡ codes "mark p 10.0.0.1:80 up\n"
unfolding digits
marked = refl

accepted : event_line (event.Accept 1 (codes "v") (record { ip = 167772169; port = 4000 })) ≡ codes "accept 1 v 10.0.0.9 4000\n"
unfolding digits
accepted = refl

two_blanks : words_of (codes "accept  1") ≡ codes "accept" ∷ [] ∷ codes "1" ∷ []
two_blanks = refl

ended : note_line (note.Ended 1 0) ≡ codes "> ended 1 0\n"
unfolding digits
ended = refl

logged : note_line (note.Log 1 (codes "a\n")) ≡ codes "> log 1 a\\x0a\n"
unfolding digits
logged = refl

finished : note_lines (note.Finish 1 (cause.Tcl NoVariable) ∷ note.CloseClient 1 ∷ note.Finish 2 cause.Unselected ∷ [])
    ≡ codes "> finish 1 tcl 1\n" ++ codes "> close-client 1\n" ++ codes "> finish 2 unselected\n"
unfolding digits
finished = refl
