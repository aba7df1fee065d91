-- What answers of a net become, and the text of events with their notes.
use Rattle.std.specs.Prelude.{◌≡◌, ℕ, List, [], ◌++◌, Bool, true, false, Option, Some, None}
use Rattle.core_events.specs.declared.note.Note.{Note}
use Rattle.core_events.specs.declared.event.Event.{Event}
use Rattle.core_events.specs.declared.event.Event.TheVariants as event
use Rattle.journal_text.specs.Line.{event_line}
use Rattle.journal_text.specs.Notes.{note_lines}
use Rattle.px_bytes.specs.declared.addr.Side.{Side}
use Rattle.px_outside.specs.declared.answers.ReadAnswer.{ReadAnswer}
use Rattle.px_outside.specs.declared.answers.ReadAnswer.TheVariants as read
use Rattle.px_outside.specs.declared.answers.WriteAnswer.{WriteAnswer}
use Rattle.px_outside.specs.declared.answers.WriteAnswer.TheVariants as write
use Rattle.px_outside.specs.declared.answers.ConnectAnswer.{ConnectAnswer}
use Rattle.px_outside.specs.declared.answers.ConnectAnswer.TheVariants as connect
use Rattle.px_outside.specs.Outside.{told_more}
use Rattle.serve_loop.specs.declared.journal.Journal.{Journal}
use Rattle.core_events.specs.Face.{from_event, end_event, reset_event, took_event}

-- bytes, an end and a reset of a side
abbrev pub read_event : ℕ → Side → ReadAnswer → List ℕ → Option Event
read_event c side (read.Got n) bytes = Some (from_event side c bytes)
read_event c side read.NotYet bytes = None
read_event c side read.End bytes = Some (end_event side c)
read_event c side read.Reset bytes = Some (reset_event side c)

-- that a side took bytes, or reset
abbrev pub write_event : ℕ → Side → WriteAnswer → Option Event
write_event c side (write.Took n) = Some (took_event side c n)
write_event c side write.NotYet = None
write_event c side write.Reset = Some (reset_event side c)

-- what became of a connect
abbrev pub connect_event : ℕ → ConnectAnswer → Option Event
connect_event c connect.Connected = Some (event.Connected c)
connect_event c connect.Refused = Some (event.Refused c)
connect_event c connect.NotYet = None

-- the lines of an event and of its notes
abbrev pub group_text : Event → List Note → List ℕ
group_text e group = event_line e ++ note_lines group

-- a text with more behind it, where anything is kept of it
abbrev pub kept : Bool → List ℕ → List ℕ → List ℕ
kept false text more = text
kept true text more = text ++ more

-- the lines were written down
pub record Tells (old new : Journal) (more : List ℕ) : Type 0 where
  pub text : new.text ≡ kept old.recording old.text more
  pub same : new.recording ≡ old.recording

-- what was written grew by this text
abbrev pub Grew : (before after : Option (List ℕ)) → List ℕ → Type 0
Grew before after text = after ≡ told_more before text

-- a text from its first byte on; all of it where nothing may be missing
pub record FrontOf (short : Bool) (text front : List ℕ) : Type 0 where
  pub missing : List ℕ
  pub text_is : text ≡ front ++ missing
  pub whole : short ≡ false → missing ≡ []

-- a front of these lines was told
pub record TellsFront (Told : List ℕ → Type 0) (short : Bool) (lines : List ℕ) : Type 0 where
  pub text : List ℕ
  pub told : Told text
  pub front : FrontOf short lines text
