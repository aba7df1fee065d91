-- Sums over the lines of a journal, the newest first.
use Rattle.std.specs.Prelude.{ℕ, ◌+◌, Bool, false, ◌||◌, List, [], ◌∷◌, ◌==◌}
use Rattle.std.specs.Prelude.{Option, Some, None, if◌then◌else◌}
use Rattle.std.specs.Str.{bytes_eq}
use Rattle.core_events.specs.declared.event.Event.TheVariants as event
use Rattle.core_events.specs.declared.note.Cause.{Cause}
use Rattle.core_events.specs.declared.note.Cause.TheVariants.{Closed}
use Rattle.core_events.specs.declared.note.Note.TheVariants as note
use Rattle.journal_value.specs.declared.journal.JournalLine.{JournalLine}
use Rattle.journal_value.specs.declared.journal.JournalLine.TheVariants.{Event, Note}
use Rattle.access_report.specs.declared.counts.ServerCounts.{ServerCounts}

abbrev pub none : ServerCounts
none = record { conns = 0; bytes = 0; calls = 0; early = 0 }

abbrev pub plus : ServerCounts → ServerCounts → ServerCounts
plus a b = record {
  conns = a.conns + b.conns;
  bytes = a.bytes + b.bytes;
  calls = a.calls + b.calls;
  early = a.early + b.early;
}

-- one connection; so many bytes; one shared call; one end before its time
abbrev pub one_conn : ServerCounts
one_conn = record none { conns = 1 }

abbrev pub of_bytes : ℕ → ServerCounts
of_bytes n = record none { bytes = n }

abbrev pub one_call : ServerCounts
one_call = record none { calls = 1 }

abbrev pub one_early : ServerCounts
one_early = record none { early = 1 }

-- a connection that both ends, or a rule, closed didn't end early
abbrev pub end_counts : Cause → ServerCounts
end_counts Closed = none
end_counts other = one_early

-- what a line counts
abbrev pub adds : JournalLine → ServerCounts
adds (Event (event.Accept conn vs from)) = one_conn
adds (Event (event.ClientTook conn n)) = of_bytes n
adds (Note (note.History conn moment call answer)) = one_call
adds (Note (note.Finish conn cause)) = end_counts cause
adds other = none

-- the virtual server at which a connection was accepted the last time, of the lines before
abbrev pub server_of : ℕ → List JournalLine → Option (List ℕ)
server_of conn [] = None
server_of conn (Event (event.Accept other vs from) ∷ past) =
    if other == conn then Some vs else server_of conn past
server_of conn (line ∷ past) = server_of conn past

-- the virtual server for which a line counts
abbrev pub counts_for : JournalLine → List JournalLine → Option (List ℕ)
counts_for (Event (event.Accept conn vs from)) past = Some vs
counts_for (Event (event.ClientTook conn n)) past = server_of conn past
counts_for (Note (note.History conn moment call answer)) past = server_of conn past
counts_for (Note (note.Finish conn cause)) past = server_of conn past
counts_for other past = None

abbrev pub is_name : List ℕ → Option (List ℕ) → Bool
is_name name None = false
is_name name (Some vs) = bytes_eq name vs

-- all that was counted
abbrev pub total : List JournalLine → ServerCounts
total [] = none
total (line ∷ past) = plus (total past) (adds line)

-- what was counted for one virtual server
abbrev pub column : List ℕ → List JournalLine → ServerCounts
column name [] = none
column name (line ∷ past) =
    if is_name name (counts_for line past) then plus (column name past) (adds line)
    else column name past

-- whether a connection was accepted there
abbrev pub is_named : List ℕ → List JournalLine → Bool
is_named name [] = false
is_named name (Event (event.Accept conn vs from) ∷ past) = bytes_eq name vs || is_named name past
is_named name (line ∷ past) = is_named name past
