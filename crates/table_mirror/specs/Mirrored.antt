-- What a standby's table is after the first entries that were pushed, and whether it gives a reply.
use Rattle.std.specs.Prelude.{ℕ, Bool, true, false, ◌&&◌, List, [], ◌∷◌, nat_eq, Option, Some, None, Result, Ok, Err}
use Rattle.std.specs.Prelude.{if◌then◌else◌}
use Rattle.std.specs.Str.{bytes_eq}
use Rattle.px_bytes.specs.declared.fault.Reply.{Reply}
use Rattle.px_bytes.specs.declared.fault.Reply.TheVariants.{Ok as Replied, Fault as Refused}
use Rattle.px_bytes.specs.declared.fault.TclFault.{TclFault}
use Rattle.journal_text.specs.Notes.{fault_number}
use Rattle.session_table.specs.Requests.{checked}
use Rattle.session_table.specs.Tables.{TableState, after, new_table, replied}
use Rattle.table_mirror.specs.Pushed.{Entry}

-- the table after entries, each answered at its own moment
abbrev pub answered_all : TableState → List Entry → TableState
answered_all table [] = table
answered_all table (e ∷ es) = answered_all (after table e.moment e.words) es

abbrev pub mirrored : (limit : ℕ) → List Entry → TableState
mirrored limit es = answered_all (new_table limit) es

abbrev pub same_fault : TclFault → TclFault → Bool
same_fault a b = nat_eq (fault_number a.kind) (fault_number b.kind) && bytes_eq a.text b.text

abbrev pub same_reply : Reply → Reply → Bool
same_reply (Replied a) (Replied b) = bytes_eq a b
same_reply (Refused a) (Refused b) = same_fault a b
same_reply a b = false

abbrev pub unless_same : Reply → Reply → Option Reply
unless_same ours theirs = if same_reply ours theirs then None else Some ours

-- the table's reply to an entry where it isn't the entry's own. Words that are no call are never its own
abbrev pub other_than : Result (Unit {0}) TclFault → Reply → Reply → Option Reply
other_than (Err fault) ours theirs = Some (Refused fault)
other_than (Ok it) ours theirs = unless_same ours theirs

abbrev pub differs : TableState → Entry → Option Reply
differs table e = other_than (checked e.words) (replied table e.moment e.words) e.reply
