-- The lines of notes, in this project's own format. Each ends with LF.
use Rattle.std.specs.Prelude.{ℕ, List, ◌++◌, Bool, true, false, flat_map, codes}
use Rattle.std.specs.Fmt.{decimal}
use Rattle.px_bytes.specs.Address.{addr_text}
use Rattle.px_bytes.specs.Escapes.{escaped}
use Rattle.px_bytes.specs.Hexadecimal.{hex_text}
use Rattle.px_bytes.specs.declared.addr.Side.{Side}
use Rattle.px_bytes.specs.declared.addr.Side.TheVariants.{Client, Server}
use Rattle.px_bytes.specs.declared.fault.FaultKind.{FaultKind}
use Rattle.px_bytes.specs.declared.fault.FaultKind.TheVariants.{NoVariable, NoCommand, Arity}
use Rattle.px_bytes.specs.declared.fault.FaultKind.TheVariants.{NotWhole, OutOfRange, DivideByZero}
use Rattle.px_bytes.specs.declared.fault.FaultKind.TheVariants.{TooLong, TooDeep, Budget, Context}
use Rattle.px_bytes.specs.declared.fault.FaultKind.TheVariants.{Raised, Syntax, NoSuch, TableFull}
use Rattle.px_bytes.specs.declared.fault.HttpFault.{HttpFault}
use Rattle.px_bytes.specs.declared.fault.HttpFault.TheVariants as http
use Rattle.core_events.specs.declared.note.Cause.{Cause}
use Rattle.core_events.specs.declared.note.Cause.TheVariants.{Closed, Tcl, Http, Unselected}
use Rattle.core_events.specs.declared.note.Cause.TheVariants.{Rejected, Cut, Memory}
use Rattle.core_events.specs.declared.note.CutReason.{CutReason}
use Rattle.core_events.specs.declared.note.CutReason.TheVariants.{ClientReset, ServerReset}
use Rattle.core_events.specs.declared.note.CutReason.TheVariants.{Idle}
use Rattle.core_events.specs.declared.note.Note.{Note}
use Rattle.core_events.specs.declared.note.Note.TheVariants.{Connect, Sleep, History, Log}
use Rattle.core_events.specs.declared.note.Note.TheVariants.{Pass, Fired, Reuse, Finish}
use Rattle.core_events.specs.declared.note.Note.TheVariants.{HalfClose}
use Rattle.core_events.specs.declared.note.Note.TheVariants.{CloseServer, CloseClient, Ended}
use Rattle.px_bytes.specs.declared.fault.Reply.{Reply}
use Rattle.px_bytes.specs.declared.fault.Reply.TheVariants as reply
use Rattle.tcl_lists.specs.Write.{joined}

-- the number of a kind of fault
abbrev pub fault_number : FaultKind → ℕ
fault_number NoVariable = 1
fault_number NoCommand = 2
fault_number Arity = 3
fault_number NotWhole = 4
fault_number OutOfRange = 5
fault_number DivideByZero = 6
fault_number TooLong = 7
fault_number TooDeep = 8
fault_number Budget = 9
fault_number Context = 10
fault_number Raised = 11
fault_number Syntax = 12
fault_number NoSuch = 13
fault_number TableFull = 14

-- the number of a fault of an HTTP message
abbrev pub http_number : HttpFault → ℕ
http_number http.BadHead = 1
http_number http.LongHead = 2
http_number http.Host = 3
http_number http.Framing = 4
http_number http.BadChunk = 5
http_number http.ShortBody = 6
http_number http.Switching = 7
http_number http.Method = 8

-- why a connection was cut
abbrev pub cut_text : CutReason → List ℕ
cut_text ClientReset = codes "client-reset"
cut_text ServerReset = codes "server-reset"
cut_text Idle = codes "idle"

-- why a connection finishes
abbrev pub cause_text : Cause → List ℕ
cause_text Closed = codes "closed"
cause_text (Tcl kind) = codes "tcl " ++ decimal (fault_number kind)
cause_text (Http fault) = codes "http " ++ decimal (http_number fault)
cause_text Unselected = codes "unselected"
cause_text Rejected = codes "rejected"
cause_text (Cut reason) = codes "cut " ++ cut_text reason
cause_text Memory = codes "memory"

abbrev pub side_text : Side → List ℕ
side_text Client = codes "client"
side_text Server = codes "server"

abbrev pub kept_text : Bool → List ℕ
kept_text true = codes "kept"
kept_text false = codes "gone"

-- the answer to a shared call
abbrev pub reply_text : Reply → List ℕ
reply_text (reply.Ok v) = codes "ok " ++ hex_text v
reply_text (reply.Fault f) =
    codes "fault " ++ decimal (fault_number f.kind) ++ codes " " ++ hex_text f.text

-- the line of a note, which names its connection; a shared call is the list of its words
abbrev pub note_line : Note → List ℕ
note_line (Connect conn to) =
    codes "> connect " ++ decimal conn ++ codes " " ++ addr_text to ++ codes "\n"
note_line (Pass conn side n) =
    codes "> pass " ++ decimal conn ++ codes " " ++ side_text side ++ codes " " ++ decimal n
    ++ codes "\n"
note_line (Fired conn side) =
    codes "> fired " ++ decimal conn ++ codes " " ++ side_text side ++ codes "\n"
note_line (Reuse conn kept) =
    codes "> reuse " ++ decimal conn ++ codes " " ++ kept_text kept ++ codes "\n"
note_line (Log conn text) =
    codes "> log " ++ decimal conn ++ codes " " ++ escaped text ++ codes "\n"
note_line (Finish conn cause) =
    codes "> finish " ++ decimal conn ++ codes " " ++ cause_text cause ++ codes "\n"
note_line (Sleep conn until) =
    codes "> sleep " ++ decimal conn ++ codes " " ++ decimal until ++ codes "\n"
note_line (History conn moment call answer) =
    codes "> history " ++ decimal conn ++ codes " " ++ decimal moment ++ codes " "
    ++ hex_text (joined call) ++ codes " " ++ reply_text answer ++ codes "\n"
note_line (HalfClose conn side) =
    codes "> half-close " ++ decimal conn ++ codes " " ++ side_text side ++ codes "\n"
note_line (CloseServer conn) =
    codes "> close-server " ++ decimal conn ++ codes "\n"
note_line (CloseClient conn) =
    codes "> close-client " ++ decimal conn ++ codes "\n"
note_line (Ended conn dropped) =
    codes "> ended " ++ decimal conn ++ codes " " ++ decimal dropped ++ codes "\n"

-- the lines of notes, in order
abbrev pub note_lines : List Note → List ℕ
note_lines notes = flat_map note_line notes
