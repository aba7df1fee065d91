-- The line of a note as its words, with a blank between each two.
use Rattle.std.specs.Prelude.{◌≡◌, ℕ, ◌^◌, ◌<◌, ◌≤◌, Bool, true, false, List, [], ◌∷◌, ◌==◌, codes}
use Rattle.std.specs.Prelude.{Option, Some, None}
use Rattle.std.specs.Fmt.{decimal}
use Rattle.std.specs.List.{All, slice_split}
use Rattle.px_bytes.specs.Address.{addr_text}
use Rattle.px_bytes.specs.Escapes.{escaped}
use Rattle.px_bytes.specs.Hexadecimal.{hex_text}
use Rattle.px_bytes.specs.declared.addr.Addr.{Addr}
use Rattle.px_bytes.specs.declared.addr.Side.{Side}
use Rattle.px_bytes.specs.declared.addr.Side.TheVariants.{Client, Server}
use Rattle.px_bytes.specs.declared.fault.FaultKind.{FaultKind}
use Rattle.px_bytes.specs.declared.fault.FaultKind.TheVariants.{NoVariable, NoCommand, Arity}
use Rattle.px_bytes.specs.declared.fault.FaultKind.TheVariants.{NotWhole, OutOfRange, DivideByZero}
use Rattle.px_bytes.specs.declared.fault.FaultKind.TheVariants.{TooLong, TooDeep, Budget, Context}
use Rattle.px_bytes.specs.declared.fault.FaultKind.TheVariants.{Raised, Syntax, NoSuch, TableFull}
use Rattle.px_bytes.specs.declared.fault.HttpFault.{HttpFault}
use Rattle.px_bytes.specs.declared.fault.HttpFault.TheVariants as http
use Rattle.px_bytes.specs.declared.fault.Reply.{Reply}
use Rattle.px_bytes.specs.declared.fault.Reply.TheVariants as reply
use Rattle.core_events.specs.declared.note.Cause.{Cause}
use Rattle.core_events.specs.declared.note.Cause.TheVariants as cause
use Rattle.core_events.specs.declared.note.CutReason.{CutReason}
use Rattle.core_events.specs.declared.note.CutReason.TheVariants.{ClientReset, ServerReset, Idle}
use Rattle.core_events.specs.declared.note.Note.{Note}
use Rattle.core_events.specs.declared.note.Note.TheVariants as note
use Rattle.journal_text.specs.Notes.{cut_text, fault_number, http_number, kept_text, side_text}
use Rattle.tcl_lists.specs.Write.{joined}
use Rattle.journal_value.specs.Exact.{Exact}
use Rattle.journal_value.specs.declared.note_verb.NoteVerb.{NoteVerb}
use Rattle.journal_value.specs.declared.note_verb.NoteVerb.TheVariants as verb

abbrev pub is_space : ℕ → Bool
is_space byte = byte == 32

-- what stands before, between and behind the blanks
abbrev pub words_of : List ℕ → List (List ℕ)
words_of text = slice_split is_space text

-- what stands between the blanks behind one; nothing where there was none
abbrev pub more_words : Option (List ℕ) → List (List ℕ)
more_words None = []
more_words (Some text) = words_of text

abbrev pub verb_text : NoteVerb → List ℕ
verb_text verb.Connect = codes "connect"
verb_text verb.Sleep = codes "sleep"
verb_text verb.History = codes "history"
verb_text verb.Log = codes "log"
verb_text verb.Pass = codes "pass"
verb_text verb.Fired = codes "fired"
verb_text verb.Reuse = codes "reuse"
verb_text verb.Finish = codes "finish"
verb_text verb.HalfClose = codes "half-close"
verb_text verb.CloseServer = codes "close-server"
verb_text verb.CloseClient = codes "close-client"
verb_text verb.Ended = codes "ended"

abbrev pub every_verb : List NoteVerb
every_verb =
    verb.Connect ∷ verb.Sleep ∷ verb.History ∷ verb.Log ∷ verb.Pass ∷ verb.Fired ∷ verb.Reuse
    ∷ verb.Finish ∷ verb.HalfClose ∷ verb.CloseServer ∷ verb.CloseClient ∷ verb.Ended ∷ []

abbrev pub every_side : List Side
every_side = Client ∷ Server ∷ []

abbrev pub every_kept : List Bool
every_kept = true ∷ false ∷ []

abbrev pub every_reason : List CutReason
every_reason = ClientReset ∷ ServerReset ∷ Idle ∷ []

abbrev pub every_kind : List FaultKind
every_kind =
    NoVariable ∷ NoCommand ∷ Arity ∷ NotWhole ∷ OutOfRange ∷ DivideByZero ∷ TooLong ∷ TooDeep
    ∷ Budget ∷ Context ∷ Raised ∷ Syntax ∷ NoSuch ∷ TableFull ∷ []

abbrev pub every_http : List HttpFault
every_http =
    http.BadHead ∷ http.LongHead ∷ http.Host ∷ http.Framing ∷ http.BadChunk ∷ http.ShortBody
    ∷ http.Switching ∷ http.Method ∷ []

abbrev pub verb_of : Note → NoteVerb
verb_of (note.Connect conn to) = verb.Connect
verb_of (note.Sleep conn until) = verb.Sleep
verb_of (note.History conn moment call answer) = verb.History
verb_of (note.Log conn text) = verb.Log
verb_of (note.Pass conn side n) = verb.Pass
verb_of (note.Fired conn side) = verb.Fired
verb_of (note.Reuse conn kept) = verb.Reuse
verb_of (note.Finish conn cause) = verb.Finish
verb_of (note.HalfClose conn side) = verb.HalfClose
verb_of (note.CloseServer conn) = verb.CloseServer
verb_of (note.CloseClient conn) = verb.CloseClient
verb_of (note.Ended conn dropped) = verb.Ended

-- the connection that it names
abbrev pub conn_of : Note → ℕ
conn_of (note.Connect conn to) = conn
conn_of (note.Sleep conn until) = conn
conn_of (note.History conn moment call answer) = conn
conn_of (note.Log conn text) = conn
conn_of (note.Pass conn side n) = conn
conn_of (note.Fired conn side) = conn
conn_of (note.Reuse conn kept) = conn
conn_of (note.Finish conn cause) = conn
conn_of (note.HalfClose conn side) = conn
conn_of (note.CloseServer conn) = conn
conn_of (note.CloseClient conn) = conn
conn_of (note.Ended conn dropped) = conn

abbrev pub addr_words : Addr → List (List ℕ)
addr_words to = addr_text to ∷ []

abbrev pub number_words : ℕ → List (List ℕ)
number_words n = decimal n ∷ []

abbrev pub side_words : Side → List (List ℕ)
side_words side = side_text side ∷ []

abbrev pub kept_words : Bool → List (List ℕ)
kept_words kept = kept_text kept ∷ []

abbrev pub passed_words : Side → ℕ → List (List ℕ)
passed_words side n = side_text side ∷ decimal n ∷ []

abbrev pub cause_words : Cause → List (List ℕ)
cause_words cause.Closed = codes "closed" ∷ []
cause_words (cause.Tcl kind) = codes "tcl" ∷ decimal (fault_number kind) ∷ []
cause_words (cause.Http fault) = codes "http" ∷ decimal (http_number fault) ∷ []
cause_words cause.Unselected = codes "unselected" ∷ []
cause_words cause.Rejected = codes "rejected" ∷ []
cause_words (cause.Cut reason) = codes "cut" ∷ cut_text reason ∷ []
cause_words cause.Memory = codes "memory" ∷ []

-- the causes of one word, and that word
abbrev pub every_plain : List Cause
every_plain = cause.Closed ∷ cause.Unselected ∷ cause.Rejected ∷ cause.Memory ∷ []

abbrev pub plain_text : Cause → List ℕ
plain_text cause.Closed = codes "closed"
plain_text cause.Unselected = codes "unselected"
plain_text cause.Rejected = codes "rejected"
plain_text cause.Memory = codes "memory"
plain_text other = []

abbrev pub reply_words : Reply → List (List ℕ)
reply_words (reply.Ok v) = codes "ok" ∷ hex_text v ∷ []
reply_words (reply.Fault f) = codes "fault" ∷ decimal (fault_number f.kind) ∷ hex_text f.text ∷ []

abbrev pub call_text : List (List ℕ) → List ℕ
call_text call = hex_text (joined call)

abbrev pub asked_words : ℕ → List (List ℕ) → Reply → List (List ℕ)
asked_words moment call answer = decimal moment ∷ call_text call ∷ reply_words answer

-- the words behind the connection's number
abbrev pub words_behind : Note → List (List ℕ)
words_behind (note.Connect conn to) = addr_words to
words_behind (note.Sleep conn until) = number_words until
words_behind (note.History conn moment call answer) = asked_words moment call answer
words_behind (note.Log conn text) = words_of (escaped text)
words_behind (note.Pass conn side n) = passed_words side n
words_behind (note.Fired conn side) = side_words side
words_behind (note.Reuse conn kept) = kept_words kept
words_behind (note.Finish conn cause) = cause_words cause
words_behind (note.HalfClose conn side) = side_words side
words_behind (note.CloseServer conn) = []
words_behind (note.CloseClient conn) = []
words_behind (note.Ended conn dropped) = number_words dropped

-- the words of a line that begins so
abbrev pub noted_words : NoteVerb → ℕ → List (List ℕ) → List (List ℕ)
noted_words verb conn behind = codes ">" ∷ verb_text verb ∷ decimal conn ∷ behind

abbrev pub note_words : Note → List (List ℕ)
note_words n = noted_words (verb_of n) (conn_of n) (words_behind n)

-- ---- what a note may hold

abbrev pub AreBytes : List ℕ → Type 0
AreBytes bytes = All (λ byte. byte < 256) bytes

-- 32 and 64 bits
abbrev pub IsConn : ℕ → Type 0
IsConn n = n ≤ 4294967295

abbrev pub IsLong : ℕ → Type 0
IsLong n = n ≤ 18446744073709551615

-- an address of 32 bits and a port of 16
abbrev pub IsDest : Addr → Type 0
IsDest to = (to.ip < 2 ^ 32) × (to.port < 2 ^ 16)

abbrev pub IsPortless : Addr → Type 0
IsPortless to = (to.ip < 2 ^ 32) × (to.port ≡ 0)

abbrev pub IsCall : List (List ℕ) → Type 0
IsCall call = AreBytes (joined call)

abbrev pub IsReply : Reply → Type 0
IsReply (reply.Ok v) = AreBytes v
IsReply (reply.Fault f) = AreBytes f.text

abbrev pub FitsBehind : Note → Type 0
FitsBehind (note.Connect conn to) = IsDest to
FitsBehind (note.Sleep conn until) = IsLong until
FitsBehind (note.History conn moment call answer) = IsLong moment × IsCall call × IsReply answer
FitsBehind (note.Log conn text) = AreBytes text
FitsBehind (note.Pass conn side n) = IsLong n
FitsBehind (note.Ended conn dropped) = IsLong dropped
FitsBehind other = Unit {0}

-- its numbers have 32 or 64 bits, its addresses are ones, and its texts hold bytes
abbrev pub IsNote : Note → Type 0
IsNote n = IsConn (conn_of n) × FitsBehind n

-- of this verb and this connection
abbrev pub IsOf : NoteVerb → ℕ → Note → Type 0
IsOf verb conn n = IsNote n × (verb_of n ≡ verb) × (conn_of n ≡ conn)

-- the words behind the connection's number were read as its note
abbrev pub OfVerb : NoteVerb → ℕ → List (List ℕ) → Option Note → Type 0
OfVerb verb conn behind found =
    Exact Note (List (List ℕ)) note_words (IsOf verb conn) (noted_words verb conn behind) found
