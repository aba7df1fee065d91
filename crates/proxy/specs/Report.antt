-- The lines of a report besides those of notes, in this project's own format. Each ends with LF.
use Rattle.std.specs.Prelude.{ℕ, List, ◌++◌, codes}
use Rattle.std.specs.Fmt.{decimal}
use Rattle.px_bytes.specs.Hexadecimal.{hex_text}
use Rattle.journal_text.specs.declared.line_kind.LineKind.{LineKind}
use Rattle.journal_text.specs.declared.line_kind.LineKind.TheVariants.{LongLine, NoNewline}
use Rattle.journal_text.specs.declared.line_kind.LineKind.TheVariants.{NotEvent, BadNumber, BadHex}
use Rattle.journal_text.specs.declared.line_kind.LineKind.TheVariants.{NotNote, Memory}
use Rattle.core_events.specs.declared.bad_event.BadEvent.{BadEvent}
use Rattle.core_events.specs.declared.bad_event.BadEvent.TheVariants.{NoConn, AfterEnd, NotConnecting}
use Rattle.core_events.specs.declared.bad_event.BadEvent.TheVariants.{MomentBack, TooMuch, TookTooMuch}
use Rattle.core_events.specs.declared.bad_event.BadEvent.TheVariants.{Full, NoMember, TwiceConn}
use Rattle.core_events.specs.declared.bad_event.BadEvent.TheVariants.{NoVirtual}

-- the number of a refusal
abbrev pub refusal_number : BadEvent → ℕ
refusal_number NoConn = 1
refusal_number AfterEnd = 2
refusal_number TooMuch = 3
refusal_number NotConnecting = 4
refusal_number MomentBack = 5
refusal_number TookTooMuch = 6
refusal_number Full = 7
refusal_number NoMember = 8
refusal_number TwiceConn = 9
refusal_number NoVirtual = 10

-- the bytes that a client took
abbrev pub client_text : ℕ → List ℕ → List ℕ
client_text conn bytes =
    codes "> client " ++ decimal conn ++ codes " " ++ hex_text bytes ++ codes "\n"

-- the bytes that the server connection of this number took, the first of a client being 1
abbrev pub server_text : ℕ → (number : ℕ) → List ℕ → List ℕ
server_text conn number bytes =
    codes "> server " ++ decimal conn ++ codes " " ++ decimal number ++ codes " "
    ++ hex_text bytes ++ codes "\n"

-- a connection is live at the end: how many bytes are pending to its client and to its server
abbrev pub open_text : ℕ → ℕ → ℕ → List ℕ
open_text conn to_client to_server =
    codes "> open " ++ decimal conn ++ codes " " ++ decimal to_client ++ codes " "
    ++ decimal to_server ++ codes "\n"

-- how many events were accepted
abbrev pub end_text : ℕ → List ℕ
end_text events = codes "> end " ++ decimal events ++ codes "\n"

-- the number of what is wrong with a line
abbrev pub kind_number : LineKind → ℕ
kind_number LongLine = 1
kind_number NoNewline = 2
kind_number NotEvent = 3
kind_number BadNumber = 4
kind_number BadHex = 5
kind_number NotNote = 7
kind_number Memory = 8

-- a line of the schedule, the first being 1, spells no event, with the kind of its fault
abbrev pub text_fault : ℕ → LineKind → List ℕ
text_fault line kind =
    codes "> fault line " ++ decimal line ++ codes " text " ++ decimal (kind_number kind)
    ++ codes "\n"

-- the event of a line of the schedule, the first being 1, was refused
abbrev pub event_fault : ℕ → BadEvent → List ℕ
event_fault line why =
    codes "> fault line " ++ decimal line ++ codes " event " ++ decimal (refusal_number why)
    ++ codes "\n"

-- a mirror can't go on at a line: of its plan, 1: the packet wasn't sent yet; of its record, 2: the moment falls,
-- or is too large
abbrev pub plan_fault : (line number : ℕ) → List ℕ
plan_fault line number =
    codes "> fault line " ++ decimal line ++ codes " plan " ++ decimal number ++ codes "\n"

-- the standby's reply to the entry of this number, the first being 1, isn't the record's
abbrev pub mirror_differs : ℕ → List ℕ
mirror_differs number = codes "> mirror differs " ++ decimal number ++ codes "\n"

-- a configuration doesn't load, with the kind of its fault and its place
abbrev pub config_fault : ℕ → List ℕ → List ℕ
config_fault kind place =
    codes "config fault " ++ decimal kind ++ codes " at " ++ place ++ codes "\n"

-- a text is no configuration in the second grammar
abbrev pub second_place : ℕ → ℕ → List ℕ
second_place number place =
    codes "tmsh fault " ++ decimal number ++ codes " at " ++ decimal place ++ codes "\n"

abbrev pub second_config : ℕ → List ℕ → List ℕ
second_config number place =
    codes "tmsh fault 3 at config " ++ decimal number ++ codes " at " ++ place ++ codes "\n"

-- a configuration has no second text, for the text of this rule
abbrev pub second_rule : ℕ → ℕ → List ℕ
second_rule number rule =
    codes "tmsh fault " ++ decimal number ++ codes " at rule[" ++ decimal rule ++ codes "]\n"

-- a configuration loads
abbrev pub ok_text : List ℕ
ok_text = codes "ok\n"

-- the words of the command line are no command
abbrev pub usage_fault : List ℕ
usage_fault = codes "usage fault\n"
