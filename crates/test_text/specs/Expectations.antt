-- What a test expects, by the words of its line.
use Rattle.std.specs.Prelude.{ℕ, ◌+◌, ◌==◌, ◌||◌, Bool, false, List, [], ◌∷◌, ◌++◌, codes, find, length, min, take, map}
use Rattle.std.specs.Prelude.{Option, Some, None}
use Rattle.std.specs.Prelude.{Result, Ok, Err, if◌then◌else◌}
use Rattle.core_events.specs.declared.note.Cause.{Cause}
use Rattle.core_events.specs.declared.note.Cause.TheVariants as cause
use Rattle.core_events.specs.declared.note.CutReason.{CutReason}
use Rattle.core_events.specs.declared.note.CutReason.TheVariants as reason
use Rattle.px_bytes.specs.declared.addr.Addr.{Addr}
use Rattle.px_bytes.specs.declared.addr.Side.{Side}
use Rattle.px_bytes.specs.declared.addr.Side.TheVariants.{Client, Server}
use Rattle.px_bytes.specs.declared.fault.FaultKind.{FaultKind}
use Rattle.px_bytes.specs.declared.fault.FaultKind.TheVariants as tcl
use Rattle.px_bytes.specs.declared.fault.HttpFault.{HttpFault}
use Rattle.px_bytes.specs.declared.fault.HttpFault.TheVariants as http
use Rattle.journal_text.specs.Notes.{fault_number, http_number}
use Rattle.tcl_trees.specs.Pieces.{all_commands}
use Rattle.tcl_words.specs.Faults.{to}
use Rattle.tcl_words.specs.Reading.{beginning, commands, level}
use Rattle.tcl_words.specs.Tree.{Commands, Word}
use Rattle.tcl_words.specs.declared.parse_fault.Fault.{Fault}
use Rattle.tcl_words.specs.declared.script.Span.{Span}
use Rattle.test_text.specs.Deeds.{client_at, client_in, most, place_at}
use Rattle.test_text.specs.Faults.{fault_at, judged, read_all, with_value}
use Rattle.test_text.specs.Line.{Line, address_at, braces_at, due, ends_at, has, key_at, line_of, number_at, odd_at}
use Rattle.test_text.specs.Line.{text_at}
use Rattle.test_text.specs.declared.expectation.Expectation.{Expectation}
use Rattle.test_text.specs.declared.expectation.Expectation.TheVariants as expect
use Rattle.test_text.specs.declared.expectation.Wished.{Wished}
use Rattle.test_text.specs.declared.expectation.Wished.TheVariants as wished
use Rattle.test_text.specs.declared.expectation.WishedRow.{WishedRow}
use Rattle.test_text.specs.declared.fault.TestFault.{TestFault}
use Rattle.test_text.specs.declared.fault.TestFaultKind.TheVariants as kind

-- ---- what stands in braces

-- The script between two places of a text, as far as it can be read, and the fault there. Places in it are places in
-- the text.
unfoldable pub script_in : List ℕ → Span → Commands × Option Fault
script_in text span =
    let inside = take span.end text in
    let r = commands (level 100) false inside (to (min span.start (length inside)) beginning) in
    (r.0, r.1.fault)

abbrev pub lines_in : List ℕ → Span → List Line × Option Fault
lines_in text span = (map line_of (all_commands (script_in text span).0), (script_in text span).1)

abbrev pub client_behind : List (List ℕ) → List ℕ → Word → Result (List ℕ) TestFault
client_behind clients found w = with_value (client_in clients w) (λ n. Ok (found ++ n ∷ []))

-- the numbers of the clients whose names stand in a line
abbrev pub clients_on : List (List ℕ) → Line → Result (List ℕ) TestFault
clients_on clients l = read_all (client_behind clients) [] l.words

-- the names stand in one line
abbrev pub clients_of : List (List ℕ) → List Line → Result (List ℕ) TestFault
clients_of clients [] = Ok []
clients_of clients (l ∷ []) = clients_on clients l
clients_of clients (l ∷ (next ∷ ls)) = Err (odd_at next 0)

abbrev pub clients_read : List (List ℕ) → List Line × Option Fault → Result (List ℕ) TestFault
clients_read clients r = judged r.1 (clients_of clients r.0)

abbrev pub clients_at : List ℕ → List (List ℕ) → Line → ℕ → Result (List ℕ) TestFault
clients_at text clients l at =
    with_value (braces_at l at) (λ span. clients_read clients (lines_in text span))

-- ---- what is wished

-- `like PATTERN`, or a text
abbrev pub some_wished : Line → ℕ → Result Wished TestFault
some_wished l at =
    if has l at (codes "like")
    then with_value (text_at l (at + 1)) (λ pattern. with_value (ends_at l (at + 2)) (λ _. Ok (wished.Like pattern)))
    else with_value (text_at l at) (λ text. with_value (ends_at l (at + 1)) (λ _. Ok (wished.Exactly text)))

-- `nothing`, `like PATTERN`, or a text
abbrev pub wished_at : Line → ℕ → Result Wished TestFault
wished_at l at =
    if has l at (codes "nothing") then with_value (ends_at l (at + 1)) (λ _. Ok wished.Nothing)
    else some_wished l at

-- ---- causes, as a report has them

abbrev pub kinds : List FaultKind
kinds =
    tcl.NoVariable ∷ tcl.NoCommand ∷ tcl.Arity ∷ tcl.NotWhole ∷ tcl.OutOfRange ∷ tcl.DivideByZero ∷ tcl.TooLong
    ∷ tcl.TooDeep ∷ tcl.Budget ∷ tcl.Context ∷ tcl.Raised ∷ tcl.Syntax ∷ tcl.NoSuch ∷ tcl.TableFull ∷ []

abbrev pub http_faults : List HttpFault
http_faults =
    http.BadHead ∷ http.LongHead ∷ http.Host ∷ http.Framing ∷ http.BadChunk ∷ http.ShortBody ∷ http.Switching
    ∷ http.Method ∷ []

abbrev pub kind_of : ℕ → Option FaultKind
kind_of n = find (λ kind. fault_number kind == n) kinds

abbrev pub http_of : ℕ → Option HttpFault
http_of n = find (λ fault. http_number fault == n) http_faults

-- the second word of a cause of two, where it is a number
abbrev pub tcl_cause : Line → ℕ → Result Cause TestFault
tcl_cause l at = with_value (number_at most l at)
    (λ n. with_value (due (kind_of n) (fault_at kind.NoCause (place_at l at))) (λ kind. Ok (cause.Tcl kind)))

abbrev pub http_cause : Line → ℕ → Result Cause TestFault
http_cause l at = with_value (number_at most l at)
    (λ n. with_value (due (http_of n) (fault_at kind.NoCause (place_at l at))) (λ fault. Ok (cause.Http fault)))

abbrev pub reason_at : Line → ℕ → Result CutReason TestFault
reason_at l at =
    if has l at (codes "client-reset") then Ok reason.ClientReset
    else (if has l at (codes "server-reset") then Ok reason.ServerReset
    else (if has l at (codes "idle") then Ok reason.Idle else Err (odd_at l at)))

-- a cause of one word
abbrev pub word_cause : Line → ℕ → Result Cause TestFault
word_cause l at =
    if has l at (codes "closed") then Ok cause.Closed
    else (if has l at (codes "rejected") then Ok cause.Rejected
    else (if has l at (codes "unselected") then Ok cause.Unselected
    else (if has l at (codes "memory") then Ok cause.Memory else Err (odd_at l at))))

-- `tcl 1`, `http 1`, `cut idle`
abbrev pub pair_cause : Line → ℕ → Result Cause TestFault
pair_cause l at =
    if has l at (codes "tcl") then tcl_cause l (at + 1)
    else (if has l at (codes "http") then http_cause l (at + 1)
    else with_value (reason_at l (at + 1)) (λ reason. Ok (cause.Cut reason)))

abbrev pub is_pair : Line → ℕ → Bool
is_pair l at = has l at (codes "tcl") || (has l at (codes "http") || has l at (codes "cut"))

-- a cause, behind which nothing stands
abbrev pub cause_at : Line → ℕ → Result Cause TestFault
cause_at l at =
    if is_pair l at then with_value (pair_cause l at) (λ cause. with_value (ends_at l (at + 2)) (λ _. Ok cause))
    else with_value (word_cause l at) (λ cause. with_value (ends_at l (at + 1)) (λ _. Ok cause))

-- ---- the lines

-- `gets ..`, of a client or a server
abbrev pub gets : Side → ℕ → Line → Result Expectation TestFault
gets side client l = with_value (wished_at l 4) (λ what. Ok (expect.Gets side client what))

-- `client C gets ..`, `client C over CAUSE`, `client C open`
abbrev pub of_client : ℕ → Line → Result Expectation TestFault
of_client client l =
    if has l 3 (codes "gets") then gets Client client l
    else (if has l 3 (codes "over") then with_value (cause_at l 4) (λ cause. Ok (expect.Over client cause))
    else with_value (key_at l 3 (codes "open")) (λ _. with_value (ends_at l 4) (λ _. Ok (expect.Open client))))

-- `none`, or an address
abbrev pub server_wished : Line → ℕ → Result (Option Addr) TestFault
server_wished l at =
    if has l at (codes "none") then Ok None else with_value (address_at l at) (λ addr. Ok (Some addr))

-- `server C gets ..`, `server C is ADDR:PORT`, `server C is none`
abbrev pub of_server : ℕ → Line → Result Expectation TestFault
of_server client l =
    if has l 3 (codes "gets") then gets Server client l
    else with_value (key_at l 3 (codes "is")) (λ _. with_value (server_wished l 4) (λ addr.
    with_value (ends_at l 5) (λ _. Ok (expect.Server client addr))))

-- `init`, or a client
abbrev pub logger_at : List (List ℕ) → Line → ℕ → Result (Option ℕ) TestFault
logger_at clients l at =
    if has l at (codes "init") then Ok None else with_value (client_at clients l at) (λ client. Ok (Some client))

-- `log C ..`
abbrev pub logs : List (List ℕ) → Line → Result Expectation TestFault
logs clients l = with_value (logger_at clients l 2) (λ of. with_value (wished_at l 3) (λ what. Ok (expect.Log of what)))

-- `none`, or a value
abbrev pub row_value : Line → ℕ → Result (Option (List ℕ)) TestFault
row_value l at = if has l at (codes "none") then Ok None else with_value (text_at l at) (λ value. Ok (Some value))

-- `row SUBTABLE KEY VALUE`, `row SUBTABLE KEY none`
abbrev pub row : Line → Result WishedRow TestFault
row l = with_value (text_at l 2) (λ subtable. with_value (text_at l 3) (λ key. with_value (row_value l 4) (λ value.
    with_value (ends_at l 5) (λ _. Ok (record { subtable = subtable; key = key; value = value })))))

-- a number, where a word of the language may stand too
abbrev pub count_of : Result ℕ TestFault → TestFault → Result ℕ TestFault
count_of (Ok n) fault = Ok n
count_of (Err none) fault = Err fault

abbrev pub count_at : Line → ℕ → Result ℕ TestFault
count_at l at = count_of (number_at most l at) (odd_at l at)

-- `N of {C ..} get ..`
abbrev pub some_get : List ℕ → List (List ℕ) → Line → Result Expectation TestFault
some_get text clients l =
    with_value (count_at l 1) (λ count. with_value (key_at l 2 (codes "of")) (λ _.
    with_value (clients_at text clients l 3) (λ some. with_value (key_at l 4 (codes "get")) (λ _.
    with_value (some_wished l 5) (λ what. Ok (expect.SomeGet count some what))))))

abbrev pub of_none : List ℕ → List (List ℕ) → Line → Result Expectation TestFault
of_none text clients l =
    if has l 1 (codes "log") then logs clients l
    else (if has l 1 (codes "row") then with_value (row l) (λ r. Ok (expect.Row r))
    else some_get text clients l)

-- what is expected by a line, in a text, behind these clients
abbrev pub expected : List ℕ → List (List ℕ) → Line → Result Expectation TestFault
expected text clients l =
    if has l 1 (codes "client") then with_value (client_at clients l 2) (λ client. of_client client l)
    else (if has l 1 (codes "server") then with_value (client_at clients l 2) (λ client. of_server client l)
    else of_none text clients l)
