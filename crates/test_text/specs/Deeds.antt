-- What is done in a test, by the words of its line (the grammar stands in the README).
use Rattle.std.specs.Prelude.{◌≡◌, ℕ, Bool, true, false, List, [], ◌∷◌, ◌++◌, codes, length, Option, Some, None}
use Rattle.std.specs.Prelude.{Result, Ok, Err, position, slice_get, if◌then◌else◌}
use Rattle.std.specs.Str.{bytes_eq}
use Rattle.px_bytes.specs.declared.addr.Side.{Side}
use Rattle.px_bytes.specs.declared.addr.Side.TheVariants.{Client, Server}
use Rattle.tcl_words.specs.Tree.{Word}
use Rattle.test_text.specs.Faults.{fault_at, with_value}
use Rattle.test_text.specs.Line.{Line, address_at, due, ends_at, has, key_at, number_at, odd_at}
use Rattle.test_text.specs.Line.{place_of, source_at, text_at, text_of, word_at}
use Rattle.test_text.specs.declared.deed.Deed.{Deed}
use Rattle.test_text.specs.declared.deed.Deed.TheVariants as deed
use Rattle.test_text.specs.declared.deed.Meeting.{Meeting}
use Rattle.test_text.specs.declared.deed.Meeting.TheVariants as meeting
use Rattle.test_text.specs.declared.deed.PeerDeed.{PeerDeed}
use Rattle.test_text.specs.declared.deed.PeerDeed.TheVariants as peer
use Rattle.test_text.specs.declared.deed.PlacedAddr.{PlacedAddr}
use Rattle.test_text.specs.declared.deed.PlacedName.{PlacedName}
use Rattle.test_text.specs.declared.fault.Stopped.{Stopped}
use Rattle.test_text.specs.declared.fault.Stopped.TheVariants as stopped
use Rattle.test_text.specs.declared.fault.TestFault.{TestFault}
use Rattle.test_text.specs.declared.fault.TestFaultKind.TheVariants as kind

-- the greatest number of a test
abbrev pub most : ℕ
most = 9007199254740992

-- ---- names

abbrev pub place_in : Option Word → ℕ
place_in None = 0
place_in (Some w) = place_of w

-- where the word at this place stands
abbrev pub place_at : Line → ℕ → ℕ
place_at l at = place_in (slice_get l.words at)

abbrev pub name_at : Line → ℕ → Result PlacedName TestFault
name_at l at = with_value (text_at l at) (λ name. Ok (record { place = place_at l at; name = name }))

abbrev pub server_at : Line → ℕ → Result PlacedAddr TestFault
server_at l at = with_value (address_at l at) (λ addr. Ok (record { place = place_at l at; addr = addr }))

-- the number of a client of this name, among those that came before
abbrev pub number_of : List ℕ → List (List ℕ) → Option ℕ
number_of name clients = position (λ client. bytes_eq client name) clients

abbrev pub client_in : List (List ℕ) → Word → Result ℕ TestFault
client_in clients w =
    with_value (text_of w) (λ name. due (number_of name clients) (fault_at kind.NoClient (place_of w)))

abbrev pub client_at : List (List ℕ) → Line → ℕ → Result ℕ TestFault
client_at clients l at = with_value (word_at l at) (client_in clients)

abbrev pub unless_known : ℕ → List ℕ → Option ℕ → Result (List ℕ) TestFault
unless_known place name None = Ok name
unless_known place name (Some client) = Err (fault_at kind.TwiceClient place)

abbrev pub new_at : List (List ℕ) → Line → ℕ → Result (List ℕ) TestFault
new_at clients l at = with_value (text_at l at) (λ name. unless_known (place_at l at) name (number_of name clients))

-- ---- the lines

-- a deed, and the names of the clients that came up to then
abbrev pub Done : Type 0
Done = Result (Deed × List (List ℕ)) TestFault

abbrev pub behind : List (List ℕ) → Result Deed TestFault → Done
behind clients read = with_value read (λ deed. Ok (deed, clients))

-- `client C from ADDR to VIRTUAL`
abbrev pub comes : List (List ℕ) → Line → Done
comes clients l =
    with_value (new_at clients l 1) (λ name. with_value (source_at l 3) (λ from.
    with_value (key_at l 4 (codes "to")) (λ _. with_value (name_at l 5) (λ to. with_value (ends_at l 6) (λ _.
    Ok (deed.Comes (length clients) from to, clients ++ name ∷ []))))))

-- `takes N`, `takes nothing`, `takes all`
abbrev pub amount_at : Line → ℕ → Result (Option ℕ) TestFault
amount_at l at =
    if has l at (codes "all") then Ok None
    else (if has l at (codes "nothing") then Ok (Some 0)
    else with_value (number_at most l at) (λ n. Ok (Some n)))

-- `ends`, `resets`
abbrev pub last_deed : Line → Result PeerDeed TestFault
last_deed l =
    if has l 2 (codes "ends") then Ok peer.Ends
    else (if has l 2 (codes "resets") then Ok peer.Resets else Err (odd_at l 2))

-- `takes N`, `ends`, `resets`
abbrev pub still_deed : Line → Result PeerDeed TestFault
still_deed l =
    if has l 2 (codes "takes")
    then with_value (amount_at l 3) (λ amount. with_value (ends_at l 4) (λ _. Ok (peer.Takes amount)))
    else with_value (last_deed l) (λ it. with_value (ends_at l 3) (λ _. Ok it))

-- `sends TEXT`, `takes N`, `ends`, `resets`
abbrev pub peer_deed : Line → Result PeerDeed TestFault
peer_deed l =
    if has l 2 (codes "sends")
    then with_value (text_at l 3) (λ text. with_value (ends_at l 4) (λ _. Ok (peer.Sends text)))
    else still_deed l

abbrev pub does : Side → List (List ℕ) → Line → Result Deed TestFault
does side clients l =
    with_value (client_at clients l 1) (λ client. with_value (peer_deed l) (λ it. Ok (deed.Does side client it)))

-- `connects`, `refuses`, `waits`
abbrev pub meeting_at : Line → ℕ → Result Meeting TestFault
meeting_at l at =
    if has l at (codes "connects") then Ok meeting.Connects
    else (if has l at (codes "refuses") then Ok meeting.Refuses
    else (if has l at (codes "waits") then Ok meeting.Waits else Err (odd_at l at)))

-- `member ADDR:PORT connects`
abbrev pub meets : Line → Result Deed TestFault
meets l = with_value (server_at l 1) (λ server. with_value (meeting_at l 2) (λ meeting. with_value (ends_at l 3) (λ _.
    Ok (deed.Meets server meeting))))

abbrev pub health_at : Line → ℕ → Result Bool TestFault
health_at l at =
    if has l at (codes "up") then Ok true
    else (if has l at (codes "down") then Ok false else Err (odd_at l at))

-- `mark POOL ADDR:PORT up`
abbrev pub marks : Line → Result Deed TestFault
marks l = with_value (name_at l 1) (λ pool. with_value (server_at l 2) (λ member. with_value (health_at l 3) (λ up.
    with_value (ends_at l 4) (λ _. Ok (deed.Marks pool member up)))))

-- `wait MILLISECONDS`
abbrev pub waits : Line → Result Deed TestFault
waits l = with_value (number_at most l 1) (λ n. with_value (ends_at l 2) (λ _. Ok (deed.Waits n)))

abbrev pub of_no_client : Line → Result Deed TestFault
of_no_client l =
    if has l 0 (codes "member") then meets l
    else (if has l 0 (codes "mark") then marks l
    else (if has l 0 (codes "wait") then waits l else Err (odd_at l 0)))

abbrev pub of_client : List (List ℕ) → Line → Done
of_client clients l =
    if has l 2 (codes "from") then comes clients l else behind clients (does Client clients l)

-- what is done by a line, behind these clients
abbrev pub done : List (List ℕ) → Line → Done
done clients l =
    if has l 0 (codes "client") then of_client clients l
    else (if has l 0 (codes "server") then behind clients (does Server clients l)
    else behind clients (of_no_client l))

-- a value was given, and the names are those that stand behind it; or the fault is this one
abbrev pub GivesBehind : {A : Type 0} → Result A Stopped → List (List ℕ) → Result (A × List (List ℕ)) TestFault
    → Type 0
GivesBehind (Ok value) clients wanted = wanted ≡ Ok (value, clients)
GivesBehind (Err (stopped.Fault fault)) clients wanted = wanted ≡ Err fault
GivesBehind (Err stopped.Memory) clients wanted = Unit {0}
