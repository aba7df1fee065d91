-- What holds of the commands of one event, one after another.
use Rattle.std.specs.Prelude.{◌≡◌, ℕ, ◌+◌, ◌≤◌, Bool, false, ◌||◌, List, [], ◌∷◌, ◌++◌, codes, length}
use Rattle.std.specs.Str.{bytes_eq}
use Rattle.px_bytes.specs.Host.{Effect, Gives, Faults, Asks, Logged, Sent}
use Rattle.px_bytes.specs.declared.addr.Side.{Side}
use Rattle.px_bytes.specs.declared.addr.Side.TheVariants.{Client, Server}
use Rattle.event_order.specs.declared.event.EventName.{EventName}
use Rattle.irule_net.specs.Commands.{net_step}
use Rattle.irule_net.specs.State.{asked_bytes, begun, collected, gone, hold_limit, other}
use Rattle.irule_net.specs.State.{respond_limit, side_of}
use Rattle.irule_net.specs.Steps.{Step}
use Rattle.irule_net.specs.declared.groups.Groups.{Groups}
use Rattle.irule_net.specs.declared.state.NetState.{NetState}
use Rattle.irule_net.specs.declared.state.Wishes.{Wishes}

-- the state that a step leaves, and its effects
abbrev pub left_by : Step → NetState
left_by (Gives v s effects) = s
left_by (Faults f s effects) = s
left_by (Asks call s) = s

abbrev pub made_by : Step → List Effect
made_by (Gives v s effects) = effects
made_by (Faults f s effects) = effects
made_by (Asks call s) = []

-- commands, each by its words, that the bodies of an event call one after another; the reply to a
-- shared call is no business of theirs
abbrev pub Calls : Type 0
Calls = List (List (List ℕ))

abbrev pub left_behind : Groups → EventName → NetState → Calls → NetState
left_behind groups event s [] = s
left_behind groups event s (words ∷ calls) =
    left_behind groups event (left_by (net_step groups event s words)) calls

abbrev pub made_behind : Groups → EventName → NetState → Calls → List Effect
made_behind groups event s [] = []
made_behind groups event s (words ∷ calls) =
    made_by (net_step groups event s words)
    ++ made_behind groups event (left_by (net_step groups event s words)) calls

abbrev pub bytes_to : Side → Effect → ℕ
bytes_to side (Logged line) = 0
bytes_to Client (Sent Client bytes) = length bytes
bytes_to Client (Sent Server bytes) = 0
bytes_to Server (Sent Client bytes) = 0
bytes_to Server (Sent Server bytes) = length bytes

-- how many bytes effects send to a side
abbrev pub sent_to : Side → List Effect → ℕ
sent_to side [] = 0
sent_to side (effect ∷ effects) = bytes_to side effect + sent_to side effects

-- The bodies of one event never send more than 1,114,112 bytes to the event's side.
abbrev pub SendsAreBounded : Type 0
SendsAreBounded = (groups : Groups) (event : EventName) (s : NetState) (calls : Calls)
    → sent_to (side_of event) (made_behind groups event (begun s) calls) ≤ respond_limit

-- The bytes that are held of a side, those that count so though they were let go, and those that
-- its collect asks for fit together.
abbrev pub Fits : Side → NetState → Type 0
Fits side s =
    length (collected side s).held + gone side s + asked_bytes (collected side s).asks ≤ hold_limit

-- After each command they fit still.
abbrev pub HeldBytesFit : Type 0
HeldBytesFit = (groups : Groups) (event : EventName) (s : NetState) (words : List (List ℕ))
    → Fits (side_of event) s → Fits (side_of event) (left_by (net_step groups event s words))

-- Where they fit as an event begins, its bodies never send more than 1,048,576 bytes to the other
-- side.
abbrev pub ReleasesAreBounded : Type 0
ReleasesAreBounded = (groups : Groups) (event : EventName) (s : NetState) (calls : Calls)
    → Fits (side_of event) (begun s)
    → sent_to (other (side_of event)) (made_behind groups event (begun s) calls) ≤ hold_limit

-- What was given with the connection, the selected server, and whether there is one.
pub record KeepsGiven (s t : NetState) : Type 0 where
  pub from : t.from ≡ s.from
  pub port : t.port ≡ s.port
  pub pool : t.pool ≡ s.pool
  pub http : t.http ≡ s.http
  pub selected : t.selected ≡ s.selected
  pub relays : t.relays ≡ s.relays

-- No command changes it.
abbrev pub CommandsKeepGiven : Type 0
CommandsKeepGiven = (groups : Groups) (event : EventName) (s : NetState) (words : List (List ℕ))
    → KeepsGiven s (left_by (net_step groups event s words))

-- What the bodies of an event did and asked for is forgotten as the next one begins.
abbrev pub EventsAreApart : Type 0
EventsAreApart = (groups : Groups) (event : EventName) (s : NetState) (w : Wishes)
    (words : List (List ℕ)) → net_step groups event (begun (record s { wishes = w })) words
    ≡ net_step groups event (begun s) words

-- The commands that leave more to the next event than a choice: collects, held bytes, and the
-- count of reselects.
abbrev pub leaves_more : List ℕ → Bool
leaves_more name =
    bytes_eq name (codes "TCP::collect") || bytes_eq name (codes "TCP::release")
    || bytes_eq name (codes "TCP::payload") || bytes_eq name (codes "LB::reselect")

-- as the next event begins, the choice of a pool, member or node is all that differs
abbrev pub ChoiceStays : NetState → NetState → Type 0
ChoiceStays s t = begun t ≡ record (begun s) { target = t.target }

-- Of what any other command did, the choice alone is there then.
abbrev pub ChoiceAloneStays : Type 0
ChoiceAloneStays = (groups : Groups) (event : EventName) (s : NetState) (name : List ℕ)
    (words : List (List ℕ)) → leaves_more name ≡ false
    → ChoiceStays s (left_by (net_step groups event s (name ∷ words)))

-- a fault, and a shared call, leave the state, and a fault has no effect
abbrev pub LeavesState : NetState → Step → Type 0
LeavesState s (Gives v t effects) = Unit {0}
LeavesState s (Faults f t effects) = (t ≡ s) × (effects ≡ [])
LeavesState s (Asks call t) = t ≡ s

abbrev pub FaultsChangeNothing : Type 0
FaultsChangeNothing = (groups : Groups) (event : EventName) (s : NetState) (words : List (List ℕ))
    → LeavesState s (net_step groups event s words)
