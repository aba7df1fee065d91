-- A pump: what it does to each member that is probed, which calls it makes on the net, and its marks.
use Rattle.std.specs.Prelude.{◌≡◌, ℕ, ◌+◌, List, [], ◌∷◌, ◌++◌, max, min, ◌-◌, ◌^◌}
use Rattle.std.specs.Prelude.{Bool, true, false, not, nat_le, Option, Some, None, Ok}
use Rattle.std.specs.Prelude.{option_and_then, option_map, is_some, slice_get, unwrap_or, if◌then◌else◌}
use Rattle.std.specs.List.{list_any}
use Rattle.px_outside.specs.Net.{Call, Chain, Close, Connect, Wait}
use Rattle.px_outside.specs.declared.answers.ReadyAt.{ReadyAt}
use Rattle.pool_monitor.specs.Exchange.{Asked}
use Rattle.pool_monitor.specs.declared.mark.Mark.{Mark}
use Rattle.pool_monitor.specs.declared.monitor.HttpCheck.{HttpCheck}
use Rattle.pool_monitor.specs.declared.monitor.Monitor.{Monitor}
use Rattle.pool_monitor.specs.declared.probe.OpenProbe.{OpenProbe}
use Rattle.pool_monitor.specs.declared.probe.ProbedMember.{ProbedMember}
use Rattle.pool_monitor.specs.declared.verdict.ProbeVerdict.{ProbeVerdict}
use Rattle.pool_monitor.specs.declared.verdict.ProbeVerdict.TheVariants.{Waits, Succeeded, Failed, Refused}

-- each of a list in order becomes another, and gives some things; all that they give, in order
abbrev pub Each : {A B : Type 0} → (A → List B → A → Type 0) → List A → List B → List A → Type 0
Each P [] given [] = given ≡ []
Each P [] given (y ∷ ys) = ⊥
Each P (x ∷ xs) given [] = ⊥
Each {A} {B} P (x ∷ xs) given (y ∷ ys) = (first : List B) × (rest : List B)
    × (given ≡ first ++ rest) × P x first y × Each P xs rest ys

-- ---- its monitor

-- what a probe by HTTP sends and waits for
abbrev pub http_of : List Monitor → ProbedMember → Option HttpCheck
http_of monitors p = option_and_then (λ m. m.http) (slice_get monitors p.monitor)

abbrev pub pool_of : List Monitor → ProbedMember → List ℕ
pool_of monitors p = unwrap_or (option_map (λ m. m.pool) (slice_get monitors p.monitor)) []

-- ---- a probe is due

-- at the first pump, and at the first that is the interval or more after the last probe
abbrev pub has_come : (since time moment : ℕ) → Bool
has_come since time moment = nat_le (since + time) moment

abbrev pub due_by : ℕ → ℕ → Option ℕ → Bool
due_by moment interval None = true
due_by moment interval (Some sent) = has_come sent interval moment

abbrev pub is_due : ℕ → ProbedMember → Bool
is_due moment p = due_by moment p.interval p.sent

-- ---- how a member changes

abbrev pub with_probe : Option OpenProbe → ProbedMember → ProbedMember
with_probe probe p = record {
  monitor = p.monitor;
  member = p.member;
  interval = p.interval;
  timeout = p.timeout;
  sent = p.sent;
  good = p.good;
  up = p.up;
  probe = probe;
}

-- a probe succeeded
abbrev pub succeeded : ℕ → ProbedMember → ProbedMember
succeeded moment p = record {
  monitor = p.monitor;
  member = p.member;
  interval = p.interval;
  timeout = p.timeout;
  sent = p.sent;
  good = max p.good moment;
  up = p.up;
  probe = None;
}

-- the first probe's moment counts as that of a success
abbrev pub good_from : ℕ → ProbedMember → ℕ
good_from moment p = if is_some p.sent then p.good else moment

abbrev pub sent_by : ℕ → ℕ → ProbedMember → ProbedMember
sent_by moment link p = record {
  monitor = p.monitor;
  member = p.member;
  interval = p.interval;
  timeout = p.timeout;
  sent = Some moment;
  good = good_from moment p;
  up = p.up;
  probe = Some (record { link = link; connected = false; sent = 0; heard = [] });
}

-- ---- probes that are open and due again fail, unasked

abbrev pub close_of : Option OpenProbe → List Call
close_of None = []
close_of (Some o) = Close o.link ∷ []

-- there is nothing to do
pub record IsLeft (p : ProbedMember) (calls : List Call) (p' : ProbedMember) : Type 0 where
  pub none : calls ≡ []
  pub same : p' ≡ p

pub record IsDropped (p : ProbedMember) (calls : List Call) (p' : ProbedMember) : Type 0 where
  pub calls_are : calls ≡ close_of p.probe
  pub member_is : p' ≡ with_probe None p

abbrev pub ClosedWhere : Bool → ProbedMember → List Call → ProbedMember → Type 0
ClosedWhere true p calls p' = IsDropped p calls p'
ClosedWhere false p calls p' = IsLeft p calls p'

abbrev pub IsClosed : ℕ → ProbedMember → List Call → ProbedMember → Type 0
IsClosed moment p calls p' = ClosedWhere (is_due moment p) p calls p'

-- ---- every other open probe is asked

-- one that has ended is closed
abbrev pub close_after : ProbeVerdict → ℕ → List Call
close_after Waits link = []
close_after Succeeded link = Close link ∷ []
close_after Failed link = Close link ∷ []
close_after Refused link = []

abbrev pub after_verdict : ℕ → ProbeVerdict → OpenProbe → ProbedMember → ProbedMember
after_verdict moment Waits o p = with_probe (Some o) p
after_verdict moment Succeeded o p = succeeded moment p
after_verdict moment Failed o p = with_probe None p
after_verdict moment Refused o p = with_probe None p

pub record IsSettled (http : Option HttpCheck) (moment : ℕ) (o : OpenProbe) (p : ProbedMember)
    (calls : List Call) (p' : ProbedMember) : Type 0 where
  pub call : Call
  pub after : OpenProbe
  pub verdict : ProbeVerdict
  pub asked : Asked http o call after verdict
  pub calls_are : calls ≡ call ∷ close_after verdict after.link
  pub member_is : p' ≡ after_verdict moment verdict after p

abbrev pub AskedAt : Option OpenProbe → Option HttpCheck → ℕ → ProbedMember → List Call → ProbedMember
    → Type 0
AskedAt None http moment p calls p' = IsLeft p calls p'
AskedAt (Some o) http moment p calls p' = IsSettled http moment o p calls p'

abbrev pub IsAsked : List Monitor → ℕ → ProbedMember → List Call → ProbedMember → Type 0
IsAsked monitors moment p calls p' = AskedAt p.probe (http_of monitors p) moment p calls p'

-- ---- the due ones are sent

pub record HasSent (moment : ℕ) (p : ProbedMember) (calls : List Call) (p' : ProbedMember) : Type 0 where
  pub link : ℕ
  pub calls_are : calls ≡ Connect p.member (Ok link) ∷ []
  pub member_is : p' ≡ sent_by moment link p

abbrev pub SentWhere : Bool → ℕ → ProbedMember → List Call → ProbedMember → Type 0
SentWhere true moment p calls p' = HasSent moment p calls p'
SentWhere false moment p calls p' = IsLeft p calls p'

abbrev pub IsSent : ℕ → ProbedMember → List Call → ProbedMember → Type 0
IsSent moment p calls p' = SentWhere (is_due moment p) moment p calls p'

-- ---- marks

abbrev pub is_up : ℕ → ProbedMember → Bool
is_up moment p = not (has_come p.good p.timeout moment)

abbrev pub mark_of : List Monitor → Bool → ProbedMember → Mark
mark_of monitors up p = record { pool = pool_of monitors p; member = p.member; up = up }

-- one exactly where the state differs from that of the pump before
abbrev pub differs : Bool → Bool → Bool
differs true true = false
differs true false = true
differs false true = true
differs false false = false

abbrev pub marked_by : ℕ → ProbedMember → ProbedMember
marked_by moment p = record {
  monitor = p.monitor;
  member = p.member;
  interval = p.interval;
  timeout = p.timeout;
  sent = p.sent;
  good = p.good;
  up = is_up moment p;
  probe = p.probe;
}

abbrev pub marks_of : List Monitor → ℕ → ProbedMember → List Mark
marks_of monitors moment p =
    if differs p.up (is_up moment p) then mark_of monitors (is_up moment p) p ∷ [] else []

pub record IsMarked (monitors : List Monitor) (moment : ℕ) (p : ProbedMember) (marks : List Mark)
    (p' : ProbedMember) : Type 0 where
  pub marks_are : marks ≡ marks_of monitors moment p
  pub member_is : p' ≡ marked_by moment p

-- ---- a pump

-- monitors, and the members that they probe, in the order of monitors and of the members of each
pub record Watch : Type 0 where
  pub monitors : List Monitor
  pub members : List ProbedMember

abbrev pub watch : List Monitor → List ProbedMember → Watch
watch monitors members = record { monitors = monitors; members = members }

-- It waits once; the probes that are open and due again fail; every other open one is asked; the due
-- ones are sent.
pub record Probed {S : Type 0} (did : S → Call → S → Type 0) (w : Watch) (moment : ℕ) (old new : S)
    (w' : Watch) : Type 0 where
  pub listed : List ReadyAt
  pub closes : List Call
  pub asks : List Call
  pub connects : List Call
  pub chain : Chain did old (Wait moment listed (Ok tt) ∷ (closes ++ (asks ++ connects))) new
  pub left : List ProbedMember
  pub heard : List ProbedMember
  pub closed : Each (IsClosed moment) w.members closes left
  pub asked : Each (IsAsked w.monitors moment) left asks heard
  pub sent : Each (IsSent moment) heard connects w'.members
  pub same : w'.monitors ≡ w.monitors

-- then come the marks
pub record Pumped {S : Type 0} (did : S → Call → S → Type 0) (w : Watch) (moment : ℕ) (old new : S)
    (w' : Watch) (marks : List Mark) : Type 0 where
  pub between : Watch
  pub probed : Probed did w moment old new between
  pub marked : Each (IsMarked w.monitors moment) between.members marks w'.members
  pub same : w'.monitors ≡ w.monitors

-- and its marks stand behind those before
pub record Tells {S : Type 0} (did : S → Call → S → Type 0) (w : Watch) (moment : ℕ) (old new : S)
    (w' : Watch) (out out' : List Mark) : Type 0 where
  pub marks : List Mark
  pub pumped : Pumped did w moment old new w' marks
  pub told : out' ≡ out ++ marks

-- ---- the next pump

abbrev pub most : ℕ
most = 2 ^ 64 - 1

abbrev pub next_by : ℕ → Option ℕ → ℕ
next_by interval None = 0
next_by interval (Some sent) = min (sent + interval) most

abbrev pub next_of : ProbedMember → ℕ
next_of p = next_by p.interval p.sent

-- the least of the next sendings, or the greatest number
abbrev pub least_next : List ProbedMember → ℕ
least_next [] = most
least_next (p ∷ ps) = min (next_of p) (least_next ps)

abbrev pub is_open : ProbedMember → Bool
is_open p = is_some p.probe

-- soon where a probe is open
abbrev pub until_of : ℕ → List ProbedMember → ℕ
until_of moment ps = if list_any is_open ps then min (moment + 100) most else least_next ps
