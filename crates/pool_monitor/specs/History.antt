-- When probes are sent, when a member is up, and which marks come, by what happened at the pumps so far.
use Rattle.std.specs.Prelude.{◌≡◌, ℕ, ◌+◌, max, Bool, true, false, List, [], ◌∷◌, map}
use Rattle.std.specs.Prelude.{nat_lt, Option, Some, None, if◌then◌else◌}
use Rattle.px_outside.specs.Net.{Call}
use Rattle.pool_monitor.specs.Pump.{AskedAt, Each, IsAsked, IsClosed, IsMarked, IsSent, Pumped, Watch}
use Rattle.pool_monitor.specs.Pump.{differs, due_by, http_of, mark_of}
use Rattle.pool_monitor.specs.declared.mark.Mark.{Mark}
use Rattle.pool_monitor.specs.declared.monitor.HttpCheck.{HttpCheck}
use Rattle.pool_monitor.specs.declared.monitor.Monitor.{Monitor}
use Rattle.pool_monitor.specs.declared.probe.OpenProbe.{OpenProbe}
use Rattle.pool_monitor.specs.declared.probe.ProbedMember.{ProbedMember}
use Rattle.pool_monitor.specs.declared.verdict.ProbeVerdict.{ProbeVerdict}
use Rattle.pool_monitor.specs.declared.verdict.ProbeVerdict.TheVariants.{Waits, Succeeded, Failed, Refused}

-- what happened to a member at a pump: its moment, whether a probe was sent, and whether one succeeded
pub record Passed : Type 0 where
  pub moment : ℕ
  pub sent : Bool
  pub succeeded : Bool

-- ---- by the pumps so far, of which the latest stands first

abbrev pub first_moment : List Passed → ℕ
first_moment [] = 0
first_moment (h ∷ []) = h.moment
first_moment (h ∷ g ∷ hs) = first_moment (g ∷ hs)

abbrev pub success_moments : List Passed → List ℕ
success_moments [] = []
success_moments (h ∷ hs) = if h.succeeded then h.moment ∷ success_moments hs else success_moments hs

abbrev pub greatest : List ℕ → ℕ
greatest [] = 0
greatest (n ∷ ns) = max n (greatest ns)

-- the greatest among the first pump's moment and the moments of successes
abbrev pub good : List Passed → ℕ
good hs = greatest (first_moment hs ∷ success_moments hs)

abbrev pub last_sent : List Passed → Option ℕ
last_sent [] = None
last_sent (h ∷ hs) = if h.sent then Some h.moment else last_sent hs

-- a probe is sent at the first pump, and at the first that is the interval or more after the last one
abbrev pub sends : (moment interval : ℕ) → List Passed → Bool
sends moment interval hs = due_by moment interval (last_sent hs)

-- up until the timeout has passed without a success; up before the first pump
abbrev pub was_up : (timeout : ℕ) → List Passed → Bool
was_up timeout [] = true
was_up timeout (h ∷ hs) = nat_lt h.moment (good (h ∷ hs) + timeout)

-- a mark exactly where the state differs from that of the pump before
abbrev pub marks_after : List Monitor → ProbedMember → (before now : Bool) → List Mark
marks_after monitors p before now = if differs before now then mark_of monitors now p ∷ [] else []

-- ---- what the net answered

abbrev pub is_success : ProbeVerdict → Bool
is_success Waits = false
is_success Succeeded = true
is_success Failed = false
is_success Refused = false

-- the answer to what an open probe was asked is a success
abbrev pub success_of : (http : Option HttpCheck) (moment : ℕ) (p p' : ProbedMember) (calls : List Call)
    → (o : Option OpenProbe) → AskedAt o http moment p calls p' → Bool
success_of http moment p p' calls None it = false
success_of http moment p p' calls (Some o) it = is_success it.verdict

-- ---- a pump

-- one member at a pump: its probe fails that is due again, or is asked; one is sent; it is marked
pub record Turn (monitors : List Monitor) (moment : ℕ) (p : ProbedMember) (marks : List Mark)
    (p' : ProbedMember) : Type 0 where
  pub closes : List Call
  pub asks : List Call
  pub connects : List Call
  pub left : ProbedMember
  pub heard : ProbedMember
  pub sent : ProbedMember
  pub closed : IsClosed moment p closes left
  pub asked : IsAsked monitors moment left asks heard
  pub sends : IsSent moment heard connects sent
  pub marked : IsMarked monitors moment sent marks p'

-- a member and what happened to it, the latest first
pub record Tracked : Type 0 where
  pub member : ProbedMember
  pub passed : List Passed

-- A probe was sent exactly where one is to be sent, one succeeded exactly where its answer was a
-- success, and the marks are those of the definition.
pub record IsDefined (monitors : List Monitor) (moment : ℕ) (x : Tracked) (marks : List Mark) (y : Tracked)
    : Type 0 where
  pub turn : Turn monitors moment x.member marks y.member
  pub now : Passed
  pub passed_is : y.passed ≡ now ∷ x.passed
  pub moment_is : now.moment ≡ moment
  pub sent_is : now.sent ≡ sends moment x.member.interval x.passed
  pub success_is : now.succeeded ≡ success_of (http_of monitors turn.left) moment turn.left turn.heard turn.asks
      turn.left.probe turn.asked
  pub marks_are : marks
      ≡ marks_after monitors x.member (was_up x.member.timeout x.passed) (was_up x.member.timeout y.passed)

abbrev pub members_of : List Tracked → List ProbedMember
members_of xs = map (λ x. x.member) xs

-- ---- pumps, one after another

-- a pump's moment, and its marks
pub record Told : Type 0 where
  pub moment : ℕ
  pub marks : List Mark

abbrev pub Pumps : {S : Type 0} → (S → Call → S → Type 0) → Watch → S → List Told → Watch → S → Type 0
Pumps did w net [] w' net' = (w' ≡ w) × (net' ≡ net)
Pumps {S} did w net (t ∷ ts) w' net' = (mid : Watch) × (between : S)
    × Pumped did w t.moment net between mid t.marks × Pumps did mid between ts w' net'

-- at each of them the marks are those of the definition
abbrev pub AreDefined : List Monitor → List Tracked → List Told → List Tracked → Type 0
AreDefined monitors xs [] ys = ys ≡ xs
AreDefined monitors xs (t ∷ ts) ys = (mid : List Tracked)
    × Each (IsDefined monitors t.moment) xs t.marks mid × AreDefined monitors mid ts ys

-- before the first pump
pub record IsNew (p : ProbedMember) : Type 0 where
  pub sent : p.sent ≡ None
  pub up : p.up ≡ true

abbrev pub untracked : ProbedMember → Tracked
untracked p = record { member = p; passed = [] }

abbrev pub AllNew : List ProbedMember → Type 0
AllNew [] = Unit {0}
AllNew (p ∷ ps) = IsNew p × AllNew ps

-- Over every list of pumps of new members the marks of each are those of the definition on what the
-- net answered.
abbrev pub MarksAreDefined : {S : Type 0} → (S → Call → S → Type 0) → Type 0
MarksAreDefined {S} did = (w w' : Watch) (net net' : S) (ts : List Told) → AllNew w.members
    → Pumps did w net ts w' net'
    → (ys : List Tracked) × AreDefined w.monitors (map untracked w.members) ts ys × (members_of ys ≡ w'.members)
