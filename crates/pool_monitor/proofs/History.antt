-- A member stands as what happened to it says.
use Rattle.std.proofs.Common.{◌≡◌, ℕ, ◌+◌, Bool, true, false, List, [], ◌∷◌, map, Option, Some, None, refl, ap, sym, subst, ◌∙◌, arith}
use Rattle.std.specs.Prelude.{max, is_some, nat_le, nat_lt, not, if◌then◌else◌}
use Rattle.std.proofs.lemmas.Bool.Decides.{nat_tests}
use Rattle.px_outside.specs.Net.{Call}
use Rattle.pool_monitor.specs.History.{AllNew, AreDefined, IsDefined, IsNew, MarksAreDefined, Passed, Pumps, Told, Tracked, Turn}
use Rattle.pool_monitor.specs.History.{first_moment, good, greatest, is_success, last_sent, marks_after, members_of, sends, success_moments, success_of, untracked, was_up}
use Rattle.pool_monitor.specs.Pump.{AskedAt, Each, IsAsked, IsClosed, IsMarked, IsSent, Pumped, SentWhere, ClosedWhere, Watch}
use Rattle.pool_monitor.specs.Pump.{due_by, after_verdict, good_from, http_of, is_due, is_up}
use Rattle.pool_monitor.specs.declared.mark.Mark.{Mark}
use Rattle.pool_monitor.specs.declared.monitor.HttpCheck.{HttpCheck}
use Rattle.pool_monitor.specs.declared.monitor.Monitor.{Monitor}
use Rattle.pool_monitor.specs.declared.probe.OpenProbe.{OpenProbe}
use Rattle.pool_monitor.specs.declared.probe.ProbedMember.{ProbedMember}
use Rattle.pool_monitor.specs.declared.verdict.ProbeVerdict.{ProbeVerdict}
use Rattle.pool_monitor.specs.declared.verdict.ProbeVerdict.TheVariants.{Waits, Succeeded, Failed, Refused}

-- ---- what stays

-- it is the same member, probed as often
pub record IsSame (p p' : ProbedMember) : Type 0 where
  pub monitor : p'.monitor ≡ p.monitor
  pub member : p'.member ≡ p.member
  pub interval : p'.interval ≡ p.interval
  pub timeout : p'.timeout ≡ p.timeout

same_same : {p q r : ProbedMember} → IsSame p q → IsSame q r → IsSame p r
same_same x y = record {
  monitor = y.monitor ∙ x.monitor;
  member = y.member ∙ x.member;
  interval = y.interval ∙ x.interval;
  timeout = y.timeout ∙ x.timeout;
}

same_as : (p p' : ProbedMember) → p' ≡ p → IsSame p p'
same_as p p' e = record { monitor = ap (λ q. q.monitor) e; member = ap (λ q. q.member) e; interval = ap (λ q. q.interval) e; timeout = ap (λ q. q.timeout) e }

-- and when it was last probed, when it was well, and whether it is up
pub record Keeps (p p' : ProbedMember) : Type 0 where
  pub same : IsSame p p'
  pub sent : p'.sent ≡ p.sent
  pub good : p'.good ≡ p.good
  pub up : p'.up ≡ p.up

keeps_as : (p p' q : ProbedMember) → p' ≡ q → Keeps p q → Keeps p p'
keeps_as p p' q e k = subst (λ r. Keeps p r) (sym e) k

keeps_all : (p : ProbedMember) → Keeps p p
keeps_all p = record { same = same_as p p refl; sent = refl; good = refl; up = refl }

closed_keeps : (due : Bool) (p : ProbedMember) (calls : List Call) (p' : ProbedMember) → ClosedWhere due p calls p' → Keeps p p'
closed_keeps true p calls p' it = keeps_as p p' _ it.member_is (record { same = record { monitor = refl; member = refl; interval = refl; timeout = refl }; sent = refl; good = refl; up = refl })
closed_keeps false p calls p' it = keeps_as p p' p it.same (keeps_all p)

-- ---- asked

abbrev better : Bool → ℕ → ℕ → ℕ
better true moment good = max good moment
better false moment good = good

record Heard (moment : ℕ) (success : Bool) (p p' : ProbedMember) : Type 0 where
  pub same : IsSame p p'
  pub sent : p'.sent ≡ p.sent
  pub good : p'.good ≡ better success moment p.good
  pub up : p'.up ≡ p.up

heard_by : (moment : ℕ) (v : ProbeVerdict) (o : OpenProbe) (p p' : ProbedMember) → p' ≡ after_verdict moment v o p → Heard moment (is_success v) p p'
heard_by moment Waits o p p' e = subst (λ q. Heard moment false p q) (sym e) (record { same = record { monitor = refl; member = refl; interval = refl; timeout = refl }; sent = refl; good = refl; up = refl })
heard_by moment Succeeded o p p' e = subst (λ q. Heard moment true p q) (sym e) (record { same = record { monitor = refl; member = refl; interval = refl; timeout = refl }; sent = refl; good = refl; up = refl })
heard_by moment Failed o p p' e = subst (λ q. Heard moment false p q) (sym e) (record { same = record { monitor = refl; member = refl; interval = refl; timeout = refl }; sent = refl; good = refl; up = refl })
heard_by moment Refused o p p' e = subst (λ q. Heard moment false p q) (sym e) (record { same = record { monitor = refl; member = refl; interval = refl; timeout = refl }; sent = refl; good = refl; up = refl })

asked_hears : (http : Option HttpCheck) (moment : ℕ) (o : Option OpenProbe) (p : ProbedMember) (calls : List Call) (p' : ProbedMember)
    → (it : AskedAt o http moment p calls p') → Heard moment (success_of http moment p p' calls o it) p p'
asked_hears http moment None p calls p' it = subst (λ q. Heard moment false p q) (sym it.same) (record { same = same_as p p refl; sent = refl; good = refl; up = refl })
asked_hears http moment (Some o) p calls p' it = heard_by moment it.verdict it.after p p' it.member_is

-- ---- sent

abbrev sent_with : Bool → ℕ → Option ℕ → Option ℕ
sent_with due moment sent = if due then Some moment else sent

abbrev good_with : Bool → ℕ → ProbedMember → ℕ
good_with true moment p = good_from moment p
good_with false moment p = p.good

record Sent (due : Bool) (moment : ℕ) (p p' : ProbedMember) : Type 0 where
  pub same : IsSame p p'
  pub sent : p'.sent ≡ sent_with due moment p.sent
  pub good : p'.good ≡ good_with due moment p
  pub up : p'.up ≡ p.up

sent_by_due : (due : Bool) (moment : ℕ) (p : ProbedMember) (calls : List Call) (p' : ProbedMember) → SentWhere due moment p calls p' → Sent due moment p p'
sent_by_due true moment p calls p' it = subst (λ q. Sent true moment p q) (sym it.member_is) (record { same = record { monitor = refl; member = refl; interval = refl; timeout = refl }; sent = refl; good = refl; up = refl })
sent_by_due false moment p calls p' it = subst (λ q. Sent false moment p q) (sym it.same) (record { same = same_as p p refl; sent = refl; good = refl; up = refl })

-- ---- marked

record Marked (moment : ℕ) (p p' : ProbedMember) : Type 0 where
  pub same : IsSame p p'
  pub sent : p'.sent ≡ p.sent
  pub good : p'.good ≡ p.good
  pub up : p'.up ≡ is_up moment p

marked_so : (monitors : List Monitor) (moment : ℕ) (p : ProbedMember) (marks : List Mark) (p' : ProbedMember) → IsMarked monitors moment p marks p' → Marked moment p p'
marked_so monitors moment p marks p' it = subst (λ q. Marked moment p q) (sym it.member_is) (record { same = record { monitor = refl; member = refl; interval = refl; timeout = refl }; sent = refl; good = refl; up = refl })

good_began : (due : Bool) (moment : ℕ) (p : ProbedMember) → is_some p.sent ≡ true → good_with due moment p ≡ p.good
good_began true moment p e = rw e refl
good_began false moment p e = refl

good_new : (moment : ℕ) (p : ProbedMember) → p.sent ≡ None → good_with true moment p ≡ moment
good_new moment p e = rw e refl

-- ---- histories

max_moves : (f g m : ℕ) → max (max f g) m ≡ max f (max m g)
max_moves f g m = omega arith

max_none : (m : ℕ) → m ≡ max m 0
max_none m = omega arith

max_twice : (m : ℕ) → m ≡ max m (max m 0)
max_twice m = omega arith

abbrev now_of : ℕ → Bool → Bool → Passed
now_of moment sent success = record { moment = moment; sent = sent; succeeded = success }

first_good : (moment : ℕ) (sent success : Bool) → moment ≡ good (now_of moment sent success ∷ [])
first_good moment sent true = max_twice moment
first_good moment sent false = max_none moment

next_good : (moment : ℕ) (sent success : Bool) (h : Passed) (hs : List Passed)
    → better success moment (good (h ∷ hs)) ≡ good (now_of moment sent success ∷ h ∷ hs)
next_good moment sent true h hs = max_moves (first_moment (h ∷ hs)) (greatest (success_moments (h ∷ hs))) moment
next_good moment sent false h hs = refl

some_still : (due : Bool) (moment : ℕ) (sent : Option ℕ) → is_some sent ≡ true → is_some (sent_with due moment sent) ≡ true
some_still true moment sent e = refl
some_still false moment sent e = e

not_come : (end moment : ℕ) → not (nat_le end moment) ≡ nat_lt moment end
not_come end moment = grind (arith, nat_tests)

-- ---- how a member stands

pub record StandsAt (p : ProbedMember) (hs : List Passed) : Type 0 where
  pub sent : p.sent ≡ last_sent hs
  pub some : is_some p.sent ≡ true
  pub good : p.good ≡ good hs
  pub up : p.up ≡ was_up p.timeout hs

abbrev pub Stands : ProbedMember → List Passed → Type 0
Stands p [] = IsNew p
Stands p (h ∷ hs) = StandsAt p (h ∷ hs)

stands_up : (p : ProbedMember) (hs : List Passed) → Stands p hs → p.up ≡ was_up p.timeout hs
stands_up p [] it = it.up
stands_up p (h ∷ hs) it = it.up

marked_same : (monitors : List Monitor) (p q : ProbedMember) (before now : Bool) → IsSame p q → marks_after monitors q before now ≡ marks_after monitors p before now
marked_same monitors p q before now same = rw (same.monitor, same.member) refl

module _ (monitors : List Monitor) (moment : ℕ) (p : ProbedMember) (marks : List Mark) (p' : ProbedMember) (t : Turn monitors moment p marks p') where
  kept : Keeps p t.left
  kept = closed_keeps (is_due moment p) p t.closes t.left t.closed

  abbrev success : Bool
  success = success_of (http_of monitors t.left) moment t.left t.heard t.asks t.left.probe t.asked

  hears : Heard moment success t.left t.heard
  hears = asked_hears (http_of monitors t.left) moment t.left.probe t.left t.asks t.heard t.asked

  sends_so : Sent (is_due moment t.heard) moment t.heard t.sent
  sends_so = sent_by_due (is_due moment t.heard) moment t.heard t.connects t.sent t.sends

  marks_so : Marked moment t.sent p'
  marks_so = marked_so monitors moment t.sent marks p' t.marked

  same_sent : IsSame p t.sent
  same_sent = same_same (same_same kept.same hears.same) sends_so.same

  same_all : IsSame p p'
  same_all = same_same same_sent marks_so.same

  heard_sent : t.heard.sent ≡ p.sent
  heard_sent = hears.sent ∙ kept.sent

  due_is : is_due moment t.heard ≡ due_by moment p.interval p.sent
  due_is = ap (λ i. due_by moment i t.heard.sent) (same_same kept.same hears.same).interval ∙ ap (due_by moment p.interval) heard_sent

  sent_is : p'.sent ≡ sent_with (due_by moment p.interval p.sent) moment p.sent
  sent_is = marks_so.sent ∙ sends_so.sent ∙ ap (λ d. sent_with d moment t.heard.sent) due_is ∙ ap (sent_with (due_by moment p.interval p.sent) moment) heard_sent

  good_is : p'.good ≡ good_with (due_by moment p.interval p.sent) moment t.heard
  good_is = marks_so.good ∙ sends_so.good ∙ ap (λ d. good_with d moment t.heard) due_is

  heard_good : t.heard.good ≡ better success moment p.good
  heard_good = hears.good ∙ ap (better success moment) kept.good

  up_is : p'.up ≡ nat_lt moment (p'.good + p'.timeout)
  up_is =
      marks_so.up ∙ ap (λ g. not (nat_le (g + t.sent.timeout) moment)) (sym marks_so.good)
      ∙ ap (λ o. not (nat_le (p'.good + o) moment)) (sym marks_so.same.timeout) ∙ not_come (p'.good + p'.timeout) moment

  now : List Passed → Passed
  now hs = now_of moment (sends moment p.interval hs) success

  -- after the first pump
  first_stands : IsNew p → StandsAt p' (now_of moment (sends moment p.interval []) success ∷ [])
  first_stands new =
      let sent : p'.sent ≡ Some moment = sent_is ∙ ap (λ o. sent_with (due_by moment p.interval o) moment o) new.sent in
      let good : p'.good ≡ good (now_of moment true success ∷ []) =
      good_is ∙ ap (λ o. good_with (due_by moment p.interval o) moment t.heard) new.sent
      ∙ good_new moment t.heard (heard_sent ∙ new.sent) ∙ first_good moment true success in
      record {
        sent = sent;
        some = ap is_some sent;
        good = good;
        up = up_is ∙ ap (λ g. nat_lt moment (g + p'.timeout)) good;
      }

  -- after a later one
  next_stands : (h : Passed) (hs : List Passed) → StandsAt p (h ∷ hs) → StandsAt p' (now_of moment (sends moment p.interval (h ∷ hs)) success ∷ h ∷ hs)
  next_stands h hs st =
      let now_sent = sends moment p.interval (h ∷ hs) in
      let sent : p'.sent ≡ last_sent (now_of moment now_sent success ∷ h ∷ hs) =
      sent_is ∙ ap (λ o. sent_with (due_by moment p.interval o) moment o) st.sent in
      let good : p'.good ≡ good (now_of moment now_sent success ∷ h ∷ hs) =
      good_is ∙ good_began (due_by moment p.interval p.sent) moment t.heard (ap is_some heard_sent ∙ st.some)
      ∙ heard_good ∙ ap (better success moment) st.good ∙ next_good moment now_sent success h hs in
      record {
        sent = sent;
        some = ap is_some sent_is ∙ some_still (due_by moment p.interval p.sent) moment p.sent st.some;
        good = good;
        up = up_is ∙ ap (λ g. nat_lt moment (g + p'.timeout)) good;
      }

  stands_after : (hs : List Passed) → Stands p hs → StandsAt p' (now_of moment (sends moment p.interval hs) success ∷ hs)
  stands_after [] new = first_stands new
  stands_after (h ∷ hs) st = next_stands h hs st

  marks_defined : (hs : List Passed) → Stands p hs
      → marks ≡ marks_after monitors p (was_up p.timeout hs) (was_up p.timeout (now_of moment (sends moment p.interval hs) success ∷ hs))
  marks_defined hs st =
      let here = now_of moment (sends moment p.interval hs) success ∷ hs in
      let before : t.sent.up ≡ was_up p.timeout hs = sends_so.up ∙ hears.up ∙ kept.up ∙ stands_up p hs st in
      let after : is_up moment t.sent ≡ was_up p.timeout here =
      sym marks_so.up ∙ (stands_after hs st).up ∙ ap (λ o. was_up o here) same_all.timeout in
      t.marked.marks_are ∙ marked_same monitors p t.sent t.sent.up (is_up moment t.sent) same_sent
      ∙ ap (λ b. marks_after monitors p b (is_up moment t.sent)) before ∙ ap (marks_after monitors p (was_up p.timeout hs)) after

  pub defined : (hs : List Passed) → Stands p hs
      → (y : Tracked) × IsDefined monitors moment (record { member = p; passed = hs }) marks y × (y.member ≡ p') × Stands y.member y.passed
  defined hs st = (
    record { member = p'; passed = now_of moment (sends moment p.interval hs) success ∷ hs },
    record {
      turn = t;
      now = now_of moment (sends moment p.interval hs) success;
      passed_is = refl;
      moment_is = refl;
      sent_is = refl;
      success_is = refl;
      marks_are = marks_defined hs st;
    },
    refl,
    stands_after hs st,
  )

-- ---- all members

pub turns : (monitors : List Monitor) (moment : ℕ) (ps ls hs ss ps' : List ProbedMember) (closes asks connects : List Call) (marks : List Mark)
    → Each (IsClosed moment) ps closes ls → Each (IsAsked monitors moment) ls asks hs → Each (IsSent moment) hs connects ss
    → Each (IsMarked monitors moment) ss marks ps' → Each (Turn monitors moment) ps marks ps'
turns monitors moment [] [] [] [] [] closes asks connects marks c a s m = m
turns monitors moment [] [] [] [] (y ∷ ps') closes asks connects marks c a s m = absurd m
turns monitors moment [] [] [] (y ∷ ss) ps' closes asks connects marks c a s m = absurd s
turns monitors moment [] [] (y ∷ hs) ss ps' closes asks connects marks c a s m = absurd a
turns monitors moment [] (y ∷ ls) hs ss ps' closes asks connects marks c a s m = absurd c
turns monitors moment (p ∷ ps) [] hs ss ps' closes asks connects marks c a s m = absurd c
turns monitors moment (p ∷ ps) (l ∷ ls) [] ss ps' closes asks connects marks c a s m = absurd a
turns monitors moment (p ∷ ps) (l ∷ ls) (h ∷ hs) [] ps' closes asks connects marks c a s m = absurd s
turns monitors moment (p ∷ ps) (l ∷ ls) (h ∷ hs) (q ∷ ss) [] closes asks connects marks c a s m = absurd m
turns monitors moment (p ∷ ps) (l ∷ ls) (h ∷ hs) (q ∷ ss) (p' ∷ ps') closes asks connects marks c a s m = (
  m.0,
  m.1,
  m.2,
  record { closes = c.0; asks = a.0; connects = s.0; left = l; heard = h; sent = q; closed = c.3; asked = a.3; sends = s.3; marked = m.3 },
  turns monitors moment ps ls hs ss ps' c.1 a.1 s.1 m.1 c.4 a.4 s.4 m.4,
)

abbrev pub AllStand : List Tracked → Type 0
AllStand [] = Unit {0}
AllStand (x ∷ xs) = Stands x.member x.passed × AllStand xs

pub all_defined : (monitors : List Monitor) (moment : ℕ) (xs : List Tracked) (marks : List Mark) (ps' : List ProbedMember) → AllStand xs
    → Each (Turn monitors moment) (members_of xs) marks ps'
    → (ys : List Tracked) × Each (IsDefined monitors moment) xs marks ys × (members_of ys ≡ ps') × AllStand ys
all_defined monitors moment [] marks [] stand none = ([], none, refl, tt)
all_defined monitors moment [] marks (p' ∷ ps') stand none = absurd none
all_defined monitors moment (x ∷ xs) marks [] stand none = absurd none
all_defined monitors moment (x ∷ xs) marks (p' ∷ ps') stand each =
    let one = defined monitors moment x.member each.0 p' each.3 x.passed stand.0 in
    let rest = all_defined monitors moment xs each.1 ps' stand.1 each.4 in (
      one.0 ∷ rest.0,
      (each.0, each.1, each.2, one.1, rest.1),
      ap (λ q. q ∷ members_of rest.0) one.2 ∙ ap (λ qs. p' ∷ qs) rest.2,
      (one.3, rest.3),
    )

-- ---- one pump after another

module _ {S : Type 0} (did : S → Call → S → Type 0) where
  pumped : (w w' : Watch) (moment : ℕ) (net net' : S) (marks : List Mark) (xs : List Tracked) → members_of xs ≡ w.members → AllStand xs
      → Pumped did w moment net net' w' marks
      → (ys : List Tracked) × Each (IsDefined w.monitors moment) xs marks ys × (members_of ys ≡ w'.members) × AllStand ys
  pumped w w' moment net net' marks xs are stand it =
      let each = turns w.monitors moment w.members it.probed.left it.probed.heard it.between.members w'.members it.probed.closes it.probed.asks it.probed.connects marks
      it.probed.closed it.probed.asked it.probed.sent it.marked in
      all_defined w.monitors moment xs marks w'.members stand (subst (λ ps. Each (Turn w.monitors moment) ps marks w'.members) (sym are) each)

  all_pumped : (w w' : Watch) (net net' : S) (ts : List Told) (xs : List Tracked) → members_of xs ≡ w.members → AllStand xs → Pumps did w net ts w' net'
      → (ys : List Tracked) × AreDefined w.monitors xs ts ys × (members_of ys ≡ w'.members)
  all_pumped w w' net net' [] xs are stand run = (xs, refl, are ∙ ap (λ v. v.members) (sym run.0))
  all_pumped w w' net net' (t ∷ ts) xs are stand run =
      let one = pumped w run.0 t.moment net run.1 t.marks xs are stand run.2 in
      let rest = all_pumped run.0 w' run.1 net' ts one.0 one.2 one.3 run.3 in (
        rest.0,
        (one.0, one.1, subst (λ ms. AreDefined ms one.0 ts rest.0) run.2.same rest.1),
        rest.2,
      )

  members_untracked : (ps : List ProbedMember) → members_of (map untracked ps) ≡ ps
  members_untracked [] = refl
  members_untracked (p ∷ ps) = ap (λ qs. p ∷ qs) (members_untracked ps)

  all_new : (ps : List ProbedMember) → AllNew ps → AllStand (map untracked ps)
  all_new [] new = tt
  all_new (p ∷ ps) new = (new.0, all_new ps new.1)

  pub marks_defined_all : MarksAreDefined did
  marks_defined_all w w' net net' ts new run =
      all_pumped w w' net net' ts (map untracked w.members) (members_untracked w.members) (all_new w.members new) run
