-- What each item does to the server's side of a trace, a cut among them.
use Rattle.std.proofs.Common.{◌≡◌, refl, sym, ap, subst, ◌∙◌, [], Bool, true, false, ◌||◌, not, true≢false, if◌then◌else◌, Option, Some, None}
use Rattle.conn_trace.specs.Gates.{Counts, TakenCounts, may_give}
use Rattle.conn_trace.specs.Item.{Item, Reason, CutBy, Answered, Connected, Retires}
use Rattle.conn_trace.specs.Phases.{Orderly}
use Rattle.conn_trace.specs.Setup.{Setup}
use Rattle.conn_trace.specs.State.{Phase, Cut, TraceState, Next, Does, Waits, Over}
use Rattle.conn_trace.specs.Places.{finish}
use Rattle.conn_trace.specs.Trace.{phase_next, cut_takes, uncut, cut_open, cut_next, counted, next_item, GivesNoMore}
use Rattle.proxy_core.specs.Servers.{awaits}
use Rattle.proxy_core.proofs.ServerGone.{never}
use Rattle.proxy_core.proofs.ServerPhases.{Going, SideBy, SideNext, finish_quiet, phase_side}

-- behind a closed gate no answer waits
shut_waits : (i : Item) (p : Phase) (l m : TraceState) (sent : Counts) (took : TakenCounts) → SideBy i p l m → may_give i sent took ≡ false → awaits p ≡ true → l.answers.connects ≡ []
shut_waits (Connected to) p l m sent took k shut e = never (sym (ap awaits k.was) ∙ e)
shut_waits (Answered made) p l m sent took k shut e = absurd (true≢false shut)
shut_waits Retires p l m sent took k shut e = never (sym k.was ∙ e)
shut_waits other p l m sent took k shut e = (k.waited e).0

or_left : (a b : Bool) → (a || b) ≡ false → a ≡ false
or_left true b e = e
or_left false b e = refl

finish_cut : (g : Setup) (r : Reason) (p : Phase) (l : TraceState) → (awaits p ≡ true → l.answers.connects ≡ []) → SideNext p l (finish g r (uncut l))
finish_cut g r p l none = let q = finish_quiet g r p (uncut l) none in record { connects = q.connects; serves = q.serves; given = q.given; waits = q.waits; sends = q.sends; going = q.going; waited = q.waited }

cut_side : (g : Setup) (p : Phase) (l : TraceState) (cut : Option Cut) (o : Next) → SideNext p l o → SideNext p l (cut_next g cut l o)
cut_side g p l None o k = k
cut_side g p l (Some c) o k = by_end l.finished
  where
    finishes : (awaits p ≡ true → l.answers.connects ≡ []) → SideNext p l (finish g (CutBy c.reason) (uncut l))
    finishes none = finish_cut g (CutBy c.reason) p l none

    by_place : (o : Next) → SideNext p l o → SideNext p l (cut_open g c l o)
    by_place (Does i m) k = by_test (may_give i l.sent c.took || not (cut_takes g.http c.reason None)) refl
      where
        by_test : (b : Bool) → (may_give i l.sent c.took || not (cut_takes g.http c.reason None)) ≡ b → SideNext p l (if b then Does i m else finish g (CutBy c.reason) (uncut l))
        by_test true e = k
        by_test false e = finishes (shut_waits i p l m l.sent c.took k (or_left (may_give i l.sent c.took) (not (cut_takes g.http c.reason None)) e))
    by_place (Waits w) k = by_test (cut_takes g.http c.reason (Some w))
      where
        by_test : (b : Bool) → SideNext p l (if b then finish g (CutBy c.reason) (uncut l) else Waits w)
        by_test true = finishes k
        by_test false = k
    by_place Over k = k

    by_end : (b : Bool) → SideNext p l (if b then o else cut_open g c l o)
    by_end true = k
    by_end false = by_place o k

counted_going : (m : TraceState) (sent : Counts) → Going m → Going (record m { sent = sent })
counted_going m sent k = record { event = k.event; told = k.told; left = k.left; asked = k.asked }

sent_side : (i : Item) (p : Phase) (l m : TraceState) (sent : Counts) → SideBy i p l m → SideBy i p l (record m { sent = sent })
sent_side (Connected to) p l m sent k = record { was = k.was; going_on = k.going_on; free = k.free; phase = k.phase; server = k.server; connects = k.connects; going = counted_going m sent k.going }
sent_side (Answered made) p l m sent k = record { asked = k.asked; was = k.was; answer = k.answer; more = k.more; is = k.is; made_is = k.made_is; connects = k.connects; link = k.link; waits = k.waits; going = counted_going m sent k.going }
sent_side Retires p l m sent k = record { was = k.was; going_on = k.going_on; served = k.served; link = k.link; connects = k.connects; waits = k.waits; going = counted_going m sent k.going }
sent_side other p l m sent k = record { connects = k.connects; serves = k.serves; given = k.given; waits = k.waits; sends = k.sends; going = counted_going m sent k.going; waited = k.waited }

counted_side : (p : Phase) (l : TraceState) (sent : Counts) (o : Next) → SideNext p l o → SideNext p l (counted sent o)
counted_side p l sent (Does i m) k = sent_side i p l m _ k
counted_side p l sent (Waits w) k = k
counted_side p l sent Over k = k

pub next_side : (g : Setup) (l : TraceState) → Going l → Orderly l → SideNext l.phase l (next_item g l)
unfolding next_item
next_side g l k was = counted_side l.phase l l.sent _ (cut_side g l.phase l l.answers.cut (phase_next g l.phase l) (phase_side g l.phase l refl k was))

pub item_side : (g : Setup) (l m : TraceState) (i : Item) → Going l → Orderly l → next_item g l ≡ Does i m → SideBy i l.phase l m
item_side g l m i k was is = subst (SideNext l.phase l) is (next_side g l k was)

-- where no more may be given no answer waits
pub rest_side : (g : Setup) (l : TraceState) (took : TakenCounts) → Going l → Orderly l → GivesNoMore false l.sent took (next_item g l) → awaits l.phase ≡ true → l.answers.connects ≡ []
rest_side g l took k was rests = by_next (next_item g l) (next_side g l k was) rests
  where
    by_next : (o : Next) → SideNext l.phase l o → GivesNoMore false l.sent took o → awaits l.phase ≡ true → l.answers.connects ≡ []
    by_next (Does i m) s shut = shut_waits i l.phase l m l.sent took s shut
    by_next (Waits w) s r = s
    by_next Over s r = s
