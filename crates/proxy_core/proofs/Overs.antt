-- A trace that is over stays so, and has finished.
use Rattle.std.proofs.Common.{◌≡◌, refl, sym, ap, subst, ◌∙◌, List, [], ◌∷◌, Bool, true, false, not, ◌||◌, Option, Some, None, if◌then◌else◌}
use Rattle.conn_trace.specs.Further.{Further, Same, longer}
use Rattle.conn_trace.specs.Gates.{Counts, TakenCounts, may_give}
use Rattle.conn_trace.specs.HeardLaws.{taken_by_items}
use Rattle.conn_trace.specs.Item.{CutBy, Item}
use Rattle.conn_trace.specs.Phases.{Orderly}
use Rattle.conn_trace.specs.Setup.{Setup}
use Rattle.conn_trace.specs.State.{Cut, TraceState, Next, Does, Waits, Over}
use Rattle.conn_trace.specs.Places.{finish}
use Rattle.conn_trace.specs.Trace.{cut_next, cut_open, cut_takes, uncut, counted, phase_next, next_item, Unfolds}
use Rattle.conn_trace.proofs.Longer.{phase_same}
use Rattle.conn.specs.Settling.{is_over}
use Rattle.proxy_core.proofs.Ending.{over_finished}

-- no cut is taken where none was heard, or once it has finished
pub finished_plain : (g : Setup) (l : TraceState) → l.finished ≡ true → next_item g l ≡ counted l.sent (phase_next g l.phase l)
unfolding next_item
finished_plain g l done = ap (counted l.sent) (by_cut l.answers.cut)
  where
    by_cut : (o : Option Cut) → cut_next g o l (phase_next g l.phase l) ≡ phase_next g l.phase l
    by_cut None = refl
    by_cut (Some c) = ap (λ b. if b then phase_next g l.phase l else cut_open g c l (phase_next g l.phase l)) done

over_of : (sent : Counts) (o : Next) → counted sent o ≡ Over → o ≡ Over
over_of sent (Does i m) e = cc
over_of sent (Waits k) e = cc
over_of sent Over e = refl

pub over_stays : (g : Setup) (l : TraceState) (f : Further) → l.finished ≡ true → next_item g l ≡ Over → next_item g (longer f l) ≡ Over
over_stays g l f done e =
    let o = over_of l.sent (phase_next g l.phase l) (sym (finished_plain g l done) ∙ e) in
    let P : Next → Type 0 = λ n. Same f n (phase_next g l.phase (longer f l)) in
    finished_plain g (longer f l) done ∙ ap (counted l.sent) (subst P o (phase_same f g l.phase l))

-- and gives nothing more
pub over_gives_none : (g : Setup) (l at : TraceState) (took : TakenCounts) (more : List Item) → l.finished ≡ true → next_item g l ≡ Over → Unfolds g (longer (taken_by_items took more) l) more at → more ≡ []
over_gives_none g l at took [] done e u = refl
over_gives_none g l at took (i ∷ more) done e (mid, next, rest) = let x = sym next ∙ over_stays g l (taken_by_items took (i ∷ more)) done e in absurd (cc)

pub over_at : (o : Next) → is_over o ≡ true → o ≡ Over
over_at (Does i l) e = cc
over_at (Waits k) e = cc
over_at Over e = refl

-- it has finished, whether a cut was heard or not
over_phase : (g : Setup) (l : TraceState) → next_item g l ≡ Over → counted l.sent (phase_next g l.phase l) ≡ Over
unfolding next_item
over_phase g l e = by_cut l.answers.cut (phase_next g l.phase l) e
  where
    by_open : (c : Cut) (n : Next) → counted l.sent (cut_open g c l n) ≡ Over → counted l.sent n ≡ Over
    by_open c (Does i m) k = by_test (may_give i l.sent c.took || not (cut_takes g.http c.reason None)) k
      where
        by_test : (b : Bool) → counted l.sent (if b then Does i m else finish g (CutBy c.reason) (uncut l)) ≡ Over → counted l.sent (Does i m) ≡ Over
        by_test true q = q
        by_test false q = cc
    by_open c (Waits w) k = by_test (cut_takes g.http c.reason (Some w)) k
      where
        by_test : (b : Bool) → counted l.sent (if b then finish g (CutBy c.reason) (uncut l) else Waits w) ≡ Over → counted l.sent (Waits w) ≡ Over
        by_test true q = cc
        by_test false q = q
    by_open c Over k = refl

    by_cut : (o : Option Cut) (n : Next) → counted l.sent (cut_next g o l n) ≡ Over → counted l.sent n ≡ Over
    by_cut None n k = k
    by_cut (Some c) n k = by_done l.finished k
      where
        by_done : (b : Bool) → counted l.sent (if b then n else cut_open g c l n) ≡ Over → counted l.sent n ≡ Over
        by_done true q = q
        by_done false q = by_open c n q

pub over_done : (g : Setup) (l : TraceState) → Orderly l → next_item g l ≡ Over → l.finished ≡ true
over_done g l o e = over_finished g l.phase l o (over_phase g l e)

-- it stays over on what its items took, of which there are none
pub record StillOver (g : Setup) (more : List Item) (at : TraceState) : Type 0 where
  pub none : more ≡ []
  pub next : next_item g at ≡ Over
  pub finished : at.finished ≡ true

pub still_over : (g : Setup) (l at : TraceState) (took : TakenCounts) (more : List Item) → l.finished ≡ true → next_item g l ≡ Over → Unfolds g (longer (taken_by_items took more) l) more at → StillOver g more at
still_over g l at took [] done e u = record {
  none = refl;
  next = ap (next_item g) (sym u) ∙ over_stays g l (taken_by_items took []) done e;
  finished = ap (λ x. x.finished) (sym u) ∙ done;
}
still_over g l at took (i ∷ more) done e u = absurd (let x = over_gives_none g l at took (i ∷ more) done e u in cc)
