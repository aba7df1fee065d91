-- What a whole plan keeps.
use Rattle.std.proofs.Common.{◌≡◌, ℕ, ◌+◌, List, [], ◌∷◌, Option, Some, None, Result, Ok, Err, refl, subst, sym}
use Rattle.journal_text.specs.declared.line_kind.LineKind.{LineKind}
use Rattle.table_mirror.specs.Laws.{Holds, InOrder, PlanHolds}
use Rattle.table_mirror.specs.Network.{World, at_first, stepped}
use Rattle.table_mirror.specs.Outcomes.{Ends, Goes, GoesOn, followed, stops_at}
use Rattle.table_mirror.specs.Pushed.{Entry}
use Rattle.table_mirror.specs.declared.outcome.MirrorOutcome.{MirrorOutcome}
use Rattle.table_mirror.specs.declared.packet.MirrorStop.{MirrorStop}
use Rattle.table_mirror.specs.declared.packet.MirrorStop.TheVariants.{NotSent, Differs}
use Rattle.table_mirror.specs.declared.plan.PlanLine.{PlanLine}
use Rattle.table_mirror.proofs.Orders.{begins_in_order, history_is_mirrored, stays_in_order}

module _ (limit : ℕ) (entries : List Entry) where
  -- a line keeps the order, or its plan ends there rightly
  abbrev Kept : Result World MirrorOutcome → Type 0
  Kept (Ok after) = InOrder entries after
  Kept (Err due) = Holds limit entries due

  stop_kept : (line : ℕ) (step : PlanLine) (w : World) (came : Result World MirrorStop) → stepped limit entries step w ≡ came → InOrder entries w → Kept (stops_at line came)
  stop_kept line step w (Ok after) is o = stays_in_order limit entries step w after o is
  stop_kept line step w (Err NotSent) is o = _
  stop_kept line step w (Err (Differs number)) is o = λ history. history_is_mirrored limit entries step w number history is

  line_kept : (line : ℕ) (read : Result (Option PlanLine) LineKind) (w : World) → InOrder entries w → Kept (followed limit entries line read w)
  line_kept line (Err kind) w o = _
  line_kept line (Ok None) w o = o
  line_kept line (Ok (Some step)) w o = stop_kept line step w (stepped limit entries step w) refl o

  end_holds : (line : ℕ) (rest : List ℕ) (w : World) (outcome : MirrorOutcome) → InOrder entries w → Ends limit entries line rest w outcome → Holds limit entries outcome
  end_holds line [] w outcome o is = subst (Holds limit entries) (sym is) (w, o, refl)
  end_holds line (byte ∷ more) w outcome o is = subst (Holds limit entries) (sym is) _

  goes_on : (came : Result World MirrorOutcome) (goes : World → Type 0) (outcome : MirrorOutcome) → Kept came
      → ((after : World) → InOrder entries after → goes after → Holds limit entries outcome) → GoesOn came goes outcome → Holds limit entries outcome
  goes_on (Ok after) goes outcome o behind is = behind after o is
  goes_on (Err due) goes outcome holds behind is = subst (Holds limit entries) (sym is) holds

  goes_holds : (line : ℕ) (lines : List (List ℕ)) (rest : List ℕ) (w : World) (outcome : MirrorOutcome) → InOrder entries w → Goes limit entries line lines rest w outcome → Holds limit entries outcome
  goes_holds line [] rest w outcome o is = end_holds line rest w outcome o is
  goes_holds line (text ∷ lines) rest w outcome o is =
      goes_on (followed limit entries line is.0 w) _ outcome (line_kept line is.0 w o)
      (λ after order more. goes_holds (line + 1) lines rest after outcome order more) is.2

pub plan_holds : PlanHolds
plan_holds limit entries plan outcome c = goes_holds limit entries 1 c.lines c.rest at_first outcome (begins_in_order entries) c.goes
