-- What an action gives, with the steps that it counts paid for.
use Rattle.std.proofs.Common.{◌≡◌, refl, ap, subst, ◌∙◌, ℕ, List, [], ◌++◌, drop, true, false, true≢false, sym, Option, Some, None}
use Rattle.conn_trace.specs.Setup.{Handler, Setup}
use Rattle.conn_trace.specs.State.{TraceState}
use Rattle.core_events.specs.declared.note.Note.{Note}
use Rattle.conn.specs.Acted.{Acted, ActedAt}
use Rattle.conn.specs.Events.{event_of}
use Rattle.conn.specs.Holds.{Around, Holds, RunsFirst, Stands}
use Rattle.conn.specs.Setups.{body_at, Serves}
use Rattle.conn.specs.Stages.{has_body, is_asking, is_running}
use Rattle.conn.specs.Steps.{BodyMovedBy}
use Rattle.conn.specs.declared.connection.Conn.{Conn}
use Rattle.conn.specs.declared.events.At.{At}
use Rattle.conn.specs.declared.setup.Setup as code_setup
use Rattle.conn.specs.declared.stage.Stage.{Stage}
use Rattle.conn.specs.declared.stage.Stage.TheVariants as stage
use Rattle.conn.specs.declared.turn.Act as step_act
use Rattle.conn.proofs.Telling.{Tells, steps_tell}
use Rattle.conn.proofs.Advancing.{acted_well}
use Rattle.conn.proofs.BodyMoves.{body_gives, step_notes}
use Rattle.conn.proofs.Leading.{outside_led}
use Rattle.conn.proofs.Paying.{ActPaid, outside_paid}
use Rattle.conn.proofs.Places.{none_here}

pub record PaidWell (s : code_setup.Setup) (c : ℕ) (old new : Conn) (before after : List Note) (did : step_act.Act) (ticks : ℕ) : Type 0 where
  pub group : List Note
  pub notes : after ≡ before ++ group
  pub tells : Tells group old new
  pub along : (g : Setup) (a : Around) (l : TraceState) → Serves s g → Holds g a l old → is_asking old.stage ≡ false → ActPaid g a l c old new group did ticks

pub paid_well : (s : code_setup.Setup) (c : ℕ) (old new : Conn) (before after : List Note) (did : step_act.Act) (ticks : ℕ) → Acted s c old new before after did ticks → (is_running old.stage ≡ false → ticks ≡ 0) → PaidWell s c old new before after did ticks
paid_well s c old new before after did ticks k outside = by_stage old.stage refl k
  where
    plain : (st : Stage) → old.stage ≡ st → has_body st ≡ false → is_running st ≡ false → PaidWell s c old new before after did ticks
    plain st is calm still =
        let x = acted_well s c old new before after did ticks k in
        let here = ap has_body is ∙ calm in
        record {
          group = x.group;
          notes = x.notes;
          tells = x.tells;
          along = λ g a l serves h awake. outside_paid g a l s c old new x.group before after did ticks (outside_led s c old new before after did ticks k here) here (outside (ap is_running is ∙ still)) (x.along g a l serves h awake);
        }

    by_handler : (at : At) (n : ℕ) → old.stage ≡ stage.Running at n → (v : Option Handler) → body_at s at n ≡ v → BodyMovedBy s v c at n old new before after did ticks → PaidWell s c old new before after did ticks
    by_handler at n is None e m =
        let x = acted_well s c old new before after did ticks k in
        record {
          group = x.group;
          notes = x.notes;
          tells = x.tells;
          along = λ g a l serves h awake.
              (let none_left : drop n (g.handlers (event_of at)) ≡ [] = none_here (g.handlers (event_of at)) n (serves.each (event_of at) n ∙ e) in
              let here = subst (λ st. Stands g st l old) is h.stage in
              absurd (subst (λ hs. RunsFirst g (event_of at) hs 0 l old) none_left here.0));
        }
    by_handler at n is (Some b) e m = record {
      group = step_notes m;
      notes = m.does.noted;
      tells = steps_tell s b c at n old new before after did ticks m;
      along = λ g a l serves h awake. body_gives s g serves a l c old new at n b before after did ticks e m is h;
    }

    by_stage : (st : Stage) → old.stage ≡ st → ActedAt st s c old new before after did ticks → PaidWell s c old new before after did ticks
    by_stage (stage.Running at n) is k = by_handler at n is (body_at s at n) refl k
    by_stage (stage.Asking at n) is k' =
        let x = acted_well s c old new before after did ticks k in
        record {
          group = x.group;
          notes = x.notes;
          tells = x.tells;
          along = λ g a l serves h awake. absurd (true≢false (sym (ap is_asking is) ∙ awake));
        }
    by_stage other is k' = plain other is refl refl
