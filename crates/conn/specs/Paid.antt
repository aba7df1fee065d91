-- The steps that the connection's bodies counted so far are paid for: by those that ended, and by the
-- cost so far of the one that runs or waits.
use Rattle.std.specs.Prelude.{◌≡◌, ℕ, ◌+◌, ◌*◌, ◌≤◌, List, [], ◌∷◌, ◌++◌, drop}
use Rattle.px_bytes.specs.declared.fault.Reply.{Reply}
use Rattle.rule_model.specs.Evaluator.{evaluate}
use Rattle.rule_model.specs.Outcome.{Act}
use Rattle.conn_trace.specs.Host.{body_setting}
use Rattle.conn_trace.specs.Setup.{Handler, Setup}
use Rattle.conn_trace.specs.State.{TraceState}
use Rattle.frames.specs.Frames.{comes_to}
use Rattle.frames.specs.Owed.{Heavy, owed}
use Rattle.conn.specs.declared.connection.Conn.{Conn}
use Rattle.conn.specs.declared.stage.Stage.{Stage}
use Rattle.conn.specs.declared.stage.Stage.TheVariants as stage
use Rattle.conn.specs.Events.{event_of}
use Rattle.conn.specs.Hosts.{seen_host}

-- A body runs or waits, at this cost so far. What was counted, and what its frames still owe, is
-- paid for: besides what ended bodies pay, three for each unit of its cost, and two.
pub record BodyPaid (g : Setup) (b : Handler) (l : TraceState) (c : Conn) (counted paid : ℕ)
    : Type 0 where
  pub acts : List Act
  pub cost : ℕ
  pub same : (more : List Reply)
      → evaluate (body_setting g b.procedures) b.body l.vars l.host (l.answers.replies ++ more)
      g.budget
      ≡ comes_to (body_setting g b.procedures) b.body c.body.machine.at c.vars (seen_host c.host)
      more cost acts
  pub heavy : Heavy b.procedures b.body c.body.machine.at.frames.items c.body.machine.at.mode
  pub owes : counted + owed c.body.machine.at ≤ paid + (3 * cost + 2)

-- by the first of these bodies
abbrev pub FirstPaid : Setup → List Handler → TraceState → Conn → (counted paid : ℕ) → Type 0
FirstPaid g [] l c counted paid = ⊥
FirstPaid g (b ∷ bs) l c counted paid = BodyPaid g b l c counted paid

abbrev pub PaidAt : Stage → Setup → TraceState → Conn → (counted paid : ℕ) → Type 0
PaidAt (stage.Running at n) g l c counted paid =
    FirstPaid g (drop n (g.handlers (event_of at))) l c counted paid
PaidAt (stage.Asking at n) g l c counted paid =
    FirstPaid g (drop n (g.handlers (event_of at))) l c counted paid
PaidAt other g l c counted paid = counted ≤ paid

-- where its trace stands at l, this many steps counted are within what so much pays
abbrev pub Paid : Setup → TraceState → Conn → (counted paid : ℕ) → Type 0
Paid g l c counted paid = PaidAt c.stage g l c counted paid
