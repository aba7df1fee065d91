-- A body of the code.
use Rattle.std.specs.Prelude.{◌≡◌, ℕ, [], true, false}
use Rattle.px_bytes.specs.declared.fault.Reply.{Reply}
use Rattle.rule_model.specs.Outcome.{reply_code}
use Rattle.frames.specs.declared.frame.Mode.TheVariants as mode
use Rattle.frames.specs.declared.turn.Turn.{Turn}
use Rattle.frames.specs.declared.turn.Turn.TheVariants as turn
use Rattle.conn.specs.declared.body.RunningBody.{RunningBody}

-- none runs or waits
pub record IsIdle (body : RunningBody) : Type 0 where
  pub frames : body.machine.at.frames.items ≡ []
  pub runs : body.runs ≡ false
  pub asks : body.asks ≡ false

-- before its first command
pub record Fresh (body : RunningBody) (budget : ℕ) : Type 0 where
  pub frames : body.machine.at.frames.items ≡ []
  pub mode : body.machine.at.mode ≡ mode.Begin
  pub units : body.machine.at.budget ≡ budget
  pub runs : body.runs ≡ true

-- what a step said is what may be done next
abbrev pub SaidIs : Turn → RunningBody → Type 0
SaidIs turn.More body = body.runs ≡ true
SaidIs (turn.Asks call) body = body.asks ≡ true
SaidIs (turn.Done code) body = Unit {0}

-- a reply came to the call that waited
pub record Heard (reply : Reply) (old new : RunningBody) : Type 0 where
  pub machine : new.machine.at ≡ record old.machine.at { mode = mode.Back (reply_code reply) }
  pub runs : new.runs ≡ true
