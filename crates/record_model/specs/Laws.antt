-- What holds of the bodies that run, of the static variables, and of the session table.
use Rattle.std.specs.Prelude.{◌≡◌, ◌≤◌, ℕ, List, length, flat_map}
use Rattle.std.specs.List.Sorted.{IsSortedBy, IsPermutation, IsStableBy}
use Rattle.event_order.specs.declared.event.EventName.{EventName}
use Rattle.rule_loader.specs.declared.rule.Rule.{Rule}
use Rattle.conn_trace.specs.Heard.{Heard}
use Rattle.record_model.specs.Bodies.{Body, bodies_of, rule_bodies}
use Rattle.record_model.specs.History.{store_of}
use Rattle.record_model.specs.Init.{init}
use Rattle.record_model.specs.Order.{runs_before}
use Rattle.record_model.specs.Past.{Past}
use Rattle.record_model.specs.Setup.{setup_of}
use Rattle.run_config.specs.declared.config.Config.{Config}

abbrev pub priority_of : Body → ℕ
priority_of b = b.priority

-- the bodies of rules run at an event each once, by their priorities; those of one priority as they
-- stand
pub record InOrder (rules : List Rule) (numbers : List ℕ) (e : EventName) : Type 0 where
  pub sorted : IsSortedBy (runs_before priority_of) (bodies_of rules numbers e)
  pub each_once :
      IsPermutation (flat_map (rule_bodies rules e) numbers) (bodies_of rules numbers e)
  pub stable : IsStableBy (runs_before priority_of) (flat_map (rule_bodies rules e) numbers)
      (bodies_of rules numbers e)

abbrev pub BodiesRunInOrder : Type 0
BodiesRunInOrder = (rules : List Rule) (numbers : List ℕ) (e : EventName) → InOrder rules numbers e

-- whatever is heard of a connection, its rules read the static variables that RULE_INIT left
abbrev pub StaticsStay : Type 0
StaticsStay = (C : Config) (h : Heard) → (setup_of C h).statics ≡ (init C).vars.statics

-- The session table behind a past never has more rows than the configuration's `rows`, whatever was called.
abbrev pub RowsAreFew : Type 0
RowsAreFew = (C : Config) (past : Past) → length (store_of C past).table.rows ≤ C.rows
