-- The bodies that rules run at an event, in their order.
use Rattle.std.specs.Prelude.{ℕ, List, [], map, flat_map, Option, Some, None, slice_get}
use Rattle.tcl_trees.specs.Procedures.{procs_view}
use Rattle.tcl_trees.specs.TreeView.{node_view}
use Rattle.event_order.specs.declared.event.EventName.{EventName}
use Rattle.rule_loader.specs.Handlers.{handlers_at}
use Rattle.rule_loader.specs.declared.handler.EventHandler as loaded
use Rattle.rule_loader.specs.declared.rule.Rule.{Rule}
use Rattle.conn_trace.specs.Setup.{Handler}
use Rattle.record_model.specs.Order.{by_priority}

-- a body, with its priority
pub record Body : Type 0 where
  pub priority : ℕ
  pub handler : Handler

abbrev pub body_view : Rule → loaded.EventHandler → Body
body_view r h = record {
  priority = h.priority;
  handler = record { rule = r.name; procedures = procs_view r.procs; body = node_view h.body };
}

-- those that a rule has for an event, in the order of their places in the rule
abbrev pub bodies_in : EventName → Option Rule → List Body
bodies_in e None = []
bodies_in e (Some r) = map (body_view r) (handlers_at e r.bodies)

abbrev pub rule_bodies : List Rule → EventName → ℕ → List Body
rule_bodies rules e n = bodies_in e (slice_get rules n)

-- those of the rules of these numbers: by their priority, and those of one priority in the order of
-- the rules and of their places
abbrev pub bodies_of : List Rule → List ℕ → EventName → List Body
bodies_of rules numbers e = by_priority (λ b. b.priority) (flat_map (rule_bodies rules e) numbers)
