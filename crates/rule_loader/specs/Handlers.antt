-- The bodies of a rule by their events, and the order in which those of several rules run (iRules,
-- `when`: "priority").
use Rattle.std.specs.Prelude.{ℕ, List, [], ◌∷◌, map, nat_le, if◌then◌else◌, slice_index_or}
use Rattle.std.specs.List.{filter}
use Rattle.event_order.specs.declared.event.EventName.{EventName}
use Rattle.rule_loader.specs.Events.{event_place, is_event}
use Rattle.rule_loader.specs.declared.handler.EventHandler.{EventHandler}
use Rattle.tcl_trees.specs.Tree.{Tree}
use Rattle.tcl_trees.specs.TreeView.{node_view}

-- a body with its event and its priority
pub record Handling : Type 0 where
  pub event : EventName
  pub priority : ℕ
  pub body : Tree

-- a body with its priority
pub record Handled : Type 0 where
  pub priority : ℕ
  pub body : Tree

abbrev pub handler_view : EventHandler → Handled
handler_view h = record { priority = h.priority; body = node_view h.body }

abbrev pub without_event : Handling → Handled
without_event h = record { priority = h.priority; body = h.body }

-- those of an event, in the order of their places
abbrev pub handled_at : EventName → List Handling → List Handled
handled_at event hs = map without_event (filter (λ h. is_event h.event event) hs)

-- the lists of all events, and the one of an event
abbrev pub handlers_at : EventName → List (List EventHandler) → List EventHandler
handlers_at event lists = slice_index_or lists (event_place event) []
