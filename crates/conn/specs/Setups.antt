-- What a connection of the code runs on, and the setup of a trace.
use Rattle.std.specs.Prelude.{◌≡◌, ℕ, List, [], length, true, Option, option_map}
use Rattle.std.specs.Prelude.{option_and_then, slice_get, slice_index_or}
use Rattle.tcl_trees.specs.Procedures.{procs_view}
use Rattle.tcl_trees.specs.TreeView.{node_view}
use Rattle.event_order.specs.declared.event.EventName.{EventName}
use Rattle.rule_loader.specs.Events.{event_place}
use Rattle.rule_loader.specs.Handlers.{handlers_at}
use Rattle.rule_loader.specs.declared.handler.EventHandler as loaded
use Rattle.rule_loader.specs.declared.rule.Rule.{Rule}
use Rattle.conn_trace.specs.Http.{the_heads}
use Rattle.conn_trace.specs.Setup.{Handler, Setup}
use Rattle.conn.specs.Events.{event_of}
use Rattle.conn.specs.declared.events.At.{At}
use Rattle.conn.specs.declared.setup.Handler as code
use Rattle.conn.specs.declared.setup.Place.{Place}
use Rattle.conn.specs.declared.setup.Setup as given

abbrev pub handler_of : code.Handler → Handler
handler_of h =
    record { rule = h.name.now; procedures = procs_view h.procs.now; body = node_view h.body.now }

-- a body that a rule has for an event
abbrev pub handler_view : Rule → loaded.EventHandler → Handler
handler_view r h =
    record { rule = r.name; procedures = procs_view r.procs; body = node_view h.body }

abbrev pub body_of : EventName → ℕ → Rule → Option Handler
body_of e n r = option_map (handler_view r) (slice_get (handlers_at e r.bodies) n)

-- the body at a place of rules
abbrev pub body_in : List Rule → EventName → Place → Option Handler
body_in rules e p = option_and_then (body_of e p.number) (slice_get rules p.rule)

-- where the bodies of an event stand
abbrev pub places_in : List (List Place) → EventName → List Place
places_in lists e = slice_index_or lists (event_place e) []

abbrev pub places_at : given.Setup → At → List Place
places_at s at = places_in s.places.now (event_of at)

-- the body of this number of an event
abbrev pub nth_body : given.Setup → EventName → ℕ → Option Handler
nth_body s e n = option_and_then (body_in s.rules.now e) (slice_get (places_in s.places.now e) n)

abbrev pub body_at : given.Setup → At → ℕ → Option Handler
body_at s at n = nth_body s (event_of at) n

-- It is the setup of a trace: the bodies of each event are those at the places, one by one.
pub record Serves (s : given.Setup) (g : Setup) : Type 0 where
  pub name : g.name ≡ s.name.now
  pub port : g.port ≡ s.port
  pub pool : g.pool ≡ s.pool.now
  pub http : g.http ≡ s.http
  pub heads : s.http ≡ true → g.heads ≡ the_heads
  pub budget : g.budget ≡ s.budget
  pub statics : g.statics ≡ s.statics.now.statics
  pub groups : g.groups ≡ s.groups.now
  pub count : (e : EventName) → length (g.handlers e) ≡ length (places_in s.places.now e)
  pub each : (e : EventName) (n : ℕ) → slice_get (g.handlers e) n ≡ nth_body s e n
