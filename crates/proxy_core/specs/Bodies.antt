-- Where the bodies of virtual servers stand.
use Rattle.std.specs.Prelude.{ℕ, ◌+◌, List, [], ◌∷◌, map, flat_map, Option, Some, None, slice_get}
use Rattle.event_order.specs.Event.{every_event}
use Rattle.event_order.specs.declared.event.EventName.{EventName}
use Rattle.rule_loader.specs.Handlers.{handlers_at}
use Rattle.rule_loader.specs.declared.handler.EventHandler as loaded
use Rattle.rule_loader.specs.declared.rule.Rule.{Rule}
use Rattle.conn.specs.declared.setup.Place.{Place}
use Rattle.run_config.specs.declared.config.Virtual.{Virtual}
use Rattle.record_model.specs.Order.{by_priority}

abbrev pub place_priority : Place → ℕ
place_priority p = p.priority

-- bodies of a rule, of which the first has this number
abbrev pub placed : (rule from : ℕ) → List loaded.EventHandler → List Place
placed rule from [] = []
placed rule from (h ∷ hs) =
    record { rule = rule; number = from; priority = h.priority } ∷ placed rule (from + 1) hs

abbrev pub placed_in : EventName → ℕ → Option Rule → List Place
placed_in e n None = []
placed_in e n (Some r) = placed n 0 (handlers_at e r.bodies)

abbrev pub rule_places : List Rule → EventName → ℕ → List Place
rule_places rules e n = placed_in e n (slice_get rules n)

abbrev pub gathered : List Rule → EventName → List ℕ → List Place
gathered rules e numbers = flat_map (rule_places rules e) numbers

abbrev pub places_of : List Rule → List ℕ → EventName → List Place
places_of rules numbers e = by_priority place_priority (gathered rules e numbers)

-- those of each event, and of each virtual server
unfoldable pub server_places : List Rule → List ℕ → List (List Place)
server_places rules numbers = map (places_of rules numbers) every_event

abbrev pub all_places : List Rule → List Virtual → List (List (List Place))
all_places rules virtuals = map (λ v. server_places rules v.rules) virtuals
