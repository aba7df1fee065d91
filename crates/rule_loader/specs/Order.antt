-- The order in which the bodies of several rules run at an event (iRules, `when`: "priority": "the
-- lower the value, the earlier"); those of one priority in the order of the rules, and of their
-- places.
use Rattle.std.specs.Prelude.{Bool, List, [], ◌∷◌, flat_map, nat_le, nat_lt, if◌then◌else◌}
use Rattle.rule_loader.specs.Handlers.{Handled}

-- before the first of no lower priority
abbrev pub put : Handled → List Handled → List Handled
put h [] = h ∷ []
put h (g ∷ gs) = if nat_le h.priority g.priority then h ∷ g ∷ gs else g ∷ put h gs

abbrev pub by_priority : List Handled → List Handled
by_priority [] = []
by_priority (h ∷ hs) = put h (by_priority hs)

-- the bodies of each rule stand in the order of their places
abbrev pub in_turn : List (List Handled) → List Handled
in_turn rules = flat_map (λ handled. handled) rules

abbrev pub handlers_in_order : List (List Handled) → List Handled
handlers_in_order rules = by_priority (in_turn rules)

abbrev pub runs_before : Handled → Handled → Bool
runs_before h g = nat_lt h.priority g.priority
