-- Rules on virtual servers that don't have their events.
use Rattle.std.specs.Prelude.{ℕ, Bool, List, [], ◌∷◌, Option, None, option_and_then}
use Rattle.std.specs.Prelude.{option_map, slice_get, if◌then◌else◌}
use Rattle.std.specs.Option.{option_or}
use Rattle.config.specs.declared.config.VirtualSettings.{VirtualSettings}
use Rattle.config.specs.declared.misplaced.Misplaced.{Misplaced}
use Rattle.config.specs.declared.rule_text.LoadedRule.{LoadedRule}

abbrev pub place_in : Bool → LoadedRule → Option ℕ
place_in http r = if http then r.events.of_bytes else r.events.of_http

abbrev pub misplaced_at : List LoadedRule → Bool → ℕ → Option Misplaced
misplaced_at rs http at =
    option_map (λ place. record { rule = at; place = place })
    (option_and_then (place_in http) (slice_get rs at))

-- of the rule of a name, whose place `rules` gives
abbrev pub misplaced_rule : (rules : List ℕ → Option ℕ) → List LoadedRule → Bool → List ℕ
    → Option Misplaced
misplaced_rule rules rs http name = option_and_then (misplaced_at rs http) (rules name)

-- the first one of the rules of a virtual server
abbrev pub server_misplaced : (rules : List ℕ → Option ℕ) → List LoadedRule → Bool
    → List (List ℕ) → Option Misplaced
server_misplaced rules rs http [] = None
server_misplaced rules rs http (name ∷ names) =
    option_or (misplaced_rule rules rs http name) (server_misplaced rules rs http names)

-- the first one of virtual servers
abbrev pub first_misplaced : (rules : List ℕ → Option ℕ) → List LoadedRule → List VirtualSettings
    → Option Misplaced
first_misplaced rules rs [] = None
first_misplaced rules rs (v ∷ vs) =
    option_or (server_misplaced rules rs v.http v.rules) (first_misplaced rules rs vs)
