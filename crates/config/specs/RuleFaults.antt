-- What is wrong with rules.
use Rattle.std.specs.Prelude.{ℕ, List, ◌++◌, Option, Some, codes, decimal}
use Rattle.std.specs.Prelude.{option_map, slice_get}
use Rattle.rule_loader.specs.Faults.{number_of}
use Rattle.rule_loader.specs.declared.load_fault.LoadKind.TheVariants.{NotHere}
use Rattle.rule_loader.specs.declared.load_fault.RuleFault.{RuleFault}
use Rattle.config.specs.Spots.{spot_in}
use Rattle.config.specs.declared.fault.ConfigFault.{ConfigFault}
use Rattle.config.specs.declared.fault.ConfigFaultKind.TheVariants.{Rule}
use Rattle.config.specs.declared.misplaced.Misplaced.{Misplaced}
use Rattle.config.specs.declared.rule_text.LoadedRule.{LoadedRule}
use Rattle.config.specs.declared.rule_text.RuleText.{RuleText}
use Rattle.config.specs.declared.spot.Spot.{Spot}

-- as `rule[0] load 3 at 5`: the rule's place, and the number and the place of what is wrong
abbrev pub rule_place : ℕ → ℕ → ℕ → List ℕ
rule_place at number place =
    codes "rule[" ++ (decimal at
    ++ (codes "] load " ++ (decimal number ++ (codes " at " ++ decimal place))))

abbrev pub fault_of : ℕ → RuleFault → Option Spot → ConfigFault
fault_of at why spot = record {
  kind = Rule why.kind;
  place = rule_place at (number_of why.kind) why.place;
  spot = spot;
}

-- of the text of the rule of this place
abbrev pub rule_fault : ℕ → RuleFault → RuleText → ConfigFault
rule_fault at why text = fault_of at why (Some (spot_in at text why.place))

abbrev pub not_here : ℕ → RuleFault
not_here place = record { kind = NotHere; place = place }

-- an event that a virtual server doesn't have: as if a command stood there that its event doesn't have
abbrev pub misplaced_fault : List LoadedRule → Misplaced → ConfigFault
misplaced_fault rs m = fault_of m.rule (not_here m.place)
    (option_map (λ r. spot_in m.rule r.text m.place) (slice_get rs m.rule))
