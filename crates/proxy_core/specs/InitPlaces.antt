-- The same by the places where RULE_INIT bodies stand, as the code goes through them.
use Rattle.std.specs.Prelude.{ℕ, List, [], ◌∷◌, Option, Some, None}
use Rattle.event_order.specs.declared.event.EventName.TheVariants.{RuleInit}
use Rattle.rule_model.specs.Outcome.{uncaught_of}
use Rattle.plain_eval.specs.Plain.{code_of}
use Rattle.plain_eval.specs.declared.plain.Plain.{Plain}
use Rattle.plain_eval.specs.declared.plain.Plain.TheVariants.{Done, Waits}
use Rattle.conn_trace.specs.Setup.{Handler}
use Rattle.conn.specs.Setups.{body_in}
use Rattle.conn.specs.declared.setup.Place.{Place}
use Rattle.record_model.specs.Init.{fault_lines, ran}
use Rattle.run_config.specs.declared.config.Config.{Config}
use Rattle.record_model.specs.declared.left.Left.{Left}

-- the line of a fault that a body which comes to this leaves
abbrev pub plain_lines : List ℕ → Plain → List (List ℕ)
plain_lines rule (Done code used) = fault_lines rule (uncaught_of (code_of code))
plain_lines rule (Waits call) = []

abbrev pub ran_by : Config → Left → Option Handler → Left
ran_by C s None = s
ran_by C s (Some b) = ran C b s

abbrev pub place_ran : Config → Left → Place → Left
place_ran C s p = ran_by C s (body_in C.rules RuleInit p)

abbrev pub places_ran : Config → List Place → Left → Left
places_ran C [] s = s
places_ran C (p ∷ ps) s = places_ran C ps (place_ran C s p)
