-- What the rules' RULE_INIT leave: the static variables, and the lines that they log (iRules,
-- RULE_INIT: "triggered when the system loads the iRule"; static: variables that every connection
-- reads). The bodies run rule by rule, those of a rule in their order; each begins without any
-- other variable, and its other variables end with it. A fault that a body leaves is logged, and
-- what it set stays.
use Rattle.std.specs.Prelude.{ℕ, zero, suc, List, [], ◌∷◌, ◌++◌, flat_map, length, map, false}
use Rattle.std.specs.Prelude.{Option, Some, None}
use Rattle.px_bytes.specs.Host.{Effect, HostStep, Gives, Faults, Asks, Logged, Sent}
use Rattle.px_bytes.specs.declared.addr.Addr.{Addr}
use Rattle.px_bytes.specs.declared.fault.TclFault.{TclFault}
use Rattle.tcl_trees.specs.Procedures.{Procedure}
use Rattle.tcl_vars.specs.Scopes.{in_proc, no_scopes, out_of_proc}
use Rattle.event_order.specs.declared.event.EventName.TheVariants.{RuleInit}
use Rattle.irule_net.specs.State.{new_state}
use Rattle.irule_net.specs.declared.groups.Groups.{Groups}
use Rattle.irule_net.specs.declared.state.NetState.{NetState}
use Rattle.rule_model.specs.Evaluator.{evaluate}
use Rattle.rule_model.specs.Outcome.{Outcome, Ends, Waits, uncaught_of}
use Rattle.rule_model.specs.Setting.{Setting}
use Rattle.conn_trace.specs.Host.{HostState, commands}
use Rattle.conn_trace.specs.Setup.{Handler, uncaught_line}
use Rattle.record_model.specs.Bodies.{bodies_of}
use Rattle.record_model.specs.declared.left.Left.{Left}
use Rattle.run_config.specs.declared.config.Config.{Config}

-- ---- the host

-- what the commands of RULE_INIT read and leave, and what they did outside the script
pub record InitHost : Type 0 where
  pub net : NetState
  pub made : List Effect

-- no connection stands behind it, and nothing was made
abbrev pub no_addr : Addr
no_addr = record { ip = 0; port = 0 }

abbrev pub init_host : InitHost
init_host = record { net = new_state no_addr 0 [] false; made = [] }

-- what was made is kept
abbrev pub kept_with : InitHost → HostState → List Effect → InitHost
kept_with h s es = record { net = s.net; made = h.made ++ es }

abbrev pub kept : InitHost → HostStep HostState → HostStep InitHost
kept h (Gives v s es) = Gives v (kept_with h s es) es
kept h (Faults f s es) = Faults f (kept_with h s es) es
kept h (Asks call s) = Asks call (kept_with h s [])

abbrev pub init_table : Groups → InitHost → List (List ℕ) → HostStep InitHost
init_table groups h words = kept h (commands groups (record { event = RuleInit; net = h.net; http = None }) words)

abbrev pub init_setting : Groups → List Procedure → Setting InitHost
init_setting groups procedures =
    record { statics = None; table = init_table groups; procedures = procedures }

-- ---- what a body leaves

abbrev pub line_of : Effect → List (List ℕ)
line_of (Logged text) = text ∷ []
line_of (Sent side bytes) = []

-- the lines that effects log
abbrev pub lines_in : List Effect → List (List ℕ)
lines_in es = flat_map line_of es

-- the line of a fault that a rule's body left
abbrev pub fault_lines : List ℕ → Option TclFault → List (List ℕ)
fault_lines rule None = []
fault_lines rule (Some f) = uncaught_line rule RuleInit f.text ∷ []

-- where a body ends so; none waits, as no command of RULE_INIT asks a shared call
abbrev pub ended : List ℕ → Left → Outcome InitHost → Left
ended rule s (Ends code st) = record {
  vars = out_of_proc st.vars;
  lines = s.lines ++ lines_in st.host.made ++ fault_lines rule (uncaught_of code);
}
ended rule s (Waits path call st) =
    record { vars = out_of_proc st.vars; lines = s.lines ++ lines_in st.host.made }

-- a body runs
unfoldable pub ran : Config → Handler → Left → Left
ran C b s =
    ended b.rule s
    (evaluate (init_setting C.groups b.procedures) b.body (in_proc s.vars) init_host [] C.budget)

-- ---- one body after another

abbrev pub all_ran : Config → List Handler → Left → Left
all_ran C [] s = s
all_ran C (b ∷ bs) s = all_ran C bs (ran C b s)

-- the RULE_INIT bodies of the rule of this number, in their order
abbrev pub init_bodies : Config → ℕ → List Handler
init_bodies C n = map (λ b. b.handler) (bodies_of C.rules (n ∷ []) RuleInit)

-- those of the first n rules
abbrev pub rules_ran : Config → ℕ → Left → Left
rules_ran C zero s = s
rules_ran C (suc n) s = all_ran C (init_bodies C n) (rules_ran C n s)

abbrev pub nothing_left : Left
nothing_left = record { vars = no_scopes; lines = [] }

-- what all rules leave
unfoldable pub init : Config → Left
init C = rules_ran C (length C.rules) nothing_left
