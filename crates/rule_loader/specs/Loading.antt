-- What the text of a rule loads: its procedures and handlers in the order of their places, or its
-- fault with the least place.
use Rattle.std.specs.Prelude.{ℕ, List, [], ◌∷◌, ◌++◌, map, flat_map, Option, Some, None}
use Rattle.std.specs.Prelude.{Result, Ok, Err, Bool, is_some, if◌then◌else◌}
use Rattle.event_order.specs.declared.event.EventName.{EventName}
use Rattle.rule_loader.specs.CommandNames.{name_faults}
use Rattle.rule_loader.specs.Events.{event_of, priority_of, word_priority}
use Rattle.rule_loader.specs.Faults.{fault_at, told_of}
use Rattle.rule_loader.specs.Forms.{When, Definition, when_form, proc_form}
use Rattle.rule_loader.specs.Handlers.{Handling}
use Rattle.rule_loader.specs.Names.{is_procedure}
use Rattle.rule_loader.specs.declared.load_fault.LoadKind.TheVariants as kind
use Rattle.rule_loader.specs.declared.load_fault.RuleFault.{RuleFault}
use Rattle.tcl_trees.specs.Compiled.{examined_body, script_within}
use Rattle.tcl_trees.specs.Flaws.{place_of}
use Rattle.tcl_trees.specs.Making.{Made}
use Rattle.tcl_trees.specs.Pieces.{all_commands, all_words}
use Rattle.tcl_trees.specs.Procedures.{Procedure}
use Rattle.tcl_trees.specs.Tree.{Tree}
use Rattle.tcl_trees.specs.Words.{word_place}
use Rattle.tcl_trees.specs.declared.flaw.Flaw.{Flaw}
use Rattle.tcl_trees.specs.declared.flaw.Flaw.TheVariants as flaw
use Rattle.tcl_words.specs.Faults as words
use Rattle.tcl_words.specs.Tree.{Word, Command, command, Commands}
use Rattle.tcl_words.specs.declared.parse_fault.Fault.{Fault}
use Rattle.tcl_words.specs.declared.script.Span.{Span}

-- ---- what is wrong

abbrev pub event_faults : Word → List RuleFault
event_faults w = if is_some (event_of w) then [] else fault_at kind.NoEvent (word_place w) ∷ []

abbrev pub stated_faults : Word → List RuleFault
stated_faults w =
    if is_some (word_priority w) then [] else fault_at kind.BadPriority (word_place w) ∷ []

abbrev pub priority_faults : Option Word → List RuleFault
priority_faults None = []
priority_faults (Some w) = stated_faults w

abbrev pub flaw_faults : Option Flaw → List RuleFault
flaw_faults None = []
flaw_faults (Some f) = fault_at (kind.Parse f) (place_of f) ∷ []

-- of a body, and of all literal names in it, whatever they stand in: brackets, expressions, bodies
abbrev pub examined_faults : Option EventName → Made Tree → List RuleFault
examined_faults event r = flaw_faults r.1.flaw ++ flat_map (name_faults event) r.1.names

abbrev pub body_faults : Option EventName → Word → List RuleFault
body_faults event w = examined_faults event (examined_body w)

abbrev pub when_faults : When → List RuleFault
when_faults w =
    event_faults w.event ++ (priority_faults w.priority ++ body_faults (event_of w.event) w.body)

-- a procedure of a name that one of those before has
abbrev pub twice_faults : Bool → (place : ℕ) → List RuleFault
twice_faults is_known place = if is_known then fault_at kind.TwiceProc place ∷ [] else []

abbrev pub definition_faults : List Procedure → Definition → List RuleFault
definition_faults before d =
    twice_faults (is_procedure d.name before) d.place ++ body_faults None d.body

abbrev pub form_faults : List Procedure → (place : ℕ) → Option When → Option Definition
    → List RuleFault
form_faults before place (Some w) d = when_faults w
form_faults before place None (Some d) = definition_faults before d
form_faults before place None None = fault_at kind.NotWhen place ∷ []

abbrev pub command_faults : List Procedure → Command → List RuleFault
command_faults before (command span words) =
    form_faults before span.start (when_form (all_words words)) (proc_form (all_words words))

-- ---- what is there

abbrev pub tree_of : Word → Tree
tree_of w = (examined_body w).0

abbrev pub handling : Option EventName → Option ℕ → Tree → List Handling
handling (Some event) (Some priority) body =
    record { event = event; priority = priority; body = body } ∷ []
handling event priority body = []

abbrev pub when_handlings : Option When → List Handling
when_handlings None = []
when_handlings (Some w) = handling (event_of w.event) (priority_of w.priority) (tree_of w.body)

abbrev pub handlings_in : Command → List Handling
handlings_in (command span words) = when_handlings (when_form (all_words words))

abbrev pub procedure_of : Definition → Procedure
procedure_of d = record { name = d.name; parameters = d.parameters; body = tree_of d.body }

abbrev pub form_procedures : Option When → Option Definition → List Procedure
form_procedures None (Some d) = procedure_of d ∷ []
form_procedures w d = []

abbrev pub procedures_in : Command → List Procedure
procedures_in (command span words) =
    form_procedures (when_form (all_words words)) (proc_form (all_words words))

-- ---- of all commands, in the order of their places

abbrev pub faults_from : List Procedure → List Command → List RuleFault
faults_from before [] = []
faults_from before (c ∷ cs) =
    command_faults before c ++ faults_from (before ++ procedures_in c) cs

abbrev pub text_faults : Option Fault → List RuleFault
text_faults None = []
text_faults (Some f) = fault_at (kind.Parse (flaw.Parse f)) (words.place_of f) ∷ []

-- the text as far as it can be read as a script, and its fault; so the command that the fault cuts
-- counts too, as far as it was read
unfoldable pub script_of : List ℕ → Commands × Option Fault
script_of text = script_within 100 text

abbrev pub rule_faults : Commands × Option Fault → List RuleFault
rule_faults r = text_faults r.1 ++ faults_from [] (all_commands r.0)

-- what a rule without fault is
pub record Loaded : Type 0 where
  pub name : List ℕ
  pub procedures : List Procedure
  pub handlings : List Handling

abbrev pub loaded : List ℕ → List Command → Loaded
loaded name commands = record {
  name = name;
  procedures = flat_map procedures_in commands;
  handlings = flat_map handlings_in commands;
}

abbrev pub unless : Option RuleFault → Loaded → Result Loaded RuleFault
unless None rule = Ok rule
unless (Some f) rule = Err f

abbrev pub rule_in : List ℕ → Commands × Option Fault → Result Loaded RuleFault
rule_in name r = unless (told_of (rule_faults r)) (loaded name (all_commands r.0))

-- the rule of the name that a text is, or the fault that is told
unfoldable pub rule_of : List ℕ → List ℕ → Result Loaded RuleFault
rule_of name text = rule_in name (script_of text)
