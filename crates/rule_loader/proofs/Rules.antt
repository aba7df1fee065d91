-- The rule or the fault that is answered, once all commands are loaded.
use Rattle.std.proofs.Common.{◌≡◌, ℕ, List, [], map, Option, Some, None, sym, ap, subst, ◌∙◌}
use Rattle.std.specs.Prelude.{Ok, Err}
use Rattle.rule_loader.specs.Faults.{after_faults, told_of}
use Rattle.rule_loader.specs.Handlers.{handler_view, handlers_at}
use Rattle.rule_loader.specs.Loading.{faults_from, loaded, rule_faults, rule_in, rule_of, script_of, text_faults, unless}
use Rattle.rule_loader.specs.Outcome.{Gives, Holds}
use Rattle.rule_loader.specs.declared.load_fault.RuleFault.{RuleFault}
use Rattle.rule_loader.specs.declared.loader.Loader.{Loader}
use Rattle.rule_loader.specs.declared.rule.Rule.{Rule}
use Rattle.rule_loader.specs.declared.told.Told.{Told}
use Rattle.rule_loader.proofs.Faults.{told_twice}
use Rattle.tcl_trees.specs.Pieces.{all_commands}
use Rattle.tcl_trees.specs.Procedures.{procs_view}
use Rattle.tcl_words.specs.Tree.{Commands}
use Rattle.tcl_words.specs.declared.parse_fault.Fault.{Fault}

abbrev untold : Told
untold = record { fault = None }

-- what was read of a text, and all its commands loaded
module _ (name text : List ℕ) (r : Commands × Option Fault) (t : Told) (l : Loader) (is : script_of text ≡ r)
    (first : t ≡ after_faults (text_faults r.1) untold) (holds : Holds t (all_commands r.0) l) where
  judged : told_of (rule_faults r) ≡ l.told.fault
  judged = sym (ap (λ (u : Told). u.fault) (told_twice (text_faults r.1) (faults_from [] (all_commands r.0)) untold t l.told first holds.told))

  pub fault_given : (f : RuleFault) → l.told.fault ≡ Some f → rule_of name text ≡ Err f
  unfolding rule_of
  fault_given f some = ap (rule_in name) is ∙ ap (λ o. unless o (loaded name (all_commands r.0))) (judged ∙ some)

  loads : l.told.fault ≡ None → rule_of name text ≡ Ok (loaded name (all_commands r.0))
  unfolding rule_of
  loads none = ap (rule_in name) is ∙ ap (λ o. unless o (loaded name (all_commands r.0))) (judged ∙ none)

  pub rule_given : l.told.fault ≡ None → (rule : Rule) → rule.name ≡ name → rule.procs ≡ l.procs → rule.bodies ≡ l.bodies
      → Gives (Ok rule) (rule_of name text)
  rule_given none rule named procs bodies = subst (λ s. Gives (Ok rule) s) (sym (loads none)) (record {
    name = named;
    procedures = ap procs_view procs ∙ holds.procedures;
    bodies = λ event. ap (λ b. map handler_view (handlers_at event b)) bodies ∙ holds.bodies event;
  })
