-- What a command and a host's answer come to.
use Rattle.std.proofs.Common.{◌≡◌, refl, ap, ◌∙◌, sym, ℕ, List, [], ◌∷◌, map, Bool, true, false, Some, None, append-nil}
use Rattle.px_bytes.specs.declared.fault.HostAnswer.TheVariants as answer
use Rattle.px_bytes.specs.declared.fault.TclFault.{TclFault}
use Rattle.tcl_trees.specs.declared.node.Verb.{Verb}
use Rattle.tcl_trees.specs.declared.node.Verb.TheVariants as verb
use Rattle.tcl_vars.specs.Scopes.{Scopes}
use Rattle.rule_model.specs.Commands.{command, named_command}
use Rattle.rule_model.specs.Host.{Effect, HostStep, Gives, Faults, Asks}
use Rattle.rule_model.specs.Outcome.{Did, State, Ends, answered, heard, heard_code, state}
use Rattle.rule_model.specs.Setting.{Setting, Inner}
use Rattle.rule_model.specs.declared.code.Code.{Code}
use Rattle.rule_model.specs.declared.code.Code.TheVariants.{Value, Raised}
use Rattle.rule_nodes.specs.Own.{is_own, is_pure_call, named_code, own_done}
use Rattle.px_bytes.specs.Answered.{DidStep}
use Rattle.frame_words.specs.Commands.{Answers, Finished}
use Rattle.frames.specs.Went.{effects_in}
use Rattle.frame_words.specs.declared.commands.Done.{Done}
use Rattle.frame_words.specs.declared.commands.Done.TheVariants as done

effects_did : (es : List Effect) → effects_in (map Did es) ≡ es
effects_did [] = refl
effects_did (e ∷ es) = ap (λ l. e ∷ l) (effects_did es)

pub answers_value : {H : Type 0} (step : HostStep H) (after : H) (v : List ℕ) (made : List Effect → Type 0)
    → DidStep step (answer.Value v) after made → Answers step after (done.Ends (Value v)) made
answers_value (Gives w h es) after v made d = record {
  acts = map Did es;
  same = λ p vars k more budget cost before. rw (d.0, d.1) refl;
  by = rw (effects_did es) d.2;
  once = (d.1, refl);
}
answers_value (Faults w h es) after v made d = absurd d
answers_value (Asks call h) after v made d = absurd d

pub answers_fault : {H : Type 0} (step : HostStep H) (after : H) (f : TclFault) (made : List Effect → Type 0)
    → DidStep step (answer.Fault f) after made → Answers step after (done.Ends (Raised f)) made
answers_fault (Gives w h es) after f made d = absurd d
answers_fault (Faults e h es) after f made d = record {
  acts = map Did es;
  same = λ p vars k more budget cost before. rw (d.0, d.1) refl;
  by = rw (effects_did es) d.2;
  once = (d.1, refl);
}
answers_fault (Asks call h) after f made d = absurd d

pub answers_ask : {H : Type 0} (step : HostStep H) (after : H) (call : List (List ℕ))
    (made : List Effect → Type 0) → DidStep step (answer.Ask call) after made
    → Answers step after (done.Asks call) made
answers_ask (Gives w h es) after call made d = absurd d
answers_ask (Faults e h es) after call made d = absurd d
answers_ask (Asks asked h) after call made d = record {
  acts = [];
  same = λ p vars k more budget cost before. rw (d.0, d.1, append-nil) refl;
  by = d.2;
  once = (d.1, refl);
}

module _ {H : Type 0} (g : Setting H) (i : Inner H) where
  host_named : (ws : List (List ℕ)) (path : List ℕ) (st : State H) → is_pure_call ws ≡ false
      → named_command g ws path st ≡ answered (g.table st.host ws) path st
  host_named [] path st is = cc
  host_named (name ∷ ws) path st is = rw is refl

  -- one of the host
  host_by : (v : Verb) (ws : List (List ℕ)) (path : List ℕ) (st : State H) → (v ≡ verb.Call → ⊥)
      → (v ≡ verb.ExprOfWords → ⊥) → is_own v ws ≡ false
      → command g i v ws path st ≡ answered (g.table st.host ws) path st
  host_by verb.Named ws path st a b is = host_named ws path st is
  host_by verb.Computed ws path st a b is = host_named ws path st is
  host_by verb.Call ws path st a b is = absurd (a refl)
  host_by verb.ExprOfWords ws path st a b is = absurd (b refl)
  host_by other ws path st a b is = cc

  own_named : (ws : List (List ℕ)) (path : List ℕ) (st : State H) → is_pure_call ws ≡ true
      → named_command g ws path st ≡ Ends (named_code ws) st
  own_named [] path st is = refl
  own_named (name ∷ ws) path st is = rw is refl

  -- one of the language
  own_by : (v : Verb) (ws : List (List ℕ)) (path : List ℕ) (st : State H) → is_own v ws ≡ true
      → command g i v ws path st ≡ Ends (own_done g.statics v ws st.vars).code
      (record st { vars = (own_done g.statics v ws st.vars).vars })
  own_by verb.Named ws path st is = own_named ws path st is
  own_by verb.Computed ws path st is = own_named ws path st is
  own_by verb.Call ws path st is = absurd (cc is)
  own_by verb.ExprOfWords ws path st is = absurd (cc is)
  own_by other ws path st is = refl

pub finished_host : {H : Type 0} (g : Setting H) (w : Bool) (v : Verb) (ws : List (List ℕ)) (vars : Scopes)
    (h after : H) (d : Done) (made : List Effect → Type 0) → (v ≡ verb.Call → ⊥) → (v ≡ verb.ExprOfWords → ⊥)
    → is_own v ws ≡ false
    → Answers (g.table h ws) after d made → Finished g w v ws vars vars h after d made
finished_host g w v ws vars h after d made a b is ans = record {
  acts = ans.acts;
  same = λ i p more budget cost before. ap (heard w)
      (host_by g i v ws p (state vars h more budget cost before) a b is
      ∙ ans.same p vars h more budget cost before);
  by = ans.by;
  called = Some ws;
  once = ans.once;
}

pub finished_own : {H : Type 0} (g : Setting H) (w : Bool) (v : Verb) (ws : List (List ℕ))
    (vars vars' : Scopes) (h : H) (c : Code) (made : List Effect → Type 0) → is_own v ws ≡ true
    → heard_code w c ≡ heard_code w (own_done g.statics v ws vars).code
    → vars' ≡ (own_done g.statics v ws vars).vars → made []
    → Finished g w v ws vars vars' h h (done.Ends c) made
finished_own g w v ws vars vars' h c made is e f m = record {
  acts = [];
  same = λ i p more budget cost before.
      ap (heard w) (own_by g i v ws p (state vars h more budget cost before) is)
      ∙ rw (append-nil, f) (ap (λ x. Ends x
      (state (own_done g.statics v ws vars).vars h more budget cost before)) (sym e));
  by = m;
  called = None;
  once = (refl, refl);
}
