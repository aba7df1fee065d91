-- Commands whose words are all evaluated first, each alike where what it evaluates is.
use Rattle.std.proofs.Common.{subst, ℕ, List, [], ◌∷◌, Option, Some, None}
use Rattle.std.proofs.Common.{Result, Ok, Err, map}
use Rattle.px_bytes.specs.declared.fault.TclFault.{TclFault}
use Rattle.tcl_commands.specs.Kind.{is_pure}
use Rattle.tcl_commands.specs.PureCommand.{pure_value}
use Rattle.tcl_trees.specs.Procedures.{Procedure}
use Rattle.tcl_trees.specs.Tree.{Tree}
use Rattle.tcl_trees.specs.declared.node.Verb.{Verb}
use Rattle.tcl_trees.specs.declared.node.Verb.TheVariants as verb
use Rattle.tcl_vars.specs.Scopes.{Level, Scopes, in_proc}
use Rattle.tcl_var_commands.specs.Append.{append_changed}
use Rattle.tcl_var_commands.specs.Array.{array_changed}
use Rattle.tcl_var_commands.specs.Assigning.{row_assigned}
use Rattle.tcl_var_commands.specs.Incr.{incr_changed}
use Rattle.tcl_var_commands.specs.Info.{info_changed}
use Rattle.tcl_var_commands.specs.Lappend.{lappend_changed}
use Rattle.tcl_var_commands.specs.Set.{set_changed}
use Rattle.tcl_var_commands.specs.Unset.{unset_changed}
use Rattle.rule_model.specs.Host.{HostStep}
use Rattle.rule_model.specs.Outcome.{State, Outcome, Ends, Meaning, then_value, code_of, changed, answered}
use Rattle.rule_model.specs.declared.code.Code.TheVariants.{Value, Raised, Break, Continue}
use Rattle.rule_model.specs.Setting.{Setting, Inner}
use Rattle.rule_model.specs.Children.{alone}
use Rattle.rule_model.specs.Commands.{named_command, return_code, error_code, too_deep, deeper, expression_of, expression_read, Bound, bound_of, entered, called, command}
use Rattle.rule_model.proofs.Alike.{Fact, Alike, Same, SameMeaning, with_vars, ends_same, then_same, if_same, paid_same, changed_same}
use Rattle.tcl_var_commands.proofs.Kept.{Changing, row_kept, set_kept, unset_kept, incr_kept, append_kept, lappend_kept, array_kept, info_kept}
use Rattle.rule_model.proofs.Pieces.{whole_same}

abbrev pub SameDeeper : {H K : Type 0} (R : State H → State K → Type 0) (O : Outcome H → Outcome K → Type 0) (Q : State K → Outcome K → Type 0) → Option (Tree → Meaning H) → Option (Tree → Meaning K) → Type 0
SameDeeper R O Q None None = Unit {0}
SameDeeper R O Q None (Some n) = ⊥
SameDeeper R O Q (Some m) None = ⊥
SameDeeper R O Q (Some m) (Some n) = (tree : Tree) → SameMeaning R O Q (m tree) (n tree)

pub record SameInner {H K : Type 0} (R : State H → State K → Type 0) (O : Outcome H → Outcome K → Type 0) (Q : State K → Outcome K → Type 0) (i : Inner H) (j : Inner K) : Type 0 where
  pub call : SameDeeper R O Q i.call j.call
  pub expression : SameDeeper R O Q i.expression j.expression

module _ {H K : Type 0} {t : H → List (List ℕ) → HostStep H} {u : K → List (List ℕ) → HostStep K} {V : Scopes → Scopes → Type 0} (c : Changing V)
    {R : State H → State K → Type 0} {O : Outcome H → Outcome K → Type 0} {Q : State K → Outcome K → Type 0} (s : Alike t u R O Q) (f : Fact u V Q)
    (statics : Option Level) (procedures : List Procedure) where
  abbrev g : Setting H
  g = record { statics = statics; table = t; procedures = procedures }

  abbrev q : Setting K
  q = record { statics = statics; table = u; procedures = procedures }

  answers_same : (words path : _) → Same R O Q (λ a. answered (t a.host words) path a) (λ b. answered (u b.host words) path b)
  answers_same words path = ((λ a b r. s.answers a b words path r), λ b. f.answers b words path)

  named_same : (words : List (List ℕ)) → SameMeaning R O Q (named_command g words) (named_command q words)
  named_same [] path = ends_same s f (Value [])
  named_same (name ∷ words) path = if_same s f (is_pure name) _ _ _ _ (ends_same s f (code_of (pure_value (name ∷ words)))) (answers_same (name ∷ words) path)

  deeper_same : (m : Option (Tree → Meaning H)) (n : Option (Tree → Meaning K)) → SameDeeper R O Q m n → (tree : Tree) → SameMeaning R O Q (deeper m tree) (deeper n tree)
  deeper_same None None h tree path = ends_same s f (Raised too_deep)
  deeper_same None (Some n) h tree path = absurd h
  deeper_same (Some m) None h tree path = absurd h
  deeper_same (Some m) (Some n) h tree path = h tree path

  read_same : (i : Inner H) (j : Inner K) → SameInner R O Q i j → (result : Result Tree TclFault) → SameMeaning R O Q (expression_read i result) (expression_read j result)
  read_same i j h (Ok tree) path =
      whole_same s f _ _ (paid_same s f (alone tree) (deeper i.expression tree path) (deeper j.expression tree path) (deeper_same i.expression j.expression h.expression tree path))
  read_same i j h (Err e) path = ends_same s f (Raised e)

  bound_both : (i : Inner H) (j : Inner K) → SameInner R O Q i j → (p : Procedure) (names values : List (List ℕ)) (path : List ℕ) (a : State H) (b : State K) → R a b
      → O (then_value (changed (row_assigned statics names values (in_proc a.vars)) a) (λ v x. deeper i.call p.body path x)) (then_value (changed (row_assigned statics names values (in_proc b.vars)) b) (λ v x. deeper j.call p.body path x))
  bound_both i j h p names values path a b r =
      let go = λ (v : List ℕ) (x : State H). deeper i.call p.body path x in
      let on = λ (v : List ℕ) (x : State K). deeper j.call p.body path x in
      subst (λ v. O (then_value (changed (row_assigned statics names values (in_proc a.vars)) a) go) (then_value (changed (row_assigned statics names values (in_proc v)) b) on)) (s.vars a b r)
      ((then_same s f (Ends (code_of (row_assigned statics names values (in_proc a.vars)).value)) (Ends (code_of (row_assigned statics names values (in_proc a.vars)).value)) go on
      (ends_same s f (code_of (row_assigned statics names values (in_proc a.vars)).value)) (λ v. deeper_same i.call j.call h.call p.body path)).0
      (with_vars (row_assigned statics names values (in_proc a.vars)).vars a) (with_vars (row_assigned statics names values (in_proc a.vars)).vars b) (s.sets a b _ r))

  entered_same : (i : Inner H) (j : Inner K) → SameInner R O Q i j → (b : Bound) → SameMeaning R O Q (entered g i b) (entered q j b)
  entered_same i j h b path =
      let p = b.procedure in
      let names = map (λ x. x.name) p.parameters in
      let on = λ (v : List ℕ) (x : State K). deeper j.call p.body path x in (
        (λ x y r. s.leaves _ _ (bound_both i j h p names b.values path x y r)),
        λ y.
            let after = row_assigned statics names b.values (in_proc y.vars) in
            f.calls y after.vars _ (row_kept V c statics names b.values (in_proc y.vars))
            ((then_same s f (Ends (code_of after.value)) (Ends (code_of after.value)) (λ (v : List ℕ) (x : State H). deeper i.call p.body path x) on (ends_same s f (code_of after.value)) (λ v. deeper_same i.call j.call h.call p.body path)).1 (with_vars after.vars y)),
      )

  called_same : (i : Inner H) (j : Inner K) → SameInner R O Q i j → (result : Result Bound TclFault) → SameMeaning R O Q (called g i result) (called q j result)
  called_same i j h (Ok b) path = entered_same i j h b path
  called_same i j h (Err e) path = ends_same s f (Raised e)

  pub command_same : (i : Inner H) (j : Inner K) → SameInner R O Q i j → (v : Verb) (words : List (List ℕ)) → SameMeaning R O Q (command g i v words) (command q j v words)
  command_same i j h verb.Named words path = named_same words path
  command_same i j h verb.Computed words path = named_same words path
  command_same i j h verb.Set words path = changed_same s f (set_changed statics words) (set_kept V c statics words)
  command_same i j h verb.Unset words path = changed_same s f (unset_changed statics words) (unset_kept V c statics words)
  command_same i j h verb.Incr words path = changed_same s f (incr_changed statics words) (incr_kept V c statics words)
  command_same i j h verb.Append words path = changed_same s f (append_changed statics words) (append_kept V c statics words)
  command_same i j h verb.Lappend words path = changed_same s f (lappend_changed statics words) (lappend_kept V c statics words)
  command_same i j h verb.Array words path = changed_same s f (array_changed statics words) (array_kept V c statics words)
  command_same i j h verb.Info words path = changed_same s f (info_changed statics words) (info_kept V c statics words)
  command_same i j h verb.Return words path = ends_same s f (return_code words)
  command_same i j h verb.Break words path = ends_same s f Break
  command_same i j h verb.Continue words path = ends_same s f Continue
  command_same i j h verb.Error words path = ends_same s f (error_code words)
  command_same i j h verb.Call words path = called_same i j h (bound_of procedures words) path
  command_same i j h verb.ExprOfWords words path = read_same i j h (expression_of words) path
