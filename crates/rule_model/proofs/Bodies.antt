-- Commands that hold bodies, each alike where its pieces are.
use Rattle.std.proofs.Common.{subst, ℕ, zero, suc, ◌+◌, ◌*◌, List, [], ◌∷◌, Bool, true, false, Option, Some, None, Result, Ok, Err}
use Rattle.std.proofs.Common.{length, drop, codes}
use Rattle.std.specs.Prelude.{unwrap_or, slice_get}
use Rattle.px_bytes.specs.FaultText.{budget_spent, syntax_error}
use Rattle.px_bytes.specs.declared.fault.TclFault.{TclFault}
use Rattle.tcl_vars.specs.Names.{name_of}
use Rattle.tcl_vars.specs.Scopes.{Level, Scopes}
use Rattle.tcl_var_commands.specs.Assigning.{assigned}
use Rattle.rule_model.specs.Host.{HostStep}
use Rattle.rule_model.specs.Outcome.{State, Outcome, Meaning, then_code, then_value, changed}
use Rattle.rule_model.specs.declared.code.Code.{Code}
use Rattle.rule_model.specs.declared.code.Code.TheVariants.{Value, Raised, Return, Break, Continue}
use Rattle.rule_model.specs.Control.{nothing, after_body, after_next, turn, turns, Row, rows_of, row_turn, turn_assigned, most_turns, row_loop, rows_command, each_rows}
use Rattle.rule_model.specs.Control.{hit_of, unless, first_body, chosen, chosen_of, code_number, code_text, is_caught, number_changed, caught_as, caught, caught_in}
use Rattle.rule_model.proofs.Alike.{Fact, Alike, Same, SameMeaning, ends_same, code_same, then_same, if_same, spend_same, changed_same}
use Rattle.tcl_var_commands.proofs.Kept.{Changing, then_kept, assigned_kept, row_kept, turn_kept}
use Rattle.rule_model.proofs.Pieces.{then_truth_same}

abbrev pub SameOption : {H K : Type 0} (R : State H → State K → Type 0) (O : Outcome H → Outcome K → Type 0) (Q : State K → Outcome K → Type 0) → Option (Meaning H) → Option (Meaning K) → Type 0
SameOption R O Q None None = Unit {0}
SameOption R O Q None (Some n) = ⊥
SameOption R O Q (Some m) None = ⊥
SameOption R O Q (Some m) (Some n) = SameMeaning R O Q m n

abbrev pub AllBodies : {H K : Type 0} (R : State H → State K → Type 0) (O : Outcome H → Outcome K → Type 0) (Q : State K → Outcome K → Type 0) → List (Option (Meaning H)) → List (Option (Meaning K)) → Type 0
AllBodies R O Q [] [] = Unit {0}
AllBodies R O Q [] (d ∷ ds) = ⊥
AllBodies R O Q (b ∷ bs) [] = ⊥
AllBodies R O Q (b ∷ bs) (d ∷ ds) = SameOption R O Q b d × AllBodies R O Q bs ds

-- a loop's condition, its body, and what comes after each turn
pub record SameLoop {H K : Type 0} (R : State H → State K → Type 0) (O : Outcome H → Outcome K → Type 0) (Q : State K → Outcome K → Type 0) (a b d : Meaning H) (a' b' d' : Meaning K) : Type 0 where
  pub test : SameMeaning R O Q a a'
  pub body : SameMeaning R O Q b b'
  pub next : SameMeaning R O Q d d'

module _ {H K : Type 0} {t : H → List (List ℕ) → HostStep H} {u : K → List (List ℕ) → HostStep K} {V : Scopes → Scopes → Type 0} (c : Changing V)
    {R : State H → State K → Type 0} {O : Outcome H → Outcome K → Type 0} {Q : State K → Outcome K → Type 0} (s : Alike t u R O Q) (f : Fact u V Q) where
  pub nothing_same : SameMeaning R O Q nothing nothing
  nothing_same path = ends_same s f (Value [])

  body_same : (go : State H → Outcome H) (on : State K → Outcome K) → Same R O Q go on → (code : Code) → Same R O Q (after_body go code) (after_body on code)
  body_same go on h (Value v) = h
  body_same go on h (Raised e) = ends_same s f (Raised e)
  body_same go on h (Return v) = ends_same s f (Return v)
  body_same go on h Break = ends_same s f (Value [])
  body_same go on h Continue = h

  next_same : (go : State H → Outcome H) (on : State K → Outcome K) → Same R O Q go on → (code : Code) → Same R O Q (after_next go code) (after_next on code)
  next_same go on h (Value v) = h
  next_same go on h (Raised e) = ends_same s f (Raised e)
  next_same go on h (Return v) = ends_same s f (Return v)
  next_same go on h Break = ends_same s f (Value [])
  next_same go on h Continue = ends_same s f Continue

  turn_same : (n : ℕ) {x y z : Meaning H} {x' y' z' : Meaning K} → SameLoop R O Q x y z x' y' z' → (path : List ℕ) (holds : Bool) → Same R O Q (turn n x y z path holds) (turn n x' y' z' path holds)
  turn_same zero l path false = ends_same s f (Value [])
  turn_same (suc n) l path false = ends_same s f (Value [])
  turn_same zero l path true = ends_same s f (Raised budget_spent)
  turn_same (suc n) l path true =
      spend_same s f _ _ (code_same s f _ _ _ _ (l.body path) (body_same _ _ (code_same s f _ _ _ _ (l.next path) (next_same _ _ (then_truth_same s f _ _ _ _ (l.test path) (turn_same n l path))))))

  turns_same : (n : ℕ) {x y z : Meaning H} {x' y' z' : Meaning K} → SameLoop R O Q x y z x' y' z' → SameMeaning R O Q (turns n x y z) (turns n x' y' z')
  turns_same n l path = then_truth_same s f _ _ _ _ (l.test path) (turn_same n l path)

  -- as many turns as there is budget
  pub loop_same : {x y z : Meaning H} {x' y' z' : Meaning K} → SameLoop R O Q x y z x' y' z' → (path : List ℕ) → Same R O Q (λ a. turns a.budget x y z path a) (λ b. turns b.budget x' y' z' path b)
  loop_same {x} {y} {z} {x'} {y'} {z'} l path = (
    (λ a b r. subst (λ n. O (turns a.budget x y z path a) (turns n x' y' z' path b)) (s.budget a b r) ((turns_same a.budget l path).0 a b r)),
    λ b. (turns_same b.budget l path).1 b,
  )

  row_loop_same : (statics : Option Level) (rows : List Row) (m : Meaning H) (n : Meaning K) → SameMeaning R O Q m n → (k at : ℕ) → SameMeaning R O Q (row_loop statics rows m k at) (row_loop statics rows n k at)
  row_loop_same statics rows m n h zero at path = ends_same s f (Value [])
  row_loop_same statics rows m n h (suc k) at path =
      spend_same s f (λ x. then_value (changed (turn_assigned statics at rows x.vars) x) (λ v y. then_code (m path y) (after_body (row_loop statics rows m k (at + 1) path)))) (λ x. then_value (changed (turn_assigned statics at rows x.vars) x) (λ v y. then_code (n path y) (after_body (row_loop statics rows n k (at + 1) path))))
      (then_same s f _ _ _ _ (changed_same s f (turn_assigned statics at rows) (turn_kept V c (row_turn statics at) (λ row a. row_kept V c statics row.names (drop (at * length row.names) row.values) a) rows)) (λ v. code_same s f (m path) (n path) _ _ (h path) (body_same _ _ (row_loop_same statics rows m n h k (at + 1) path))))

  rows_same : (statics : Option Level) (m : Meaning H) (n : Meaning K) → SameMeaning R O Q m n → (rows : Option (List Row)) → SameMeaning R O Q (rows_command statics m rows) (rows_command statics n rows)
  rows_same statics m n h None path = ends_same s f (Raised (syntax_error (codes "foreach")))
  rows_same statics m n h (Some rows) path = row_loop_same statics rows m n h (most_turns rows) 0 path

  pub each_same : (statics : Option Level) (m : Meaning H) (n : Meaning K) → SameMeaning R O Q m n → (words : List (List ℕ)) → SameMeaning R O Q (each_rows statics m words) (each_rows statics n words)
  each_same statics m n h words = rows_same statics m n h (rows_of words)

  pub unless_same : (b : Bool) (m : Meaning H) (n : Meaning K) → SameMeaning R O Q m n → SameOption R O Q (unless b m) (unless b n)
  unless_same true m n h = tt
  unless_same false m n h = h

  option_same : (m : Option (Meaning H)) (n : Option (Meaning K)) → SameOption R O Q m n → (a : Meaning H) (b : Meaning K) → SameMeaning R O Q a b → SameMeaning R O Q (unwrap_or m a) (unwrap_or n b)
  option_same None None h a b k = k
  option_same None (Some n) h a b k = absurd h
  option_same (Some m) None h a b k = absurd h
  option_same (Some m) (Some n) h a b k = h

  first_same : (bs : List (Option (Meaning H))) (ds : List (Option (Meaning K))) → AllBodies R O Q bs ds → SameMeaning R O Q (first_body bs) (first_body ds)
  first_same [] [] h = nothing_same
  first_same [] (d ∷ ds) h = absurd h
  first_same (b ∷ bs) [] h = absurd h
  first_same (b ∷ bs) (d ∷ ds) h = option_same b d h.0 (first_body bs) (first_body ds) (first_same bs ds h.1)

  drop_same : (k : ℕ) (bs : List (Option (Meaning H))) (ds : List (Option (Meaning K))) → AllBodies R O Q bs ds → AllBodies R O Q (drop k bs) (drop k ds)
  drop_same zero bs ds h = h
  drop_same (suc k) [] [] h = tt
  drop_same (suc k) [] (d ∷ ds) h = absurd h
  drop_same (suc k) (b ∷ bs) [] h = absurd h
  drop_same (suc k) (b ∷ bs) (d ∷ ds) h = drop_same k bs ds h.1

  chosen_same : (hit : Result (Option ℕ) TclFault) (bs : List (Option (Meaning H))) (ds : List (Option (Meaning K))) → AllBodies R O Q bs ds → SameMeaning R O Q (chosen hit bs) (chosen hit ds)
  chosen_same (Ok (Some k)) bs ds h path = first_same (drop k bs) (drop k ds) (drop_same k bs ds h) path
  chosen_same (Ok None) bs ds h path = ends_same s f (Value [])
  chosen_same (Err e) bs ds h path = ends_same s f (Raised e)

  pub chosen_of_same : (front : ℕ) (bs : List (Option (Meaning H))) (ds : List (Option (Meaning K))) → AllBodies R O Q bs ds → (words : List (List ℕ)) → SameMeaning R O Q (chosen_of front bs words) (chosen_of front ds words)
  chosen_of_same front bs ds h words = chosen_same (hit_of front words) bs ds h

  caught_as_same : (statics : Option Level) (name : Option (List ℕ)) (code : Code) → Same R O Q (caught_as statics name code) (caught_as statics name code)
  caught_as_same statics None code = ends_same s f (Value (code_number code))
  caught_as_same statics (Some name) code =
      changed_same s f (number_changed statics name code) (λ v.
      then_kept V c (assigned statics (name_of name) (code_text code) v) v _ (assigned_kept V c statics (name_of name) (code_text code) v) (λ text a. c.same a))

  caught_same : (statics : Option Level) (name : Option (List ℕ)) (code : Code) → Same R O Q (caught statics name code) (caught statics name code)
  caught_same statics name code = if_same s f (is_caught code) _ _ _ _ (caught_as_same statics name code) (ends_same s f code)

  pub caught_in_same : (statics : Option Level) (m : Meaning H) (n : Meaning K) → SameMeaning R O Q m n → (words : List (List ℕ)) → SameMeaning R O Q (caught_in statics m words) (caught_in statics n words)
  caught_in_same statics m n h words path = code_same s f (m path) (n path) _ _ (h path) (caught_same statics (slice_get words 0))
