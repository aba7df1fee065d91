-- Words, commands one after another, and expressions, each alike where its pieces are.
use Rattle.std.proofs.Common.{◌≡◌, subst, ℕ, List, [], ◌∷◌, ◌++◌, Bool, true, false, Option, Some, None}
use Rattle.std.proofs.Common.{nat_lt, length, Result, Ok, Err}
use Rattle.std.specs.Prelude.{sum_by}
use Rattle.px_bytes.specs.FaultText.{too_long}
use Rattle.px_bytes.specs.Limit.{text_limit}
use Rattle.px_bytes.specs.declared.fault.TclFault.{TclFault}
use Rattle.tcl_expr.specs.OperatorFaults.{not_truth}
use Rattle.tcl_expr.specs.Truth.{truth}
use Rattle.tcl_expr.specs.declared.expr.Joint.{Joint}
use Rattle.tcl_expr.specs.declared.operator.Op1.{Op1}
use Rattle.tcl_trees.specs.WholeResult.{whole_result}
use Rattle.tcl_vars.specs.Scopes.{Scopes}
use Rattle.rule_model.specs.Host.{HostStep}
use Rattle.rule_model.specs.Outcome.{State, Outcome, Meaning, then_value, ends, code_of}
use Rattle.rule_model.specs.declared.code.Code.TheVariants.{Value, Raised}
use Rattle.rule_model.specs.Words.{after_piece, in_word, told, word_at, after_word, in_order, commands}
use Rattle.rule_model.specs.Expressions.{by_truth, then_truth, by_value, prefixed_value, prefixes, decided_by, decided, joint_value, joined_value, operands, row, after_test, first_true, whole}
use Rattle.rule_model.proofs.Alike.{Fact, Alike, Same, SameMeaning, ends_same, then_same, if_same, paid_same, spend_same}

abbrev pub AllSame : {H K : Type 0} (R : State H → State K → Type 0) (O : Outcome H → Outcome K → Type 0) (Q : State K → Outcome K → Type 0) → List (Meaning H) → List (Meaning K) → Type 0
AllSame R O Q [] [] = Unit {0}
AllSame R O Q [] (n ∷ ns) = ⊥
AllSame R O Q (m ∷ ms) [] = ⊥
AllSame R O Q (m ∷ ms) (n ∷ ns) = SameMeaning R O Q m n × AllSame R O Q ms ns

abbrev pub AllJoined : {H K : Type 0} (R : State H → State K → Type 0) (O : Outcome H → Outcome K → Type 0) (Q : State K → Outcome K → Type 0) → List (Joint × Meaning H) → List (Joint × Meaning K) → Type 0
AllJoined R O Q [] [] = Unit {0}
AllJoined R O Q [] (n ∷ ns) = ⊥
AllJoined R O Q (m ∷ ms) [] = ⊥
AllJoined R O Q (m ∷ ms) (n ∷ ns) = (m.0 ≡ n.0) × SameMeaning R O Q m.1 n.1 × AllJoined R O Q ms ns

abbrev pub AllPaired : {H K : Type 0} (R : State H → State K → Type 0) (O : Outcome H → Outcome K → Type 0) (Q : State K → Outcome K → Type 0) → List (Meaning H × Meaning H) → List (Meaning K × Meaning K) → Type 0
AllPaired R O Q [] [] = Unit {0}
AllPaired R O Q [] (n ∷ ns) = ⊥
AllPaired R O Q (m ∷ ms) [] = ⊥
AllPaired R O Q (m ∷ ms) (n ∷ ns) = SameMeaning R O Q m.0 n.0 × SameMeaning R O Q m.1 n.1 × AllPaired R O Q ms ns

module _ {H K : Type 0} {t : H → List (List ℕ) → HostStep H} {u : K → List (List ℕ) → HostStep K} {V : Scopes → Scopes → Type 0}
    {R : State H → State K → Type 0} {O : Outcome H → Outcome K → Type 0} {Q : State K → Outcome K → Type 0} (s : Alike t u R O Q) (f : Fact u V Q) where
  piece_same : (go : List ℕ → Meaning H) (on : List ℕ → Meaning K) → ((text : List ℕ) → SameMeaning R O Q (go text) (on text)) → (text path piece : List ℕ) → Same R O Q (after_piece go text path piece) (after_piece on text path piece)
  piece_same go on k text path piece =
      if_same s f (nat_lt text_limit (length (text ++ piece))) _ _ _ _ (ends_same s f (Raised too_long)) (k (text ++ piece) path)

  pub in_word_same : (finish : List ℕ → Meaning H) (on : List ℕ → Meaning K) → ((text : List ℕ) → SameMeaning R O Q (finish text) (on text))
      → (ms : List (Meaning H)) (ns : List (Meaning K)) → AllSame R O Q ms ns → (text : List ℕ) → SameMeaning R O Q (in_word finish ms text) (in_word on ns text)
  in_word_same finish on k [] [] h text path = k text path
  in_word_same finish on k [] (n ∷ ns) h text path = absurd h
  in_word_same finish on k (m ∷ ms) [] h text path = absurd h
  in_word_same finish on k (m ∷ ms) (n ∷ ns) h text path =
      then_same s f (m path) (n path) _ _ (h.0 path) (piece_same _ _ (in_word_same finish on k ms ns h.1) text path)

  pub told_same : (text : List ℕ) → SameMeaning R O Q (told text) (told text)
  told_same text path = ends_same s f (Value text)

  pub word_at_same : (k : ℕ) (ms : List (Meaning H)) (ns : List (Meaning K)) → AllSame R O Q ms ns → SameMeaning R O Q (word_at k ms) (word_at k ns)
  word_at_same k ms ns h path = in_word_same told told told_same ms ns h [] (path ++ k ∷ [])

  word_same : (go : List (List ℕ) → Meaning H) (on : List (List ℕ) → Meaning K) → ((words : List (List ℕ)) → SameMeaning R O Q (go words) (on words))
      → (done : List (List ℕ)) (path word : List ℕ) → Same R O Q (after_word go done path word) (after_word on done path word)
  word_same go on k done path word =
      if_same s f (nat_lt text_limit (sum_by length (done ++ word ∷ []))) _ _ _ _ (ends_same s f (Raised too_long)) (k (done ++ word ∷ []) path)

  pub in_order_same : (finish : List (List ℕ) → Meaning H) (on : List (List ℕ) → Meaning K) → ((words : List (List ℕ)) → SameMeaning R O Q (finish words) (on words))
      → (ms : List (Meaning H)) (ns : List (Meaning K)) → AllSame R O Q ms ns → (done : List (List ℕ)) → SameMeaning R O Q (in_order finish ms done) (in_order on ns done)
  in_order_same finish on k [] [] h done path = k done path
  in_order_same finish on k [] (n ∷ ns) h done path = absurd h
  in_order_same finish on k (m ∷ ms) [] h done path = absurd h
  in_order_same finish on k (m ∷ ms) (n ∷ ns) h done path =
      then_same s f (m path) (n path) _ _ (h.0 path) (word_same _ _ (in_order_same finish on k ms ns h.1) done path)

  pub commands_same : (ms : List (Meaning H)) (ns : List (Meaning K)) → AllSame R O Q ms ns → (v : List ℕ) → SameMeaning R O Q (commands ms v) (commands ns v)
  commands_same [] [] h v path = ends_same s f (Value v)
  commands_same [] (n ∷ ns) h v path = absurd h
  commands_same (m ∷ ms) [] h v path = absurd h
  commands_same (m ∷ ms) (n ∷ ns) h v path =
      spend_same s f (λ a. then_value (m path a) (λ w b. commands ms w path b)) (λ a. then_value (n path a) (λ w b. commands ns w path b))
      (then_same s f (m path) (n path) _ _ (h.0 path) (λ w. commands_same ms ns h.1 w path))

  pub truth_same : (holds : Option Bool) (v : List ℕ) (go : Bool → State H → Outcome H) (on : Bool → State K → Outcome K) → ((b : Bool) → Same R O Q (go b) (on b)) → Same R O Q (by_truth holds v go) (by_truth holds v on)
  truth_same (Some b) v go on k = k b
  truth_same None v go on k = ends_same s f (Raised (not_truth v))

  pub then_truth_same : (m : State H → Outcome H) (n : State K → Outcome K) (go : Bool → State H → Outcome H) (on : Bool → State K → Outcome K)
      → Same R O Q m n → ((b : Bool) → Same R O Q (go b) (on b)) → Same R O Q (λ a. then_truth (m a) go) (λ b. then_truth (n b) on)
  then_truth_same m n go on h k = then_same s f m n _ _ h (λ v. truth_same (truth v) v go on k)

  value_same : (result : Result (List ℕ) TclFault) (go : List ℕ → State H → Outcome H) (on : List ℕ → State K → Outcome K) → ((v : List ℕ) → Same R O Q (go v) (on v)) → Same R O Q (by_value result go) (by_value result on)
  value_same (Ok v) go on k = k v
  value_same (Err e) go on k = ends_same s f (Raised e)

  pub prefixes_same : (ops : List Op1) (m : Meaning H) (n : Meaning K) → SameMeaning R O Q m n → SameMeaning R O Q (prefixes ops m) (prefixes ops n)
  prefixes_same ops m n h path =
      then_same s f (m path) (n path) _ _ (h path) (λ v.
      paid_same s f (length ops) (ends (prefixed_value ops v)) (ends (prefixed_value ops v)) (ends_same s f (code_of (prefixed_value ops v))))

  decided_same : (d : Result (Option (List ℕ)) TclFault) (go : State H → Outcome H) (on : State K → Outcome K) → Same R O Q go on → Same R O Q (decided d go) (decided d on)
  decided_same (Ok None) go on k = k
  decided_same (Ok (Some v)) go on k = ends_same s f (Value v)
  decided_same (Err e) go on k = ends_same s f (Raised e)

  joined_same : (go : List ℕ → Meaning H) (on : List ℕ → Meaning K) → ((v : List ℕ) → SameMeaning R O Q (go v) (on v))
      → (joint : Joint) (left path right : List ℕ) → Same R O Q (joined_value go joint left path right) (joined_value on joint left path right)
  joined_same go on k joint left path right = value_same (joint_value joint left right) _ _ (λ v. k v path)

  operand_same : (joint : Joint) (m : Meaning H) (n : Meaning K) (ms : List (Joint × Meaning H)) (ns : List (Joint × Meaning K)) (v path : List ℕ) → Same R O Q (m path) (n path)
      → ((x : List ℕ) → SameMeaning R O Q (operands ms x) (operands ns x)) → Same R O Q (operands ((joint, m) ∷ ms) v path) (operands ((joint, n) ∷ ns) v path)
  operand_same joint m n ms ns v path h k =
      paid_same s f 1 _ _ (decided_same (decided_by joint v) _ _ (then_same s f (m path) (n path) _ _ h (joined_same _ _ k joint v path)))

  pub operands_same : (ms : List (Joint × Meaning H)) (ns : List (Joint × Meaning K)) → AllJoined R O Q ms ns → (v : List ℕ) → SameMeaning R O Q (operands ms v) (operands ns v)
  operands_same [] [] h v path = ends_same s f (Value v)
  operands_same [] (n ∷ ns) h v path = absurd h
  operands_same (m ∷ ms) [] h v path = absurd h
  operands_same (m ∷ ms) (n ∷ ns) h v path =
      subst (λ j. Same R O Q (operands (m ∷ ms) v path) (operands ((j, n.1) ∷ ns) v path)) h.0
      (operand_same m.0 m.1 n.1 ms ns v path (h.1 path) (operands_same ms ns h.2))

  pub row_same : (m : Meaning H) (n : Meaning K) → SameMeaning R O Q m n → (ms : List (Joint × Meaning H)) (ns : List (Joint × Meaning K)) → AllJoined R O Q ms ns → SameMeaning R O Q (row m ms) (row n ns)
  row_same m n h ms ns k path = then_same s f (m path) (n path) _ _ (h path) (λ v. operands_same ms ns k v path)

  test_same : (v : Meaning H) (w : Meaning K) → SameMeaning R O Q v w → (rest : Meaning H) (more : Meaning K) → SameMeaning R O Q rest more → (path : List ℕ) (holds : Bool)
      → Same R O Q (after_test v rest path holds) (after_test w more path holds)
  test_same v w h rest more k path true = h path
  test_same v w h rest more k path false = k path

  pub first_true_same : (n : ℕ) (ms : List (Meaning H × Meaning H)) (ns : List (Meaning K × Meaning K)) → AllPaired R O Q ms ns → (m : Meaning H) (l : Meaning K) → SameMeaning R O Q m l → SameMeaning R O Q (first_true n ms m) (first_true n ns l)
  first_true_same n [] [] h m l k path = k path
  first_true_same n [] (q ∷ ns) h m l k path = absurd h
  first_true_same n (p ∷ ms) [] h m l k path = absurd h
  first_true_same n (p ∷ ms) (q ∷ ns) h m l k path =
      paid_same s f n _ _ (then_truth_same (p.0 path) (q.0 path) _ _ (h.0 path) (test_same p.1 q.1 h.1 _ _ (first_true_same n ms ns h.2 m l k) path))

  pub whole_same : (m : State H → Outcome H) (n : State K → Outcome K) → Same R O Q m n → Same R O Q (λ a. whole (m a)) (λ b. whole (n b))
  whole_same m n h = then_same s f m n _ _ h (λ v. ends_same s f (Value (whole_result v)))
