-- Whole trees: from alike states alike outcomes come.
use Rattle.std.proofs.Common.{refl, ℕ, zero, suc, ◌+◌, List, [], ◌∷◌, ◌++◌, drop, Option, Some, None, codes}
use Rattle.tcl_trees.specs.Procedures.{Procedure}
use Rattle.tcl_trees.specs.Tree.{Tree, Trees, Operands, Values}
use Rattle.tcl_trees.specs.Tree as tree
use Rattle.tcl_vars.specs.Names.{Name}
use Rattle.tcl_vars.specs.Scopes.{Level, Scopes}
use Rattle.tcl_var_commands.specs.Reading.{read_value}
use Rattle.tcl_var_commands.proofs.Kept.{Changing}
use Rattle.rule_model.specs.Host.{HostStep}
use Rattle.rule_model.specs.Children.{child, free, one, alone, is_next, count, places_of}
use Rattle.rule_model.specs.Outcome.{State, Outcome, Meaning, paid}
use Rattle.rule_model.specs.declared.code.Code.TheVariants.{Value}
use Rattle.rule_model.specs.Words.{told, word_at, in_order, behind_name}
use Rattle.rule_model.specs.Setting.{Setting, Inner}
use Rattle.rule_model.specs.Commands.{command}
use Rattle.rule_model.specs.Evaluator.{read, read_element, eval, evals, words, parts, joints, values, bodies, with_calls, inner_expression, inner}
use Rattle.rule_model.proofs.Alike.{Fact, Alike, Same, SameMeaning, ends_same, then_same, paid_same, reads_same}
use Rattle.rule_model.proofs.Pieces.{AllSame, AllJoined, AllPaired, in_word_same, told_same, word_at_same, in_order_same, commands_same, prefixes_same, row_same, first_true_same, whole_same}
use Rattle.rule_model.proofs.Bodies.{AllBodies, loop_same, each_same, unless_same, chosen_of_same, caught_in_same}
use Rattle.rule_model.proofs.Calls.{SameDeeper, SameInner, command_same}

module _ {H K : Type 0} {t : H → List (List ℕ) → HostStep H} {u : K → List (List ℕ) → HostStep K} {V : Scopes → Scopes → Type 0} (c : Changing V)
    {R : State H → State K → Type 0} {O : Outcome H → Outcome K → Type 0} {Q : State K → Outcome K → Type 0} (s : Alike t u R O Q) (f : Fact u V Q)
    (statics : Option Level) (procedures : List Procedure) where
  abbrev g : Setting H
  g = record { statics = statics; table = t; procedures = procedures }

  abbrev q : Setting K
  q = record { statics = statics; table = u; procedures = procedures }

  variable_same : (text : List ℕ) (name : Name) → Same R O Q (read g text name) (read q text name)
  variable_same text name = reads_same s f (λ vars. read_value statics vars text name)

  element_same : (name index : List ℕ) → SameMeaning R O Q (read_element g name index) (read_element q name index)
  element_same name index path = variable_same (name ++ codes "(" ++ index ++ codes ")") (record { name = name; index = Some index })

  child_same : (price : Tree → ℕ) (k : ℕ) (x : Tree) (m : Meaning H) (n : Meaning K) → SameMeaning R O Q m n → SameMeaning R O Q (child price k x m) (child price k x n)
  child_same price k x m n h path = paid_same s f (price x) (m (path ++ k ∷ [])) (n (path ++ k ∷ [])) (h (path ++ k ∷ []))

  -- a tree that is its own only part
  own_same : (price : Tree → ℕ) (x : Tree) (m : Meaning H) (n : Meaning K) → SameMeaning R O Q m n → AllSame R O Q (child price 0 x m ∷ []) (child price 0 x n ∷ [])
  own_same price x m n h = (child_same price 0 x m n h, tt)

  -- a command that holds bodies pays for its name, and evaluates these words behind it
  held_same : (name : List ℕ) (finish : List (List ℕ) → Meaning H) (on : List (List ℕ) → Meaning K) → ((words : List (List ℕ)) → SameMeaning R O Q (finish words) (on words))
      → (ms : List (Meaning H)) (ns : List (Meaning K)) → AllSame R O Q ms ns → (path : List ℕ)
      → Same R O Q (λ a. in_order (behind_name finish) ms (name ∷ []) path (paid 1 a)) (λ b. in_order (behind_name on) ns (name ∷ []) path (paid 1 b))
  held_same name finish on k ms ns h path =
      paid_same s f 1 _ _ (in_order_same s f (behind_name finish) (behind_name on) (λ words. k (drop 1 words)) ms ns h (name ∷ []) path)

  mutual
    pub eval_same : (i : Inner H) (j : Inner K) → SameInner R O Q i j → (x : Tree) → SameMeaning R O Q (eval g i x) (eval q j x)
    eval_same i j h (tree.plain text) path = ends_same s f (Value text)
    eval_same i j h (tree.variable name) path = variable_same name (record { name = name; index = None })
    eval_same i j h (tree.element name ts) path = in_word_same s f (read_element g name) (read_element q name) (element_same name) _ _ (evals_same i j h one 0 ts) [] path
    eval_same i j h (tree.word ts) path = in_word_same s f told told (told_same s f) _ _ (evals_same i j h one 0 ts) [] path
    eval_same i j h (tree.script ts) path = commands_same s f _ _ (evals_same i j h free 0 ts) [] path
    eval_same i j h (tree.command v ts) path = in_order_same s f (command g i v) (command q j v) (command_same c s f statics procedures i j h v) _ _ (words_same i j h one 0 ts) [] path
    eval_same i j h (tree.expr x) path = whole_same s f _ _ (paid_same s f 1 _ _ (child_same alone 0 x _ _ (eval_same i j h x) path))
    eval_same i j h (tree.branches vs last) path = paid_same s f 1 _ _ (first_true_same s f 0 _ _ (values_same i j h alone free 0 vs) _ _ (child_same free (places_of vs) last _ _ (eval_same i j h last)) path)
    eval_same i j h (tree.loop start test next body) path =
        then_same s f _ _ _ _ (paid_same s f 1 _ _ (child_same free 0 start _ _ (eval_same i j h start) path)) (λ v.
        loop_same c s f (record {
          test = child_same alone 1 test _ _ (eval_same i j h test);
          body = child_same free 3 body _ _ (eval_same i j h body);
          next = child_same free 2 next _ _ (eval_same i j h next);
        }) path)
    eval_same i j h (tree.each ts body) path =
        held_same (codes "foreach") _ _ (each_same c s f statics _ _ (child_same free (count ts) body _ _ (eval_same i j h body))) _ _ (words_same i j h one 0 ts) path
    eval_same i j h (tree.switch front ts bs) path =
        held_same (codes "switch") _ _ (chosen_of_same c s f front _ _ (bodies_same i j h (count ts) bs)) _ _ (words_same i j h free 0 ts) path
    eval_same i j h (tree.catch body) path =
        paid_same s f 1 _ _ (caught_in_same c s f statics _ _ (child_same free 0 body _ _ (eval_same i j h body)) [] path)
    eval_same i j h (tree.catch_in body name) path =
        held_same (codes "catch") _ _ (caught_in_same c s f statics _ _ (child_same free 0 body _ _ (eval_same i j h body)))
        (word_at 1 (parts g i one name (eval g i name)) ∷ []) (word_at 1 (parts q j one name (eval q j name)) ∷ [])
        (word_at_same s f 1 _ _ (parts_same i j h one name _ _ (eval_same i j h name)), tt) path
    eval_same i j h tree.next_body path = ends_same s f (Value [])
    eval_same i j h (tree.prefixed ops x) path = prefixes_same s f ops _ _ (child_same one 0 x _ _ (eval_same i j h x)) path
    eval_same i j h (tree.row x os) path = row_same s f _ _ (child_same one 0 x _ _ (eval_same i j h x)) _ _ (joints_same i j h 1 os) path
    eval_same i j h (tree.choice vs last) path = first_true_same s f 1 _ _ (values_same i j h one one 0 vs) _ _ (child_same one (places_of vs) last _ _ (eval_same i j h last)) path

    evals_same : (i : Inner H) (j : Inner K) → SameInner R O Q i j → (price : Tree → ℕ) (k : ℕ) (ts : Trees) → AllSame R O Q (evals g i price k ts) (evals q j price k ts)
    evals_same i j h price k tree.no_trees = tt
    evals_same i j h price k (tree.and_tree x ts) = (child_same price k x _ _ (eval_same i j h x), evals_same i j h price (k + 1) ts)

    words_same : (i : Inner H) (j : Inner K) → SameInner R O Q i j → (price : Tree → ℕ) (k : ℕ) (ts : Trees) → AllSame R O Q (words g i price k ts) (words q j price k ts)
    words_same i j h price k tree.no_trees = tt
    words_same i j h price k (tree.and_tree x ts) = (word_at_same s f k _ _ (parts_same i j h price x _ _ (eval_same i j h x)), words_same i j h price (k + 1) ts)

    parts_same : (i : Inner H) (j : Inner K) → SameInner R O Q i j → (price : Tree → ℕ) (x : Tree) (m : Meaning H) (n : Meaning K) → SameMeaning R O Q m n → AllSame R O Q (parts g i price x m) (parts q j price x n)
    parts_same i j h price (tree.word (tree.and_tree x ts)) m n k = (child_same one 0 x _ _ (eval_same i j h x), evals_same i j h one 1 ts)
    parts_same i j h price x m n k = own_same price x m n k

    joints_same : (i : Inner H) (j : Inner K) → SameInner R O Q i j → (k : ℕ) (os : Operands) → AllJoined R O Q (joints g i k os) (joints q j k os)
    joints_same i j h k tree.no_operands = tt
    joints_same i j h k (tree.and_operand joint x os) = (refl, child_same one k x _ _ (eval_same i j h x), joints_same i j h (k + 1) os)

    values_same : (i : Inner H) (j : Inner K) → SameInner R O Q i j → (o r : Tree → ℕ) (k : ℕ) (vs : Values) → AllPaired R O Q (values g i o r k vs) (values q j o r k vs)
    values_same i j h o r k tree.no_values = tt
    values_same i j h o r k (tree.and_value x y vs) = (child_same o k x _ _ (eval_same i j h x), child_same r (k + 1) y _ _ (eval_same i j h y), values_same i j h o r (k + 2) vs)

    bodies_same : (i : Inner H) (j : Inner K) → SameInner R O Q i j → (k : ℕ) (ts : Trees) → AllBodies R O Q (bodies g i k ts) (bodies q j k ts)
    bodies_same i j h k tree.no_trees = tt
    bodies_same i j h k (tree.and_tree x ts) = (unless_same c s f (is_next x) _ _ (child_same free k x _ _ (eval_same i j h x)), bodies_same i j h (k + 1) ts)

  calls_same : (calls : ℕ) (e : ℕ → Option (Tree → Meaning H)) (e' : ℕ → Option (Tree → Meaning K)) → ((n : ℕ) → SameDeeper R O Q (e n) (e' n)) → SameInner R O Q (with_calls g calls e) (with_calls q calls e')
  calls_same zero e e' h = record { call = tt; expression = h 0 }
  calls_same (suc calls) e e' h = record { call = eval_same (with_calls g calls e) (with_calls q calls e') (calls_same calls e e' h); expression = h (suc calls) }

  deeper_same : (expressions calls : ℕ) → SameDeeper R O Q (inner_expression g expressions calls) (inner_expression q expressions calls)
  deeper_same zero calls = tt
  deeper_same (suc expressions) calls =
      eval_same (with_calls g calls (inner_expression g expressions)) (with_calls q calls (inner_expression q expressions))
      (calls_same calls (inner_expression g expressions) (inner_expression q expressions) (deeper_same expressions))

  pub meaning_same : (expressions calls : ℕ) (x : Tree) → SameMeaning R O Q (eval g (inner g expressions calls) x) (eval q (inner q expressions calls) x)
  meaning_same expressions calls x =
      eval_same (inner g expressions calls) (inner q expressions calls)
      (calls_same calls (inner_expression g expressions) (inner_expression q expressions) (deeper_same expressions)) x
