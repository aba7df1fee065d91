-- What a tree comes to at once is what the evaluator makes of it, for every host.
use Rattle.std.proofs.Common.{◌≡◌, refl, ℕ, zero, suc, ◌+◌, ◌-◌, List, [], ◌∷◌, ◌++◌, length, drop, Bool, true, false}
use Rattle.std.proofs.Common.{Option, Some, None, Result, Ok, Err, option_map, add-zero, add_assoc}
use Rattle.std.specs.Prelude.{nat_eq, nat_lt, sum_by, codes, if◌then◌else◌}
use Rattle.px_bytes.specs.FaultText.{budget_spent, too_long}
use Rattle.px_bytes.specs.Limit.{text_limit}
use Rattle.px_bytes.specs.declared.fault.Reply.{Reply}
use Rattle.px_bytes.specs.declared.fault.TclFault.{TclFault}
use Rattle.tcl_expr.specs.Operators.{operator_value_2}
use Rattle.tcl_expr.specs.Truth.{truth}
use Rattle.tcl_expr.specs.declared.expr.Joint.TheVariants.{Both, And, Or}
use Rattle.tcl_trees.specs.Tree.{Tree, Trees, Operands, Values}
use Rattle.tcl_trees.specs.Tree as tree
use Rattle.tcl_trees.specs.declared.node.Verb.{Verb}
use Rattle.tcl_trees.specs.declared.node.Verb.TheVariants as verb
use Rattle.tcl_var_commands.specs.Append.{append_changed}
use Rattle.tcl_var_commands.specs.Changed.{Changed}
use Rattle.tcl_var_commands.specs.Incr.{incr_changed}
use Rattle.tcl_var_commands.specs.Lappend.{lappend_changed}
use Rattle.tcl_var_commands.specs.Reading.{found, value_of}
use Rattle.tcl_var_commands.specs.Set.{set_changed}
use Rattle.rule_model.specs.Children.{alone, child, count, free, is_next, one, places_of}
use Rattle.rule_model.specs.Commands.{command}
use Rattle.rule_model.specs.Control.{chosen, chosen_of, first_body, hit_of, unless}
use Rattle.rule_model.specs.Evaluator.{bodies, eval, evals, joints, parts, values, words}
use Rattle.rule_model.specs.Expressions.{after_test, by_truth, by_value, first_true, operands}
use Rattle.rule_model.specs.Outcome.{Act, State, state, Outcome, Ends, Meaning, changed, code_of, paid, spend, then_value}
use Rattle.rule_model.specs.Setting.{Setting, Inner}
use Rattle.rule_model.specs.Words.{behind_name, commands, in_order, in_word, told}
use Rattle.rule_model.specs.declared.code.Code.TheVariants.{Value, Raised}
use Rattle.rule_nodes.specs.Short.{Brief, Ending, Purse, Shortly, by_test, first_short, hit_short, pay, purse, short, short_bodies}
use Rattle.rule_nodes.specs.Short.{short_branches, short_changed, short_operands, short_pieces, short_script, short_word, short_words}
use Rattle.rule_nodes.specs.Short.{shortly, take_unit, then_shortly, value_changed, where_fits, where_value}

module _ {H : Type 0} (host : H) (more : List Reply) (before : ℕ) (acts : List Act) where
  -- the evaluator's state there, where so much was paid before
  abbrev pub state_of : Purse → State H
  state_of p = state p.vars host more p.budget (before + p.cost) acts

  -- where there is something, it is this outcome
  abbrev pub Is : Option Shortly → Outcome H → Type 0
  Is None o = Unit {0}
  Is (Some s) o = o ≡ Ends (Value s.value) (state_of s.left)

  pays : (n : ℕ) (p : Purse) → paid n (state_of p) ≡ state_of (pay n p)
  pays n p = rw (add_assoc before p.cost n) refl

  pays_none : (p : Purse) → paid 0 (state_of p) ≡ state_of p
  pays_none p = rw (add-zero (before + p.cost)) refl

  from_state : (x : Option Shortly) (m : State H → Outcome H) (s s' : State H) → s ≡ s' → Is x (m s') → Is x (m s)
  from_state x m s s' e h = rw e h

  then_is : (x : Option Shortly) (o : Outcome H) (go : List ℕ → Brief) (next : List ℕ → State H → Outcome H) → Is x o
      → ((v : List ℕ) (q : Purse) → Is (go v q) (next v (state_of q))) → Is (then_shortly x go) (then_value o next)
  then_is None o go next e h = tt
  then_is (Some s) o go next e h = rw e (h s.value s.left)

  if_is : (b : Bool) (x : Option Shortly) (o other : Outcome H) → Is x o → Is (if b then None else x) (if b then other else o)
  if_is true x o other h = tt
  if_is false x o other h = h

  pub unit_is : (p : Purse) (go : Brief) (next : State H → Outcome H) → ((q : Purse) → Is (go q) (next (state_of q)))
      → Is (take_unit p go) (spend (state_of p) next)
  unit_is p go next h =
      let q = purse p.vars (p.budget - 1) (p.cost + 1) in
      let s = state p.vars host more (p.budget - 1) ((before + p.cost) + 1) acts in
      let e : s ≡ state_of q = rw (add_assoc before p.cost 1) refl in
      if_is (nat_eq p.budget 0) (go q) (next s) (Ends (Raised budget_spent) (state_of p)) (from_state (go q) next s (state_of q) e (h q))

  found_is : (name : List ℕ) (p : Purse) (x : Option (List ℕ)) → Is (option_map (λ v. shortly v p) x) (Ends (code_of (found name x)) (state_of p))
  found_is name p None = tt
  found_is name p (Some v) = refl

  value_is : (x : Result (List ℕ) TclFault) (q : Purse) → Is (where_value x (λ v. Some (shortly v q))) (Ends (code_of x) (state_of q))
  value_is (Ok v) q = refl
  value_is (Err f) q = tt

  by_value_is : (x : Result (List ℕ) TclFault) (q : Purse) (go : List ℕ → Option Shortly) (next : List ℕ → State H → Outcome H)
      → ((v : List ℕ) → Is (go v) (next v (state_of q))) → Is (where_value x go) (by_value x next (state_of q))
  by_value_is (Ok v) q go next h = h v
  by_value_is (Err f) q go next h = tt

  test_is : (x : Option Bool) (v path : List ℕ) (a b : Option Shortly) (m n : Meaning H) (q : Purse) → Is a (m path (state_of q)) → Is b (n path (state_of q))
      → Is (by_test x a b) (by_truth x v (after_test m n path) (state_of q))
  test_is (Some true) v path a b m n q h k = h
  test_is (Some false) v path a b m n q h k = k
  test_is None v path a b m n q h k = tt

  module _ (g : Setting H) (i : Inner H) where
    done_is : (c : Changed) (q : Purse) → Is (value_changed c q.budget q.cost) (changed c (state_of q))
    done_is c q = value_is c.value (purse c.vars q.budget q.cost)

    changed_is : (v : Verb) (all : List (List ℕ)) (path : List ℕ) (q : Purse) → Is (short_changed g.statics v all q) (command g i v all path (state_of q))
    changed_is verb.Named all path q = tt
    changed_is verb.Computed all path q = tt
    changed_is verb.Set all path q = done_is (set_changed g.statics all q.vars) q
    changed_is verb.Unset all path q = tt
    changed_is verb.Incr all path q = done_is (incr_changed g.statics all q.vars) q
    changed_is verb.Append all path q = done_is (append_changed g.statics all q.vars) q
    changed_is verb.Lappend all path q = done_is (lappend_changed g.statics all q.vars) q
    changed_is verb.Array all path q = tt
    changed_is verb.Info all path q = tt
    changed_is verb.Return all path q = tt
    changed_is verb.Break all path q = tt
    changed_is verb.Continue all path q = tt
    changed_is verb.Error all path q = tt
    changed_is verb.Call all path q = tt
    changed_is verb.ExprOfWords all path q = tt

    -- a tree that is its own only part
    only_is : (price : Tree → ℕ) (t : Tree) (m : Brief) (n : Meaning H) → ((path : List ℕ) (q : Purse) → Is (m q) (n path (state_of q)))
        → (path : List ℕ) (p : Purse)
        → Is (then_shortly (m (pay (price t) p)) (λ v q. where_fits v (λ all. Some (shortly all q))))
        (in_word told (child price 0 t n ∷ []) [] path (state_of p))
    only_is price t m n h path p =
        then_is (m (pay (price t) p)) (n (path ++ 0 ∷ []) (paid (price t) (state_of p))) _ _
        (from_state (m (pay (price t) p)) (n (path ++ 0 ∷ [])) _ _ (pays (price t) p) (h (path ++ 0 ∷ []) (pay (price t) p)))
        (λ v q. if_is (nat_lt text_limit (length v)) (Some (shortly v q)) (Ends (Value v) (state_of q)) (Ends (Raised too_long) (state_of q)) refl)

    -- a child, whose price is paid first
    child_is : (price : Tree → ℕ) (k : ℕ) (t : Tree) (m : Brief) (n : Meaning H) → ((path : List ℕ) (q : Purse) → Is (m q) (n path (state_of q)))
        → (path : List ℕ) (p : Purse) (s : State H) → s ≡ state_of p → Is (m (pay (price t) p)) (child price k t n path s)
    child_is price k t m n h path p s e =
        from_state (m (pay (price t) p)) (child price k t n path) s (state_of p) e
        (from_state (m (pay (price t) p)) (n (path ++ k ∷ [])) _ _ (pays (price t) p) (h (path ++ k ∷ []) (pay (price t) p)))

    pub free_is : (k : ℕ) (t : Tree) (m : Brief) (n : Meaning H) → ((path : List ℕ) (q : Purse) → Is (m q) (n path (state_of q)))
        → (path : List ℕ) (p : Purse) → Is (m p) (child free k t n path (state_of p))
    free_is k t m n h path p = from_state (m p) (n (path ++ k ∷ [])) _ _ (pays_none p) (h (path ++ k ∷ []) p)

    hit_is : (x : Result (Option ℕ) TclFault) (bs : List (Option Brief)) (ns : List (Option (Meaning H))) (path : List ℕ) (p : Purse)
        → ((at : ℕ) → Is (first_short (drop at bs) p) (first_body (drop at ns) path (state_of p))) → Is (hit_short x bs p) (chosen x ns path (state_of p))
    hit_is (Ok (Some at)) bs ns path p h = h at
    hit_is (Ok None) bs ns path p h = refl
    hit_is (Err f) bs ns path p h = tt

    -- a body, or those behind it
    unless_is : (next : Bool) (m : Brief) (n : Meaning H) (bs : List (Option Brief)) (ns : List (Option (Meaning H))) (path : List ℕ) (p : Purse)
        → Is (m p) (n path (state_of p)) → Is (first_short bs p) (first_body ns path (state_of p))
        → Is (first_short (unless next m ∷ bs) p) (first_body (unless next n ∷ ns) path (state_of p))
    unless_is true m n bs ns path p h k = k
    unless_is false m n bs ns path p h k = h

    mutual
      -- a tree, its pieces, a word, words, commands, operands, conditions and bodies
      pub short_is : (t : Tree) (path : List ℕ) (p : Purse) → Is (short g.statics t p) (eval g i t path (state_of p))
      short_is (tree.plain text) path p = refl
      short_is (tree.variable name) path p = found_is name p (value_of g.statics p.vars (record { name = name; index = None }))
      short_is (tree.element name ts) path p = tt
      short_is (tree.word ts) path p = pieces_are 0 ts [] path p
      short_is (tree.script ts) path p = script_is 0 ts [] path p
      short_is (tree.command v ts) path p = words_are one 0 ts (short_changed g.statics v) (command g i v) (λ all way q. changed_is v all way q) [] path p
      short_is (tree.expr t) path p =
          let q = pay (alone t) (pay 1 p) in
          then_is (short g.statics t q) _ _ _
          (child_is alone 0 t (short g.statics t) (eval g i t) (λ way r. short_is t way r) path (pay 1 p) _ (pays 1 p)) (λ v r. refl)
      short_is (tree.branches vs last) path p =
          from_state (short_branches g.statics vs (short g.statics last) (pay 1 p))
          (first_true 0 (values g i alone free 0 vs) (child free (places_of vs) last (eval g i last)) path) _ _ (pays 1 p)
          (branches_are 0 vs (short g.statics last) (child free (places_of vs) last (eval g i last))
          (λ way q. free_is (places_of vs) last (short g.statics last) (eval g i last) (λ there r. short_is last there r) way q) path (pay 1 p))
      short_is (tree.loop start test next body) path p = tt
      short_is (tree.each ts body) path p = tt
      short_is (tree.switch front ts bs) path p =
          from_state (short g.statics (tree.switch front ts bs) p)
          (λ s. in_order (behind_name (chosen_of front (bodies g i (count ts) bs))) (words g i free 0 ts) (codes "switch" ∷ []) path s) _ _ (pays 1 p)
          (words_are free 0 ts (λ all. hit_short (hit_of front (drop 1 all)) (short_bodies g.statics bs))
          (behind_name (chosen_of front (bodies g i (count ts) bs)))
          (λ all way q. hit_is (hit_of front (drop 1 all)) (short_bodies g.statics bs) (bodies g i (count ts) bs) way q (λ at. body_is at (count ts) bs way q))
          (codes "switch" ∷ []) path (pay 1 p))
      short_is (tree.catch body) path p = tt
      short_is (tree.catch_in body name) path p = tt
      short_is tree.next_body path p = tt
      short_is (tree.prefixed ops t) path p = tt
      short_is (tree.row t os) path p =
          then_is (short g.statics t (pay 1 p)) _ _ _ (child_is one 0 t (short g.statics t) (eval g i t) (λ way r. short_is t way r) path p (state_of p) refl)
          (λ v q. operands_are 1 os v path q)
      short_is (tree.choice vs last) path p = tt

      pieces_are : (k : ℕ) (ts : Trees) (text path : List ℕ) (p : Purse)
          → Is (short_pieces g.statics ts text p) (in_word told (evals g i one k ts) text path (state_of p))
      pieces_are k tree.no_trees text path p = refl
      pieces_are k (tree.and_tree t ts) text path p =
          then_is (short g.statics t (pay 1 p)) _ _ _ (child_is one k t (short g.statics t) (eval g i t) (λ way r. short_is t way r) path p (state_of p) refl)
          (λ v q. if_is (nat_lt text_limit (length (text ++ v))) (short_pieces g.statics ts (text ++ v) q) _ _ (pieces_are (k + 1) ts (text ++ v) path q))

      word_is : (price : Tree → ℕ) (t : Tree) (m : Brief) (n : Meaning H) → ((path : List ℕ) (q : Purse) → Is (m q) (n path (state_of q)))
          → (path : List ℕ) (p : Purse) → Is (short_word g.statics price t m p) (in_word told (parts g i price t n) [] path (state_of p))
      word_is price (tree.word (tree.and_tree t ts)) m n h path p =
          then_is (short g.statics t (pay 1 p)) _ _ _ (child_is one 0 t (short g.statics t) (eval g i t) (λ way r. short_is t way r) path p (state_of p) refl)
          (λ v q. if_is (nat_lt text_limit (length v)) (short_pieces g.statics ts v q) _ _ (pieces_are 1 ts v path q))
      word_is price (tree.word tree.no_trees) m n h path p = only_is price (tree.word tree.no_trees) m n h path p
      word_is price (tree.plain text) m n h path p = only_is price (tree.plain text) m n h path p
      word_is price (tree.variable name) m n h path p = only_is price (tree.variable name) m n h path p
      word_is price (tree.element name ts) m n h path p = only_is price (tree.element name ts) m n h path p
      word_is price (tree.script ts) m n h path p = only_is price (tree.script ts) m n h path p
      word_is price (tree.command v ts) m n h path p = only_is price (tree.command v ts) m n h path p
      word_is price (tree.expr t) m n h path p = only_is price (tree.expr t) m n h path p
      word_is price (tree.branches vs last) m n h path p = only_is price (tree.branches vs last) m n h path p
      word_is price (tree.loop start test next body) m n h path p = only_is price (tree.loop start test next body) m n h path p
      word_is price (tree.each ts body) m n h path p = only_is price (tree.each ts body) m n h path p
      word_is price (tree.switch front ts bs) m n h path p = only_is price (tree.switch front ts bs) m n h path p
      word_is price (tree.catch body) m n h path p = only_is price (tree.catch body) m n h path p
      word_is price (tree.catch_in body name) m n h path p = only_is price (tree.catch_in body name) m n h path p
      word_is price tree.next_body m n h path p = only_is price tree.next_body m n h path p
      word_is price (tree.prefixed ops t) m n h path p = only_is price (tree.prefixed ops t) m n h path p
      word_is price (tree.row t os) m n h path p = only_is price (tree.row t os) m n h path p
      word_is price (tree.choice vs last) m n h path p = only_is price (tree.choice vs last) m n h path p

      words_are : (price : Tree → ℕ) (k : ℕ) (ts : Trees) (finish : Ending) (end : List (List ℕ) → Meaning H)
          → ((all : List (List ℕ)) (path : List ℕ) (q : Purse) → Is (finish all q) (end all path (state_of q)))
          → (done : List (List ℕ)) (path : List ℕ) (p : Purse)
          → Is (short_words g.statics price ts finish done p) (in_order end (words g i price k ts) done path (state_of p))
      words_are price k tree.no_trees finish end h done path p = h done path p
      words_are price k (tree.and_tree t ts) finish end h done path p =
          then_is (short_word g.statics price t (short g.statics t) p) _ _ _
          (word_is price t (short g.statics t) (eval g i t) (λ way r. short_is t way r) (path ++ k ∷ []) p)
          (λ v q. if_is (nat_lt text_limit (sum_by length (done ++ v ∷ []))) (short_words g.statics price ts finish (done ++ v ∷ []) q) _ _
          (words_are price (k + 1) ts finish end h (done ++ v ∷ []) path q))

      script_is : (k : ℕ) (ts : Trees) (last path : List ℕ) (p : Purse)
          → Is (short_script g.statics ts last p) (commands (evals g i free k ts) last path (state_of p))
      script_is k tree.no_trees last path p = refl
      script_is k (tree.and_tree t ts) last path p =
          unit_is p (λ q. then_shortly (short g.statics t q) (short_script g.statics ts))
          (λ s. then_value (child free k t (eval g i t) path s) (λ w r. commands (evals g i free (k + 1) ts) w path r))
          (λ q. then_is (short g.statics t q) _ _ _ (free_is k t (short g.statics t) (eval g i t) (λ way r. short_is t way r) path q)
          (λ v r. script_is (k + 1) ts v path r))

      operands_are : (k : ℕ) (os : Operands) (left path : List ℕ) (p : Purse)
          → Is (short_operands g.statics os left p) (operands (joints g i k os) left path (state_of p))
      operands_are k tree.no_operands left path p = refl
      operands_are k (tree.and_operand (Both op) t os) left path p =
          then_is (short g.statics t (pay 1 (pay 1 p))) _ _ _
          (child_is one k t (short g.statics t) (eval g i t) (λ way r. short_is t way r) path (pay 1 p) _ (pays 1 p))
          (λ right q. by_value_is (operator_value_2 op left right) q _ _ (λ v. operands_are (k + 1) os v path q))
      operands_are k (tree.and_operand And t os) left path p = tt
      operands_are k (tree.and_operand Or t os) left path p = tt

      branches_are : (k : ℕ) (vs : Values) (last : Brief) (end : Meaning H) → ((path : List ℕ) (q : Purse) → Is (last q) (end path (state_of q)))
          → (path : List ℕ) (p : Purse) → Is (short_branches g.statics vs last p) (first_true 0 (values g i alone free k vs) end path (state_of p))
      branches_are k tree.no_values last end h path p = h path p
      branches_are k (tree.and_value t u vs) last end h path p =
          then_is (short g.statics t (pay (alone t) p)) _ _ _
          (child_is alone k t (short g.statics t) (eval g i t) (λ way r. short_is t way r) path p _ (pays_none p))
          (λ v q. test_is (truth v) v path (short g.statics u q) (short_branches g.statics vs last q) (child free (k + 1) u (eval g i u))
          (first_true 0 (values g i alone free (k + 2) vs) end) q
          (free_is (k + 1) u (short g.statics u) (eval g i u) (λ way r. short_is u way r) path q) (branches_are (k + 2) vs last end h path q))

      body_is : (at k : ℕ) (bs : Trees) (path : List ℕ) (p : Purse)
          → Is (first_short (drop at (short_bodies g.statics bs)) p) (first_body (drop at (bodies g i k bs)) path (state_of p))
      body_is zero k tree.no_trees path p = refl
      body_is (suc at) k tree.no_trees path p = refl
      body_is zero k (tree.and_tree t ts) path p =
          unless_is (is_next t) (short g.statics t) (child free k t (eval g i t)) (short_bodies g.statics ts) (bodies g i (k + 1) ts) path p
          (free_is k t (short g.statics t) (eval g i t) (λ way r. short_is t way r) path p) (body_is zero (k + 1) ts path p)
      body_is (suc at) k (tree.and_tree t ts) path p = body_is at (k + 1) ts path p
