-- What the moves of `if` and `?:` come to, and what they owe.
use Rattle.std.proofs.Common.{◌≡◌, refl, ap, ◌∙◌, sym, ℕ, suc, zero, ◌+◌, ◌≤◌, List, [], ◌∷◌, ◌++◌, drop, length, get_or, Bool, true, false, Option, Some, None, Result, Ok, Err, arith, add-zero}
use Rattle.px_bytes.specs.declared.fault.TclFault.{TclFault}
use Rattle.tcl_expr.specs.OperatorFaults.{not_truth}
use Rattle.tcl_expr.specs.Truth.{truth}
use Rattle.tcl_trees.specs.Procedures.{Procedure}
use Rattle.tcl_trees.specs.Tree.{Tree, Values}
use Rattle.tcl_trees.specs.Tree as tree
use Rattle.tcl_vars.specs.Scopes.{Scopes}
use Rattle.rule_model.specs.Children.{alone, child, free, one, places_of}
use Rattle.rule_model.specs.Evaluator.{eval, values}
use Rattle.rule_model.specs.Expressions.{after_test, by_truth, first_true, then_truth}
use Rattle.rule_model.specs.Outcome.{State, state, Outcome, Ends, Meaning}
use Rattle.rule_model.specs.declared.code.Code.{Code}
use Rattle.rule_model.specs.declared.code.Code.TheVariants.{Value, Raised, Return, Break, Continue}
use Rattle.rule_model.specs.Setting.{Setting, Inner}
use Rattle.rule_nodes.specs.Operators.{if_truth, truth_read}
use Rattle.frame_loops.specs.Branches.{paired, Choices, choices, choices_of, condition_cost, value_cost, within, value_move, last_by, holds_by, condition_by, condition_move, told_by, condition_told, branches_move}
use Rattle.frames.specs.Children.{both, child_at, children}
use Rattle.frames.specs.Frames.{after_condition, condition_price, conditions_in, inner_of, last_in}
use Rattle.frames.specs.Leafs.{leaf_code}
use Rattle.frames.specs.Moves.{begins, goes_on, stop, child_under, back_under}
use Rattle.frames.specs.Owed.{is_flat, mode_owed}
use Rattle.frame_loops.specs.Quick.{quick, quick_or}
use Rattle.frames.specs.Reads.{Known, known}
use Rattle.frames.specs.Stills.{Move, moves, move_after, changes, still, Comes, on_result}
use Rattle.frames.specs.declared.frame.Frame.TheVariants as frame
use Rattle.frames.specs.declared.frame.Mode.TheVariants as mode
use Rattle.frames.specs.declared.frame.Room.{Room}
use Rattle.frame_loops.proofs.InQuick.{quick_is, quick_free, quick_heavy, quick_some, quick_ticks}
use Rattle.frames.proofs.Heard.{heard_true, heard_twice}
use Rattle.frames.proofs.LeafViews.{leaf_eval}
use Rattle.frame_loops.proofs.InRows.{drop_next}
use Rattle.frames.proofs.InStills.{Bounded, bounded_after, bounded_less, bounded_name, child_bounded, comes_as, comes_at, comes_paid, pass_bounded, stop_bounded}

-- conditions and bodies as children
twice : (n : ℕ) → suc n + suc n ≡ suc (suc (n + n))
twice n = omega arith

twice_more : (n : ℕ) → suc n + suc n + 1 ≡ suc (suc (n + n + 1))
twice_more n = omega arith

record Pair (all : List Tree) (at : ℕ) (d c v : Tree) : Type 0 where
  condition : get_or all (at + at) d ≡ c
  value : get_or all (at + at + 1) d ≡ v

pair_more : (all : List Tree) (x y : Tree) (at : ℕ) (d c v : Tree) → Pair all at d c v → Pair (x ∷ y ∷ all) (suc at) d c v
pair_more all x y at d c v p = record { condition = rw (twice at) p.condition; value = rw (twice_more at) p.value }

pair_here : (vs : Values) (last d : Tree) (at : ℕ) (v : Tree × Tree) (more : List (Tree × Tree)) → drop at (paired vs) ≡ v ∷ more → Pair (both vs ++ last ∷ []) at d v.0 v.1
pair_here tree.no_values last d zero v more e = absurd (cc e)
pair_here tree.no_values last d (suc at) v more e = absurd (cc e)
pair_here (tree.and_value x y vs) last d zero v more e =
    let h : (x, y) ≡ v = cc e in
    record { condition = ap (λ p. p.0) h; value = ap (λ p. p.1) h }
pair_here (tree.and_value x y vs) last d (suc at) v more e = pair_more (both vs ++ last ∷ []) x y at d v.0 v.1 (pair_here vs last d at v more e)

last_here : (vs : Values) (last d : Tree) → get_or (both vs ++ last ∷ []) (length (paired vs) + length (paired vs)) d ≡ last
last_here tree.no_values last d = refl
last_here (tree.and_value x y vs) last d = rw (twice (length (paired vs))) (last_here vs last d)

places_are : (vs : Values) → places_of vs ≡ length (paired vs) + length (paired vs)
places_are tree.no_values = refl
places_are (tree.and_value x y vs) = let e = places_are vs in omega (arith, e)

no_pair : (at : ℕ) (v : Tree × Tree) (more : List (Tree × Tree)) → drop {A = Tree × Tree} at [] ≡ v ∷ more → ⊥
no_pair zero v more e = cc e
no_pair (suc at) v more e = cc e

-- prices by kind
abbrev cprice : Bool → Tree → ℕ
cprice true t = 1
cprice false t = alone t

abbrev vprice : Bool → Tree → ℕ
vprice true t = 1
vprice false t = 0

abbrev extra : Bool → ℕ
extra true = 1
extra false = 0

price_is : (b : Bool) (u : Tree) → vprice b u ≡ value_cost b
price_is true u = refl
price_is false u = refl

cost_is : (b : Bool) (u : Tree) (cost : ℕ) → cost + extra b + cprice b u ≡ cost + condition_cost b u
cost_is true u cost = omega arith
cost_is false u cost = omega arith

wanted_is : (w : Bool) (t : Tree) → (choices_of w t).wanted ≡ w
wanted_is w (tree.branches vs last) = refl
wanted_is w (tree.choice vs last) = refl
wanted_is w (tree.plain text) = refl
wanted_is w (tree.variable name) = refl
wanted_is w (tree.element name ts) = refl
wanted_is w (tree.word ts) = refl
wanted_is w (tree.script ts) = refl
wanted_is w (tree.command v ts) = refl
wanted_is w (tree.expr t) = refl
wanted_is w (tree.loop s x n b) = refl
wanted_is w (tree.each ts b) = refl
wanted_is w (tree.switch k ts bs) = refl
wanted_is w (tree.catch b) = refl
wanted_is w (tree.catch_in b n) = refl
wanted_is w tree.next_body = refl
wanted_is w (tree.prefixed ops t) = refl
wanted_is w (tree.row t os) = refl

module _ {H : Type 0} where
  abbrev values_on : Setting H → Inner H → Bool → ℕ → List (Tree × Tree) → List (Meaning H × Meaning H)
  values_on g i b k [] = []
  values_on g i b k (v ∷ more) = (child (cprice b) k v.0 (eval g i v.0), child (vprice b) (k + 1) v.1 (eval g i v.1)) ∷ values_on g i b (k + 2) more

  values_if : (g : Setting H) (i : Inner H) (k : ℕ) (vs : Values) → values g i alone free k vs ≡ values_on g i false k (paired vs)
  values_if g i k tree.no_values = refl
  values_if g i k (tree.and_value x y vs) = ap (λ l. (child alone k x (eval g i x), child free (k + 1) y (eval g i y)) ∷ l) (values_if g i (k + 2) vs)

  values_choice : (g : Setting H) (i : Inner H) (k : ℕ) (vs : Values) → values g i one one k vs ≡ values_on g i true k (paired vs)
  values_choice g i k tree.no_values = refl
  values_choice g i k (tree.and_value x y vs) = ap (λ l. (child one k x (eval g i x), child one (k + 1) y (eval g i y)) ∷ l) (values_choice g i (k + 2) vs)

  drop_values : (g : Setting H) (i : Inner H) (b : Bool) (at k : ℕ) (vs : List (Tree × Tree)) → drop at (values_on g i b k vs) ≡ values_on g i b (k + (at + at)) (drop at vs)
  drop_values g i b zero k vs = rw (add-zero k) refl
  drop_values g i b (suc at) k [] = refl
  drop_values g i b (suc at) k (v ∷ vs) =
      let e : k + 2 + (at + at) ≡ k + (suc at + suc at) = omega arith in
      drop_values g i b at (k + 2) vs ∙ ap (λ n. values_on g i b n (drop at vs)) e

  abbrev last_on : Setting H → Inner H → Choices → Option Tree → Meaning H
  last_on g i c (Some t) = child (vprice c.is_choice) (length c.values + length c.values) t (eval g i t)
  last_on g i c None = λ path st. Ends (Value []) st

  -- how a tree has its choices
  record Picks (g : Setting H) (i : Inner H) (t : Tree) (c : Choices) : Type 0 where
    conditions : conditions_in g i t ≡ values_on g i c.is_choice 0 c.values
    price : condition_price t ≡ extra c.is_choice
    last : last_in g i t ≡ last_on g i c c.last
    pairs : (at : ℕ) (v : Tree × Tree) (more : List (Tree × Tree)) → drop at c.values ≡ v ∷ more → Pair (children t) at t v.0 v.1
    ends : (u : Tree) → c.last ≡ Some u → child_at t (length c.values + length c.values) ≡ u

  no_picks : (g : Setting H) (i : Inner H) (t : Tree) (w : Bool) → choices_of w t ≡ choices [] None false w → conditions_in g i t ≡ [] → condition_price t ≡ 0 →
      last_in g i t ≡ (λ path st. Ends (Value []) st) → Picks g i t (choices_of w t)
  no_picks g i t w e c p l = rw e (record { conditions = c; price = p; last = l; pairs = λ at v more h. absurd (no_pair at v more h); ends = λ u h. absurd (cc h) })

  picks : (g : Setting H) (i : Inner H) (t : Tree) (w : Bool) → Picks g i t (choices_of w t)
  picks g i (tree.branches vs last) w = record {
    conditions = values_if g i 0 vs;
    price = refl;
    last = rw (places_are vs) refl;
    pairs = λ at v more e. pair_here vs last (tree.branches vs last) at v more e;
    ends = λ u e. last_here vs last (tree.branches vs last) ∙ cc e;
  }
  picks g i (tree.choice vs last) w = record {
    conditions = values_choice g i 0 vs;
    price = refl;
    last = rw (places_are vs) refl;
    pairs = λ at v more e. pair_here vs last (tree.choice vs last) at v more e;
    ends = λ u e. last_here vs last (tree.choice vs last) ∙ cc e;
  }
  picks g i (tree.plain text) w = no_picks g i _ w refl refl refl refl
  picks g i (tree.variable name) w = no_picks g i _ w refl refl refl refl
  picks g i (tree.element name ts) w = no_picks g i _ w refl refl refl refl
  picks g i (tree.word ts) w = no_picks g i _ w refl refl refl refl
  picks g i (tree.script ts) w = no_picks g i _ w refl refl refl refl
  picks g i (tree.command v ts) w = no_picks g i _ w refl refl refl refl
  picks g i (tree.expr t) w = no_picks g i _ w refl refl refl refl
  picks g i (tree.loop s x n b) w = no_picks g i _ w refl refl refl refl
  picks g i (tree.each ts b) w = no_picks g i _ w refl refl refl refl
  picks g i (tree.switch k ts bs) w = no_picks g i _ w refl refl refl refl
  picks g i (tree.catch b) w = no_picks g i _ w refl refl refl refl
  picks g i (tree.catch_in b n) w = no_picks g i _ w refl refl refl refl
  picks g i tree.next_body w = no_picks g i _ w refl refl refl refl
  picks g i (tree.prefixed ops t) w = no_picks g i _ w refl refl refl refl
  picks g i (tree.row t os) w = no_picks g i _ w refl refl refl refl

  -- a child whose end is the node's
  pub within_is : {g : Setting H} {r : Room} {w : Bool} {t : Tree} {vars : Scopes} {budget : ℕ} (u : Tree) (place : ℕ) (b : Bool) → is_flat u ≡ b → child_at t place ≡ u →
      Comes g r w t (λ path st. eval g (inner_of g r) u (path ++ place ∷ []) st) vars budget (changes budget vars (within (known g.statics vars) u place w))
  within_is {g = g} {r = r} {vars = vars} {budget = budget} u place true e c =
      rw e (comes_at (stop (leaf_code g.statics vars u)) (λ path host more cost acts. leaf_eval g (inner_of g r) u (path ++ place ∷ []) (state vars host more budget cost acts) e))
  within_is {g = g} {r = r} {w = w} {vars = vars} {budget = budget} u place false e c =
      rw e (record { same = λ path host more cost acts. rw (c, add-zero) (sym (heard_twice w (eval g (inner_of g r) u (path ++ place ∷ []) (state vars host more budget cost acts)))) })

  value_is : {g : Setting H} {r : Room} {w : Bool} {t : Tree} {vars : Scopes} {budget : ℕ} (c : Choices) (u : Tree) (place : ℕ) → c.wanted ≡ w → child_at t place ≡ u →
      Comes g r w t (child (vprice c.is_choice) place u (eval g (inner_of g r) u)) vars budget (still budget vars (value_move (known g.statics vars) c u place))
  value_is {g = g} {r = r} {t = t} {vars = vars} c u place e h =
      rw e (comes_paid (value_cost c.is_choice) 0 (λ path host more cost acts. rw (price_is c.is_choice u) refl) (within_is u place (is_flat u) refl h))

  last_is : {g : Setting H} {r : Room} {w : Bool} {t : Tree} {vars : Scopes} {budget : ℕ} (c : Choices) (x : Option Tree) → c.wanted ≡ w → ((u : Tree) → x ≡ Some u → child_at t (length c.values + length c.values) ≡ u) →
      Comes g r w t (last_on g (inner_of g r) c x) vars budget (still budget vars (last_by (known g.statics vars) c x))
  last_is c (Some u) e h = value_is c u (length c.values + length c.values) e (h u refl)
  last_is c None e h = comes_at (stop (Value [])) (λ path host more cost acts. refl)

  -- the conditions from the child of a number on
  abbrev more_on : Setting H → Inner H → Choices → ℕ → List (Tree × Tree) → Meaning H
  more_on g i c k l = first_true (extra c.is_choice) (values_on g i c.is_choice k l) (last_on g i c c.last)

  conditions_from : (g : Setting H) (i : Inner H) (t : Tree) (c : Choices) → Picks g i t c → (at : ℕ) → drop at (conditions_in g i t) ≡ values_on g i c.is_choice (at + at) (drop at c.values)
  conditions_from g i t c p at =
      let e : 0 + (at + at) ≡ at + at = omega arith in
      ap (drop at) p.conditions ∙ drop_values g i c.is_choice at 0 c.values ∙ ap (λ n. values_on g i c.is_choice n (drop at c.values)) e

  abbrev tests : Setting H → Inner H → Choices → ℕ → Tree × Tree → List (Tree × Tree) → List ℕ → Bool → State H → Outcome H
  tests g i c at v more path = after_test (child (vprice c.is_choice) (at + at + 1) v.1 (eval g i v.1)) (more_on g i c (at + at + 2) more) path

  waits : (g : Setting H) (i : Inner H) (t : Tree) (c : Choices) → Picks g i t c → (at : ℕ) (v : Tree × Tree) (more : List (Tree × Tree)) → drop at c.values ≡ v ∷ more → (path : List ℕ) (holds : Bool) (st : State H) →
      after_condition (condition_price t) (drop at (conditions_in g i t)) (last_in g i t) path holds st ≡ tests g i c at v more path holds st
  waits g i t c p at v more e path holds st = rw (conditions_from g i t c p at, e, p.price, p.last) refl

  -- behind a condition that has its value in this move
  holds_is : {g : Setting H} {r : Room} {w : Bool} {t : Tree} {vars : Scopes} {budget : ℕ} (c : Choices) (p : Picks g (inner_of g r) t c) (at : ℕ) (v : Tree × Tree) (more : List (Tree × Tree)) (text : List ℕ) (x : Option Bool) →
      c.wanted ≡ w → drop at c.values ≡ v ∷ more → x ≡ truth text →
      Comes g r w t (λ path st. by_truth x text (tests g (inner_of g r) c at v more path) st) vars budget (still budget vars (holds_by (known g.statics vars) c at v.1 text (if_truth x text)))
  holds_is c p at v more text (Some true) e h f = comes_as (λ path host more cost acts. refl) (value_is c v.1 (at + at + 1) e (p.pairs at v more h).value)
  holds_is {g = g} {r = r} {t = t} {vars = vars} {budget = budget} c p at v more text (Some false) e h f =
      comes_at (back_under (frame.Condition at (at + at)) (Value text)) (λ path host replies cost acts.
      rw (← f) (sym (waits g (inner_of g r) t c p at v more h path false (state vars host replies budget cost acts))))
  holds_is c p at v more text None e h f = comes_at (stop (Raised (not_truth text))) (λ path host more cost acts. refl)

  condition_cases : {g : Setting H} {r : Room} {w : Bool} {t : Tree} {vars : Scopes} {budget : ℕ} (c : Choices) (p : Picks g (inner_of g r) t c) (at : ℕ) (v : Tree × Tree) (more : List (Tree × Tree)) (n ticks : ℕ) (x : Option Code) →
      c.wanted ≡ w → drop at c.values ≡ v ∷ more → (x ≡ None → n ≡ 0) →
      Comes g r w t (λ path st. then_truth (quick_or x n (eval g (inner_of g r) v.0) (path ++ (at + at) ∷ []) st) (tests g (inner_of g r) c at v more path)) vars budget
      (still budget vars (move_after n ticks (condition_by (known g.statics vars) c at v.1 x)))
  condition_cases c p at v more n ticks (Some (Value text)) e h none = comes_paid n ticks (λ path host replies cost acts. refl) (holds_is c p at v more text (truth text) e h refl)
  condition_cases c p at v more n ticks (Some (Raised f)) e h none = comes_paid {m' = λ path st. Ends (Raised f) st} n ticks (λ path host replies cost acts. refl) (comes_at (stop (Raised f)) (λ path host replies cost acts. refl))
  condition_cases c p at v more n ticks (Some (Return u)) e h none = comes_paid {m' = λ path st. Ends (Return u) st} n ticks (λ path host replies cost acts. refl) (comes_at (stop (Return u)) (λ path host replies cost acts. refl))
  condition_cases c p at v more n ticks (Some Break) e h none = comes_paid {m' = λ path st. Ends Break st} n ticks (λ path host replies cost acts. refl) (comes_at (stop Break) (λ path host replies cost acts. refl))
  condition_cases c p at v more n ticks (Some Continue) e h none = comes_paid {m' = λ path st. Ends Continue st} n ticks (λ path host replies cost acts. refl) (comes_at (stop Continue) (λ path host replies cost acts. refl))
  condition_cases {g = g} {r = r} {t = t} c p at v more n ticks None e h none =
      comes_paid {m' = λ path st. then_truth (eval g (inner_of g r) v.0 (path ++ (at + at) ∷ []) st) (tests g (inner_of g r) c at v more path)} n ticks (λ path host replies cost acts. rw (none refl, add-zero) refl)
      (comes_at (child_under (frame.Condition at (at + at))) (λ path host replies cost acts.
      rw (heard_true, (p.pairs at v more h).condition, conditions_from g (inner_of g r) t c p at, h, p.price, p.last) refl))

  -- the condition of a number with those behind it, or else the last
  condition_is : {g : Setting H} {r : Room} {w : Bool} {t : Tree} {vars : Scopes} {budget : ℕ} (c : Choices) (p : Picks g (inner_of g r) t c) (at : ℕ) (l : List (Tree × Tree)) → c.wanted ≡ w → drop at c.values ≡ l →
      Comes g r w t (more_on g (inner_of g r) c (at + at) l) vars budget (still budget vars (condition_move (known g.statics vars) c at l))
  condition_is c p at [] e h = last_is c c.last e p.ends
  condition_is {g = g} {r = r} {vars = vars} {budget = budget} c p at (v ∷ more) e h =
      let k = known g.statics vars in
      comes_paid (condition_cost c.is_choice v.0) 0 (λ path host replies cost acts.
      rw (cost_is c.is_choice v.0 cost) (ap (λ o. then_truth o (tests g (inner_of g r) c at v more path)) (quick_is g (inner_of g r) v.0 (path ++ (at + at) ∷ []) (state vars host replies budget (cost + condition_cost c.is_choice v.0) acts))))
      (condition_cases c p at v more (quick k v.0).cost (quick k v.0).ticks (quick k v.0).value e h (quick_free k v.0))

  told_is : {g : Setting H} {r : Room} {w : Bool} {t : Tree} {vars : Scopes} {budget : ℕ} (c : Choices) (p : Picks g (inner_of g r) t c) (at : ℕ) (l : List (Tree × Tree)) (holds : Bool) → c.wanted ≡ w → drop at c.values ≡ l →
      Comes g r w t (λ path st. after_condition (extra c.is_choice) (values_on g (inner_of g r) c.is_choice (at + at) l) (last_on g (inner_of g r) c c.last) path holds st) vars budget
      (still budget vars (told_by (known g.statics vars) c at l holds))
  told_is c p at [] holds e h = comes_as (λ path host replies cost acts. refl) (last_is c c.last e p.ends)
  told_is c p at (v ∷ more) true e h = comes_as (λ path host replies cost acts. refl) (value_is c v.1 (at + at + 1) e (p.pairs at v more h).value)
  told_is {g = g} {r = r} c p at (v ∷ more) false e h =
      let n : at + at + 2 ≡ at + 1 + (at + 1) = omega arith in
      comes_as (λ path host replies cost acts. rw n refl) (condition_is c p (at + 1) more e (drop_next c.values at v more h))

  truth_cases : {g : Setting H} {r : Room} {w : Bool} {t : Tree} {vars : Scopes} {budget : ℕ} (c : Choices) (p : Picks g (inner_of g r) t c) (at : ℕ) (text : List ℕ) (x : Option Bool) → c.wanted ≡ w →
      Comes g r w t (λ path st. by_truth x text (after_condition (condition_price t) (drop at (conditions_in g (inner_of g r) t)) (last_in g (inner_of g r) t) path) st) vars budget
      (still budget vars (on_result (if_truth x text) (told_by (known g.statics vars) c at (drop at c.values)) (λ f. moves (stop (Raised f)))))
  truth_cases {g = g} {r = r} {t = t} c p at text (Some holds) e =
      comes_as (λ path host replies cost acts. rw (conditions_from g (inner_of g r) t c p at, p.price, p.last) refl) (told_is c p at (drop at c.values) holds e refl)
  truth_cases c p at text None e = comes_at (stop (Raised (not_truth text))) (λ path host replies cost acts. refl)

  -- behind a condition
  pub condition_goes : {g : Setting H} {r : Room} {w : Bool} {t : Tree} {vars : Scopes} {budget : ℕ} (at place : ℕ) (code : Code) →
      Comes g r w t (goes_on g r t (frame.Condition at place) code) vars budget (still budget vars (condition_told (known g.statics vars) (choices_of w t) at code))
  condition_goes {g = g} {r = r} {w = w} {t = t} at place (Value v) = truth_cases (choices_of w t) (picks g (inner_of g r) t w) at v (truth v) (wanted_is w t)
  condition_goes at place (Raised f) = comes_at _ (λ path host more cost acts. refl)
  condition_goes at place (Return v) = comes_at _ (λ path host more cost acts. refl)
  condition_goes at place Break = comes_at _ (λ path host more cost acts. refl)
  condition_goes at place Continue = comes_at _ (λ path host more cost acts. refl)

  -- `if` and `?:` begin
  pub if_begins : {g : Setting H} {r : Room} {w : Bool} {vars : Scopes} {budget : ℕ} (vs : Values) (last : Tree) →
      Comes g r w (tree.branches vs last) (begins g r (tree.branches vs last)) vars budget (still budget vars (branches_move (known g.statics vars) (choices_of w (tree.branches vs last))))
  if_begins {g = g} {r = r} {w = w} vs last =
      comes_paid 1 0 (λ path host more cost acts. rw (values_if g (inner_of g r) 0 vs, places_are vs) refl)
      (condition_is (choices_of w (tree.branches vs last)) (picks g (inner_of g r) (tree.branches vs last) w) 0 (paired vs) refl refl)

  pub choice_begins : {g : Setting H} {r : Room} {w : Bool} {vars : Scopes} {budget : ℕ} (vs : Values) (last : Tree) →
      Comes g r w (tree.choice vs last) (begins g r (tree.choice vs last)) vars budget (still budget vars (branches_move (known g.statics vars) (choices_of w (tree.choice vs last))))
  choice_begins {g = g} {r = r} {w = w} vs last =
      comes_paid 0 0 (λ path host more cost acts. rw (add-zero cost, values_choice g (inner_of g r) 0 vs, places_are vs) refl)
      (condition_is (choices_of w (tree.choice vs last)) (picks g (inner_of g r) (tree.choice vs last) w) 0 (paired vs) refl refl)

-- what they owe
pub within_owes : {procedures : List Procedure} {t : Tree} (k : Known) (u : Tree) (place : ℕ) (w : Bool) (b : Bool) → is_flat u ≡ b → child_at t place ≡ u → Bounded procedures t 2 (moves (within k u place w))
within_owes k u place w true e h = rw e (stop_bounded (leaf_code k.statics k.vars u))
within_owes {t = t} k u place w false e h = rw e (child_bounded (frame.Body place w) refl (ap is_flat h ∙ e))

value_owes : {procedures : List Procedure} {t : Tree} (k : Known) (c : Choices) (u : Tree) (place : ℕ) → child_at t place ≡ u → Bounded procedures t 2 (value_move k c u place)
value_owes k c u place h = bounded_after (value_cost c.is_choice) 0 (omega arith) (within_owes k u place c.wanted (is_flat u) refl h)

record Placed (t : Tree) (c : Choices) : Type 0 where
  pairs : (at : ℕ) (v : Tree × Tree) (more : List (Tree × Tree)) → drop at c.values ≡ v ∷ more → Pair (children t) at t v.0 v.1
  ends : (u : Tree) → c.last ≡ Some u → child_at t (length c.values + length c.values) ≡ u

last_owes : {procedures : List Procedure} {t : Tree} (k : Known) (c : Choices) (x : Option Tree) → ((u : Tree) → x ≡ Some u → child_at t (length c.values + length c.values) ≡ u) → Bounded procedures t 2 (last_by k c x)
last_owes k c (Some u) h = value_owes k c u (length c.values + length c.values) (h u refl)
last_owes k c None h = stop_bounded (Value [])

-- a condition that waits for the next move owes one more
holds_owes : {procedures : List Procedure} {t : Tree} (k : Known) (c : Choices) (at : ℕ) (v : Tree × Tree) (text : List ℕ) (x : Result Bool TclFault) → child_at t (at + at + 1) ≡ v.1 → Bounded procedures t 3 (holds_by k c at v.1 text x)
holds_owes k c at v text (Ok true) h = bounded_less (omega arith) (value_owes k c v.1 (at + at + 1) h)
holds_owes k c at v text (Ok false) h = record { owes = omega arith; ready = tt }
holds_owes k c at v text (Err f) h = bounded_less (omega arith) (stop_bounded (Raised f))

condition_by_owes : {procedures : List Procedure} {t : Tree} (k : Known) (c : Choices) (at : ℕ) (v : Tree × Tree) (x : Option Code) → Pair (children t) at t v.0 v.1 → (x ≡ None → is_flat v.0 ≡ false) → Bounded procedures t 3 (condition_by k c at v.1 x)
condition_by_owes k c at v (Some (Value text)) p heavy = holds_owes k c at v text (truth_read text) p.value
condition_by_owes k c at v (Some (Raised f)) p heavy = bounded_less (omega arith) (stop_bounded (Raised f))
condition_by_owes k c at v (Some (Return u)) p heavy = bounded_less (omega arith) (stop_bounded (Return u))
condition_by_owes k c at v (Some Break) p heavy = bounded_less (omega arith) (stop_bounded Break)
condition_by_owes k c at v (Some Continue) p heavy = bounded_less (omega arith) (stop_bounded Continue)
condition_by_owes k c at v None p heavy = bounded_less (omega arith) (child_bounded (frame.Condition at (at + at)) refl (ap is_flat p.condition ∙ heavy refl))

no_placed : (t : Tree) (w : Bool) → choices_of w t ≡ choices [] None false w → Placed t (choices_of w t)
no_placed t w e = rw e (record { pairs = λ at v more h. absurd (no_pair at v more h); ends = λ u h. absurd (cc h) })

placed : (t : Tree) (w : Bool) → Placed t (choices_of w t)
placed (tree.branches vs last) w = record {
  pairs = λ at v more e. pair_here vs last (tree.branches vs last) at v more e;
  ends = λ u e. last_here vs last (tree.branches vs last) ∙ cc e;
}
placed (tree.choice vs last) w = record {
  pairs = λ at v more e. pair_here vs last (tree.choice vs last) at v more e;
  ends = λ u e. last_here vs last (tree.choice vs last) ∙ cc e;
}
placed (tree.plain text) w = no_placed _ w refl
placed (tree.variable name) w = no_placed _ w refl
placed (tree.element name ts) w = no_placed _ w refl
placed (tree.word ts) w = no_placed _ w refl
placed (tree.script ts) w = no_placed _ w refl
placed (tree.command v ts) w = no_placed _ w refl
placed (tree.expr t) w = no_placed _ w refl
placed (tree.loop s x n b) w = no_placed _ w refl
placed (tree.each ts b) w = no_placed _ w refl
placed (tree.switch k ts bs) w = no_placed _ w refl
placed (tree.catch b) w = no_placed _ w refl
placed (tree.catch_in b n) w = no_placed _ w refl
placed tree.next_body w = no_placed _ w refl
placed (tree.prefixed ops t) w = no_placed _ w refl
placed (tree.row t os) w = no_placed _ w refl

-- with what the condition costs: as an operand of `?:` it is worth all that is owed
asked_owes : {procedures : List Procedure} {t : Tree} {m : Move} (n ticks : ℕ) → ticks ≤ n → Bounded procedures t 3 m → Bounded procedures t 0 (move_after 2 0 (move_after n ticks m))
asked_owes n ticks few b = record { owes = let h = b.owes in omega (arith, h, few); ready = b.ready }

whole_owes : {procedures : List Procedure} {t : Tree} (k : Known) (c : Choices) (at : ℕ) (v : Tree × Tree) (n ticks : ℕ) (x : Option Code) → ticks ≤ n → Pair (children t) at t v.0 v.1 → (x ≡ None → is_flat v.0 ≡ false) → ((code : Code) → x ≡ Some code → 1 ≤ alone v.0 + n) →
    Bounded procedures t 2 (move_after (alone v.0) 0 (move_after n ticks (condition_by k c at v.1 x)))
whole_owes {procedures = procedures} {t = t} k c at v n ticks (Some code) few p heavy some =
    let b = condition_by_owes {procedures = procedures} {t = t} k c at v (Some code) p heavy in
    let one = some code refl in
    record { owes = let h = b.owes in omega (arith, h, few, one); ready = b.ready }
whole_owes k c at v n ticks None few p heavy some =
    bounded_after (alone v.0) 0 (omega arith) (bounded_after n ticks (omega (arith, few)) (child_bounded (frame.Condition at (at + at)) refl (ap is_flat p.condition ∙ heavy refl)))

costs_owe : {procedures : List Procedure} {t : Tree} (k : Known) (c : Choices) (at : ℕ) (v : Tree × Tree) (b : Bool) → Pair (children t) at t v.0 v.1 →
    Bounded procedures t 2 (move_after (condition_cost b v.0) 0 (move_after (quick k v.0).cost (quick k v.0).ticks (condition_by k c at v.1 (quick k v.0).value)))
costs_owe k c at v true p = bounded_less (omega arith) (asked_owes (quick k v.0).cost (quick k v.0).ticks (quick_ticks k v.0) (condition_by_owes k c at v (quick k v.0).value p (quick_heavy k v.0)))
costs_owe k c at v false p = whole_owes k c at v (quick k v.0).cost (quick k v.0).ticks (quick k v.0).value (quick_ticks k v.0) p (quick_heavy k v.0) (quick_some k v.0)

condition_owes : {procedures : List Procedure} {t : Tree} (k : Known) (c : Choices) (at : ℕ) (l : List (Tree × Tree)) → Placed t c → drop at c.values ≡ l → Bounded procedures t 2 (condition_move k c at l)
condition_owes k c at [] p e = last_owes k c c.last p.ends
condition_owes k c at (v ∷ more) p e = costs_owe k c at v c.is_choice (p.pairs at v more e)

told_owes : {procedures : List Procedure} {t : Tree} (k : Known) (c : Choices) (at : ℕ) (l : List (Tree × Tree)) (holds : Bool) → Placed t c → drop at c.values ≡ l → Bounded procedures t 2 (told_by k c at l holds)
told_owes k c at [] holds p e = last_owes k c c.last p.ends
told_owes k c at (v ∷ more) true p e = value_owes k c v.1 (at + at + 1) (p.pairs at v more e).value
told_owes k c at (v ∷ more) false p e = condition_owes k c (at + 1) more p (drop_next c.values at v more e)

truth_owes : {procedures : List Procedure} {t : Tree} (k : Known) (c : Choices) (at : ℕ) (x : Result Bool TclFault) → Placed t c →
    Bounded procedures t 2 (on_result x (told_by k c at (drop at c.values)) (λ f. moves (stop (Raised f))))
truth_owes k c at (Ok holds) p = told_owes k c at (drop at c.values) holds p refl
truth_owes k c at (Err f) p = stop_bounded (Raised f)

pub condition_goes_owes : {procedures : List Procedure} {t : Tree} (k : Known) (w : Bool) (at : ℕ) (code : Code) → Bounded procedures t (mode_owed (mode.Back code)) (condition_told k (choices_of w t) at code)
condition_goes_owes {t = t} k w at (Value v) = truth_owes k (choices_of w t) at (truth_read v) (placed t w)
condition_goes_owes k w at (Raised f) = pass_bounded (Raised f)
condition_goes_owes k w at (Return v) = pass_bounded (Return v)
condition_goes_owes k w at Break = pass_bounded Break
condition_goes_owes k w at Continue = pass_bounded Continue

pub if_begins_owes : {procedures : List Procedure} (k : Known) (w : Bool) (vs : Values) (last : Tree) → Bounded procedures (tree.branches vs last) 0 (branches_move k (choices_of w (tree.branches vs last)))
if_begins_owes k w vs last = bounded_name 1 (omega arith) (condition_owes k (choices_of w (tree.branches vs last)) 0 (paired vs) (placed (tree.branches vs last) w) refl)

choice_first_owes : {procedures : List Procedure} (k : Known) (w : Bool) (vs : Values) (last : Tree) (l : List (Tree × Tree)) → paired vs ≡ l → Bounded procedures (tree.choice vs last) 0 (condition_move k (choices_of w (tree.choice vs last)) 0 l)
choice_first_owes k w vs last [] e = bounded_name 1 (omega arith) (within_owes k last (length (paired vs) + length (paired vs)) w (is_flat last) refl (last_here vs last (tree.choice vs last)))
choice_first_owes k w vs last (v ∷ more) e =
    asked_owes (quick k v.0).cost (quick k v.0).ticks (quick_ticks k v.0) (condition_by_owes k (choices_of w (tree.choice vs last)) 0 v (quick k v.0).value ((placed (tree.choice vs last) w).pairs 0 v more e) (quick_heavy k v.0))

pub choice_begins_owes : {procedures : List Procedure} (k : Known) (w : Bool) (vs : Values) (last : Tree) → Bounded procedures (tree.choice vs last) 0 (branches_move k (choices_of w (tree.choice vs last)))
choice_begins_owes k w vs last = bounded_after 0 0 (omega arith) (choice_first_owes k w vs last (paired vs) refl)
