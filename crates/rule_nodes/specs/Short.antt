-- What trees come to that are done at once: without a host, without a fault, and with values alone
-- (Tcl 8.4, Tcl(n), expr(n), if(n), switch(n), set(n), incr(n), append(n), lappend(n)). None says
-- nothing: such a tree is evaluated step by step.
use Rattle.std.specs.Prelude.{ℕ, zero, suc, ◌+◌, ◌-◌, List}
use Rattle.std.specs.Prelude.{[], ◌∷◌, ◌++◌, length, drop, codes, sum_by}
use Rattle.std.specs.Prelude.{Bool, true, false, nat_eq, nat_lt, if◌then◌else◌, Option, Some, None}
use Rattle.std.specs.Prelude.{option_map, Result, Ok, Err}
use Rattle.px_bytes.specs.Limit.{text_limit}
use Rattle.px_bytes.specs.declared.fault.TclFault.{TclFault}
use Rattle.tcl_expr.specs.Operators.{operator_value_2}
use Rattle.tcl_expr.specs.Truth.{truth}
use Rattle.tcl_expr.specs.declared.expr.Joint.TheVariants.{Both}
use Rattle.tcl_trees.specs.Tree.{Tree, Trees, Operands, Values}
use Rattle.tcl_trees.specs.Tree as tree
use Rattle.tcl_trees.specs.WholeResult.{whole_result}
use Rattle.tcl_trees.specs.declared.node.Verb.{Verb}
use Rattle.tcl_trees.specs.declared.node.Verb.TheVariants as verb
use Rattle.tcl_vars.specs.Scopes.{Level, Scopes}
use Rattle.tcl_var_commands.specs.Changed.{Changed}
use Rattle.tcl_var_commands.specs.Reading.{value_of}
use Rattle.rule_model.specs.Children.{alone, free, is_next, one}
use Rattle.rule_model.specs.Control.{hit_of, unless}
use Rattle.rule_nodes.specs.Own.{verb_changed}

-- the variables, the budget that is left, and the cost so far
pub record Purse : Type 0 where
  pub vars : Scopes
  pub budget : ℕ
  pub cost : ℕ

abbrev pub purse : Scopes → (budget cost : ℕ) → Purse
purse vars budget cost = record { vars = vars; budget = budget; cost = cost }

-- a value, and what is left behind it
pub record Shortly : Type 0 where
  pub value : List ℕ
  pub left : Purse

abbrev pub shortly : List ℕ → Purse → Shortly
shortly value left = record { value = value; left = left }

-- what is done at once from there
abbrev pub Brief : Type 0
Brief = Purse → Option Shortly

-- so much more cost
abbrev pub pay : ℕ → Purse → Purse
pay n p = purse p.vars p.budget (p.cost + n)

-- one unit of the budget, which costs one
abbrev pub take_unit : Purse → Brief → Option Shortly
take_unit p go = if nat_eq p.budget 0 then None else go (purse p.vars (p.budget - 1) (p.cost + 1))

-- goes on where there is something
abbrev pub where_some : {A B : Type 0} → Option A → (A → Option B) → Option B
where_some None go = None
where_some (Some a) go = go a

abbrev pub then_shortly : Option Shortly → (List ℕ → Brief) → Option Shortly
then_shortly x go = where_some x (λ s. go s.value s.left)

-- goes on with a value; a fault isn't told at once
abbrev pub where_value : {A : Type 0} → Result (List ℕ) TclFault → (List ℕ → Option A) → Option A
where_value (Ok v) go = go v
where_value (Err f) go = None

-- a text, and words together, that are no longer than a text may be
abbrev pub where_fits : {A : Type 0} → List ℕ → (List ℕ → Option A) → Option A
where_fits text go = if nat_lt text_limit (length text) then None else go text

abbrev pub where_all_fit : {A : Type 0} → List (List ℕ) → (List (List ℕ) → Option A) → Option A
where_all_fit words go = if nat_lt text_limit (sum_by length words) then None else go words

-- a command on variables that is done at once
abbrev pub is_short_verb : Verb → Bool
is_short_verb verb.Set = true
is_short_verb verb.Incr = true
is_short_verb verb.Append = true
is_short_verb verb.Lappend = true
is_short_verb other = false

abbrev pub value_changed : Changed → (budget cost : ℕ) → Option Shortly
value_changed c budget cost = where_value c.value (λ v. Some (shortly v (purse c.vars budget cost)))

abbrev pub short_changed : Option Level → Verb → List (List ℕ) → Brief
short_changed statics v words p =
    if is_short_verb v then value_changed (verb_changed statics v words p.vars) p.budget p.cost
    else None

-- a variable's value
abbrev pub short_variable : Option Level → List ℕ → Brief
short_variable statics name p =
    option_map (λ v. shortly v p)
    (value_of statics p.vars (record { name = name; index = None }))

-- by a condition's value
abbrev pub by_test : Option Bool → (value rest : Option Shortly) → Option Shortly
by_test (Some true) value rest = value
by_test (Some false) value rest = rest
by_test None value rest = None

-- the first body from here on: none is the empty value
abbrev pub first_short : List (Option Brief) → Brief
first_short [] p = Some (shortly [] p)
first_short (Some b ∷ bs) p = b p
first_short (None ∷ bs) p = first_short bs p

abbrev pub hit_short : Result (Option ℕ) TclFault → List (Option Brief) → Brief
hit_short (Ok (Some k)) bodies p = first_short (drop k bodies) p
hit_short (Ok None) bodies p = Some (shortly [] p)
hit_short (Err f) bodies p = None

-- what is done with all words
abbrev pub Ending : Type 0
Ending = List (List ℕ) → Brief

-- What a tree comes to at once. Costs, units and limits are the evaluator's.
abbrev mutual
  pub short : Option Level → Tree → Brief
  short statics (tree.plain text) p = Some (shortly text p)
  short statics (tree.variable name) p = short_variable statics name p
  short statics (tree.word ts) p = short_pieces statics ts [] p
  short statics (tree.script ts) p = short_script statics ts [] p
  short statics (tree.command v ts) p =
      short_words statics one ts (short_changed statics v) [] p
  short statics (tree.expr t) p =
      then_shortly (short statics t (pay (alone t) (pay 1 p)))
      (λ v q. Some (shortly (whole_result v) q))
  short statics (tree.branches vs last) p =
      short_branches statics vs (short statics last) (pay 1 p)
  short statics (tree.switch front ts bs) p =
      short_words statics free ts
      (λ words. hit_short (hit_of front (drop 1 words)) (short_bodies statics bs))
      (codes "switch" ∷ []) (pay 1 p)
  short statics (tree.row t os) p =
      then_shortly (short statics t (pay 1 p)) (short_operands statics os)
  short statics t p = None

  -- pieces of a word behind this text, each for one
  pub short_pieces : Option Level → Trees → List ℕ → Brief
  short_pieces statics tree.no_trees text p = Some (shortly text p)
  short_pieces statics (tree.and_tree t ts) text p =
      then_shortly (short statics t (pay 1 p)) (λ v q.
      where_fits (text ++ v) (λ all. short_pieces statics ts all q))

  -- a word; a tree that has no parts is its own only one, with this price and meaning
  pub short_word : Option Level → (Tree → ℕ) → Tree → Brief → Brief
  short_word statics price (tree.word (tree.and_tree t ts)) m p =
      then_shortly (short statics t (pay 1 p)) (λ v q.
      where_fits v (λ all. short_pieces statics ts all q))
  short_word statics price t m p =
      then_shortly (m (pay (price t) p)) (λ v q. where_fits v (λ all. Some (shortly all q)))

  -- words behind those that are done, and then what is done with all of them
  pub short_words : Option Level → (Tree → ℕ) → Trees → Ending → List (List ℕ) → Brief
  short_words statics price tree.no_trees finish done p = finish done p
  short_words statics price (tree.and_tree t ts) finish done p =
      then_shortly (short_word statics price t (short statics t) p) (λ v q.
      where_all_fit (done ++ v ∷ []) (λ all. short_words statics price ts finish all q))

  -- commands in order behind the last value, each for a unit
  pub short_script : Option Level → Trees → List ℕ → Brief
  short_script statics tree.no_trees last p = Some (shortly last p)
  short_script statics (tree.and_tree t ts) last p =
      take_unit p (λ q. then_shortly (short statics t q) (short_script statics ts))

  -- operands behind a value: each, and its operator, for one
  pub short_operands : Option Level → Operands → List ℕ → Brief
  short_operands statics tree.no_operands left p = Some (shortly left p)
  short_operands statics (tree.and_operand (Both op) t os) left p =
      then_shortly (short statics t (pay 1 (pay 1 p))) (λ right q.
      where_value (operator_value_2 op left right) (λ v. short_operands statics os v q))
  short_operands statics os left p = None

  -- the value behind the first condition that holds, or else the last
  pub short_branches : Option Level → Values → Brief → Brief
  short_branches statics tree.no_values last p = last p
  short_branches statics (tree.and_value t u vs) last p =
      then_shortly (short statics t (pay (alone t) p)) (λ v q.
      by_test (truth v) (short statics u q) (short_branches statics vs last q))

  -- the bodies of a `switch`; none where the next one is meant
  pub short_bodies : Option Level → Trees → List (Option Brief)
  short_bodies statics tree.no_trees = []
  short_bodies statics (tree.and_tree t ts) =
      unless (is_next t) (short statics t) ∷ short_bodies statics ts

-- a command of a script: a unit, and what it comes to
abbrev pub short_command : Option Level → Tree → Brief
short_command statics t p = take_unit p (short statics t)

-- What is left behind the first so many of these commands, each with its unit; the cost of each is
-- that from nothing, behind what was paid before. Their values go unheard.
abbrev pub short_front : Option Level → ℕ → List Tree → Purse → Option Purse
short_front statics zero ts p = Some p
short_front statics (suc n) [] p = None
short_front statics (suc n) (t ∷ ts) p =
    where_some (short_command statics t (purse p.vars p.budget 0)) (λ s.
    short_front statics n ts (purse s.left.vars s.left.budget (p.cost + s.left.cost)))
