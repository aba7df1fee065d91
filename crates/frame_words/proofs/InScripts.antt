-- What the moves of a script come to.
use Rattle.std.proofs.Common.{◌≡◌, refl, ap, ◌∙◌, sym, ℕ, suc, ◌+◌, ◌-◌, ◌*◌, ◌<◌, ◌≤◌, List, [], ◌∷◌, ◌++◌, length, drop}
use Rattle.std.proofs.Common.{get_or, Bool, true, false, cond, Option, nat_eq, nat_le, arith, add-zero, ◌&&◌}
use Rattle.std.proofs.lemmas.Bool.Decides.{nat_tests}
use Rattle.std.proofs.lemmas.List.{drop_all, drop_more, length-map}
use Rattle.px_bytes.specs.declared.fault.Reply.{Reply}
use Rattle.tcl_trees.specs.Procedures.{Procedure}
use Rattle.tcl_trees.specs.Tree.{Tree, Trees}
use Rattle.tcl_trees.specs.Tree as tree
use Rattle.tcl_trees.specs.TreeView.{node_view, nodes_view}
use Rattle.tcl_trees.specs.declared.node.Node.{Node}
use Rattle.tcl_vars.specs.Scopes.{Scopes, Level}
use Rattle.rule_model.specs.Children.{child, free}
use Rattle.rule_model.specs.Control.{is_caught}
use Rattle.rule_model.specs.Evaluator.{eval}
use Rattle.rule_model.specs.Outcome.{Act, state, Outcome, then_value, heard}
use Rattle.rule_model.specs.Setting.{Setting, Inner}
use Rattle.rule_model.specs.Words.{commands}
use Rattle.rule_model.specs.declared.code.Code.{Code}
use Rattle.frames.specs.Children.{child_at, commands_of}
use Rattle.frames.specs.Frames.{apply, commands_in, inner_of}
use Rattle.frames.specs.Leafs.{leaf_code}
use Rattle.frames.specs.Moves.{Ready, due, stands}
use Rattle.frames.specs.Owed.{is_flat, mode_owed}
use Rattle.frame_words.specs.Scripts.{child_next, script_from}
use Rattle.frames.specs.Stills.{Comes, Spend, spent}
use Rattle.frames.specs.declared.frame.Frame.TheVariants as frame
use Rattle.frames.specs.declared.frame.Mode.TheVariants as mode
use Rattle.frames.specs.declared.frame.Room.{Room}
use Rattle.frames.proofs.Heard.{heard_twice, then_told, then_unheard}
use Rattle.frames.proofs.LeafViews.{leaf_eval}
use Rattle.frame_words.proofs.WordMeans.{each, drop_each, evals_each}

pub counted : (n : ℕ) (ns : List Node) (ts : List Tree) → n ≡ length ns → nodes_view ns ≡ ts → n ≡ length ts
counted n ns ts l e = l ∙ sym (length-map ns node_view) ∙ ap length e

no_zero : (n : ℕ) → nat_eq (suc n) 0 ≡ false
no_zero n = grind (arith, nat_tests)

command_child : (t : Tree) (at : ℕ) → at < length (commands_of t)
    → get_or (commands_of t) at t ≡ child_at t at
command_child (tree.script ts) at h = refl
command_child other at h = absurd (omega (arith, h))

module _ {H : Type 0} (g : Setting H) (r : Room) where
  abbrev i : Inner H
  i = inner_of g r

  commands_row : (t : Tree) → commands_in g i t ≡ each g i free 0 (commands_of t)
  commands_row (tree.script ts) = evals_each g i free 0 ts
  commands_row other = refl

  pub commands_left : (t : Tree) (at : ℕ)
      → drop at (commands_in g i t) ≡ each g i free at (drop at (commands_of t))
  commands_left t at = ap (λ l. drop at l) (commands_row t) ∙ drop_each g i free at (commands_of t)

  pub none_left : (t : Tree) (at : ℕ) → length (commands_of t) ≤ at → drop at (commands_in g i t) ≡ []
  none_left t at h = commands_left t at ∙ ap (λ l. each g i free at l) (drop_all at (commands_of t) h)

  pub some_left : (t : Tree) (at : ℕ) → at < length (commands_of t)
      → drop at (commands_in g i t) ≡ child free at (child_at t at) (eval g i (child_at t at)) ∷ drop (at + 1)
      (commands_in g i t)
  some_left t at h =
      commands_left t at ∙ ap (λ l. each g i free at l) (drop_more (commands_of t) at t h)
      ∙ rw (command_child t at h, commands_left t (at + 1)) refl

  -- the value of a command is heard where it is the last, and the script's is
  command_heard : (t : Tree) (at : ℕ) (p : List ℕ) (w b : Bool) (o : Outcome H) → at < length (commands_of t)
      → nat_eq (at + 1) (length (commands_of t)) ≡ b
      → heard w (then_value o (λ v s. commands (drop (at + 1) (commands_in g i t)) v p s))
      ≡ heard w (then_value (heard (w && b) o) (λ v s. commands (drop (at + 1) (commands_in g i t)) v p s))
  command_heard t at p true true o h e =
      let over : length (commands_of t) ≤ at + 1 = grind (arith, nat_tests) in
      rw (none_left t (at + 1) over, then_told o, then_told (heard true o)) (sym (heard_twice true o))
  command_heard t at p false true o h e =
      let over : length (commands_of t) ≤ at + 1 = grind (arith, nat_tests) in
      rw (none_left t (at + 1) over, then_told o, then_told (heard false o)) (sym (heard_twice false o))
  command_heard t at p true false o h e =
      let more : at + 1 < length (commands_of t) = grind (arith, nat_tests) in
      rw (some_left t (at + 1) more) (ap (heard true) (sym (then_unheard o _)))
  command_heard t at p false false o h e =
      let more : at + 1 < length (commands_of t) = grind (arith, nat_tests) in
      rw (some_left t (at + 1) more) (ap (heard false) (sym (then_unheard o _)))

  child_stands : (t : Tree) (at : ℕ) (p : List ℕ) (w b : Bool) (vars : Scopes) (h : H) (more : List Reply)
      (budget cost : ℕ) (acts : List Act) → is_flat (child_at t at) ≡ b
      → apply g i t p (frame.Script at w)
      (heard w (eval g i (child_at t at) (p ++ at ∷ []) (state vars h more budget cost acts)))
      ≡ stands g r t (child_next g.statics vars (child_at t at) (frame.Script at w)) p
      (state vars h more budget cost acts)
  child_stands t at p w true vars h more budget cost acts e =
      rw (e, leaf_eval g i (child_at t at) (p ++ at ∷ []) (state vars h more budget cost acts) e) refl
  child_stands t at p w false vars h more budget cost acts e = rw e refl

  abbrev From : Tree → ℕ → Bool → ℕ → Type 0
  From t at w budget = (last p : List ℕ) (vars : Scopes) (h : H) (more : List Reply) (cost : ℕ)
      (acts : List Act)
      → heard w (commands (drop at (commands_in g i t)) last p (state vars h more budget cost acts))
      ≡ heard w (stands g r t (script_from g.statics vars t at last w budget).move.next p
      (state vars h more (script_from g.statics vars t at last w budget).budget
      (cost + (script_from g.statics vars t at last w budget).move.cost) acts))

  from_paid : (t : Tree) (at : ℕ) (w : Bool) (budget : ℕ) → nat_le (length (commands_of t)) at ≡ false
      → nat_eq budget 0 ≡ false → From t at w budget
  from_paid t at w budget e z last p vars h more cost acts =
      let there : at < length (commands_of t) = grind (arith, nat_tests) in
      let st = state vars h more (budget - 1) (cost + 1) acts in
      let b = nat_eq (at + 1) (length (commands_of t)) in
      rw (e, z, some_left t at there, z, add-zero)
      (command_heard t at p w b (eval g i (child_at t at) (p ++ at ∷ []) st) there refl
      ∙ ap (heard w) (child_stands t at p (w && b) (is_flat (child_at t at)) vars h more (budget - 1)
      (cost + 1) acts refl))

  from_unpaid : (t : Tree) (at : ℕ) (w : Bool) (budget : ℕ) → nat_le (length (commands_of t)) at ≡ false
      → nat_eq budget 0 ≡ true → From t at w budget
  from_unpaid t at w budget e z last p vars h more cost acts =
      let there : at < length (commands_of t) = grind (arith, nat_tests) in
      rw (e, z, some_left t at there, z, add-zero) refl

  from_over : (t : Tree) (at : ℕ) (w : Bool) (budget : ℕ) → nat_le (length (commands_of t)) at ≡ true
      → From t at w budget
  from_over t at w budget e last p vars h more cost acts =
      let over : length (commands_of t) ≤ at = grind (arith, nat_tests) in
      rw (e, none_left t at over, add-zero) refl

  from_by : (t : Tree) (at : ℕ) (w : Bool) (budget : ℕ) (a b : Bool) → nat_le (length (commands_of t)) at ≡ a
      → nat_eq budget 0 ≡ b → From t at w budget
  from_by t at w budget true b e z = from_over t at w budget e
  from_by t at w budget false true e z = from_unpaid t at w budget e z
  from_by t at w budget false false e z = from_paid t at w budget e z

  pub script_comes : (t : Tree) (at : ℕ) (last : List ℕ) (w : Bool) (vars : Scopes) (budget : ℕ)
      → Comes g r w t (λ p st. commands (drop at (commands_in g i t)) last p st) vars budget
      (spent vars (script_from g.statics vars t at last w budget))
  script_comes t at last w vars budget = record {
    same = λ p h more cost acts. from_by t at w budget (nat_le (length (commands_of t)) at) (nat_eq budget 0)
        refl refl last p vars h more cost acts;
  }

-- what a script owes, and that a child that begins has something to do
two : (b : Bool) → cond b 2 0 ≤ 2
two true = omega arith
two false = omega arith

pub back_owes : (c : Code) → mode_owed (mode.Back c) ≤ 2
back_owes c = two (is_caught c)

child_owes : (statics : Option Level) (vars : Scopes) (c : Tree) (at : ℕ) (w b : Bool) → is_flat c ≡ b
    → due (child_next statics vars c (frame.Script at w)) ≤ 3
child_owes statics vars c at w true e = let k = back_owes (leaf_code statics vars c) in
    rw e (omega (arith, k))
child_owes statics vars c at w false e = rw e (omega arith)

child_ready : (statics : Option Level) (vars : Scopes) (procedures : List Procedure) (t : Tree) (at : ℕ)
    (w b : Bool) → is_flat (child_at t at) ≡ b
    → Ready procedures t (child_next statics vars (child_at t at) (frame.Script at w))
child_ready statics vars procedures t at w true e = rw e tt
child_ready statics vars procedures t at w false e = rw e e

module _ (statics : Option Level) (vars : Scopes) (t : Tree) (at : ℕ) (last : List ℕ) (w : Bool)
    (budget : ℕ) where
  abbrev s : Spend
  s = script_from statics vars t at last w budget

  owes_by : (a b : Bool) → nat_le (length (commands_of t)) at ≡ a → nat_eq budget 0 ≡ b
      → (due s.move.next ≤ 2 + 3 * s.move.cost)
      × (at < length (commands_of t) → due s.move.next ≤ 3 * s.move.cost)
  owes_by true b e z = rw e (
    omega arith,
    λ h. absurd
        (let over : length (commands_of t) ≤ at = grind (arith, nat_tests) in omega (arith, h, over)),
  )
  owes_by false true e z = rw (e, z) (omega arith, λ h. omega arith)
  owes_by false false e z =
      let k = child_owes statics vars (child_at t at) at (w && nat_eq (at + 1) (length (commands_of t)))
      (is_flat (child_at t at)) refl in
      rw (e, z) (omega (arith, k), λ h. omega (arith, k))

  pub script_owes : due s.move.next ≤ 2 + 3 * s.move.cost
  script_owes = (owes_by (nat_le (length (commands_of t)) at) (nat_eq budget 0) refl refl).0

  pub script_begins_owes : at < length (commands_of t) → due s.move.next ≤ 3 * s.move.cost
  script_begins_owes = (owes_by (nat_le (length (commands_of t)) at) (nat_eq budget 0) refl refl).1

  ticks_by : (a b : Bool) → nat_le (length (commands_of t)) at ≡ a → nat_eq budget 0 ≡ b → s.move.ticks ≡ 0
  ticks_by true b e z = rw e refl
  ticks_by false true e z = rw (e, z) refl
  ticks_by false false e z = rw (e, z) refl

  pub script_ticks : s.move.ticks ≡ 0
  script_ticks = ticks_by (nat_le (length (commands_of t)) at) (nat_eq budget 0) refl refl

  ready_by : (procedures : List Procedure) (a b : Bool) → nat_le (length (commands_of t)) at ≡ a
      → nat_eq budget 0 ≡ b → Ready procedures t s.move.next
  ready_by procedures true b e z = rw e tt
  ready_by procedures false true e z = rw (e, z) tt
  ready_by procedures false false e z =
      rw (e, z) (child_ready statics vars procedures t at (w && nat_eq (at + 1) (length (commands_of t)))
      (is_flat (child_at t at)) refl)

  pub script_ready : (procedures : List Procedure) → Ready procedures t s.move.next
  script_ready procedures = ready_by procedures (nat_le (length (commands_of t)) at) (nat_eq budget 0) refl
      refl
