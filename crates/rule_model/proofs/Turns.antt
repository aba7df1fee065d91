-- How many turns a loop may make doesn't show, where they are as many as the budget or more.
use Rattle.std.proofs.Common.{◌≡◌, refl, sym, ap, ℕ, zero, suc, ◌≤◌, ◌-◌, List, [], ◌∷◌, ◌++◌, Bool, true, false, Option, Some, None, arith}
use Rattle.std.proofs.Common.{if◌then◌else◌, nat_eq}
use Rattle.std.proofs.lemmas.Bool.{cond-true}
use Rattle.std.proofs.lemmas.Bool.Decides.{nat_tests}
use Rattle.px_bytes.specs.FaultText.{budget_spent}
use Rattle.tcl_trees.specs.Tree.{Tree}
use Rattle.tcl_expr.specs.Truth.{truth}
use Rattle.rule_model.specs.Children.{child, free, alone}
use Rattle.rule_model.specs.Control.{after_body, after_next, turn}
use Rattle.rule_model.specs.Expressions.{by_truth, then_truth}
use Rattle.rule_model.specs.Laws.{meaning, state_after, TurnsShowNoNumber}
use Rattle.rule_model.specs.Outcome.{State, Outcome, Ends, Waits, Meaning, then_code, with_value, paid}
use Rattle.rule_model.specs.declared.code.Code.{Code}
use Rattle.rule_model.specs.declared.code.Code.TheVariants.{Value, Raised, Return, Break, Continue}
use Rattle.rule_model.specs.Setting.{Setting}
use Rattle.rule_model.proofs.Alike.{spent}
use Rattle.rule_model.proofs.Facts.{acts_stay}

-- the budget is no more than this
abbrev Low : {H : Type 0} → ℕ → Outcome H → Type 0
Low k o = (state_after o).budget ≤ k

abbrev Lowers : {H : Type 0} → Meaning H → Type 0
Lowers {H} m = (path : List ℕ) (st : State H) → Low st.budget (m path st)

-- what is done with any state whose budget is no more than this is the same
abbrev Agree : {H : Type 0} → ℕ → (State H → Outcome H) → (State H → Outcome H) → Type 0
Agree {H} k go on = (st : State H) → st.budget ≤ k → go st ≡ on st

code_agrees : {H : Type 0} (k : ℕ) (o : Outcome H) → Low k o → (go on : Code → State H → Outcome H) → ((c : Code) → Agree k (go c) (on c)) → then_code o go ≡ then_code o on
code_agrees k (Ends c st) low go on h = h c st low
code_agrees k (Waits path call st) low go on h = refl

body_agrees : {H : Type 0} (k : ℕ) (go on : State H → Outcome H) → Agree k go on → (c : Code) → Agree k (after_body go c) (after_body on c)
body_agrees k go on h (Value v) st low = h st low
body_agrees k go on h (Raised f) st low = refl
body_agrees k go on h (Return v) st low = refl
body_agrees k go on h Break st low = refl
body_agrees k go on h Continue st low = h st low

next_agrees : {H : Type 0} (k : ℕ) (go on : State H → Outcome H) → Agree k go on → (c : Code) → Agree k (after_next go c) (after_next on c)
next_agrees k go on h (Value v) st low = h st low
next_agrees k go on h (Raised f) st low = refl
next_agrees k go on h (Return v) st low = refl
next_agrees k go on h Break st low = refl
next_agrees k go on h Continue st low = refl

by_agrees : {H : Type 0} (k : ℕ) (holds : Option Bool) (v : List ℕ) (go on : Bool → State H → Outcome H) → ((b : Bool) → Agree k (go b) (on b)) → Agree k (by_truth holds v go) (by_truth holds v on)
by_agrees k (Some b) v go on h st low = h b st low
by_agrees k None v go on h st low = refl

value_agrees : {H : Type 0} (k : ℕ) (go on : Bool → State H → Outcome H) → ((b : Bool) → Agree k (go b) (on b)) → (c : Code) → Agree k (with_value (λ v. by_truth (truth v) v go) c) (with_value (λ v. by_truth (truth v) v on) c)
value_agrees k go on h (Value v) st low = by_agrees k (truth v) v go on h st low
value_agrees k go on h (Raised f) st low = refl
value_agrees k go on h (Return v) st low = refl
value_agrees k go on h Break st low = refl
value_agrees k go on h Continue st low = refl

truth_agrees : {H : Type 0} (k : ℕ) (o : Outcome H) → Low k o → (go on : Bool → State H → Outcome H) → ((b : Bool) → Agree k (go b) (on b)) → then_truth o go ≡ then_truth o on
truth_agrees k o low go on h = code_agrees k o low _ _ (value_agrees k go on h)

nothing_left : (budget : ℕ) → budget ≤ 0 → nat_eq budget 0 ≡ true
nothing_left budget none = grind (arith, nat_tests)

within : (a b k : ℕ) → a ≤ b → b ≤ k → a ≤ k
within a b k h l = omega (arith, h, l)

less : (budget n left : ℕ) → left ≤ budget - 1 → budget ≤ suc n → left ≤ n
less budget n left h l = omega (arith, h, l)

module _ {H : Type 0} (test body next : Meaning H) (tests : Lowers test) (runs : Lowers body) (follows : Lowers next) where
  -- the rest of a turn, after which so many may be made
  again : (k : ℕ) (go on : Bool → State H → Outcome H) → ((b : Bool) → Agree k (go b) (on b)) → (path : List ℕ) (st : State H) → st.budget ≤ k
      → then_code (body path st) (after_body (λ b. then_code (next path b) (after_next (λ e. then_truth (test path e) go))))
      ≡ then_code (body path st) (after_body (λ b. then_code (next path b) (after_next (λ e. then_truth (test path e) on))))
  again k go on h path st low =
      code_agrees k (body path st) (within _ _ k (runs path st) low) _ _ (body_agrees k _ _ (λ b c.
      code_agrees k (next path b) (within _ _ k (follows path b) c) _ _ (next_agrees k _ _ (λ e d.
      truth_agrees k (test path e) (within _ _ k (tests path e) d) go on h))))

  turn_agrees : (n m : ℕ) (path : List ℕ) (holds : Bool) (st : State H) → st.budget ≤ n → st.budget ≤ m → turn n test body next path holds st ≡ turn m test body next path holds st
  turn_agrees zero zero path holds st a b = refl
  turn_agrees zero (suc m) path false st a b = refl
  turn_agrees zero (suc m) path true st a b = sym (cond-true _ _ _ (nothing_left st.budget a))
  turn_agrees (suc n) zero path false st a b = refl
  turn_agrees (suc n) zero path true st a b = cond-true _ _ _ (nothing_left st.budget b)
  turn_agrees (suc n) (suc m) path false st a b = refl
  turn_agrees (suc n) (suc m) path true st a b =
      ap (λ o. if nat_eq st.budget 0 then Ends (Raised budget_spent) st else o)
      (again (spent st).budget _ _ (λ holds t low. turn_agrees n m path holds t (less st.budget n t.budget low a) (less st.budget m t.budget low b)) path (spent st) (omega arith))

  pub turns_agree : (n m : ℕ) (path : List ℕ) (st : State H) → st.budget ≤ n → st.budget ≤ m → then_truth (test path st) (turn n test body next path) ≡ then_truth (test path st) (turn m test body next path)
  turns_agree n m path st a b =
      truth_agrees st.budget (test path st) (tests path st) _ _ (λ holds t low. turn_agrees n m path holds t (within t.budget st.budget n low a) (within t.budget st.budget m low b))

lowers : {H : Type 0} (g : Setting H) (expressions calls : ℕ) (price : Tree → ℕ) (k : ℕ) (tree : Tree) → Lowers (child price k tree (meaning g expressions calls tree))
lowers g expressions calls price k tree path st = (acts_stay g expressions calls tree (path ++ k ∷ []) (paid (price tree) st)).budget

pub turns_show_no_number : {H : Type 0} → TurnsShowNoNumber H
turns_show_no_number g expressions calls test body next n m path st a b =
    turns_agree (child alone 1 test (meaning g expressions calls test)) (child free 3 body (meaning g expressions calls body))
    (child free 2 next (meaning g expressions calls next)) (lowers g expressions calls alone 1 test)
    (lowers g expressions calls free 3 body) (lowers g expressions calls free 2 next) n m path st a b
