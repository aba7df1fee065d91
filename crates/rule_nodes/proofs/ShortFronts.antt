-- Commands of a script that are done at once, one after another.
use Rattle.std.proofs.Common.{◌≡◌, refl, ap, ◌∙◌, ℕ, zero, suc, ◌+◌, List, [], ◌∷◌, Bool, true, false}
use Rattle.std.proofs.Common.{Option, Some, None, drop, nat_eq, add-zero, add_assoc, arith}
use Rattle.std.specs.Prelude.{if◌then◌else◌}
use Rattle.px_bytes.specs.FaultText.{budget_spent}
use Rattle.px_bytes.specs.declared.fault.Reply.{Reply}
use Rattle.tcl_trees.specs.Tree.{Tree}
use Rattle.rule_model.specs.Children.{child, free}
use Rattle.rule_model.specs.Evaluator.{eval}
use Rattle.rule_model.specs.Outcome.{Act, State, Outcome, Ends, Meaning, spend, then_value}
use Rattle.rule_model.specs.Setting.{Setting, Inner}
use Rattle.rule_model.specs.Words.{commands}
use Rattle.rule_model.specs.declared.code.Code.TheVariants.{Raised}
use Rattle.rule_nodes.specs.Short.{Purse, Shortly, purse, short, short_command, short_front, where_some}
use Rattle.rule_nodes.proofs.ShortEvals.{Is, free_is, short_is, state_of, unit_is}

module _ {H : Type 0} (host : H) (more : List Reply) (before : ℕ) (acts : List Act) (g : Setting H) (i : Inner H) where
  -- commands, the first of which has this number
  abbrev pub row : ℕ → List Tree → List (Meaning H)
  row k [] = []
  row k (t ∷ ts) = child free k t (eval g i t) ∷ row (k + 1) ts

  if_then : (b : Bool) (o other : Outcome H) (f : List ℕ → State H → Outcome H)
      → then_value (if b then other else o) f ≡ (if b then then_value other f else then_value o f)
  if_then true o other f = refl
  if_then false o other f = refl

  spend_then : (st : State H) (go : State H → Outcome H) (f : List ℕ → State H → Outcome H) → then_value (spend st go) f ≡ spend st (λ s. then_value (go s) f)
  spend_then st go f = if_then (nat_eq st.budget 0) _ (Ends (Raised budget_spent) st) f

  -- what is left behind a command, where the cost of its own is that from nothing
  abbrev pub behind : Purse → Purse → Purse
  behind p q = purse q.vars q.budget (p.cost + q.cost)

  -- a command that is done at once, and what comes behind it
  abbrev pub IsOnce : Option Shortly → Purse → (List ℕ → State H → Outcome H) → Outcome H → Type 0
  IsOnce None p f o = Unit {0}
  IsOnce (Some s) p f o = o ≡ f s.value (state_of host more before acts (behind p s.left))

  once_by : (x : Option Shortly) (p : Purse) (f : List ℕ → State H → Outcome H) (o : Outcome H) → Is host more (before + p.cost) acts x o
      → IsOnce x p f (then_value o f)
  once_by None p f o h = tt
  once_by (Some s) p f o h = rw (h, add_assoc before p.cost s.left.cost) refl

  unpaid_is : (p : Purse) → state_of host more (before + p.cost) acts (purse p.vars p.budget 0) ≡ state_of host more before acts p
  unpaid_is p = rw (add-zero (before + p.cost)) refl

  from_unpaid : (x : Option Shortly) (p : Purse) (f : List ℕ → State H → Outcome H) (m : State H → Outcome H) (s s' : State H) → s ≡ s' → IsOnce x p f (m s)
      → IsOnce x p f (m s')
  from_unpaid x p f m s s' e h = rw (← e) h

  as_other : (x : Option Shortly) (p : Purse) (f : List ℕ → State H → Outcome H) (o o' : Outcome H) → o ≡ o' → IsOnce x p f o → IsOnce x p f o'
  as_other x p f o o' e h = rw (← e) h

  pub command_is : (k : ℕ) (t : Tree) (ms : List (Meaning H)) (last path : List ℕ) (p : Purse)
      → IsOnce (short_command g.statics t (purse p.vars p.budget 0)) p (λ w s. commands ms w path s)
      (commands (child free k t (eval g i t) ∷ ms) last path (state_of host more before acts p))
  command_is k t ms last path p =
      let u = purse p.vars p.budget 0 in
      let x = short_command g.statics t u in
      let m = child free k t (eval g i t) path in
      let f : List ℕ → State H → Outcome H = λ w s. commands ms w path s in
      let st = state_of host more (before + p.cost) acts u in
      let done = unit_is host more (before + p.cost) acts u (short g.statics t) m
      (λ q. free_is host more (before + p.cost) acts g i k t (short g.statics t) (eval g i t) (λ way r. short_is host more (before + p.cost) acts g i t way r)
      path q) in
      from_unpaid x p f (λ s. commands (child free k t (eval g i t) ∷ ms) last path s) st (state_of host more before acts p) (unpaid_is p)
      (as_other x p f (then_value (spend st m) f) (spend st (λ s. then_value (m s) f)) (spend_then st m f)
      (once_by x p f (spend st m) done))

  -- behind the first so many commands come the others, behind some last value
  pub record Goes (ms : List (Meaning H)) (path : List ℕ) (left : Purse) (o : Outcome H) : Type 0 where
    pub value : List ℕ
    pub goes : o ≡ commands ms value path (state_of host more before acts left)

  abbrev pub IsFront : Option Purse → List (Meaning H) → List ℕ → Outcome H → Type 0
  IsFront None ms path o = Unit {0}
  IsFront (Some q) ms path o = Goes ms path q o

  front_by : (x : Option Purse) (ms : List (Meaning H)) (path : List ℕ) (o o' : Outcome H) → o ≡ o' → IsFront x ms path o' → IsFront x ms path o
  front_by None ms path o o' e h = tt
  front_by (Some q) ms path o o' e h = record { value = h.value; goes = e ∙ h.goes }

  front_row : (x : Option Purse) (ms ns : List (Meaning H)) (path : List ℕ) (o : Outcome H) → ms ≡ ns → IsFront x ms path o → IsFront x ns path o
  front_row x ms ns path o e h = rw (← e) h

  then_front : (x : Option Shortly) (p : Purse) (go : Shortly → Option Purse) (ms ns : List (Meaning H)) (path : List ℕ) (o : Outcome H)
      → IsOnce x p (λ w s. commands ns w path s) o
      → ((s : Shortly) → IsFront (go s) ms path (commands ns s.value path (state_of host more before acts (behind p s.left))))
      → IsFront (where_some x go) ms path o
  then_front None p go ms ns path o e h = tt
  then_front (Some s) p go ms ns path o e h = front_by (go s) ms path o _ e (h s)

  later : (n k : ℕ) → (k + 1) + n ≡ k + suc n
  later n k = omega arith

  none_later : (k : ℕ) → k + 0 ≡ k
  none_later k = omega arith

  pub front_is : (n k : ℕ) (ts : List Tree) (last path : List ℕ) (p : Purse)
      → IsFront (short_front g.statics n ts p) (row (k + n) (drop n ts)) path (commands (row k ts) last path (state_of host more before acts p))
  front_is zero k ts last path p = record { value = last; goes = rw (none_later k) refl }
  front_is (suc n) k [] last path p = tt
  front_is (suc n) k (t ∷ ts) last path p =
      then_front (short_command g.statics t (purse p.vars p.budget 0)) p _ _ (row (k + 1) ts) path _ (command_is k t (row (k + 1) ts) last path p)
      (λ s. front_row (short_front g.statics n ts (behind p s.left)) _ _ path _ (ap (λ j. row j (drop n ts)) (later n k))
      (front_is n (k + 1) ts s.value path (behind p s.left)))
