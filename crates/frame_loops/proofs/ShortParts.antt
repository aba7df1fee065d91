-- Parts of a loop that are done at once, one behind another.
use Rattle.std.proofs.Common.{◌≡◌, refl, ap, ◌∙◌, sym, ℕ, zero, suc, ◌+◌, ◌-◌, ◌<◌, ◌≤◌, get_or, List, [], ◌∷◌, length, Bool}
use Rattle.std.proofs.Common.{true, false, not, Option, Some, None, nat_eq, arith, rules, add-zero, add_assoc}
use Rattle.std.specs.Ordering.{int_eq}
use Rattle.std.proofs.lemmas.Bool.Decides.{Decides-int_eq}
use Rattle.std.proofs.Common.{of_z, ◌^◌, negsuc}
use Rattle.std.specs.Int.{w64}
use Rattle.std.specs.Prelude.{if◌then◌else◌, ℤ, pos}
use mir.Val.{SFits}
use Rattle.tcl_trees.specs.Tree.{Tree}
use Rattle.tcl_trees.specs.TreeView.{node_view, nodes_view}
use Rattle.tcl_trees.specs.declared.node.Node.{Node}
use Rattle.tcl_vars.specs.Scopes.{Level, Scopes}
use Rattle.rule_model.specs.Children.{alone}
use Rattle.rule_nodes.specs.AtOnce.{DoesCommand, DoesFront, ReadsWhole}
use Rattle.rule_nodes.specs.Short.{Purse, Shortly, purse, short_command, short_front, where_some}
use Rattle.rule_nodes.specs.ShortTurns.{Loop, Point, behind, many, once, point, turn_once}
use Rattle.rule_nodes.specs.ShortTurns as short
use Rattle.frame_loops.specs.AtOnce.{DoesTurns, are_scripts, is_start, loop_at}
use Rattle.frames.specs.Children.{is_script}
use Rattle.frames.specs.Children.{commands_of}
use Rattle.frame_loops.specs.Loops.{Parts}
use Rattle.frame_loops.specs.declared.loop_turns.Part as part
use Rattle.frame_loops.specs.declared.loop_turns.Part.TheVariants as code

-- no commands, and a single one, of the code
pub no_nodes : (ns : List Node) (ts : List Tree) → nodes_view ns ≡ ts → length ns < 1 → ts ≡ []
no_nodes [] ts e h = sym e
no_nodes (n ∷ ns) ts e h = absurd (let m : ⊥ = omega (arith, h) in m)

pub one_node : (ns : List Node) (n : Node) (ts : List Tree) → nodes_view ns ≡ ts → 1 ≤ length ns → length ns < 2 → n ≡ get_or ns 0 n → ts ≡ node_view n ∷ []
one_node [] n ts e h k is = absurd (let m : ⊥ = omega (arith, h) in m)
one_node (m ∷ []) n ts e h k is = let same : n ≡ m = is in rw same (sym e)
one_node (m ∷ (u ∷ ns)) n ts e h k is = absurd (let m : ⊥ = omega (arith, k) in m)

-- commands that are done at once
pub none_done : {statics : Option Level} {ts : List Tree} {vars : Scopes} {budget paid : ℕ} → ts ≡ []
    → DoesFront statics ts (length ts) vars budget paid vars budget paid
none_done {budget = budget} {paid = paid} e = rw e (record {
  cost = 0;
  does = λ before. rw (add-zero before) refl;
  paid_is = sym (add-zero paid);
})

pub one_done : {statics : Option Level} {t : Tree} {ts : List Tree} {vars vars' : Scopes} {budget paid budget' paid' : ℕ} → ts ≡ t ∷ []
    → DoesCommand statics t vars budget paid vars' budget' paid' → DoesFront statics ts (length ts) vars budget paid vars' budget' paid'
one_done e d = rw e (record { cost = d.cost; does = λ before. rw d.does.is_done refl; paid_is = d.paid_is })

-- so many things, and then more of them
pub no_zero : (n : ℕ) → nat_eq (suc n) 0 ≡ false
no_zero n = search rules

some_joins : (x : Option Point) (y z : Point) (go on : Point → Option Point) → ((w : Point) → go w ≡ Some y → on w ≡ Some z)
    → where_some x go ≡ Some y → where_some x on ≡ Some z
some_joins None y z go on h e = absurd (cc e)
some_joins (Some w) y z go on h e = h w e

many_join : (statics : Option Level) (l : Loop) (m n : ℕ) (x y z : Point) → many statics l m x ≡ Some y → many statics l n y ≡ Some z
    → many statics l (m + n) x ≡ Some z
many_join statics l zero n x y z e h =
    let same : x ≡ y = cc e in
    let none : 0 + n ≡ n = omega arith in
    rw (none, same) h
many_join statics l (suc m) n x y z e h =
    let more : suc m + n ≡ suc (m + n) = omega arith in
    rw more (some_joins (once statics l x.part x.turns x.left) y z _ _ (λ w k. many_join statics l m n w y z k h) e)

pub nothing_done : {statics : Option Level} {l : Parts} {from : part.Part} {turns budget paid : ℕ} {vars : Scopes}
    → DoesTurns statics l from from turns turns vars budget paid vars budget paid
nothing_done {paid = paid} = record {
  things = 0;
  cost = 0;
  does = λ before. rw (add-zero before) refl;
  in_scripts = λ e. absurd (cc e);
  paid_is = sym (add-zero paid);
}

in_either : (l : Parts) (m n : ℕ) → (nat_eq m 0 ≡ false → are_scripts l ≡ true) → (nat_eq n 0 ≡ false → are_scripts l ≡ true) → nat_eq (m + n) 0 ≡ false
    → are_scripts l ≡ true
in_either l zero n s r e = let none : 0 + n ≡ n = omega arith in r (rw none at e)
in_either l (suc m) n s r e = s (no_zero m)

pub does_join : {statics : Option Level} {l : Parts} {a b c : part.Part} {n n' n'' budget paid budget' paid' budget'' paid'' : ℕ}
    {vars vars' vars'' : Scopes}
    → DoesTurns statics l a b n n' vars budget paid vars' budget' paid' → DoesTurns statics l b c n' n'' vars' budget' paid' vars'' budget'' paid''
    → DoesTurns statics l a c n n'' vars budget paid vars'' budget'' paid''
does_join {statics = statics} {l = l} d e = record {
  things = d.things + e.things;
  cost = d.cost + e.cost;
  does = λ before. rw (← add_assoc before d.cost e.cost)
      (many_join statics (loop_at l) d.things e.things _ _ _ (d.does before) (e.does (before + d.cost)));
  in_scripts = in_either l d.things e.things d.in_scripts e.in_scripts;
  paid_is = (let p = d.paid_is in let q = e.paid_is in omega (arith, p, q));
}

-- the commands of a body, and of what comes after a turn
some_nested : (x : Option Shortly) (go : Shortly → Option Purse) (f : Shortly → Point) (m : Point → Option Point) (q : Purse) (z : Point)
    → ((s : Shortly) → go s ≡ Some q → m (f s) ≡ Some z) → where_some x go ≡ Some q → where_some (where_some x (λ s. Some (f s))) m ≡ Some z
some_nested None go f m q z h e = absurd (cc e)
some_nested (Some s) go f m q z h e = h s e

body_front : (statics : Option Level) (l : Loop) (ts : List Tree) (k n : ℕ) (p q : Purse) → short_front statics (length ts) ts p ≡ Some q
    → many statics l (suc (length ts)) (point (short.Body k ts) n p) ≡ Some (point (short.Next 0 l.next) n q)
body_front statics l [] k n p q e = let same : p ≡ q = cc e in rw same refl
body_front statics l (t ∷ ts) k n p q e =
    some_nested (short_command statics t (purse p.vars p.budget 0)) (λ s. short_front statics (length ts) ts (behind p s.left))
    (λ s. point (short.Body (k + 1) ts) n (behind p s.left)) (many statics l (suc (length ts))) q (point (short.Next 0 l.next) n q)
    (λ s h. body_front statics l ts (k + 1) n (behind p s.left) q h) e

next_front : (statics : Option Level) (l : Loop) (ts : List Tree) (k n : ℕ) (p q : Purse) → short_front statics (length ts) ts p ≡ Some q
    → many statics l (suc (length ts)) (point (short.Next k ts) n p) ≡ Some (point short.Test n q)
next_front statics l [] k n p q e = let same : p ≡ q = cc e in rw same refl
next_front statics l (t ∷ ts) k n p q e =
    some_nested (short_command statics t (purse p.vars p.budget 0)) (λ s. short_front statics (length ts) ts (behind p s.left))
    (λ s. point (short.Next (k + 1) ts) n (behind p s.left)) (many statics l (suc (length ts))) q (point short.Test n q)
    (λ s h. next_front statics l ts (k + 1) n (behind p s.left) q h) e

pub body_done : {statics : Option Level} {l : Parts} {n budget paid budget' paid' : ℕ} {vars vars' : Scopes} → are_scripts l ≡ true
    → DoesFront statics (commands_of l.body) (length (commands_of l.body)) vars budget paid vars' budget' paid'
    → DoesTurns statics l code.Body code.Next n n vars budget paid vars' budget' paid'
body_done {statics = statics} {l = l} {n = n} s d = record {
  things = suc (length (commands_of l.body));
  cost = d.cost;
  does = λ before. body_front statics (loop_at l) (commands_of l.body) 0 n _ _ (d.does before);
  in_scripts = λ h. s;
  paid_is = d.paid_is;
}

pub next_done : {statics : Option Level} {l : Parts} {n budget paid budget' paid' : ℕ} {vars vars' : Scopes} → are_scripts l ≡ true
    → DoesFront statics (commands_of l.next) (length (commands_of l.next)) vars budget paid vars' budget' paid'
    → DoesTurns statics l code.Next code.Test n n vars budget paid vars' budget' paid'
next_done {statics = statics} {l = l} {n = n} s d = record {
  things = suc (length (commands_of l.next));
  cost = d.cost;
  does = λ before. next_front statics (loop_at l) (commands_of l.next) 0 n _ _ (d.does before);
  in_scripts = λ h. s;
  paid_is = d.paid_is;
}

-- the end, as it is called otherwise, and the beginnings of a move
pub ends_at : {statics : Option Level} {l : Parts} {a b : part.Part} {n n' budget paid budget' paid' budget'' paid'' : ℕ} {vars vars' vars'' : Scopes}
    → DoesTurns statics l a b n n' vars budget paid vars' budget' paid' → vars'' ≡ vars' → budget'' ≡ budget' → paid'' ≡ paid'
    → DoesTurns statics l a b n n' vars budget paid vars'' budget'' paid''
ends_at d v b p = rw (v, b, p) d

pub both_scripts : (l : Parts) → is_script l.body ≡ true → is_script l.next ≡ true → are_scripts l ≡ true
both_scripts l b n = rw (b, n) refl

other_start : (from : part.Part) → is_start from ≡ true → (from ≡ code.Next → ⊥) → code.Test ≡ from
other_start code.Test s h = refl
other_start code.Body s h = absurd (cc s)
other_start code.Next s h = absurd (h refl)
other_start code.Over s h = absurd (cc s)

pub start_test : {statics : Option Level} {l : Parts} {n budget paid budget' paid' : ℕ} {vars vars' : Scopes} (from : part.Part) → is_start from ≡ true
    → (from ≡ code.Next → ⊥) → vars' ≡ vars → budget' ≡ budget → paid' ≡ paid → DoesTurns statics l from code.Test n n vars budget paid vars' budget' paid'
start_test from s h v b p = rw (v, b, p, other_start from s h) nothing_done

pub start_next : {statics : Option Level} {l : Parts} {n budget paid budget' paid' budget'' paid'' : ℕ} {vars vars' vars'' : Scopes} (from : part.Part)
    → from ≡ code.Next → are_scripts l ≡ true → DoesFront statics (commands_of l.next) (length (commands_of l.next)) vars budget paid vars' budget' paid'
    → vars'' ≡ vars' → budget'' ≡ budget' → paid'' ≡ paid' → DoesTurns statics l from code.Test n n vars budget paid vars'' budget'' paid''
start_next from e s d v b p = rw (v, b, p, e) (next_done s d)

-- a test that is asked at once
pub zero_is : (i : ℤ) → SFits w64 i → of_z w64 i ≡ 0 → i ≡ pos 0
zero_is (pos zero) fits e = refl
zero_is (pos (suc n)) fits e = absurd (cc e)
zero_is (negsuc n) fits e =
    let small : n < 2 ^ 63 = fits.sfits in
    let none : 2 ^ 64 - suc n ≡ 0 = e in
    absurd (let m : ⊥ = omega arith in m)

pub other_is : (i : ℤ) → (of_z w64 i ≡ 0 → ⊥) → i ≡ pos 0 → ⊥
other_is i h e = h (rw e refl)

pred : (n : ℕ) → suc n - 1 ≡ n
pred n = omega arith

is_false : (b : Bool) → (b ≡ true → ⊥) → b ≡ false
is_false true h = absurd (h refl)
is_false false h = refl

differs : (i : ℤ) → (i ≡ pos 0 → ⊥) → int_eq i (pos 0) ≡ false
differs i h = is_false (int_eq i (pos 0)) (λ e. h ((Decides-int_eq i (pos 0)).0 e))

pub from_none : {statics : Option Level} {vars : Scopes} {t : Tree} {n cost : ℕ} {i : ℤ} → ReadsWhole statics vars t (0 + n) cost i
    → ReadsWhole statics vars t n cost i
from_none {n = n} r = let none : 0 + n ≡ n = omega arith in rw none at r

test_once : {statics : Option Level} (l : Parts) {vars : Scopes} {cost : ℕ} {i : ℤ} (r : ReadsWhole statics vars l.test (alone l.test) cost i) (holds : Bool)
    → not (int_eq i (pos 0)) ≡ holds → (n budget before : ℕ)
    → once statics (loop_at l) short.Test n (purse vars budget before) ≡ turn_once (loop_at l) holds n (purse vars budget (before + cost))
test_once l r holds h n budget before = rw (r.is_value budget, r.reads, h) refl

pub test_over : {statics : Option Level} {l : Parts} {vars : Scopes} {n budget cost paid : ℕ} {i : ℤ} → are_scripts l ≡ true
    → ReadsWhole statics vars l.test (alone l.test) cost i → i ≡ pos 0
    → DoesTurns statics l code.Test code.Over n n vars budget paid vars budget (paid + cost)
test_over {statics = statics} {l = l} {n = n} {budget = budget} {cost = cost} s r e = record {
  things = 1;
  cost = cost;
  does = λ before. ap (λ x. where_some x (many statics (loop_at l) 0)) (test_once l r false (ap (λ k. not (int_eq k (pos 0))) e) n budget before);
  in_scripts = λ h. s;
  paid_is = refl;
}

turn_is : (l : Loop) (n : ℕ) (p : Purse) → (p.budget ≡ 0 → ⊥)
    → turn_once l true (suc n) p ≡ Some (point (short.Body 0 l.body) n (purse p.vars (p.budget - 1) (p.cost + 1)))
turn_is l n p h = by_budget p.budget h
  where
    by_budget : (b : ℕ) → (b ≡ 0 → ⊥)
        → (if nat_eq b 0 then None else Some (point (short.Body 0 l.body) n (purse p.vars (p.budget - 1) (p.cost + 1))))
        ≡ Some (point (short.Body 0 l.body) n (purse p.vars (p.budget - 1) (p.cost + 1)))
    by_budget zero h = absurd (h refl)
    by_budget (suc b) h = rw (no_zero b) refl

pub test_turn : {statics : Option Level} {l : Parts} {vars : Scopes} {cost paid : ℕ} {i : ℤ} (left budget : ℕ) → are_scripts l ≡ true
    → ReadsWhole statics vars l.test (alone l.test) cost i → (i ≡ pos 0 → ⊥) → (left ≡ 0 → ⊥) → (budget ≡ 0 → ⊥)
    → DoesTurns statics l code.Test code.Body left (left - 1) vars budget paid vars (budget - 1) ((paid + cost) + 1)
test_turn zero budget s r e n b = absurd (n refl)
test_turn {statics = statics} {l = l} {vars = vars} {cost = cost} {paid = paid} (suc n) budget s r e h b = record {
  things = 1;
  cost = cost + 1;
  does = λ before. rw (pred n, ← add_assoc before cost 1)
      (ap (λ x. where_some x (many statics (loop_at l) 0))
      (test_once l r true (ap not (differs _ e)) (suc n) budget before ∙ turn_is (loop_at l) n (purse vars budget (before + cost)) b));
  in_scripts = λ k. s;
  paid_is = add_assoc paid cost 1;
}
