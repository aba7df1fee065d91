-- Commands of a script that are done at once, and one more behind them.
use Rattle.std.proofs.Common.{◌≡◌, ◌≤◌, ◌<◌, refl, ap, subst, sym, ◌∙◌, ℕ, zero, suc, ◌+◌, ◌-◌, List, [], ◌∷◌}
use Rattle.std.proofs.Common.{Option, Some, None, drop, length, get_or, add-zero, add_assoc, arith}
use Rattle.std.proofs.lemmas.List.{drop-drop, drop-map}
use Rattle.tcl_trees.specs.Tree.{Tree}
use Rattle.tcl_trees.specs.TreeView.{node_view, nodes_view}
use Rattle.tcl_trees.specs.declared.node.Node.{Node}
use Rattle.tcl_vars.specs.Scopes.{Level, Scopes}
use Rattle.rule_nodes.specs.AtOnce.{DoesCommand, DoesFront}
use Rattle.rule_nodes.specs.Short.{Purse, Shortly, purse, short_command, short_front, where_some}
use Rattle.rule_nodes.proofs.ShortChoices.{nodes_at}

-- what is left behind one more command
abbrev pub one_behind : Purse → Shortly → Purse
one_behind q s = purse s.left.vars s.left.budget (q.cost + s.left.cost)

some_is : (p q r : Purse) → Some p ≡ Some q → p ≡ q
some_is p q r e = cc

through : (x : Option Shortly) (go go' : Shortly → Option Purse) (q r : Purse)
    → where_some x go ≡ Some q → ((s : Shortly) → go s ≡ Some q → go' s ≡ Some r) → where_some x go' ≡ Some r
through None go go' q r e h = cc
through (Some s) go go' q r e h = h s e

-- One command more: a front, and then the command at the next place.
pub one_further : (statics : Option Level) (n : ℕ) (ts : List Tree) (t : Tree) (rest : List Tree) (p q : Purse) (s : Shortly)
    → drop n ts ≡ t ∷ rest → short_front statics n ts p ≡ Some q → short_command statics t (purse q.vars q.budget 0) ≡ Some s
    → short_front statics (suc n) ts p ≡ Some (one_behind q s)
one_further statics zero ts t rest p q s at front once =
    subst (λ us. short_front statics 1 us p ≡ Some (one_behind q s)) (sym at)
    (subst (λ o. short_front statics 1 (t ∷ rest) o ≡ Some (one_behind q s)) (sym (some_is p q q front)) (rw once refl))
one_further statics (suc n) [] t rest p q s at front once = cc
one_further statics (suc n) (u ∷ us) t rest p q s at front once =
    through (short_command statics u (purse p.vars p.budget 0)) _ _ q (one_behind q s) front
    (λ r h. one_further statics n us t rest (purse r.left.vars r.left.budget (p.cost + r.left.cost)) q s at h once)

pub no_commands : (statics : Option Level) (ts : List Tree) (vars : Scopes) (budget paid : ℕ) → DoesFront statics ts 0 vars budget paid vars budget paid
no_commands statics ts vars budget paid = record {
  cost = 0;
  does = λ before. rw (add-zero before) refl;
  paid_is = omega arith;
}

-- the same of what the code does
pub front_then : (statics : Option Level) (n : ℕ) (ts : List Tree) (t : Tree) (rest : List Tree) (v v' v'' : Scopes) (b b' b'' c c' c'' : ℕ)
    → drop n ts ≡ t ∷ rest → DoesFront statics ts n v b c v' b' c' → DoesCommand statics t v' b' c' v'' b'' c''
    → DoesFront statics ts (suc n) v b c v'' b'' c''
front_then statics n ts t rest v v' v'' b b' b'' c c' c'' at front once = record {
  cost = front.cost + once.cost;
  does = λ before. rw (← add_assoc before front.cost once.cost)
      (one_further statics n ts t rest (purse v b before) (purse v' b' (before + front.cost)) _ at (front.does before) once.does.is_done);
  paid_is = omega (arith, front.paid_is, once.paid_is);
}

-- the command at a place, counted from the first one
pub command_there : (ns : List Node) (first at : ℕ) (n : Node) → first ≤ at → at < length ns → n ≡ get_or ns at n
    → drop (at - first) (drop first (nodes_view ns)) ≡ node_view n ∷ nodes_view (drop (at + 1) ns)
command_there ns first at n onward there is =
    let e : first + (at - first) ≡ at = omega arith in
    drop-drop (at - first) first (nodes_view ns) ∙ ap (λ k. drop k (nodes_view ns)) e ∙ drop-map node_view at ns ∙ nodes_at ns at n there is
