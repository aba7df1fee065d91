-- Options and patterns that are literals.
use Rattle.std.proofs.Common.{◌≡◌, refl, sym, ap, ◌∙◌, subst, rules, suc, ℕ, ◌+◌, ◌-◌, ◌≤◌, List, [], ◌∷◌, length, Bool, false, Option, Some, None, option_map}
use Rattle.std.proofs.Common.{◌<◌, drop, get_or, arith, add-zero, true}
use Rattle.std.specs.Bool.{OnTrue}
use Rattle.std.specs.Prelude.{nat_eq, sum_by}
use Rattle.std.proofs.lemmas.List.{drop_all, drop_more}
use Rattle.std.proofs.lemmas.List.Sums.{sum_by-cons}
use Rattle.std.proofs.lemmas.Bool.Decides.{nat_tests}
use Rattle.tcl_trees.specs.Tree.{trees_of}
use Rattle.tcl_trees.specs.Tree as tree
use Rattle.tcl_trees.specs.TreeView.{node_view, nodes_view}
use Rattle.tcl_trees.specs.declared.node.Node.{Node}
use Rattle.tcl_vars.specs.Scopes.{Level, Scopes}
use Rattle.tcl_trees.specs.Tree.{Tree}
use Rattle.rule_model.specs.Control.{first_hit, hits, is_glob}
use Rattle.rule_nodes.specs.AtOnce.{AreLiterals, JoinsParts, WordIs, hits_where, literal, literal_price, literals}
use Rattle.rule_nodes.specs.Short.{where_some}
use Rattle.rule_nodes.proofs.Hits.{hit_behind}

one_fits : (n m most total : ℕ) → total + n ≤ most → m ≤ most - (total + n) → n + m ≤ most - total
one_fits n m most total fits few = omega arith

one_pays : (cost paid new p q : ℕ) → paid ≡ cost + p → new ≡ paid + q → new ≡ cost + (p + q)
one_pays cost paid new p q a b = omega arith

pub one_is : (t : Tree) (ts : List Tree) (text : List ℕ) (most total cost paid new : ℕ) → literal t ≡ Some text → total + length text ≤ most
    → paid ≡ cost + literal_price t
    → AreLiterals ts (most - (total + length text)) paid new → AreLiterals (t ∷ ts) (most - total) cost new
one_is t ts text most total cost paid new is fits paid_is r = record {
  texts = text ∷ r.texts;
  are = rw (is, r.are) refl;
  few = rw (sum_by-cons length text r.texts) (one_fits (length text) (sum_by length r.texts) most total fits r.few);
  paid_is = rw (sum_by-cons literal_price t ts) (one_pays cost paid new (literal_price t) (sum_by literal_price ts) paid_is r.paid_is);
}

-- options that are literals compare so
abbrev pub GlobIs : Bool → List Tree → Bool → Type 0
GlobIs glob ts out = (texts : List (List ℕ)) → literals ts ≡ Some texts → is_glob glob texts ≡ Some out

option_by : (glob now out : Bool) (text : List ℕ) (left : Option (List (List ℕ))) (texts : List (List ℕ)) → ((us : List (List ℕ))
    → is_glob glob (text ∷ us) ≡ is_glob now us)
    → ((us : List (List ℕ)) → left ≡ Some us → is_glob now us ≡ Some out) → option_map (λ us. text ∷ us) left ≡ Some texts → is_glob glob texts ≡ Some out
option_by glob now out text None texts same h e = cc
option_by glob now out text (Some us) texts same h e =
    let all : text ∷ us ≡ texts = cc in
    rw (← all) (same us ∙ h us refl)

pub option_is : (glob now out : Bool) (t : Tree) (ts : List Tree) (text : List ℕ) → literal t ≡ Some text → ((us : List (List ℕ))
    → is_glob glob (text ∷ us) ≡ is_glob now us)
    → GlobIs now ts out → GlobIs glob (t ∷ ts) out
option_is glob now out t ts text is same h = λ texts e. option_by glob now out text (literals ts) texts same h (rw is at e)

pub nodes_at : (ns : List Node) (k : ℕ) (n : Node) → k < length ns → n ≡ get_or ns k n → nodes_view (drop k ns) ≡ node_view n ∷ nodes_view (drop (k + 1) ns)
nodes_at ns k n there is = ap nodes_view (drop_more ns k n there) ∙ ap (λ (m : Node). node_view m ∷ nodes_view (drop (k + 1) ns)) (sym is)

not_none : (x : Option (List ℕ)) (y : Option (List (List ℕ))) → where_some x (λ v. option_map (λ vs. v ∷ vs) y) ≡ Some [] → ⊥
not_none None y e = cc
not_none (Some v) None e = cc
not_none (Some v) (Some vs) e = cc

-- whether the last pattern is hit, by those behind it
pub hits_are : (glob : Bool) (text pattern : List ℕ) (last : Bool) (ns : List Node) (texts : List (List ℕ)) → last ≡ nat_eq (length ns) 0
    → literals (nodes_view ns) ≡ Some texts
    → hits_where last glob text pattern ≡ hits glob text pattern texts
hits_are glob text pattern last [] [] is e = rw is refl
hits_are glob text pattern last [] (t ∷ ts) is e = cc
hits_are glob text pattern last (n ∷ ns) [] is e = absurd (not_none (literal (node_view n)) (literals (nodes_view ns)) e)
hits_are glob text pattern last (n ∷ ns) (t ∷ ts) is e =
    let no : nat_eq (suc (length ns)) 0 ≡ false = search (rules, nat_tests) in
    rw (is, no) refl

-- patterns from this number on, and the number that is hit
pub record HitsLeft (glob : Bool) (text : List ℕ) (ts : List Tree) (at : ℕ) (hit : Option ℕ) : Type 0 where
  pub texts : List (List ℕ)
  pub are : literals ts ≡ Some texts
  pub hit_is : option_map (λ k. at + k) (first_hit glob text texts) ≡ hit

-- the first of these patterns, and those behind it
pub record Splits (glob : Bool) (text pattern : List ℕ) (ts : List Tree) (at : ℕ) (hit : Option ℕ) : Type 0 where
  pub texts : List (List ℕ)
  pub are : literals ts ≡ Some texts
  pub hit_is : option_map (λ k. at + k) (first_hit glob text (pattern ∷ texts)) ≡ hit

splits_by : (glob : Bool) (text pattern : List ℕ) (ts : List Tree) (at : ℕ) (hit : Option ℕ) (left : Option (List (List ℕ))) (texts : List (List ℕ))
    → literals ts ≡ left
    → option_map (λ us. pattern ∷ us) left ≡ Some texts → option_map (λ k. at + k) (first_hit glob text texts) ≡ hit → Splits glob text pattern ts at hit
splits_by glob text pattern ts at hit None texts is e h = cc
splits_by glob text pattern ts at hit (Some us) texts is e h =
    let all : texts ≡ pattern ∷ us = cc in
    record { texts = us; are = is; hit_is = rw all at h }

pub splits : (glob : Bool) (text pattern : List ℕ) (t : Tree) (ts : List Tree) (at : ℕ) (hit : Option ℕ) → literal t ≡ Some pattern
    → HitsLeft glob text (t ∷ ts) at hit
    → Splits glob text pattern ts at hit
splits glob text pattern t ts at hit is h = splits_by glob text pattern ts at hit (literals ts) h.texts refl (rw is at h.are) h.hit_is

pub no_hit : (glob : Bool) (text pattern : List ℕ) (t : Tree) (ts : List Tree) (at : ℕ) (hit : Option ℕ) → literal t ≡ Some pattern
    → ((texts : List (List ℕ)) → literals ts ≡ Some texts → hits glob text pattern texts ≡ false) → HitsLeft glob text (t ∷ ts) at hit
    → HitsLeft glob text ts (at + 1) hit
no_hit glob text pattern t ts at hit is miss h =
    let s = splits glob text pattern t ts at hit is h in
    record { texts = s.texts; are = s.are; hit_is = hit_behind at glob text pattern s.texts hit (miss s.texts s.are) s.hit_is }

-- a word that has parts is them, and any other is its only part
pub parts_word : (level : Option Level) (vars : Scopes) (t : Tree) (ts : List Tree) (text : List ℕ) (cost new : ℕ) → t ≡ tree.word (trees_of ts)
    → JoinsParts level vars ts [] text cost new → WordIs level vars t text cost new
parts_word level vars t [] text cost new is h = λ budget.
    rw (is, add-zero cost) (h budget)
parts_word level vars t (u ∷ ts) text cost new is h = λ budget. rw is (h budget)

-- where it was done
pub on_parts : (level : Option Level) (vars : Scopes) (t : Tree) (ts : List Tree) (before text : List ℕ) (cost new : ℕ) (did : Bool)
    → t ≡ tree.word (trees_of ts) → before ≡ []
    → OnTrue did (JoinsParts level vars ts before text cost new) → OnTrue did (WordIs level vars t text cost new)
on_parts level vars t ts before text cost new false is none h = tt
on_parts level vars t ts before text cost new true is none h = parts_word level vars t ts text cost new is (rw none at h)

pub no_options : (glob : Bool) (ns : List Node) (k : ℕ) → length ns ≤ k → GlobIs glob (nodes_view (drop k ns)) glob
no_options glob ns k all = subst (λ xs. GlobIs glob (nodes_view xs) glob) (sym (drop_all k ns all)) (λ texts e. no_texts glob texts e) where
  no_texts : (glob : Bool) (texts : List (List ℕ)) → Some [] ≡ Some texts → is_glob glob texts ≡ Some glob
  no_texts glob [] e = refl
  no_texts glob (t ∷ ts) e = cc
