-- Turns of a loop that are done at once (Tcl 8.4, while(n), for(n)), by their test, their body and
-- what comes after a turn, and what a loop comes to from where it is.
use Rattle.std.specs.Prelude.{ℕ, zero, suc, ◌+◌, ◌-◌, List, [], ◌∷◌, ◌++◌, Bool, true, false}
use Rattle.std.specs.Prelude.{nat_eq, if◌then◌else◌, Option, Some, None}
use Rattle.tcl_trees.specs.Tree.{Tree}
use Rattle.tcl_expr.specs.Truth.{truth}
use Rattle.tcl_vars.specs.Scopes.{Level}
use Rattle.rule_model.specs.Children.{alone, child, free}
use Rattle.rule_model.specs.Control.{after_body, after_next, turns}
use Rattle.rule_model.specs.Evaluator.{eval}
use Rattle.rule_model.specs.Outcome.{Ends, Meaning, then_code}
use Rattle.rule_model.specs.Setting.{Setting, Inner}
use Rattle.rule_model.specs.Words.{commands}
use Rattle.rule_model.specs.declared.code.Code.TheVariants.{Value}
use Rattle.rule_nodes.specs.Short.{Purse, purse, short, short_command, where_some}

-- the part of a loop that comes next: its test, its body or what comes after a turn, of either the
-- commands that are left and the number of the first of them, or none
pub data Part : Type 0 where
  Test : Part
  Body : ℕ → List Tree → Part
  Next : ℕ → List Tree → Part
  Over : Part

-- a loop whose body and whose end of a turn are scripts of these commands
pub record Loop : Type 0 where
  pub test : Tree
  pub body : List Tree
  pub next : List Tree

-- where a loop is: the part, how many turns may still be made, and what is left
pub record Point : Type 0 where
  pub part : Part
  pub turns : ℕ
  pub left : Purse

abbrev pub point : Part → ℕ → Purse → Point
point part turns left = record { part = part; turns = turns; left = left }

-- what is left behind something whose cost is that from nothing
abbrev pub behind : Purse → Purse → Purse
behind p q = purse q.vars q.budget (p.cost + q.cost)

-- behind the test: a turn takes a unit, where turns are left
abbrev pub turn_once : Loop → Bool → ℕ → Purse → Option Point
turn_once l false n p = Some (point Over n p)
turn_once l true zero p = None
turn_once l true (suc n) p =
    if nat_eq p.budget 0 then None
    else Some (point (Body 0 l.body) n (purse p.vars (p.budget - 1) (p.cost + 1)))

abbrev pub command_once : Option Level → Tree → Part → ℕ → Purse → Option Point
command_once statics t part n p =
    where_some (short_command statics t (purse p.vars p.budget 0)) (λ s.
    Some (point part n (behind p s.left)))

-- one thing more: the test, a command, or the end of a script
abbrev pub once : Option Level → Loop → Part → ℕ → Purse → Option Point
once statics l Test n p =
    where_some (short statics l.test (purse p.vars p.budget (alone l.test))) (λ s.
    where_some (truth s.value) (λ holds. turn_once l holds n (behind p s.left)))
once statics l (Body k []) n p = Some (point (Next 0 l.next) n p)
once statics l (Body k (t ∷ ts)) n p = command_once statics t (Body (k + 1) ts) n p
once statics l (Next k []) n p = Some (point Test n p)
once statics l (Next k (t ∷ ts)) n p = command_once statics t (Next (k + 1) ts) n p
once statics l Over n p = None

-- so many things more
abbrev pub many : Option Level → Loop → ℕ → Point → Option Point
many statics l zero x = Some x
many statics l (suc m) x = where_some (once statics l x.part x.turns x.left) (many statics l m)

-- commands of a script, the first of which has this number
abbrev pub row : {H : Type 0} → Setting H → Inner H → ℕ → List Tree → List (Meaning H)
row g i k [] = []
row g i k (t ∷ ts) = child free k t (eval g i t) ∷ row g i (k + 1) ts

abbrev pub script_at : {H : Type 0} → Setting H → Inner H → (place k : ℕ) → List Tree → Meaning H
script_at g i place k ts path st = commands (row g i k ts) [] (path ++ place ∷ []) st

-- the loop from its test on, and from any part on
abbrev pub again : {H : Type 0} → Setting H → Inner H → Loop → ℕ → Meaning H
again g i l n =
    turns n (child alone 1 l.test (eval g i l.test)) (script_at g i 3 0 l.body)
    (script_at g i 2 0 l.next)

abbrev pub from_part : {H : Type 0} → Setting H → Inner H → Loop → Part → ℕ → Meaning H
from_part g i l Test n path st = again g i l n path st
from_part g i l (Body k ts) n path st =
    then_code (script_at g i 3 k ts path st) (after_body (λ s.
    then_code (script_at g i 2 0 l.next path s) (after_next (again g i l n path))))
from_part g i l (Next k ts) n path st =
    then_code (script_at g i 2 k ts path st) (after_next (again g i l n path))
from_part g i l Over n path st = Ends (Value []) st
