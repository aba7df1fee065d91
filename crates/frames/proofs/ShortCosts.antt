-- What is done at once is paid for: each command pays a unit at least.
use Rattle.std.proofs.Common.{◌≡◌, ℕ, zero, suc, ◌+◌, ◌-◌, ◌≤◌, List, [], ◌∷◌, Bool, true, false, Option, Some, None, nat_eq, arith}
use Rattle.std.specs.Prelude.{if◌then◌else◌}
use Rattle.tcl_trees.specs.Tree.{Tree}
use Rattle.tcl_vars.specs.Scopes.{Level, Scopes}
use Rattle.rule_model.specs.Evaluator.{inner}
use Rattle.rule_model.specs.Host.{Gives}
use Rattle.rule_model.specs.Laws.{meaning, state_after}
use Rattle.rule_model.specs.Outcome.{Outcome}
use Rattle.rule_model.specs.Setting.{Setting}
use Rattle.rule_model.proofs.Facts.{acts_stay}
use Rattle.rule_nodes.specs.AtOnce.{DoesFront}
use Rattle.rule_nodes.specs.Short.{Purse, Shortly, purse, short, short_command, short_front, where_some}
use Rattle.rule_nodes.proofs.ShortEvals.{Is, short_is, state_of}

-- a setting without a host
abbrev lone : Option Level → Setting (Unit {0})
lone statics = record { statics = statics; table = λ host words. Gives [] host []; procedures = [] }

abbrev CostsMore : Option Shortly → ℕ → Type 0
CostsMore None n = Unit {0}
CostsMore (Some s) n = n ≤ s.left.cost

more_by : (x : Option Shortly) (n : ℕ) (o : Outcome (Unit {0})) → Is tt [] 0 [] x o → n ≤ (state_after o).cost → CostsMore x n
more_by None n o h k = tt
more_by (Some s) n o h k = let m = rw h at k in omega (arith, m)

tree_costs : (statics : Option Level) (t : Tree) (p : Purse) → CostsMore (short statics t p) p.cost
tree_costs statics t p =
    let g = lone statics in
    let k = (acts_stay g 0 0 t [] (state_of tt [] 0 [] p)).cost in
    more_by (short statics t p) p.cost (meaning g 0 0 t [] (state_of tt [] 0 [] p)) (short_is tt [] 0 [] g (inner g 0 0) t [] p) (omega (arith, k))

unit_costs : (b : Bool) (x : Option Shortly) (n : ℕ) → CostsMore x n → CostsMore (if b then None else x) n
unit_costs true x n h = tt
unit_costs false x n h = h

command_costs : (statics : Option Level) (t : Tree) (p : Purse) → CostsMore (short_command statics t p) (p.cost + 1)
command_costs statics t p =
    let q = purse p.vars (p.budget - 1) (p.cost + 1) in
    unit_costs (nat_eq p.budget 0) (short statics t q) (p.cost + 1) (tree_costs statics t q)

behind_one : (x : Option Shortly) (n c : ℕ) (q : Purse) (go : Shortly → Option Purse) → CostsMore x 1
    → ((s : Shortly) → go s ≡ Some q → (c + s.left.cost) + n ≤ q.cost) → where_some x go ≡ Some q → c + suc n ≤ q.cost
behind_one None n c q go h k e = absurd (cc e)
behind_one (Some s) n c q go h k e = let m = k s e in omega (arith, h, m)

pub front_costs : (statics : Option Level) (n : ℕ) (ts : List Tree) (p q : Purse) → short_front statics n ts p ≡ Some q → p.cost + n ≤ q.cost
front_costs statics zero ts p q e = let same : p ≡ q = cc e in rw same (omega arith)
front_costs statics (suc n) [] p q e = absurd (cc e)
front_costs statics (suc n) (t ∷ ts) p q e =
    behind_one (short_command statics t (purse p.vars p.budget 0)) n p.cost q _ (command_costs statics t (purse p.vars p.budget 0))
    (λ s k. front_costs statics n ts (purse s.left.vars s.left.budget (p.cost + s.left.cost)) q k) e

-- so many commands pay as many units at least
pub front_pays : {statics : Option Level} {ts : List Tree} {n budget paid budget' paid' : ℕ} {vars vars' : Scopes}
    → DoesFront statics ts n vars budget paid vars' budget' paid' → n + paid ≤ paid'
front_pays {statics = statics} {ts = ts} {n = n} {budget = budget} {budget' = budget'} {vars = vars} {vars' = vars'} d =
    let c = front_costs statics n ts (purse vars budget 0) (purse vars' budget' (0 + d.cost)) (d.does 0) in
    let k = d.paid_is in
    omega (arith, c, k)
