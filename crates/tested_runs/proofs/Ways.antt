-- One more order.
use Rattle.std.proofs.Common.{◌≡◌, ℕ, ◌+◌, Bool, true, false, List, take, Option, subst}
use Rattle.std.specs.List.{All}
use Rattle.test_orders.specs.declared.cut.Cut.{Cut}
use Rattle.test_text.specs.declared.test_file.PlacedStep.{PlacedStep}
use Rattle.tested_runs.specs.Runs.{CutsCome}
use Rattle.tested_runs.specs.Schedules.{CutTold, Tells, WayTold}
use Rattle.tested_runs.proofs.Comes.{At, all_next}
use Rattle.tested_runs.proofs.Kept.{Kept, kept_by, one_of, told_by}

abbrev Told : Type 0
Told = List ℕ → Option (List ℕ)

abbrev Orders : Type 0
Orders = List (List ℕ)

-- by what the files told at the start
pub all_pass : (told now : Told) (config : List ℕ) (steps : List PlacedStep) (cuts : List Cut) (ways : List Orders) (i : ℕ)
    (way orders : Orders) (passed : Bool) → told ≡ now → passed ≡ true → orders ≡ way → At ways i way
    → All (CutsCome now config steps cuts true) (take i ways)
    → CutsCome told config steps cuts passed orders
    → All (CutsCome now config steps cuts true) (take (i + 1) ways)
all_pass told now config steps cuts ways i way orders passed same is same_orders at all comes =
    all_next Orders (λ (t : Told). CutsCome t config steps cuts true) told now ways i way same at all
    (subst (λ (b : Bool). CutsCome told config steps cuts b way) is
    (subst (λ (it : Orders). CutsCome told config steps cuts passed it) same_orders comes))

by_now : (told now : Told) (config : List ℕ) (steps : List PlacedStep) (cuts : List Cut) (way orders : Orders) (passed wanted : Bool)
    (old new : Option (List ℕ)) → told ≡ now → passed ≡ wanted → orders ≡ way
    → Tells passed old new (CutTold told config steps cuts orders passed)
    → Tells wanted old new (CutTold now config steps cuts way wanted)
by_now told now config steps cuts way orders passed wanted old new same is same_orders tells =
    subst (λ (b : Bool). Tells b old new (CutTold now config steps cuts way b)) is
    (subst (λ (it : Orders). Tells passed old new (CutTold now config steps cuts it passed)) same_orders
    (subst (λ (t : Told). Tells passed old new (CutTold t config steps cuts orders passed)) same tells))

one_way : (told : Told) (config : List ℕ) (steps : List PlacedStep) (cuts : List Cut) (ways : List Orders) (i : ℕ) (way : Orders)
    (passed : Bool) → At ways i way → (text : List ℕ) → CutTold told config steps cuts way passed text
    → WayTold told config steps cuts ways passed text
one_way told config steps cuts ways i way passed at text has =
    one_of (λ (orders : Orders). CutTold told config steps cuts orders passed text) ways i way at has

pub kept_way : (told now : Told) (config : List ℕ) (steps : List PlacedStep) (cuts : List Cut) (ways : List Orders) (i : ℕ)
    (way orders : Orders) (passed : Bool) (initial old new : Option (List ℕ)) → told ≡ now → passed ≡ true → orders ≡ way
    → At ways i way → Kept initial old (WayTold now config steps cuts ways true)
    → Tells passed old new (CutTold told config steps cuts orders passed)
    → Kept initial new (WayTold now config steps cuts ways true)
kept_way told now config steps cuts ways i way orders passed initial old new same is same_orders at before tells =
    kept_by (WayTold now config steps cuts ways true) (CutTold now config steps cuts way true) initial old new before
    (by_now told now config steps cuts way orders passed true old new same is same_orders tells)
    (one_way now config steps cuts ways i way true at)

pub told_way : (told now : Told) (config : List ℕ) (steps : List PlacedStep) (cuts : List Cut) (ways : List Orders) (i : ℕ)
    (way orders : Orders) (passed : Bool) (initial old new : Option (List ℕ)) → told ≡ now → passed ≡ false → orders ≡ way
    → At ways i way → Tells passed old new (CutTold told config steps cuts orders passed)
    → Tells false initial new (WayTold now config steps cuts ways false)
told_way told now config steps cuts ways i way orders passed initial old new same is same_orders at tells =
    told_by (WayTold now config steps cuts ways false) (CutTold now config steps cuts way false) old new initial
    (by_now told now config steps cuts way orders passed false old new same is same_orders tells)
    (one_way now config steps cuts ways i way false at)
