-- One more run of an order.
use Rattle.std.proofs.Common.{◌≡◌, ℕ, ◌+◌, ◌<◌, Bool, true, false, List, get_or, length, take, Option, subst}
use Rattle.std.specs.List.{All}
use Rattle.std.proofs.lemmas.List.Elements.{All-more}
use Rattle.std.proofs.lemmas.Option.{slice_get-get_or}
use Rattle.test_orders.specs.declared.cut.Cut.{Cut}
use Rattle.test_text.specs.declared.test_file.PlacedStep.{PlacedStep}
use Rattle.tested_runs.specs.Runs.{RunComes}
use Rattle.tested_runs.specs.Schedules.{CutTold, RunTold, Tells}
use Rattle.tested_runs.proofs.Kept.{Kept, kept_by, told_by}

abbrev Told : Type 0
Told = List ℕ → Option (List ℕ)

-- by what the files told at the start
pub all_pass : (told now : Told) (config : List ℕ) (steps : List PlacedStep) (orders : List (List ℕ)) (cuts : List Cut) (i : ℕ)
    (d : Cut) (passed : Bool) → told ≡ now → passed ≡ true → i < length cuts
    → All (RunComes now config steps orders true) (take i cuts)
    → RunComes told config steps orders passed (get_or cuts i d)
    → All (RunComes now config steps orders true) (take (i + 1) cuts)
all_pass told now config steps orders cuts i d passed same is within all comes =
    All-more (RunComes now config steps orders true) cuts i d within all
    (subst (λ (b : Bool). RunComes now config steps orders b (get_or cuts i d)) is
    (subst (λ (t : Told). RunComes t config steps orders passed (get_or cuts i d)) same comes))

by_now : (told now : Told) (config : List ℕ) (steps : List PlacedStep) (orders : List (List ℕ)) (cut : Cut) (passed wanted : Bool)
    (old new : Option (List ℕ)) → told ≡ now → passed ≡ wanted
    → Tells passed old new (λ text. RunTold told config steps orders passed text cut)
    → Tells wanted old new (λ text. RunTold now config steps orders wanted text cut)
by_now told now config steps orders cut passed wanted old new same is tells =
    subst (λ (b : Bool). Tells b old new (λ text. RunTold now config steps orders b text cut)) is
    (subst (λ (t : Told). Tells passed old new (λ text. RunTold t config steps orders passed text cut)) same tells)

one_cut : (told : Told) (config : List ℕ) (steps : List PlacedStep) (orders : List (List ℕ)) (cuts : List Cut) (i : ℕ) (d : Cut)
    (passed : Bool) → i < length cuts → (text : List ℕ) → RunTold told config steps orders passed text (get_or cuts i d)
    → CutTold told config steps cuts orders passed text
one_cut told config steps orders cuts i d passed within text has =
    record { at = i; item = get_or cuts i d; there = slice_get-get_or cuts i d within; has = has }

pub kept_cut : (told now : Told) (config : List ℕ) (steps : List PlacedStep) (orders : List (List ℕ)) (cuts : List Cut) (i : ℕ)
    (d : Cut) (passed : Bool) (initial old new : Option (List ℕ)) → told ≡ now → passed ≡ true → i < length cuts
    → Kept initial old (CutTold now config steps cuts orders true)
    → Tells passed old new (λ text. RunTold told config steps orders passed text (get_or cuts i d))
    → Kept initial new (CutTold now config steps cuts orders true)
kept_cut told now config steps orders cuts i d passed initial old new same is within before tells =
    kept_by (CutTold now config steps cuts orders true) (λ text. RunTold now config steps orders true text (get_or cuts i d)) initial old
    new before (by_now told now config steps orders (get_or cuts i d) passed true old new same is tells)
    (one_cut now config steps orders cuts i d true within)

pub told_cut : (told now : Told) (config : List ℕ) (steps : List PlacedStep) (orders : List (List ℕ)) (cuts : List Cut) (i : ℕ)
    (d : Cut) (passed : Bool) (initial old new : Option (List ℕ)) → told ≡ now → passed ≡ false → i < length cuts
    → Tells passed old new (λ text. RunTold told config steps orders passed text (get_or cuts i d))
    → Tells false initial new (CutTold now config steps cuts orders false)
told_cut told now config steps orders cuts i d passed initial old new same is within tells =
    told_by (CutTold now config steps cuts orders false) (λ text. RunTold now config steps orders false text (get_or cuts i d)) old new
    initial (by_now told now config steps orders (get_or cuts i d) passed false old new same is tells)
    (one_cut now config steps orders cuts i d false within)
