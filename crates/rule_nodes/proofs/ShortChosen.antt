-- What a command comes to by the body that it chooses.
use Rattle.std.proofs.Common.{◌≡◌, ◌∙◌, sym, subst, ℕ, Bool, true, false, Option}
use Rattle.std.specs.Bool.{OnTrue}
use Rattle.tcl_trees.specs.Tree.{Tree}
use Rattle.tcl_vars.specs.Scopes.{Level, Scopes}
use Rattle.rule_nodes.specs.AtOnce.{Chooses, Leaves, chosen_short}
use Rattle.rule_nodes.specs.Short.{Purse, Shortly, purse, short}
use Rattle.rule_nodes.specs.declared.short_choices.Chosen.{Chosen}
use Rattle.rule_nodes.specs.declared.short_choices.Chosen.TheVariants as chosen

choice_leaves : (c : Chosen) (level : Option Level) (vars : Scopes) (whole : ℕ → Option Shortly) (budget cost : ℕ) (new : Purse)
    → Chooses level vars whole cost c → Leaves (chosen_short level c (purse vars budget cost)) new → Leaves (whole budget) new
choice_leaves chosen.Unknown level vars whole budget cost new h l = let e = l.is_done in absurd cc
choice_leaves chosen.None level vars whole budget cost new h l = record { value = l.value; is_done = h budget ∙ l.is_done }
choice_leaves (chosen.Body b) level vars whole budget cost new h l = record { value = l.value; is_done = h budget ∙ l.is_done }

pub choice_on : (result : Bool) (c : Chosen) (level : Option Level) (vars : Scopes) (t shown : Tree) (budget cost cost' : ℕ) (new : Purse) → shown ≡ t
    → Chooses level vars (λ b. short level t (purse vars b cost)) cost' c
    → OnTrue result (Leaves (chosen_short level c (purse vars budget cost')) new) → OnTrue result (Leaves (short level shown (purse vars budget cost)) new)
choice_on false c level vars t shown budget cost cost' new is h l = tt
choice_on true c level vars t shown budget cost cost' new is h l =
    subst (λ (u : Tree). Leaves (short level u (purse vars budget cost)) new) (sym is)
    (choice_leaves c level vars (λ b. short level t (purse vars b cost)) budget cost' new h l)
