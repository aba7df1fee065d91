-- A configuration that loads is what runs, but for what isn't built.
use Rattle.std.proofs.Common.{◌≡◌, refl, sym, ap, ◌∙◌, Bool, true, false, List, ℕ, Option, Some, None, if◌then◌else◌}
use Rattle.config.specs.declared.reader.LoadedConfig.{LoadedConfig}
use Rattle.run_config.specs.declared.config.Config as run
use Rattle.config.proofs.Filling.{is_filled}
use Rattle.proxy.specs.Loads.{Loads}
use Rattle.proxy.specs.Offline.{IsNotBuilt}
use Rattle.proxy.specs.Runnable.{IsBuilt, IsRun, can_run, if_built, run_of}

cannot : (K : run.Config) → if_built (Some K) ≡ None → can_run K ≡ false
cannot K none = by_test (can_run K) none
  where
    by_test : (b : Bool) → (if b then Some K else None) ≡ None → b ≡ false
    by_test true e = absurd (cc)
    by_test false e = refl

module _ (told : List ℕ → Option (List ℕ)) (name : List ℕ) (C : LoadedConfig) (l : Loads told name C) where
  pub not_run : run_of C ≡ None → IsNotBuilt told name
  unfolding run_of
  not_run none =
      let fills = is_filled told l.top C l.faultless l.configures in
      record { C = C; loads = l; K = fills.0; fills = fills.1; not_built = cannot fills.0 (ap if_built (sym fills.1) ∙ none) }

  pub runs : IsBuilt C → (K : run.Config) × IsRun C K
  unfolding run_of
  runs built =
      let fills = is_filled told l.top C l.faultless l.configures in
      (fills.0, ap if_built fills.1 ∙ ap (λ b. if b then Some fills.0 else None) (built fills.0 fills.1))
