-- The runs of a test, and what they come to.
use Rattle.std.specs.Prelude.{◌≡◌, ℕ, Bool, true, false, List, [], ◌∷◌, Option, Some, None, slice_get}
use Rattle.std.specs.List.{All}
use Rattle.run_config.specs.declared.config.Config.{Config}
use Rattle.test_orders.specs.Cuts.{cuts}
use Rattle.test_orders.specs.declared.cut.Cut.{Cut}
use Rattle.test_orders.specs.declared.cut.Cut.TheVariants.{Whole}
use Rattle.test_past.specs.Verdicts.{verdict_of}
use Rattle.test_past.specs.declared.verdict.Verdict.{Verdict}
use Rattle.test_past.specs.declared.verdict.Verdict.TheVariants.{Passed}
use Rattle.test_plan.specs.Plan.{lengths_of, plan}
use Rattle.test_run.specs.Stand.{stand}
use Rattle.test_text.specs.declared.test_file.PlacedStep.{PlacedStep}
use Rattle.tested_core.specs.Runs.{Ran}
use Rattle.tested_core.specs.declared.runs.RunDone.{RunDone}
use Rattle.tested_runs.specs.Sources.{IsConfig}
use Rattle.tested_runs.specs.declared.runs.JudgedRun.{JudgedRun}

abbrev pub verdict_in : (rows : ℕ) → List PlacedStep → RunDone → Verdict
verdict_in rows steps done =
    verdict_of rows steps (stand done.run).known.came done.end (stand done.run).entries

-- A run of a test by a cut and orders, on a core of the configuration that a file holds; what it comes to is said of
-- what happened in it.
pub record IsJudged (told : List ℕ → Option (List ℕ)) (config : List ℕ) (steps : List PlacedStep) (cut : Cut)
    (orders : List (List ℕ)) (run : JudgedRun) : Type 0 where
  pub C : Config
  pub is_config : IsConfig told config C
  pub ran : Ran C steps (plan cut orders steps) run.done
  pub verdict : run.verdict ≡ verdict_in C.rows steps run.done

abbrev pub is_passed : Verdict → Bool
is_passed Passed = true
is_passed other = false

-- such a run passes, or such a run fails
pub record RunComes (told : List ℕ → Option (List ℕ)) (config : List ℕ) (steps : List PlacedStep)
    (orders : List (List ℕ)) (passed : Bool) (cut : Cut) : Type 0 where
  pub run : JudgedRun
  pub judged : IsJudged told config steps cut orders run
  pub comes : is_passed run.verdict ≡ passed

-- ---- of several

-- one of these has it
pub record OneOf {A : Type 0} (P : A → Type 0) (xs : List A) : Type 0 where
  pub at : ℕ
  pub item : A
  pub there : slice_get xs at ≡ Some item
  pub has : P item

-- all of these pass, or one fails
abbrev pub Come : {A : Type 0} → (P : Bool → A → Type 0) → Bool → List A → Type 0
Come P true xs = All (P true) xs
Come P false xs = OneOf (P false) xs

-- ---- the runs of a test

-- all texts whole; or each cut
abbrev pub cuts_of : Bool → List PlacedStep → List Cut
cuts_of true steps = cuts (lengths_of steps)
cuts_of false steps = Whole ∷ []

-- in these orders the run of each cut passes, or that of one fails
abbrev pub CutsCome : (List ℕ → Option (List ℕ)) → List ℕ → List PlacedStep → List Cut → Bool → List (List ℕ) → Type 0
CutsCome told config steps cuts passed orders = Come (RunComes told config steps orders) passed cuts

-- in each way, or in one
abbrev pub WaysCome : (List ℕ → Option (List ℕ)) → List ℕ → List PlacedStep → List Cut → Bool
    → List (List (List ℕ)) → Type 0
WaysCome told config steps cuts passed ways = Come (CutsCome told config steps cuts) passed ways
