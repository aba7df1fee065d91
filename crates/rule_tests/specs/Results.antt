-- What is reported: a result for each test that is to be run, in order.
use Rattle.std.specs.Prelude.{◌≡◌, ◌<◌, ℕ, List, [], ◌∷◌, ◌++◌, length, Option, Some, None, IfSome, IsSome}
use Rattle.std.specs.Prelude.{flat_map, if◌then◌else◌}
use Rattle.px_outside.specs.Outside.{told_more}
use Rattle.test_report.specs.Report.{report_text}
use Rattle.test_report.specs.declared.result.TestResult.{TestResult}
use Rattle.test_text.specs.declared.test_file.TestCase.{TestCase}
use Rattle.test_words.specs.declared.words.TestWords.{TestWords}
use Rattle.text_places.specs.Places.{line_of}
use Rattle.tested_runs.specs.Runs.{cuts_of}
use Rattle.tested_runs.specs.Schedules.{WayTold}
use Rattle.rule_tests.specs.Tests.{Runs, config_name, is_chosen}
use Rattle.tested_runs.specs.declared.source.TestSource.{TestSource}

-- where a test stands
pub record IsPlaced (source : TestSource) (test : TestCase) (r : TestResult) : Type 0 where
  pub file : r.file ≡ source.name
  pub line : r.line ≡ line_of source.text test.place
  pub name : r.name ≡ test.name

-- a schedule is written, where there is one
abbrev pub told_schedule : Option (List ℕ) → Option (List ℕ) → Option (List ℕ)
told_schedule before None = before
told_schedule before (Some events) = told_more before events

-- And whether all its runs pass, or one fails. The schedule of one of them was written: of one that failed, where one did.
pub record IsResult (told : List ℕ → Option (List ℕ)) (words : TestWords) (source : TestSource) (test : TestCase)
    (r : TestResult) (before after : Option (List ℕ)) : Type 0 where
  pub placed : IsPlaced source test r
  pub runs : Runs told words source r.passed test
  pub schedule : Option (List ℕ)
  pub of_run : IfSome schedule (WayTold told (config_name source test) test.steps (cuts_of words.cuts test.steps) runs.orders r.passed)
  pub there : 0 < length runs.orders → IsSome schedule
  pub written : after ≡ told_schedule before schedule

-- ---- of several

-- a test of a file
pub record SourceTest : Type 0 where
  pub source : TestSource
  pub test : TestCase

abbrev pub chosen_in : TestWords → TestSource → TestCase → List SourceTest
chosen_in words source test = if is_chosen words test then record { source = source; test = test } ∷ [] else []

-- the tests of a file that are to be run, and of all files
abbrev pub chosen_from : TestWords → TestSource → List SourceTest
chosen_from words source = flat_map (chosen_in words source) source.file.tests

abbrev pub chosen_of : TestWords → List TestSource → List SourceTest
chosen_of words sources = flat_map (chosen_from words) sources

-- these are their results, each once and in order, and so are the schedules that were written
abbrev pub AreResults : (List ℕ → Option (List ℕ)) → TestWords → List SourceTest → List TestResult
    → (before after : Option (List ℕ)) → Type 0
AreResults told words [] [] before after = after ≡ before
AreResults told words (t ∷ ts) (r ∷ rs) before after =
    (mid : Option (List ℕ)) × IsResult told words t.source t.test r before mid × AreResults told words ts rs mid after
AreResults told words ts rs before after = ⊥

-- results are added to those that were there
pub record Adds (told : List ℕ → Option (List ℕ)) (words : TestWords) (tests : List SourceTest) (old new : List TestResult)
    (before after : Option (List ℕ)) : Type 0 where
  pub more : List TestResult
  pub new_is : new ≡ old ++ more
  pub are : AreResults told words tests more before after

-- the report of them is written, and nothing else
pub record Reported (told : List ℕ → Option (List ℕ)) (words : TestWords) (sources : List TestSource)
    (before after old new : Option (List ℕ)) : Type 0 where
  pub results : List TestResult
  pub are : AreResults told words (chosen_of words sources) results before after
  pub written : new ≡ told_more old (report_text words.shape results)
