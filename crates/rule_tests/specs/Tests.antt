-- All tests of the files that are named.
use Rattle.std.specs.Prelude.{◌≡◌, ℕ, Bool, true, false, List, [], ◌∷◌, length, Option, Some, None, Result, Ok, Err, ⊤, slice_get}
use Rattle.std.specs.Str.{bytes_eq}
use Rattle.test_plan.specs.Ways.{ways}
use Rattle.test_text.specs.declared.deed.PlacedName.{PlacedName}
use Rattle.test_text.specs.declared.test_file.TestCase.{TestCase}
use Rattle.tested_runs.specs.Runs.{Come, OneOf, WaysCome, cuts_of}
use Rattle.tested_runs.specs.Sources.{FileTold, IsSource}
use Rattle.tested_runs.specs.declared.source.TestSource.{TestSource}
use Rattle.tested_runs.specs.declared.stop.TestStop.{TestStop}
use Rattle.tested_runs.specs.declared.stop.TestStop.TheVariants as stop
use Rattle.test_words.specs.declared.words.TestWords.{TestWords}

abbrev pub is_named : Option (List ℕ) → TestCase → Bool
is_named None test = true
is_named (Some name) test = bytes_eq name test.name

-- a test is to be run
abbrev pub is_chosen : TestWords → TestCase → Bool
is_chosen words test = is_named words.only test

abbrev pub name_of : Option PlacedName → List ℕ
name_of None = []
name_of (Some config) = config.name

-- the name of a test's configuration
abbrev pub config_name : TestSource → TestCase → List ℕ
config_name source test = name_of (slice_get source.file.configs test.config)

-- all runs of a test pass, or one fails: in each order of what is done together, by each cut, as the words ask
pub record Runs (told : List ℕ → Option (List ℕ)) (words : TestWords) (source : TestSource) (passed : Bool)
    (test : TestCase) : Type 0 where
  pub orders : List (List (List ℕ))
  pub ways_are : ways words.orders (length test.clients) test.steps ≡ Some orders
  pub comes : WaysCome told (config_name source test) test.steps (cuts_of words.cuts test.steps) passed orders

-- a test passes, where it is to be run; or it is to be run and fails
abbrev pub TestComes : (List ℕ → Option (List ℕ)) → TestWords → TestSource → Bool → TestCase → Type 0
TestComes told words source true test = is_chosen words test ≡ true → Runs told words source true test
TestComes told words source false test = (is_chosen words test ≡ true) × Runs told words source false test

-- all tests of a file pass, or one fails
abbrev pub SourceComes : (List ℕ → Option (List ℕ)) → TestWords → Bool → TestSource → Type 0
SourceComes told words passed source = Come (TestComes told words source) passed source.file.tests

abbrev pub SourcesCome : (List ℕ → Option (List ℕ)) → TestWords → Bool → List TestSource → Type 0
SourcesCome told words passed sources = Come (SourceComes told words) passed sources

-- these files hold these tests
abbrev pub AreSources : (List ℕ → Option (List ℕ)) → List (List ℕ) → List TestSource → Type 0
AreSources told [] [] = Unit {0}
AreSources told (name ∷ names) (source ∷ sources) = IsSource told name source × AreSources told names sources
AreSources told names sources = ⊥

-- the first of these files that is no test file is told
abbrev pub TellsSources : (List ℕ → Option (List ℕ)) → List (List ℕ) → TestStop → Type 0
TellsSources told names (stop.File line) = OneOf (λ name. FileTold told name line) names
TellsSources told names other = ⊤

-- ---- the status

-- neither that all tests passed nor that one failed
abbrev pub IsOther : ℕ → Type 0
IsOther status = ((status ≡ 0) → ⊥) × ((status ≡ 10) → ⊥)

-- 0 where all passed, 10 where one failed
abbrev pub Ends : Result Bool TestStop → ℕ → Type 0
Ends (Ok true) status = status ≡ 0
Ends (Ok false) status = status ≡ 10
Ends (Err stop) status = IsOther status
