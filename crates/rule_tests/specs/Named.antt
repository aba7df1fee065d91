-- What a test names is in its configuration, or the first that isn't is told.
use Rattle.std.specs.Prelude.{◌≡◌, ℕ, List, Option, Some, None, ⊤}
use Rattle.std.specs.List.{All}
use Rattle.run_config.specs.declared.config.Config.{Config}
use Rattle.test_text.specs.declared.test_file.TestCase.{TestCase}
use Rattle.test_names.specs.Names.{unnamed_of, unnamed_words}
use Rattle.test_names.specs.declared.named.UnnamedAt.{UnnamedAt}
use Rattle.rule_tests.specs.Places.{place_line}
use Rattle.tested_runs.specs.Runs.{OneOf}
use Rattle.tested_runs.specs.Sources.{IsConfig}
use Rattle.rule_tests.specs.Tests.{config_name}
use Rattle.tested_runs.specs.declared.source.TestSource.{TestSource}
use Rattle.tested_runs.specs.declared.stop.TestStop.{TestStop}
use Rattle.tested_runs.specs.declared.stop.TestStop.TheVariants as stop

-- a place of a file is told with these words, unless memory is refused
abbrev pub TellsPlace : TestSource → ℕ → List ℕ → TestStop → Type 0
TellsPlace source place words (stop.File line) = line ≡ place_line source.name source.text place words
TellsPlace source place words stop.Memory = ⊤
TellsPlace source place words other = ⊥

-- all that a test names is in its configuration
pub record IsNamed (told : List ℕ → Option (List ℕ)) (source : TestSource) (test : TestCase) : Type 0 where
  pub C : Config
  pub is_config : IsConfig told (config_name source test) C
  pub named : unnamed_of C test.steps ≡ None

-- this line tells the first that isn't
pub record UnnamedTold (told : List ℕ → Option (List ℕ)) (source : TestSource) (line : List ℕ) (test : TestCase)
    : Type 0 where
  pub C : Config
  pub is_config : IsConfig told (config_name source test) C
  pub found : UnnamedAt
  pub is_first : unnamed_of C test.steps ≡ Some found
  pub line_is : line ≡ place_line source.name source.text found.place (unnamed_words found.what)

abbrev pub TellsNames : (List ℕ → Option (List ℕ)) → TestSource → TestCase → TestStop → Type 0
TellsNames told source test (stop.File line) = UnnamedTold told source line test
TellsNames told source test other = ⊤

-- ---- all tests of a file, and of all files

abbrev pub AreNamed : (List ℕ → Option (List ℕ)) → TestSource → Type 0
AreNamed told source = All (IsNamed told source) source.file.tests

abbrev pub UnnamedIn : (List ℕ → Option (List ℕ)) → List ℕ → TestSource → Type 0
UnnamedIn told line source = OneOf (UnnamedTold told source line) source.file.tests

abbrev pub TellsNamesOf : (List ℕ → Option (List ℕ)) → TestSource → TestStop → Type 0
TellsNamesOf told source (stop.File line) = UnnamedIn told line source
TellsNamesOf told source other = ⊤

abbrev pub TellsAllNames : (List ℕ → Option (List ℕ)) → List TestSource → TestStop → Type 0
TellsAllNames told sources (stop.File line) = OneOf (UnnamedIn told line) sources
TellsAllNames told sources other = ⊤
