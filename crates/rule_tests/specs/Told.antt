-- What is told where tests aren't run, for a test file that can't be tested: it is none, it names what its
-- configuration hasn't, or there are too many orders.
use Rattle.std.specs.Prelude.{◌≡◌, ◌⊎◌, ℕ, Bool, true, false, List, length, codes, Option, Some, None, Result, Ok, Err, ⊤}
use Rattle.px_outside.specs.Outside.{told_more}
use Rattle.test_plan.specs.Ways.{ways}
use Rattle.test_text.specs.declared.test_file.TestCase.{TestCase}
use Rattle.test_words.specs.declared.words.TestWords.{TestWords}
use Rattle.rule_tests.specs.Named.{UnnamedIn}
use Rattle.rule_tests.specs.Places.{place_line}
use Rattle.tested_runs.specs.Runs.{OneOf}
use Rattle.rule_tests.specs.Results.{Reported}
use Rattle.tested_runs.specs.Sources.{FileTold}
use Rattle.rule_tests.specs.Tests.{AreSources, IsOther, SourcesCome}
use Rattle.tested_runs.specs.declared.source.TestSource.{TestSource}
use Rattle.tested_runs.specs.declared.stop.TestStop.{TestStop}
use Rattle.tested_runs.specs.declared.stop.TestStop.TheVariants as stop

-- ---- orders

-- this line tells that what a test does together has too many orders
pub record OrdersTold (words : TestWords) (source : TestSource) (line : List ℕ) (test : TestCase) : Type 0 where
  pub many : ways words.orders (length test.clients) test.steps ≡ None
  pub line_is : line ≡ place_line source.name source.text test.place (codes "more than 10,000 orders")

abbrev pub TellsOrders : TestWords → TestSource → TestCase → TestStop → Type 0
TellsOrders words source test (stop.File line) = OrdersTold words source line test
TellsOrders words source test other = ⊤

abbrev pub OrdersIn : TestWords → List ℕ → TestSource → Type 0
OrdersIn words line source = OneOf (OrdersTold words source line) source.file.tests

abbrev pub TellsOrdersOf : TestWords → TestSource → TestStop → Type 0
TellsOrdersOf words source (stop.File line) = OrdersIn words line source
TellsOrdersOf words source other = ⊤

abbrev pub TellsAllOrders : TestWords → List TestSource → TestStop → Type 0
TellsAllOrders words sources (stop.File line) = OneOf (OrdersIn words line) sources
TellsAllOrders words sources other = ⊤

-- ---- all that is told of files that were read

abbrev pub SourceLine : (List ℕ → Option (List ℕ)) → TestWords → List TestSource → List ℕ → Type 0
SourceLine told words sources line = OneOf (UnnamedIn told line) sources ⊎ OneOf (OrdersIn words line) sources

abbrev pub TellsOfSources : (List ℕ → Option (List ℕ)) → TestWords → List TestSource → TestStop → Type 0
TellsOfSources told words sources (stop.File line) = SourceLine told words sources line
TellsOfSources told words sources other = ⊤

-- ---- of all files

-- a line of the files that the words name
pub record ReadLine (told : List ℕ → Option (List ℕ)) (words : TestWords) (line : List ℕ) : Type 0 where
  pub sources : List TestSource
  pub are_sources : AreSources told words.files sources
  pub of_sources : SourceLine told words sources line

abbrev pub FileLine : (List ℕ → Option (List ℕ)) → TestWords → List ℕ → Type 0
FileLine told words line = OneOf (λ name. FileTold told name line) words.files ⊎ ReadLine told words line

abbrev pub TellsFiles : (List ℕ → Option (List ℕ)) → TestWords → TestStop → Type 0
TellsFiles told words (stop.File line) = FileLine told words line
TellsFiles told words other = ⊤

-- nothing was written before
abbrev pub Quiet : (old new : Option (List ℕ)) → TestStop → Type 0
Quiet old new (stop.File line) = new ≡ old
Quiet old new other = ⊤

-- ---- what is said at the end

abbrev pub SaysStop : TestStop → (old new : Option (List ℕ)) → Type 0
SaysStop (stop.File line) old new = new ≡ told_more old line
SaysStop other old new = ⊥

abbrev pub SaysEnd : Result Bool TestStop → (old new : Option (List ℕ)) → Type 0
SaysEnd (Ok passed) old new = ⊥
SaysEnd (Err why) old new = SaysStop why old new

-- such a line was written, and nothing else
pub record ToldFile (told : List ℕ → Option (List ℕ)) (words : TestWords) (old new : Option (List ℕ)) : Type 0 where
  pub line : List ℕ
  pub tells : FileLine told words line
  pub written : new ≡ told_more old line

-- ---- where tests are run

-- The files that the words name hold tests, all of which pass, or one of which fails; what is written is the report of
-- those that are to be run, and a schedule of each.
pub record FilesCome (told : List ℕ → Option (List ℕ)) (words : TestWords) (before after old new : Option (List ℕ))
    (passed : Bool) : Type 0 where
  pub sources : List TestSource
  pub are_sources : AreSources told words.files sources
  pub comes : SourcesCome told words passed sources
  pub reported : Reported told words sources before after old new

-- ---- the status

-- 0 only where all tests of the files passed, 10 only where one failed, 11 only where a file that can't be tested is told
pub record TestedAs (told : List ℕ → Option (List ℕ)) (words : TestWords) (status : ℕ)
    (before after old new : Option (List ℕ)) : Type 0 where
  pub passed : status ≡ 0 → FilesCome told words before after old new true
  pub failed : status ≡ 10 → FilesCome told words before after old new false
  pub told_file : status ≡ 11 → ToldFile told words old new

-- The status: words that say nothing are none of these, and memory may be refused.
abbrev pub Tested : (List ℕ → Option (List ℕ)) → Option TestWords → (status : ℕ) → (before after old new : Option (List ℕ))
    → Type 0
Tested told None status before after old new = IsOther status
Tested told (Some words) status before after old new = TestedAs told words status before after old new
