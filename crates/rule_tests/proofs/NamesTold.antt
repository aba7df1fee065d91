-- What isn't named, of one test and of all.
use Rattle.std.proofs.Common.{◌≡◌, ℕ, List, Option}
use Rattle.test_text.specs.declared.test_file.TestCase.{TestCase}
use Rattle.rule_tests.specs.Named.{TellsAllNames, TellsNames, TellsNamesOf, UnnamedIn, UnnamedTold}
use Rattle.tested_runs.specs.declared.source.TestSource.{TestSource}
use Rattle.tested_runs.specs.declared.stop.TestStop.{TestStop}
use Rattle.tested_runs.specs.declared.stop.TestStop.TheVariants as stop
use Rattle.tested_runs.proofs.Comes.{At}
use Rattle.tested_runs.proofs.Kept.{one_of}

pub names_of : (told : List ℕ → Option (List ℕ)) (source : TestSource) (i : ℕ) (test : TestCase) (why : TestStop)
    → At source.file.tests i test → TellsNames told source test why → TellsNamesOf told source why
names_of told source i test (stop.File line) at tells = one_of (UnnamedTold told source line) source.file.tests i test at tells
names_of told source i test (stop.Config line) at tells = tt
names_of told source i test stop.Read at tells = tt
names_of told source i test stop.Write at tells = tt
names_of told source i test stop.Memory at tells = tt

pub all_names : (told : List ℕ → Option (List ℕ)) (sources : List TestSource) (i : ℕ) (source : TestSource) (why : TestStop)
    → At sources i source → TellsNamesOf told source why → TellsAllNames told sources why
all_names told sources i source (stop.File line) at tells = one_of (UnnamedIn told line) sources i source at tells
all_names told sources i source (stop.Config line) at tells = tt
all_names told sources i source stop.Read at tells = tt
all_names told sources i source stop.Write at tells = tt
all_names told sources i source stop.Memory at tells = tt
