-- What the files hold.
use Rattle.std.specs.Prelude.{◌≡◌, ℕ, List, [], ◌∷◌, ◌++◌, Option, Ok, Err, ⊤}
use Rattle.config.specs.Loading.{IsContents}
use Rattle.config.specs.Outcomes.{Answers}
use Rattle.config.specs.declared.reader.LoadedConfig.{LoadedConfig}
use Rattle.proxy.specs.Runnable.{IsRun}
use Rattle.run_config.specs.declared.config.Config.{Config}
use Rattle.test_text.specs.Files.{fault_line, file_of}
use Rattle.test_text.specs.declared.fault.TestFault.{TestFault}
use Rattle.test_text.specs.declared.fault.Stopped.{Stopped}
use Rattle.test_text.specs.declared.fault.Stopped.TheVariants as stopped
use Rattle.tested_runs.specs.declared.source.TestSource.{TestSource}
use Rattle.tested_runs.specs.declared.stop.TestStop.{TestStop}
use Rattle.tested_runs.specs.declared.stop.TestStop.TheVariants as stop

-- a text is these tests
pub record Parsed (name text : List ℕ) (source : TestSource) : Type 0 where
  pub name_is : source.name ≡ name
  pub text_is : source.text ≡ text
  pub tests : file_of text ≡ Ok source.file

-- a file holds these tests
pub record IsSource (told : List ℕ → Option (List ℕ)) (name : List ℕ) (source : TestSource) : Type 0 where
  pub contents : IsContents told name source.text
  pub parsed : Parsed name source.text source

-- ---- what is told of a file that is none

-- the line of a fault
abbrev pub faulty_line : (name text : List ℕ) → TestFault → List ℕ
faulty_line name text fault = fault_line name text fault ++ 10 ∷ []

-- a fault is told in its line, unless memory is refused
abbrev pub StopsBy : (name text : List ℕ) → Stopped → TestStop → Type 0
StopsBy name text (stopped.Fault fault) (stop.File line) = line ≡ faulty_line name text fault
StopsBy name text why stop.Memory = ⊤
StopsBy name text why other = ⊥

-- a text is no test file, and this line tells the fault with the least place
pub record FaultTold (name text line : List ℕ) : Type 0 where
  pub fault : TestFault
  pub is_fault : file_of text ≡ Err fault
  pub line_is : line ≡ faulty_line name text fault

abbrev pub TellsText : (name text : List ℕ) → TestStop → Type 0
TellsText name text (stop.File line) = FaultTold name text line
TellsText name text stop.Memory = ⊤
TellsText name text other = ⊥

-- so is what a file holds
pub record FileTold (told : List ℕ → Option (List ℕ)) (name line : List ℕ) : Type 0 where
  pub text : List ℕ
  pub contents : IsContents told name text
  pub fault : FaultTold name text line

-- or it can't be read
abbrev pub TellsSource : (List ℕ → Option (List ℕ)) → List ℕ → TestStop → Type 0
TellsSource told name (stop.File line) = FileTold told name line
TellsSource told name stop.Read = ⊤
TellsSource told name stop.Memory = ⊤
TellsSource told name other = ⊥

-- no test file is told to be faulty
abbrev pub TellsNoFile : TestStop → Type 0
TellsNoFile (stop.File line) = ⊥
TellsNoFile other = ⊤

-- ---- configurations

-- a file holds a configuration, for which the core runs this one
pub record IsConfig (told : List ℕ → Option (List ℕ)) (name : List ℕ) (C : Config) : Type 0 where
  pub loaded : LoadedConfig
  pub before : ℕ
  pub now : ℕ
  pub answers : Answers told before now name (Ok loaded)
  pub is_run : IsRun loaded C
