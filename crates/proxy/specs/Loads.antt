-- What a configuration file loads, or what is wrong with it first.
use Rattle.std.specs.Prelude.{◌≡◌, ℕ, ◌==◌, Bool, true, false, List, Option, None, Err}
use Rattle.config.specs.Documents.{document_fault}
use Rattle.config.specs.Faults.{number_of}
use Rattle.config.specs.Outcomes.{Answers, Configures, Holds}
use Rattle.config.specs.declared.fault.ConfigError.TheVariants as refused
use Rattle.config.specs.declared.fault.ConfigFault.{ConfigFault}
use Rattle.config.specs.declared.fault.ConfigFaultKind.{ConfigFaultKind}
use Rattle.config.specs.declared.reader.LoadedConfig.{LoadedConfig}
use Rattle.run_config.specs.declared.config.Config as run
use Rattle.proxy.specs.Runnable.{IsBuilt, IsRun}
use Rattle.toml.specs.Data.{Members}

-- the file holds a document without faults, and this is what it configures
pub record Loads (told : List ℕ → Option (List ℕ)) (name : List ℕ) (C : LoadedConfig) : Type 0 where
  pub top : Members
  pub holds : Holds told name top
  pub faultless : document_fault top ≡ None
  pub configures : Configures told top C

-- it holds such a document
abbrev pub LoadsSome : (List ℕ → Option (List ℕ)) → List ℕ → Type 0
LoadsSome told name = (C : LoadedConfig) × Loads told name C

abbrev pub is_read_fault : ConfigFaultKind → Bool
is_read_fault kind = number_of kind == 1

-- its file, or that of one of its rules, can't be read
pub record IsUnread (told : List ℕ → Option (List ℕ)) (before now : ℕ) (name : List ℕ)
    : Type 0 where
  pub fault : ConfigFault
  pub answers : Answers told before now name (Err (refused.Fault fault))
  pub unread : is_read_fault fault.kind ≡ true

-- this fault of it is told, and it isn't that a file can't be read
pub record IsFaulty (told : List ℕ → Option (List ℕ)) (before now : ℕ) (name : List ℕ) (f : ConfigFault)
    : Type 0 where
  pub answers : Answers told before now name (Err (refused.Fault f))
  pub was_read : is_read_fault f.kind ≡ false

-- a configuration that loads is what runs, but for what isn't built
abbrev pub LoadedIsRun : Type 0
LoadedIsRun = (told : List ℕ → Option (List ℕ)) (name : List ℕ) (C : LoadedConfig)
    → Loads told name C → IsBuilt C → (K : run.Config) × IsRun C K
