-- What holds of the fault that is told, and of the configurations that a document is.
use Rattle.std.specs.Prelude.{◌≡◌, ℕ, ◌<◌, ◌≤◌, List, [], ◌∷◌, ◌++◌, Option, IsSome, Contains}
use Rattle.std.specs.Prelude.{MatchOption, None, Some, map}
use Rattle.toml.specs.Data.{Members}
use Rattle.config.specs.Documents.{document_fault}
use Rattle.config.specs.Faults.{number_of, told_of}
use Rattle.config.specs.Filled.{filled}
use Rattle.config.specs.Outcomes.{Configures}
use Rattle.config.specs.declared.fault.ConfigFault.{ConfigFault}
use Rattle.config.specs.declared.reader.LoadedConfig.{LoadedConfig}
use Rattle.config.specs.declared.rule_text.LoadedRule.{LoadedRule}
use Rattle.run_config.specs.declared.config.Config as run

abbrev pub number : ConfigFault → ℕ
number f = number_of f.kind

-- one of them: those before it have greater numbers, and those behind it none that is smaller
pub record IsFirst (faults : List ConfigFault) (f : ConfigFault) : Type 0 where
  pub front : List ConfigFault
  pub back : List ConfigFault
  pub one : faults ≡ front ++ f ∷ back
  pub before : (g : ConfigFault) → Contains front g → number f < number g
  pub behind : (g : ConfigFault) → Contains back g → number f ≤ number g

-- nothing is told only where nothing is wrong
abbrev pub FirstIsTold : Type 0
FirstIsTold = (faults : List ConfigFault) → MatchOption (told_of faults) (faults ≡ []) (IsFirst faults)

-- a rule as it is seen: its name and its text
abbrev pub named_text : LoadedRule → List ℕ × List ℕ
named_text r = (r.rule.name, r.text.bytes)

-- they say the same, and have the same rules
pub record AreSame (C D : LoadedConfig) : Type 0 where
  pub settings : C.settings ≡ D.settings
  pub rules : map named_text C.rules ≡ map named_text D.rules

-- where the files tell what they hold, a document is one configuration only
abbrev pub OneConfiguration : Type 0
OneConfiguration = (told : List ℕ → Option (List ℕ)) (top : Members) (C D : LoadedConfig)
    → ((file : List ℕ) → IsSome (told file))
    → Configures told top C → Configures told top D → AreSame C D

-- for each configuration of a document without faults there is one that runs: the keys of its data
-- groups are of their kinds, and the members of its pools may be
abbrev pub LoadedIsFilled : Type 0
LoadedIsFilled = (told : List ℕ → Option (List ℕ)) (top : Members) (C : LoadedConfig)
    → document_fault top ≡ None → Configures told top C
    → (K : run.Config) × (filled C ≡ Some K)
