-- The second text of a configuration is read back as the same configuration, whose rules have their
-- texts in the document.
use Rattle.std.specs.Prelude.{◌≡◌, ℕ, List, map, Option, None}
use Rattle.toml.specs.Data.{Members}
use Rattle.config.specs.Documents.{document_fault}
use Rattle.config.specs.Outcomes.{Configures}
use Rattle.config.specs.TextRows.{AllAreTexts}
use Rattle.config.specs.declared.reader.LoadedConfig.{LoadedConfig}
use Rattle.config.specs.declared.rule_text.LoadedRule.{LoadedRule}
use Rattle.tmsh_read.specs.Reading.{Means}
use Rattle.tmsh_text.specs.Printed.{IsPrintable, printed}

-- the same rule, with its text in the document
abbrev pub in_place : LoadedRule → LoadedRule
in_place r = record {
  text = record { file = None; bytes = r.text.bytes };
  rule = r.rule;
  events = r.events;
}

abbrev pub in_one_text : LoadedConfig → LoadedConfig
in_one_text C = record { settings = C.settings; rules = map in_place C.rules }

-- The text means a table that has no fault and is this configuration, whatever the files hold.
pub record IsReadBack (text : List ℕ) (C : LoadedConfig) : Type 0 where
  pub table : Members
  pub means : Means text table
  pub faultless : document_fault table ≡ None
  pub configures : (told : List ℕ → Option (List ℕ)) → Configures told table (in_one_text C)

-- of each document without faults, unless a rule's text can't stand in a text; the keys and values of
-- data groups are UTF-8, as those of each document that was read
abbrev pub PrintedIsReadBack : Type 0
PrintedIsReadBack = (told : List ℕ → Option (List ℕ)) (top : Members) (C : LoadedConfig)
    → document_fault top ≡ None → Configures told top C → AllAreTexts C.settings.groups
    → IsPrintable C → IsReadBack (printed C) C
