-- What a text is as a configuration.
use Rattle.std.specs.Prelude.{◌≡◌, ℕ, List, Option, None, Err}
use Rattle.toml.specs.Data.{Members}
use Rattle.config.specs.Documents.{document_fault}
use Rattle.config.specs.Outcomes.{Configures, OfDocument}
use Rattle.config.specs.declared.fault.ConfigError.TheVariants as refused
use Rattle.config.specs.declared.reader.LoadedConfig.{LoadedConfig}
use Rattle.tmsh_read.specs.Reading.{IsFault, Means}
use Rattle.tmsh_read.specs.declared.fault.ReadFault.{ReadFault}
use Rattle.tmsh_read.specs.declared.fault.ReadFault.TheVariants as read
use Rattle.tmsh_text.specs.declared.fault.TmshFault.{TmshFault}
use Rattle.tmsh_text.specs.declared.fault.TmshFault.TheVariants.{NotUtf8, Form, Config, Memory}

abbrev pub fault_of : ReadFault → TmshFault
fault_of (read.NotUtf8 at) = NotUtf8 at
fault_of (read.Form at) = Form at
fault_of read.Memory = Memory

-- the text means this table, which loads
pub record Imports (told : List ℕ → Option (List ℕ)) (text : List ℕ) (table : Members) : Type 0 where
  pub means : Means text table
  pub faultless : document_fault table ≡ None
  pub C : LoadedConfig
  pub configures : Configures told table C

-- The table of the text has a fault, or a rule of it has. `told` is what the files hold, `before`
-- and `now` are their counts of faults; no text means a table with a file.
abbrev pub Refuses : (List ℕ → Option (List ℕ)) → (before now : ℕ) → List ℕ → TmshFault → Type 0
Refuses told before now text (NotUtf8 at) = IsFault text (read.NotUtf8 at)
Refuses told before now text (Form at) = IsFault text (read.Form at)
Refuses told before now text (Config f) =
    (table : Members) × Means text table
    × OfDocument told before now table (document_fault table) (Err (refused.Fault f))
Refuses told before now text Memory = Unit {0}
