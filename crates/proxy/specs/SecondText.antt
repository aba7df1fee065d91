-- What `import FILE` and `export CONFIG` come to.
use Rattle.std.specs.Prelude.{◌≡◌, ◌⊎◌, ℕ, ◌≤◌, List, [], Option, Ok, Err}
use Rattle.config.specs.Faults.{number_of}
use Rattle.config.specs.Loading.{IsContents}
use Rattle.config.specs.Outcomes.{Answers}
use Rattle.config.specs.declared.fault.ConfigError.{ConfigError}
use Rattle.config.specs.declared.reader.LoadedConfig.{LoadedConfig}
use Rattle.px_outside.specs.Outside.{Rose}
use Rattle.px_outside.specs.declared.failed.Failed.{Failed}
use Rattle.px_outside.specs.declared.failed.Failed.TheVariants as failed
use Rattle.tmsh_laws.specs.ReadBack.{IsReadBack}
use Rattle.tmsh_text.specs.Imported.{Imports, Refuses}
use Rattle.tmsh_text.specs.Printed.{IsPrintable, Prints, printed}
use Rattle.tmsh_text.specs.declared.fault.PrintFault.{PrintFault}
use Rattle.tmsh_text.specs.declared.fault.PrintFault.TheVariants as print
use Rattle.tmsh_text.specs.declared.fault.TmshFault.{TmshFault}
use Rattle.tmsh_text.specs.declared.fault.TmshFault.TheVariants as read
use Rattle.toml.specs.Data.{Members}
use Rattle.toml_text.specs.Text.{IsTextOf}
use Rattle.proxy.specs.declared.end.End.{End}
use Rattle.proxy.specs.declared.end.End.TheVariants.{Done, SecondText}
use Rattle.proxy.specs.End.{end_of_read}
use Rattle.proxy.specs.Loads.{Loads}
use Rattle.proxy.specs.Mirroring.{TellsSome}
use Rattle.proxy.specs.Report.{second_config, second_place, second_rule}
use Rattle.proxy.specs.Says.{Refuses as RefusesConfig}

-- ---- `import FILE`

-- the line of this fault is due; of want of memory there is none
abbrev pub IsLineOf : TmshFault → List ℕ → End → Type 0
IsLineOf (read.NotUtf8 at) text end = (text ≡ second_place 1 at) × (end ≡ SecondText)
IsLineOf (read.Form at) text end = (text ≡ second_place 2 at) × (end ≡ SecondText)
IsLineOf (read.Config f) text end =
    (text ≡ second_config (number_of f.kind) f.place) × (end ≡ SecondText)
IsLineOf read.Memory text end = ⊥

abbrev pub TellsRead : TmshFault → Option (List ℕ) → Option (List ℕ) → ℕ → ℕ → End → Type 0
TellsRead why old new before now end = TellsSome (IsLineOf why) old new before now end

-- The text that was read means a table that loads, and this is its document: it is read back as
-- the table, which is that configuration.
pub record IsImported (told : List ℕ → Option (List ℕ)) (source text : List ℕ) (end : End) : Type 0 where
  pub table : Members
  pub imports : Imports told source table
  pub text_is : IsTextOf table text
  pub end_is : end ≡ Done

-- it has a fault, and this is its line
pub record IsFaulty (told : List ℕ → Option (List ℕ)) (before now : ℕ) (source text : List ℕ) (end : End)
    : Type 0 where
  pub why : TmshFault
  pub refused : Refuses told before now source why
  pub line : IsLineOf why text end

abbrev pub IsImport : (List ℕ → Option (List ℕ)) → (before now : ℕ) → List ℕ → List ℕ → End → Type 0
IsImport told before now source text end =
    IsImported told source text end ⊎ IsFaulty told before now source text end

abbrev pub ImportsText : (List ℕ → Option (List ℕ)) → (reads_before reads_now : ℕ) → List ℕ
    → Option (List ℕ) → Option (List ℕ) → ℕ → ℕ → End → Type 0
ImportsText told reads_before reads_now source old new before now end =
    TellsSome (IsImport told reads_before reads_now source) old new before now end

-- the file can't be read
pub record CantRead (old new : Option (List ℕ)) (reads_before reads_now : ℕ) (end : End) : Type 0 where
  pub why : Failed
  pub rose : why ≡ failed.Failed → Rose reads_before reads_now
  pub nothing : new ≡ old
  pub end_is : end ≡ end_of_read why

-- it was read
pub record ImportsContents (told : List ℕ → Option (List ℕ)) (name : List ℕ)
    (old new : Option (List ℕ)) (reads_before reads_now before now : ℕ) (end : End) : Type 0 where
  pub source : List ℕ
  pub contents : IsContents told name source
  pub read : ℕ
  pub later : reads_before ≤ read
  pub imports : ImportsText told read reads_now source old new before now end

abbrev pub ImportsFile : List ℕ → (List ℕ → Option (List ℕ)) → Option (List ℕ) → Option (List ℕ) → ℕ
    → ℕ → ℕ → ℕ → End → Type 0
ImportsFile name told old new reads_before reads_now before now end =
    CantRead old new reads_before reads_now end
    ⊎ ImportsContents told name old new reads_before reads_now before now end

-- ---- `export CONFIG`

abbrev pub IsRuleLine : PrintFault → List ℕ → End → Type 0
IsRuleLine (print.Unbalanced at) text end = (text ≡ second_rule 4 at) × (end ≡ SecondText)
IsRuleLine (print.NotUtf8 at) text end = (text ≡ second_rule 5 at) × (end ≡ SecondText)
IsRuleLine print.Memory text end = ⊥

-- the configuration has no text, and this is the line of why
pub record IsUnprinted (C : LoadedConfig) (text : List ℕ) (end : End) : Type 0 where
  pub why : PrintFault
  pub refused : Prints C (Err why)
  pub line : IsRuleLine why text end

-- its text, or that line
abbrev pub IsExport : LoadedConfig → List ℕ → End → Type 0
IsExport C text end = (Prints C (Ok text) × (end ≡ Done)) ⊎ IsUnprinted C text end

abbrev pub ExportsConfig : LoadedConfig → Option (List ℕ) → Option (List ℕ) → ℕ → ℕ → End → Type 0
ExportsConfig C old new before now end = TellsSome (IsExport C) old new before now end

-- the configuration doesn't load, and that is said
pub record ExportsNone (told : List ℕ → Option (List ℕ)) (name : List ℕ) (old new : Option (List ℕ))
    (reads_before reads_now before now : ℕ) (end : End) : Type 0 where
  pub why : ConfigError
  pub answers : Answers told reads_before reads_now name (Err why)
  pub refuses : RefusesConfig why old new before now end

-- it loads, and what is printed of it is read back as the same configuration
pub record ExportsLoaded (told : List ℕ → Option (List ℕ)) (name : List ℕ) (old new : Option (List ℕ))
    (before now : ℕ) (end : End) : Type 0 where
  pub C : LoadedConfig
  pub loads : Loads told name C
  pub exports : ExportsConfig C old new before now end
  pub read_back : IsPrintable C → IsReadBack (printed C) C

abbrev pub ExportsFile : List ℕ → (List ℕ → Option (List ℕ)) → Option (List ℕ) → Option (List ℕ) → ℕ
    → ℕ → ℕ → ℕ → End → Type 0
ExportsFile name told old new reads_before reads_now before now end =
    ExportsNone told name old new reads_before reads_now before now end
    ⊎ ExportsLoaded told name old new before now end
