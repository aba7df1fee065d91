-- What `migrate CONFIG` comes to.
use Rattle.std.specs.Prelude.{◌≡◌, ◌⊎◌, ℕ, List, Option}
use Rattle.config.specs.Migrated.{IsMigrated}
use Rattle.px_outside.specs.Outside.{told_more, Rose}
use Rattle.toml.specs.Data.{Members}
use Rattle.toml_text.specs.Text.{IsTextOf}
use Rattle.proxy.specs.declared.end.End.{End}
use Rattle.proxy.specs.declared.end.End.TheVariants.{Done, Usage, Config, Schedule, ReadFault}
use Rattle.proxy.specs.declared.end.End.TheVariants.{WriteFault, Memory, Differs, SecondText}
use Rattle.proxy.specs.Loads.{IsUnread}
use Rattle.proxy.specs.Says.{TellsFault}
use Rattle.proxy.specs.Written.{WritesDue}

-- The configuration loads, and this text is its document in version 2. It is read back as that
-- document, which loads as the same configuration while the files tell the same.
pub record IsMigration (told : List ℕ → Option (List ℕ)) (name text : List ℕ) : Type 0 where
  pub table : Members
  pub in_two : IsMigrated told name table
  pub text_is : IsTextOf table text

-- the text that is due: that, or why the configuration doesn't load
abbrev pub IsMigrationText : (List ℕ → Option (List ℕ)) → (before now : ℕ) → List ℕ → List ℕ → Type 0
IsMigrationText told before now name text =
    TellsFault told before now name text ⊎ IsMigration told name text

-- by its end
abbrev pub MigratesFile : List ℕ → (List ℕ → Option (List ℕ)) → Option (List ℕ) → Option (List ℕ) → ℕ
    → ℕ → ℕ → ℕ → End → Type 0
MigratesFile name told old new reads_before reads_now before now Done =
    (text : List ℕ) × IsMigration told name text × (new ≡ told_more old text)
MigratesFile name told old new reads_before reads_now before now Usage = ⊥
MigratesFile name told old new reads_before reads_now before now Config =
    (text : List ℕ) × TellsFault told reads_before reads_now name text
    × (new ≡ told_more old text)
MigratesFile name told old new reads_before reads_now before now Schedule = ⊥
MigratesFile name told old new reads_before reads_now before now ReadFault =
    Rose reads_before reads_now × IsUnread told reads_before reads_now name × (new ≡ old)
MigratesFile name told old new reads_before reads_now before now WriteFault =
    Rose before now × WritesDue (IsMigrationText told reads_before reads_now name) old new
MigratesFile name told old new reads_before reads_now before now Memory =
    (new ≡ old) ⊎ WritesDue (IsMigrationText told reads_before reads_now name) old new
MigratesFile name told old new reads_before reads_now before now Differs = ⊥
MigratesFile name told old new reads_before reads_now before now SecondText = ⊥
