-- What `import` and `export` come to, from what was said.
use Rattle.std.proofs.Common.{◌≡◌, ℕ, ◌≤◌, List, Option, Result, Ok, Err, inl, inr, refl}
use Rattle.std.specs.Prelude.{IfOk}
use Rattle.config.specs.Loading.{IsContents}
use Rattle.config.specs.Outcomes.{Answers}
use Rattle.config.specs.TextRows.{AllAreTexts}
use Rattle.config.specs.declared.fault.ConfigError.{ConfigError}
use Rattle.config.specs.declared.reader.LoadedConfig.{LoadedConfig}
use Rattle.px_bytes.specs.declared.memory.Memory as want
use Rattle.px_outside.specs.Outside.{Rose}
use Rattle.px_outside.specs.declared.failed.Failed.{Failed}
use Rattle.px_outside.specs.declared.failed.Failed.TheVariants as failed
use Rattle.tmsh_laws.proofs.RoundTrip.{printed_back}
use Rattle.tmsh_text.specs.Imported.{Imports, Refuses as RefusesText}
use Rattle.tmsh_text.specs.Printed.{Prints}
use Rattle.tmsh_text.specs.declared.fault.PrintFault.{PrintFault}
use Rattle.tmsh_text.specs.declared.fault.TmshFault.{TmshFault}
use Rattle.toml.specs.Data.{Members}
use Rattle.toml_text.specs.Text.{IsTextOf}
use Rattle.proxy.specs.declared.end.End.{End}
use Rattle.proxy.specs.declared.end.End.TheVariants.{Done}
use Rattle.proxy.specs.End.{end_of_read}
use Rattle.proxy.specs.Loads.{Loads}
use Rattle.proxy.specs.Mirroring.{TellsMade, TellsSome}
use Rattle.proxy.specs.Says.{Refuses, Tells}
use Rattle.proxy.specs.SecondText.{ExportsConfig, ExportsFile, ImportsFile, ImportsText, IsExport, IsFaulty, IsImport, IsLineOf, IsRuleLine, TellsRead}

module _ (old new : Option (List ℕ)) (before now : ℕ) where
  -- what is due for one thing is due for another
  pub told_for : (P Q : List ℕ → End → Type 0) → ((text : List ℕ) (end : End) → P text end → Q text end) → (end : End) → TellsSome P old new before now end → TellsSome Q old new before now end
  told_for P Q leads end (inl t) = inl (record { text = t.text; usual = t.usual; due = leads t.text t.usual t.due; tells = t.tells })
  told_for P Q leads end (inr t) = inr t

  module _ (told : List ℕ → Option (List ℕ)) (rb rn : ℕ) (source : List ℕ) where
    pub imported : (table : Members) → Imports told source table → (line : Result (List ℕ) want.Memory) → IfOk line (IsTextOf table) → (end : End) → TellsMade line Done old new before now end → ImportsText told rb rn source old new before now end
    imported table is (Ok text) made end t =
        inl (record { text = text; usual = Done; due = inl (record { table = table; imports = is; text_is = made; end_is = refl }); tells = t })
    imported table is (Err w) made end t = inr t

    pub import_refused : (why : TmshFault) → RefusesText told rb rn source why → (end : End) → TellsRead why old new before now end → ImportsText told rb rn source old new before now end
    import_refused why refused end t =
        told_for (IsLineOf why) (IsImport told rb rn source) (λ text e due. inr (record { why = why; refused = refused; line = due })) end t

  module _ (C : LoadedConfig) where
    pub exported : (text : List ℕ) → Prints C (Ok text) → (end : End) → Tells text Done old new before now end → ExportsConfig C old new before now end
    exported text prints end t = inl (record { text = text; usual = Done; due = inl (prints, refl); tells = t })

    pub unprinted : (why : PrintFault) → Prints C (Err why) → (end : End) → TellsSome (IsRuleLine why) old new before now end → ExportsConfig C old new before now end
    unprinted why prints end t = told_for (IsRuleLine why) (IsExport C) (λ text e due. inr (record { why = why; refused = prints; line = due })) end t

  -- the files, by what was read
  module _ (told : List ℕ → Option (List ℕ)) (rb : ℕ) where
    pub contents_imported : (mid rn : ℕ) (name source : List ℕ) → IsContents told name source → rb ≤ mid → (end : End) → ImportsText told mid rn source old new before now end → ImportsFile name told old new rb rn before now end
    contents_imported mid rn name source is later end t = inr (record { source = source; contents = is; read = mid; later = later; imports = t })

    pub file_unread : (rn : ℕ) (name : List ℕ) (why : Failed) → (why ≡ failed.Failed → Rose rb rn) → new ≡ old → (end : End) → end ≡ end_of_read why → ImportsFile name told old new rb rn before now end
    file_unread rn name why rose same end is = inl (record { why = why; rose = rose; nothing = same; end_is = is })

    pub config_exported : (rn : ℕ) (name : List ℕ) (C : LoadedConfig) → Loads told name C → AllAreTexts C.settings.groups → (end : End) → ExportsConfig C old new before now end → ExportsFile name told old new rb rn before now end
    config_exported rn name C loads texts end t = inr (record { C = C; loads = loads; exports = t; read_back = λ printable. printed_back told loads.top C loads.faultless loads.configures texts printable })

    pub config_refused : (rn : ℕ) (name : List ℕ) (why : ConfigError) → Answers told rb rn name (Err why) → (end : End) → Refuses why old new before now end → ExportsFile name told old new rb rn before now end
    config_refused rn name why answers end t = inl (record { why = why; answers = answers; refuses = t })
