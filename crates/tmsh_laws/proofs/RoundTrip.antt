-- What is printed is read back.
use Rattle.std.proofs.Common.{◌≡◌, ℕ, List, [], ◌∷◌, Option, None, sym, ap, subst}
use Rattle.toml.specs.Data.{Members}
use Rattle.config.specs.Documents.{document_fault, items_at}
use Rattle.config.specs.Keys as key
use Rattle.config.specs.Loading.{AreLoaded}
use Rattle.config.specs.Outcomes.{Configures, misplaced_of}
use Rattle.config.specs.Settings.{settings_of}
use Rattle.config.specs.TextRows.{AllAreTexts, AreTexts}
use Rattle.config.specs.declared.config.GroupSettings.{GroupSettings}
use Rattle.config.specs.declared.reader.LoadedConfig.{LoadedConfig}
use Rattle.config.specs.declared.rule_text.LoadedRule.{LoadedRule}
use Rattle.data_groups.specs.Groups.{Row}
use Rattle.tmsh_laws.proofs.DocumentKept.{configures, document_parts, faultless}
use Rattle.tmsh_laws.proofs.Groups.{RowReads}
use Rattle.tmsh_laws.proofs.Lines.{Each}
use Rattle.tmsh_laws.proofs.Printable.{printed_utf8}
use Rattle.tmsh_laws.proofs.Readable.{config_reads}
use Rattle.tmsh_laws.proofs.Tables.{config_members}
use Rattle.tmsh_laws.proofs.Whole.{means}
use Rattle.tmsh_laws.specs.ReadBack.{IsReadBack}
use Rattle.tmsh_text.specs.Printed.{IsPrintable, printed}

rows_read : (rows : List Row) → AreTexts rows → Each RowReads rows
rows_read [] is = tt
rows_read (row ∷ rows) is = (record { key = is.0.key; value = is.0.value }, rows_read rows is.1)

groups_read : (gs : List GroupSettings) → AllAreTexts gs → Each (λ g. Each RowReads g.rows) gs
groups_read [] is = tt
groups_read (g ∷ gs) is = (rows_read g.rows is.0, groups_read gs is.1)

module _ (told : List ℕ → Option (List ℕ)) (top : Members) (rs : List LoadedRule) (no_fault : document_fault top ≡ None) where
  abbrev C : LoadedConfig
  C = record { settings = settings_of top; rules = rs }

  read_back : AreLoaded told (items_at key.rules top) rs → misplaced_of top rs ≡ None → AllAreTexts C.settings.groups → IsPrintable C → IsReadBack (printed C) C
  read_back loaded placed texts printable =
      let is = document_parts top no_fault in
      let reads = config_reads told top rs loaded is printable (groups_read C.settings.groups texts) in
      record {
        table = config_members C;
        means = means C reads (printed_utf8 C reads);
        faultless = faultless told top rs loaded is;
        configures = configures told top rs loaded is placed;
      }

pub printed_back : (told : List ℕ → Option (List ℕ)) (top : Members) (C : LoadedConfig) → document_fault top ≡ None → Configures told top C → AllAreTexts C.settings.groups → IsPrintable C
    → IsReadBack (printed C) C
printed_back told top C no_fault is texts printable =
    let same : record { settings = settings_of top; rules = C.rules } ≡ C = ap (λ s. record { settings = s; rules = C.rules }) (sym is.settings) in
    let P : LoadedConfig → Type 0 = λ D. AllAreTexts D.settings.groups → IsPrintable D → IsReadBack (printed D) D in
    subst P same (λ t p. read_back told top C.rules no_fault is.loaded is.placed t p) texts printable
