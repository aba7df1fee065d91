-- A document in version 2: the same table, but for its version.
use Rattle.std.specs.Prelude.{◌≡◌, ℕ, pos, List, Option, None}
use Rattle.std.specs.Cmp.Lexicographic.{slice_cmp}
use Rattle.std.specs.Ordering.{match_ordering, nat_cmp}
use Rattle.toml.specs.Data.{Data, integer, Members, no_members, member}
use Rattle.config.specs.Documents.{document_fault}
use Rattle.config.specs.Keys as key
use Rattle.config.specs.Outcomes.{Configures, Holds}
use Rattle.config.specs.declared.reader.LoadedConfig.{LoadedConfig}

-- members in the order of their keys, with this value at a key
abbrev pub with_member : List ℕ → Data → Members → Members
with_member k d no_members = member k d no_members
with_member k d (member l e ms) =
    match_ordering (slice_cmp nat_cmp k l) (member k d (member l e ms)) (member l d ms)
    (member l e (with_member k d ms))

abbrev pub migrated : Members → Members
migrated top = with_member key.version.name (integer (pos 2)) top

-- The file holds a document that loads, and this is the table of it in version 2, which has no
-- fault and is the same configuration.
pub record IsMigrated (told : List ℕ → Option (List ℕ)) (name : List ℕ) (table : Members)
    : Type 0 where
  pub top : Members
  pub holds : Holds told name top
  pub faultless : document_fault top ≡ None
  pub C : LoadedConfig
  pub configures : Configures told top C
  pub table_is : table ≡ migrated top
  pub still_faultless : document_fault table ≡ None
  pub still_configures : Configures told table C
