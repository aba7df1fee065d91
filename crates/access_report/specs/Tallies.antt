-- How the sums of a report are kept.
use Rattle.std.specs.Prelude.{◌≡◌, ℕ, List, Some, None, nat_eq, reverse, if◌then◌else◌}
use Rattle.std.specs.HashMap.{get}
use Rattle.std.specs.Map.{lookup}
use Rattle.std.specs.Str.{bytes_eq}
use Rattle.journal_value.specs.Journal.{IsJournal}
use Rattle.journal_value.specs.declared.journal.JournalLine.{JournalLine}
use Rattle.access_report.specs.Raising.{raised, raised_if}
use Rattle.access_report.specs.Sums.{column, is_named, one_conn, plus, server_of, total}
use Rattle.access_report.specs.declared.counts.ServerCounts.{ServerCounts}
use Rattle.access_report.specs.declared.tally.Tally.{Tally}

-- a connection was accepted at a virtual server
pub record Accepted (old new : Tally) (conn : ℕ) (vs : List ℕ) : Type 0 where
  pub owners : (c : ℕ) → get nat_eq new.owners c
      ≡ (if nat_eq conn c then Some vs else get nat_eq old.owners c)
  pub rows : (name : List ℕ) → lookup (bytes_eq name) new.rows ≡ raised old.rows vs one_conn name
  pub total_is : new.total ≡ plus old.total one_conn

-- something was counted of a connection
pub record Counted (old new : Tally) (conn : ℕ) (more : ServerCounts) : Type 0 where
  pub owners : (c : ℕ) → get nat_eq new.owners c ≡ get nat_eq old.owners c
  pub rows : (name : List ℕ) → lookup (bytes_eq name) new.rows
      ≡ raised_if old.rows (get nat_eq old.owners conn) more name
  pub total_is : new.total ≡ plus old.total more

-- the sums are those of the lines so far, the newest first
pub record Tallies (past : List JournalLine) (tally : Tally) : Type 0 where
  pub owners : (conn : ℕ) → get nat_eq tally.owners conn ≡ server_of conn past
  pub rows : (name : List ℕ) → lookup (bytes_eq name) tally.rows
      ≡ (if is_named name past then Some (column name past) else None)
  pub total_is : tally.total ≡ total past

-- those of a record, which is a journal
pub record TalliesRecord (record_text : List ℕ) (tally : Tally) : Type 0 where
  pub told : List JournalLine
  pub journal : IsJournal record_text told
  pub tallies : Tallies (reverse told) tally
