-- The text of a table.
use Rattle.std.specs.Prelude.{◌≡◌, ℕ, List, Some, IsUtf8, false}
use Rattle.toml.specs.Data.{Members}
use Rattle.toml.specs.Parse.{parse_document}
use Rattle.toml.specs.Text.{IsDocumentText}

-- a document of this table in plain form, which is UTF-8 and is read back as the table
pub record IsTextOf (ms : Members) (text : List ℕ) : Type 0 where
  pub written : IsDocumentText false ms text
  pub utf8 : IsUtf8 text
  pub read_back : parse_document text ≡ Some ms
