-- What a reader of a journal has read.
use Rattle.std.specs.Prelude.{◌≡◌, ℕ, ◌+◌, ◌<◌, List, [], ◌∷◌, ◌++◌, length, Option, Some}
use Rattle.std.specs.Prelude.{None}
use Rattle.journal_value.specs.Journal.{AllFit, IsJournal, Tell, parts_of}
use Rattle.journal_value.specs.declared.journal.JournalLine.{JournalLine}

-- these lines of the text, each of which had its LF; they tell this, and nothing else that fits
pub record HasRead (text : List ℕ) (reader : List ℕ × ℕ) (told : List JournalLine) : Type 0 where
  pub lines : List (List ℕ)
  pub text_is : parts_of text ≡ lines ++ parts_of reader.0
  pub number : reader.1 ≡ length lines
  pub tell : Tell lines told
  pub only_told : (other : List JournalLine) → AllFit other → Tell lines other → told ≡ other

-- with what the next line tells; or all was read, and the text is this journal and no other
abbrev pub HasNext : List ℕ → List ℕ × ℕ → List JournalLine → Option JournalLine → Type 0
HasNext text reader past (Some line) = HasRead text reader (past ++ line ∷ [])
HasNext text reader past None =
    IsJournal text past
    × ((other : List JournalLine) → AllFit other → IsJournal text other → past ≡ other)

-- a reader gave its next line that has its LF, and stands behind it
pub record IsNextLine (old : List ℕ × ℕ) (line : List ℕ) (new : List ℕ × ℕ) : Type 0 where
  pub parts : parts_of old.0 ≡ line ∷ parts_of new.0
  pub number : new.1 ≡ old.1 + 1
  pub shorter : length new.0 < length old.0
