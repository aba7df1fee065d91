-- What the active table pushes: the `table` entries of a history whose reply says what the rows are by, in
-- order; and the first moment that is out of order.
use Rattle.std.specs.Prelude.{ℕ, ◌+◌, ◌^◌, Bool, true, false, ◌||◌, ◌&&◌, List, [], ◌∷◌, flat_map, codes}
use Rattle.std.specs.Prelude.{Option, Some, None, nat_lt, option_map, if◌then◌else◌}
use Rattle.std.specs.Str.{bytes_eq}
use Rattle.px_bytes.specs.declared.fault.FaultKind.{FaultKind}
use Rattle.px_bytes.specs.declared.fault.FaultKind.TheVariants.{NotWhole, OutOfRange, TooLong}
use Rattle.px_bytes.specs.declared.fault.FaultKind.TheVariants.{Syntax, TableFull}
use Rattle.px_bytes.specs.declared.fault.Reply.{Reply}
use Rattle.px_bytes.specs.declared.fault.Reply.TheVariants.{Ok, Fault}
use Rattle.core_events.specs.declared.note.Note.TheVariants.{History}
use Rattle.journal_value.specs.declared.journal.JournalLine.{JournalLine}
use Rattle.journal_value.specs.declared.journal.JournalLine.TheVariants.{Note}

-- an answered call of `table`: its moment in milliseconds, the words behind `table`, and the reply
pub record Entry : Type 0 where
  pub moment : ℕ
  pub words : List (List ℕ)
  pub reply : Reply

-- a fault that a table gives
abbrev pub is_of_table : FaultKind → Bool
is_of_table NotWhole = true
is_of_table OutOfRange = true
is_of_table TooLong = true
is_of_table Syntax = true
is_of_table TableFull = true
is_of_table other = false

abbrev pub is_pushed : Reply → Bool
is_pushed (Ok text) = true
is_pushed (Fault fault) = is_of_table fault.kind

abbrev pub entry_of_call : ℕ → List (List ℕ) → Reply → List Entry
entry_of_call moment [] reply = []
entry_of_call moment (first ∷ words) reply =
    if bytes_eq first (codes "table") && is_pushed reply
    then record { moment = moment; words = words; reply = reply } ∷ [] else []

abbrev pub entry_of : JournalLine → List Entry
entry_of (Note (History conn moment call reply)) = entry_of_call moment call reply
entry_of other = []

abbrev pub pushed : List JournalLine → List Entry
pushed told = flat_map entry_of told

-- ---- moments

-- of any shared call
abbrev pub moment_of : JournalLine → Option ℕ
moment_of (Note (History conn moment call reply)) = Some moment
moment_of other = None

-- it lies before one that was there, or is above 2^53
abbrev pub is_out : (last : ℕ) → Option ℕ → Bool
is_out last None = false
is_out last (Some moment) = nat_lt moment last || nat_lt (2 ^ 53) moment

abbrev pub later : ℕ → Option ℕ → ℕ
later last None = last
later last (Some moment) = moment

-- the place of the first entry whose moment is out of order
abbrev pub out_of_order : (last : ℕ) → List JournalLine → Option ℕ
out_of_order last [] = None
out_of_order last (line ∷ told) =
    if is_out last (moment_of line) then Some 0
    else option_map (λ n. n + 1) (out_of_order (later last (moment_of line)) told)
