-- Calls leave live rows.
use Rattle.std.proofs.Common.{◌≡◌, ℕ, Bool, true, not, List, [], ◌∷◌, length, Option, Some, None, Result, Ok, Err, nat_lt, find, if◌then◌else◌}
use Rattle.std.specs.List.{All}
use Rattle.std.proofs.lemmas.List.Elements.{All-cons, All-filter, All-head, All-nil, All-tail}
use Rattle.px_bytes.proofs.Tests.{by_cases, on_if}
use Rattle.px_bytes.specs.First.{with_first}
use Rattle.px_bytes.specs.Gives.{with_value}
use Rattle.px_bytes.specs.declared.fault.TclFault.{TclFault}
use Rattle.session_table.specs.Answers.{by_row, came, if_live, living}
use Rattle.session_table.specs.Laws.{LiveRowsStay}
use Rattle.session_table.specs.Requests.{Asked, request_of}
use Rattle.session_table.specs.Rows.{is_live, is_of}
use Rattle.session_table.specs.Tables.{Served, added, is_in, placed, served, stands_before, with_new, with_row, without_first}
use Rattle.session_table.specs.declared.came.Came.{Came}
use Rattle.session_table.specs.declared.request.Request.TheVariants.{OfRow, DeleteAll, Keys, Count}
use Rattle.session_table.specs.declared.row.TableRow.{TableRow}

-- what holds of all holds where the first that passes a test is another one
pub all_with_first : {X : Type 0} (P : X → Type 0) (test : X → Bool) (new : X) (xs : List X) → P new → All P xs → All P (with_first test (λ x. new) xs)
all_with_first P test new [] n a = a
all_with_first P test new (x ∷ xs) n a =
    on_if (All P) (test x) (All-cons P new xs n (All-tail P x xs a)) (All-cons P x _ (All-head P x xs a) (all_with_first P test new xs n (All-tail P x xs a)))

module _ (m : ℕ) where
  abbrev Live : TableRow → Type 0
  Live row = is_live m row ≡ true

  abbrev AllLive : List TableRow → Type 0
  AllLive rows = All Live rows

  live_without : (test : TableRow → Bool) (rows : List TableRow) → AllLive rows → AllLive (without_first test rows)
  live_without test [] a = a
  live_without test (row ∷ rows) a =
      on_if AllLive (test row) (All-tail Live row rows a) (All-cons Live row _ (All-head Live row rows a) (live_without test rows (All-tail Live row rows a)))

  live_with_new : (row : TableRow) (rows : List TableRow) → Live row → AllLive rows → AllLive (with_new row rows)
  live_with_new row [] e a = All-cons Live row [] e (All-nil Live)
  live_with_new row (other ∷ rows) e a =
      on_if AllLive (stands_before row other) (All-cons Live row (other ∷ rows) e a)
      (All-cons Live other _ (All-head Live other rows a) (live_with_new row rows e (All-tail Live other rows a)))

  -- the row that a call leaves is live
  abbrev LiveRow : Option TableRow → Type 0
  LiveRow None = Unit {0}
  LiveRow (Some row) = Live row

  abbrev LiveCame : Result Came TclFault → Type 0
  LiveCame (Ok c) = LiveRow c.row
  LiveCame (Err fault) = Unit {0}

  live_if : (o : Option TableRow) → LiveRow (if_live m o)
  live_if None = tt
  live_if (Some row) = by_cases (λ b. LiveRow (if b then Some row else None)) (is_live m row) (λ e. e) (λ e. tt)

  live_value : (r : Result Came TclFault) → LiveCame (with_value r (λ c. Ok (living m c)))
  live_value (Ok c) = live_if c.row
  live_value (Err fault) = tt

  live_with_row : (test : TableRow → Bool) (o : Option TableRow) (rows : List TableRow) → LiveRow o → AllLive rows → AllLive (with_row test o rows)
  live_with_row test None rows e a = live_without test rows a
  live_with_row test (Some after) rows e a = all_with_first Live test after rows e a

  live_added : (limit : ℕ) (reply : List ℕ) (o : Option TableRow) (rows : List TableRow) → LiveRow o → AllLive rows → AllLive (added limit reply o rows).rows
  live_added limit reply None rows e a = a
  live_added limit reply (Some row) rows e a =
      on_if (λ (s : Served). AllLive s.rows) (nat_lt (length rows) limit) (live_with_new row rows e a) a

  live_placed : (limit : ℕ) (test : TableRow → Bool) (old : Option TableRow) (r : Result Came TclFault) (rows : List TableRow) → LiveCame r → AllLive rows → AllLive (placed limit test old r rows).rows
  live_placed limit test old (Err fault) rows e a = a
  live_placed limit test None (Ok c) rows e a = live_added limit c.reply c.row rows e a
  live_placed limit test (Some old) (Ok c) rows e a = live_with_row test c.row rows e a

  live_served : (limit : ℕ) (asked : Asked) (rows : List TableRow) → AllLive rows → AllLive (served limit asked m rows).rows
  live_served limit (Err fault) rows a = a
  live_served limit (Ok (OfRow call)) rows a =
      let test = is_of call.subtable call.key in
      live_placed limit test (find test rows) (came call m (find test rows)) rows (live_value (by_row call m (find test rows))) a
  live_served limit (Ok (DeleteAll subtable)) rows a = All-filter (λ row. not (is_in subtable row)) Live rows a
  live_served limit (Ok (Keys subtable)) rows a = a
  live_served limit (Ok (Count subtable)) rows a = a

pub live_rows_stay : LiveRowsStay
live_rows_stay table m words a = live_served m table.limit (request_of words) table.rows a
