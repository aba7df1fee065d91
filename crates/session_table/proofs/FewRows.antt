-- No call leaves more rows than the limit.
use Rattle.std.proofs.Common.{◌≡◌, ℕ, ◌+◌, ◌≤◌, Bool, true, not, List, [], ◌∷◌, length, Option, Some, None, Result, Ok, Err, nat_lt, find, if◌then◌else◌, arith}
use Rattle.std.specs.Prelude.{filter}
use Rattle.std.proofs.lemmas.Bool.{ltb-true}
use Rattle.px_bytes.proofs.Tests.{by_cases, on_if}
use Rattle.px_bytes.specs.First.{with_first}
use Rattle.px_bytes.specs.declared.fault.TclFault.{TclFault}
use Rattle.session_table.specs.Answers.{came}
use Rattle.session_table.specs.Laws.{RowsStayFew}
use Rattle.session_table.specs.Requests.{Asked, request_of}
use Rattle.session_table.specs.Rows.{is_of}
use Rattle.session_table.specs.Tables.{added, fails, gives, is_in, placed, served, stands_before, table_full, with_new, with_row, without_first}
use Rattle.session_table.specs.declared.came.Came.{Came}
use Rattle.session_table.specs.declared.request.Request.TheVariants.{OfRow, DeleteAll, Keys, Count}
use Rattle.session_table.specs.declared.row.TableRow.{TableRow}

-- ---- rows

pub few_left : (test : TableRow → Bool) (rows : List TableRow) → length (filter test rows) ≤ length rows
few_left test [] = omega arith
few_left test (row ∷ rows) =
    let few = few_left test rows in
    on_if (λ rs. length rs ≤ length (row ∷ rows)) (test row) (omega (arith, few)) (omega (arith, few))

few_without : (test : TableRow → Bool) (rows : List TableRow) → length (without_first test rows) ≤ length rows
few_without test [] = omega arith
few_without test (row ∷ rows) =
    let few = few_without test rows in
    on_if (λ rs. length rs ≤ length (row ∷ rows)) (test row) (omega arith) (omega (arith, few))

few_first : (test : TableRow → Bool) (new : TableRow) (rows : List TableRow) → length (with_first test (λ x. new) rows) ≤ length rows
few_first test new [] = omega arith
few_first test new (row ∷ rows) =
    let few = few_first test new rows in
    on_if (λ rs. length rs ≤ length (row ∷ rows)) (test row) (omega arith) (omega (arith, few))

one_new : (row : TableRow) (rows : List TableRow) → length (with_new row rows) ≤ length rows + 1
one_new row [] = omega arith
one_new row (other ∷ rows) =
    let one = one_new row rows in
    on_if (λ rs. length rs ≤ length (other ∷ rows) + 1) (stands_before row other) (omega arith) (omega (arith, one))

-- ---- a call on the table

module _ (limit : ℕ) (rows : List TableRow) (few : length rows ≤ limit) where
  few_row : (test : TableRow → Bool) (o : Option TableRow) → length (with_row test o rows) ≤ limit
  few_row test None = (let less = few_without test rows in omega (arith, less, few))
  few_row test (Some after) = (let less = few_first test after rows in omega (arith, less, few))

  few_added : (reply : List ℕ) (o : Option TableRow) → length (added limit reply o rows).rows ≤ limit
  few_added reply None = few
  few_added reply (Some row) =
      by_cases (λ b. length (if b then gives reply (with_new row rows) else fails table_full rows).rows ≤ limit) (nat_lt (length rows) limit)
      (λ room. (let free = ltb-true (length rows) limit room in let one = one_new row rows in omega (arith, free, one))) (λ full. few)

  few_placed : (test : TableRow → Bool) (old : Option TableRow) (r : Result Came TclFault) → length (placed limit test old r rows).rows ≤ limit
  few_placed test old (Err fault) = few
  few_placed test None (Ok c) = few_added c.reply c.row
  few_placed test (Some old) (Ok c) = few_row test c.row

  few_served : (asked : Asked) (moment : ℕ) → length (served limit asked moment rows).rows ≤ limit
  few_served (Err fault) moment = few
  few_served (Ok (OfRow c)) moment = few_placed (is_of c.subtable c.key) (find (is_of c.subtable c.key) rows) (came c moment (find (is_of c.subtable c.key) rows))
  few_served (Ok (DeleteAll subtable)) moment = (let less = few_left (λ row. not (is_in subtable row)) rows in omega (arith, less, few))
  few_served (Ok (Keys subtable)) moment = few
  few_served (Ok (Count subtable)) moment = few

pub rows_stay_few : RowsStayFew
rows_stay_few table moment words few = few_served table.limit table.rows few (request_of words) moment
