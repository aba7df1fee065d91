-- What a `Table` ends as, where a `&mut` to one of its values is returned.
use Rattle.std.specs.Prelude.{ℕ, slice_set}
use Rattle.std.specs.Borrow.{Lends, Fml, RattleType, MutBor}
use Rattle.number_table.specs.Table.{Table}
use Rattle.number_table.specs.contracts.Table.{the_row}

module _ (T : RattleType) (s : MutBor (Table T.Denot)) (at : ℕ) where
  -- once the borrow r ends, the place has the last value written through r
  abbrev pub lends_item : MutBor T.Denot → Fml
  lends_item r =
      Lends (the_row T) T s r (λ w. record s.now { items = slice_set s.now.items at w })
