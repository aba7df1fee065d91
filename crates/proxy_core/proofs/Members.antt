-- Which numbers are in a list that changed.
pub use Rattle.number_table.proofs.Numbers.{eq_self, eq_same, eq_turned}
pub use Rattle.number_table.proofs.Ring.{in_pushed_self, in_pushed_other, in_without_other, not_in_without}
