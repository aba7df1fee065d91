-- The numbers of live connections, and the ring of those that are ready to run.
use Rattle.std.specs.Prelude.{ℕ, List, Option, map, nat_eq}
use Rattle.std.specs.List.{position_from}
pub use Rattle.number_table.specs.Table.{is_in, with_ready, without}
use Rattle.conn.specs.declared.turn.ConnTurn.{ConnTurn}
use Rattle.conn.specs.declared.turn.ConnTurn.TheVariants as turn
use Rattle.proxy_core.specs.declared.live.Live.{Live}

abbrev pub numbers : List Live → List ℕ
numbers live = map (λ l. l.number) live

-- where the connection of a number stands
abbrev pub place_of : List Live → ℕ → Option ℕ
place_of live number = position_from (λ l. nat_eq l.number number) 0 live

-- n at the back, where its Run stopped in the middle
abbrev pub ring_behind : ConnTurn → ℕ → List ℕ → List ℕ
ring_behind turn.More n ring = with_ready ring n
ring_behind other n ring = ring
