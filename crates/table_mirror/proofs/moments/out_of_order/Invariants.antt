use Rattle.std.proofs.Common.{◌≡◌, ◌+◌, drop, option_map}
use Rattle.table_mirror.specs.Pushed.{out_of_order}
use Rattle.table_mirror.proofs.moments.out_of_order.Given as goal

abbrev pub invariant-loop-place : goal.invariant-loop-place
invariant-loop-place l = option_map (λ n. n + l.place) (out_of_order l.last (drop l.place l.told)) ≡ out_of_order 0 l.told
