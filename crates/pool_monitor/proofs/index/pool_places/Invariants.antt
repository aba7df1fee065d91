use Rattle.std.proofs.Common.{◌≡◌, ℕ, List, drop}
use Rattle.std.specs.Option.{option_or}
use Rattle.config.specs.Texts.{place_of}
use Rattle.pool_monitor.specs.Documents.{pool_from}
use Rattle.pool_monitor.proofs.index.pool_places.Given as goal

abbrev pub invariant-loop-at : goal.invariant-loop-at
invariant-loop-at l = (asked : List ℕ) → pool_from 0 l.pools asked
    ≡ option_or (place_of l.index asked) (pool_from l.at (drop l.at l.pools) asked)
