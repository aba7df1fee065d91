use Rattle.std.proofs.Common.{◌≡◌, ℕ, List, drop, Some}
use Rattle.pool_monitor.specs.Keys.{pool_key}
use Rattle.std.specs.Option.{option_or}
use Rattle.toml.specs.View.{items_view}
use Rattle.config.specs.Texts.{first_from, place_of}
use Rattle.pool_monitor.proofs.index.named_pools.Given as goal

abbrev pub invariant-loop-value : goal.invariant-loop-value
invariant-loop-value l =
    let key = Some pool_key.name in
    (l.at ≡ l.value-index)
    × ((asked : List ℕ) → first_from 0 key (items_view l.values.items) asked
    ≡ option_or (place_of l.index asked) (first_from l.at key (items_view (drop l.value-index l.values.items)) asked))
