-- Members that were read were never probed.
use Rattle.std.specs.Prelude.{List}
use Rattle.toml.specs.Data.{Members}
use Rattle.config.specs.declared.config.PoolSettings.{PoolSettings}
use Rattle.pool_monitor.specs.History.{AllNew}
use Rattle.pool_monitor.specs.Made.{watch_of}

abbrev pub ReadAreNew : Type 0
ReadAreNew = (ps : List PoolSettings) (top : Members) → AllNew (watch_of ps top).members
