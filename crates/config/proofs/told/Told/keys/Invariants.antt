use Rattle.std.proofs.Common.{◌≡◌, drop, map}
use Rattle.toml.specs.View.{members_view}
use Rattle.config.specs.Faults.{after_faults}
use Rattle.config.specs.Keys.{key_view}
use Rattle.config.specs.Tables.{keys_faults}
use Rattle.config.proofs.told.Told.keys.Given as goal

abbrev pub invariant-loop-key : goal.invariant-loop-key
invariant-loop-key l =
    let ms = members_view l.table.entries in
    after_faults (keys_faults l.prefix (map key_view l.keys) ms) l.initial.self
    ≡ after_faults (keys_faults l.prefix (map key_view (drop l.key-index l.keys)) ms) l.self
