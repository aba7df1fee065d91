-- The bytes of a level with more behind a value.
use Rattle.std.proofs.Common.{◌≡◌, ℕ, ◌+◌, min, List, ◌++◌, length, Option, Some, None, ap, arith}
use Rattle.std.proofs.Common.{length-append}
use Rattle.tcl_vars.specs.Appended.{appended_in}
use Rattle.tcl_vars.specs.Scopes.{Level, level_bytes, value_in, with_value_in}
use Rattle.tcl_vars.specs.Tables.{IsInOrderAt, index_bytes}
use Rattle.tcl_vars.proofs.LevelBytes.{level_bytes-with, bytes_with-new}

-- behind an old value only the bytes that come count
pub bytes_appended-old : (level : Level) (name : List ℕ) (index : Option (List ℕ)) (old more : List ℕ) (most : ℕ) → IsInOrderAt level name index → Some old ≡ value_in level name index
    → min (level_bytes level + length more) most ≡ min (level_bytes (with_value_in name index (appended_in level name index more) level)) most
bytes_appended-old level name index old more most sorted there =
    let e = rw (← there) at (level_bytes-with level name index (old ++ more) sorted) in
    rw (← there) (ap (λ n. min n most) (omega (arith, e, length-append old more)))

-- where there is none, the name's and the index's come too
pub bytes_appended-new : (level : Level) (name : List ℕ) (index : Option (List ℕ)) (more : List ℕ) (most : ℕ) → IsInOrderAt level name index → None ≡ value_in level name index
    → min (min (min (level_bytes level + length name) most + index_bytes index) most + length more) most
    ≡ min (level_bytes (with_value_in name index (appended_in level name index more) level)) most
bytes_appended-new level name index more most sorted none = rw (← none) (bytes_with-new level name index more most sorted none)
