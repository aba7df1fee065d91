-- Texts between braces: braces within close each other, and the byte behind a backslash counts for
-- nothing.
use Rattle.std.specs.Prelude.{ℕ, ◌+◌, ◌-◌, ◌==◌, Bool, true, false, not, ◌&&◌, List, [], ◌∷◌}
use Rattle.std.specs.Prelude.{Option, Some, None, option_map, if◌then◌else◌}
use Rattle.std.specs.Option.{option_map_or}
use Rattle.tmsh_read.specs.declared.braced.Braces.{Braces}

abbrev pub none_open : Braces
none_open = record { depth = 0; escaped = false }

-- behind a byte that is no escaped one
abbrev pub after_plain : ℕ → ℕ → Option Braces
after_plain depth byte =
    if byte == 92 then Some (record { depth = depth; escaped = true })
    else (if byte == 123 then Some (record { depth = depth + 1; escaped = false })
    else (if byte == 125
    then (if depth == 0 then None else Some (record { depth = depth - 1; escaped = false }))
    else Some (record { depth = depth; escaped = false })))

-- behind a byte more: none where it closes a brace that isn't open
abbrev pub after : Braces → ℕ → Option Braces
after b byte =
    if b.escaped then Some (record { depth = b.depth; escaped = false }) else after_plain b.depth byte

abbrev pub closed : Braces → Bool
closed b = b.depth == 0 && not b.escaped

-- how many bytes stand before the one that closes a brace that isn't open among them
abbrev pub braced_len : Braces → List ℕ → Option ℕ
braced_len b [] = None
braced_len b (byte ∷ bytes) =
    option_map_or (λ next. option_map (λ n. n + 1) (braced_len next bytes)) (after b byte) (Some 0)
