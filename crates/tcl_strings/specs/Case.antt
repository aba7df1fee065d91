-- The case of letters, as `string toupper` changes it: Tcl 8.4, string(n), for ASCII alone.
use Rattle.std.specs.Prelude.{ℕ, List, map}
use Rattle.std.specs.Char.{to_ascii_uppercase}

-- each of `a` to `z` in upper case, and each other byte as it is
abbrev pub uppered : List ℕ → List ℕ
uppered bytes = map to_ascii_uppercase bytes
