-- Letters of ASCII without their case, as HTTP compares names of fields (RFC 9110, 5.1).
use Rattle.std.specs.Prelude.{ℕ, List, map}
use Rattle.std.specs.Char.{to_ascii_lowercase}

-- each of `A` to `Z` in lower case, and each other byte as it is
abbrev pub lowered : List ℕ → List ℕ
lowered bytes = map to_ascii_lowercase bytes
