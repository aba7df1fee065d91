-- The Host field: RFC 9112, 3.2 (a request has at most one, and one of 1.1 has exactly one).
use Rattle.std.specs.Prelude.{ℕ, zero, suc, Bool, true, false, ◌&&◌, ◌||◌, ◌==◌, List, codes, length, nat_lt}
use Rattle.std.specs.Prelude.{Option, Some}
use Rattle.std.specs.Char.{is_ascii_alphanumeric}
use Rattle.std.specs.List.{list_all, list_any}
use Rattle.http_heads.specs.Fields.{Pair, last_value, named}
use Rattle.http_heads.specs.declared.line.Version.{Version}
use Rattle.http_heads.specs.declared.line.Version.TheVariants.{Http10}

-- a byte of a host and its port: RFC 9110, 7.2, and RFC 3986, 3.2.2 and 3.2.3, but for the comma, by which some
-- readers would part two hosts
abbrev pub is_host_byte : ℕ → Bool
is_host_byte byte =
    is_ascii_alphanumeric byte || list_any (λ mark. mark == byte) (codes "-._~%!$&'()*+;=:[]")

-- it may be the value of a Host field, which may be empty
abbrev pub is_host : List ℕ → Bool
is_host value = list_all is_host_byte value

-- it may be the authority of a target, which may not (and has no user information: RFC 9110, 4.2.1 and 4.2.4)
abbrev pub is_authority : List ℕ → Bool
is_authority text = nat_lt 0 (length text) && is_host text

-- so many Host fields are right in a request of this version, the last of which has the value
abbrev pub host_by : Version → (count : ℕ) → (last : Option (List ℕ)) → Bool
host_by Http10 zero last = true
host_by version (suc zero) (Some value) = is_host value
host_by version count last = false

abbrev pub host_fits : Version → List Pair → Bool
host_fits version fields =
    host_by version (length (named (codes "host") fields)) (last_value (codes "host") fields)
