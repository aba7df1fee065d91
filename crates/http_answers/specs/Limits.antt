-- The limits of a head: at most 100 fields, and 65,536 bytes as it is written.
use Rattle.std.specs.Prelude.{ℕ, Bool, ◌&&◌, length, nat_le}
use Rattle.http_heads.specs.Written.{written_response}
use Rattle.http_heads.specs.declared.response.ResponseHead.{ResponseHead}

abbrev pub head_limit : ℕ
head_limit = 65536

abbrev pub response_fits : ResponseHead → Bool
response_fits head =
    nat_le (length head.fields) 100 && nat_le (length (written_response head)) head_limit
