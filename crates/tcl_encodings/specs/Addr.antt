-- The address with a port that a text is, `A.B.C.D:PORT`.
use Rattle.std.specs.Prelude.{ℕ, ◌+◌, ◌^◌, Bool, ◌&&◌, List, take, drop, Option, Some, None, nat_lt}
use Rattle.std.specs.Prelude.{unwrap_or, if◌then◌else◌}
use Rattle.std.specs.Str.{bytes_eq}
use Rattle.std.specs.Str.Parse.{digits_value}
use Rattle.px_bytes.specs.Address.{addr_text, colon_at}
use Rattle.px_bytes.specs.declared.addr.Addr.{Addr}
use Rattle.tcl_encodings.specs.Addresses.{address_of}

-- The address that a text writes if it writes one: an address before its colon, and digits behind
-- it.
abbrev pub written_addr : List ℕ → Addr
written_addr text = record {
  ip = unwrap_or (address_of (take (colon_at text) text)) 0;
  port = digits_value 10 (drop (colon_at text + 1) text);
}

-- an address of 32 bits and a port from 1 to 65,535, and the text is theirs
abbrev pub spells_addr : List ℕ → Addr → Bool
spells_addr text addr =
    (nat_lt addr.ip (2 ^ 32) && nat_lt 0 addr.port && nat_lt addr.port (2 ^ 16))
    && bytes_eq text (addr_text addr)

abbrev pub addr_of : List ℕ → Option Addr
addr_of text = if spells_addr text (written_addr text) then Some (written_addr text) else None
