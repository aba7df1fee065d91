-- The value of the cookie by which BIG-IP finds the member of a client again (article K6917: BIG-IP
-- persistence cookie encoding): the bytes of the address as one number, the first byte the least;
-- the port with its two bytes swapped; and four zeros.
use Rattle.std.specs.Prelude.{ℕ, ◌^◌, ◌<◌, List, ◌++◌, codes, decimal}
use Rattle.std.specs.Int.{swap_bytes, w16, w32}
use Rattle.px_bytes.specs.declared.addr.Addr.{Addr}

abbrev pub bigip_text : Addr → List ℕ
bigip_text member =
    decimal (swap_bytes w32 member.ip) ++ codes "." ++ decimal (swap_bytes w16 member.port)
    ++ codes ".0000"

-- an address of 32 bits, and a port of 16
pub record IsAddr (member : Addr) : Type 0 where
  pub ip : member.ip < 2 ^ 32
  pub port : member.port < 2 ^ 16
