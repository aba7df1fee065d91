-- The spelling of addresses: `A.B.C.D` is IPv4address of RFC 3986, 3.2.2, which has no needless
-- zeros. `A.B.C.D:PORT`, with neither needless zeros nor port 0, is this project's own.
use Rattle.std.specs.Prelude.{◌≡◌, ℕ, ◌/◌, ◌%◌, ◌^◌, ◌<◌, Bool, List, ◌++◌, length, codes, decimal}
use Rattle.std.specs.Prelude.{◌==◌}
use Rattle.std.specs.List.{position_or_len}
use Rattle.std.specs.Net.Text.{dotted_text}
use Rattle.px_bytes.specs.declared.addr.Addr.{Addr}

-- four decimals with dots between them, the most significant byte first
abbrev pub ip_text : ℕ → List ℕ
ip_text ip = dotted_text (ip / 2 ^ 24) (ip / 2 ^ 16 % 256) (ip / 2 ^ 8 % 256) (ip % 256)

-- the address, a colon, and the port in decimal
abbrev pub addr_text : Addr → List ℕ
addr_text addr = ip_text addr.ip ++ codes ":" ++ decimal addr.port

-- an address of 32 bits, and a port from 1 to 65,535
pub record IsAddr (addr : Addr) : Type 0 where
  pub ip : addr.ip < 2 ^ 32
  pub some : 0 < addr.port
  pub port : addr.port < 2 ^ 16

-- `b':'`
abbrev pub is_colon : ℕ → Bool
is_colon byte = byte == 58

-- how many bytes stand before the first colon
abbrev pub colon_at : List ℕ → ℕ
colon_at text = position_or_len is_colon text

-- the text is the front, its first colon, and the back
pub record SplitsAtColon (text front back : List ℕ) : Type 0 where
  pub joined : text ≡ front ++ codes ":" ++ back
  pub first : length front ≡ colon_at text
