-- The shared call that selects a member of a pool, and the address that its reply spells.
use Rattle.std.specs.Prelude.{◌≡◌, ℕ, ◌+◌, ◌*◌, ◌^◌, List, [], ◌∷◌, codes, Bool, ◌&&◌}
use Rattle.std.specs.Prelude.{Option, Some, None, nat_lt, if◌then◌else◌}
use Rattle.std.specs.Char.{digit_value}
use Rattle.std.specs.Str.{bytes_eq}
use Rattle.px_bytes.specs.Address.{ip_text, addr_text, IsAddr}
use Rattle.px_bytes.specs.declared.addr.Addr.{Addr}
use Rattle.conn_trace.specs.Setup.{Setup}

-- that any member will do, or this one alone
abbrev pub any_member : List (List ℕ)
any_member = codes "any" ∷ []

abbrev pub only_member : Addr → List (List ℕ)
only_member addr = codes "only" ∷ addr_text addr ∷ []

-- the virtual server, the pool, the client's address, and which members will do
abbrev pub select_call : Setup → List ℕ → (wanted : List (List ℕ)) → List (List ℕ)
select_call g pool wanted = codes "select" ∷ g.name ∷ pool ∷ ip_text g.from.ip ∷ wanted

-- the numbers that a text's digits write, between bytes that are no digits, behind `n` so far
abbrev pub numbers_from : ℕ → List ℕ → List ℕ
numbers_from n [] = n ∷ []
numbers_from n (byte ∷ text) =
    if nat_lt (digit_value byte) 10 then numbers_from (n * 10 + digit_value byte) text
    else n ∷ numbers_from 0 text

-- an address of 32 bits with a port from 1 to 65,535, which the text spells
abbrev pub spells : List ℕ → Addr → Bool
spells text addr =
    (nat_lt addr.ip (2 ^ 32) && (nat_lt 0 addr.port && nat_lt addr.port (2 ^ 16)))
    && bytes_eq (addr_text addr) text

abbrev pub if_spelled : List ℕ → Addr → Option Addr
if_spelled text addr = if spells text addr then Some addr else None

abbrev pub address : (a b c d port : ℕ) → Addr
address a b c d port = record { ip = 2 ^ 24 * a + 2 ^ 16 * b + 2 ^ 8 * c + d; port = port }

-- five numbers as an address
abbrev pub addr_with : List ℕ → List ℕ → Option Addr
addr_with text (a ∷ b ∷ c ∷ d ∷ port ∷ []) = if_spelled text (address a b c d port)
addr_with text numbers = None

-- the address that a text spells
abbrev pub addr_of : List ℕ → Option Addr
addr_of text = addr_with text (numbers_from 0 text)

-- a text that is read as an address spells it
pub record Spelled (text : List ℕ) (addr : Addr) : Type 0 where
  pub address : IsAddr addr
  pub text_of_it : text ≡ addr_text addr

abbrev pub SelectedIsSpelled : Type 0
SelectedIsSpelled =
    (text : List ℕ) (addr : Addr) → addr_of text ≡ Some addr → Spelled text addr

-- and each address is read as it is written
abbrev pub WrittenIsSelected : Type 0
WrittenIsSelected = (addr : Addr) → IsAddr addr → addr_of (addr_text addr) ≡ Some addr
