-- The command `IP::addr` (iRules). Addresses and networks are spelled as in RFC 3986, 3.2.2, and in
-- RFC 4632, 3.1.
use Rattle.std.specs.Prelude.{ℕ, ◌+◌, ◌-◌, ◌*◌, ◌/◌, ◌^◌, Bool, ◌&&◌, ◌||◌, ◌==◌, List, [], ◌∷◌}
use Rattle.std.specs.Prelude.{codes, Option, Some, None, Result, Ok, Err, nat_lt, nat_le}
use Rattle.std.specs.Prelude.{if◌then◌else◌}
use Rattle.std.specs.Str.{bytes_eq}
use Rattle.px_bytes.specs.Address.{ip_text}
use Rattle.px_bytes.specs.FaultText.{syntax_error, wrong_arity}
use Rattle.px_bytes.specs.Net.{net_text}
use Rattle.px_bytes.specs.declared.addr.Net4.{Net4}
use Rattle.px_bytes.specs.declared.fault.TclFault.{TclFault}

-- the number that decimal digits write behind those of n
abbrev pub number_behind : ℕ → List ℕ → ℕ
number_behind n [] = n
number_behind n (digit ∷ more) = number_behind (n * 10 + (digit - 48)) more

-- The network that a text writes if it writes one, behind the numbers of `ip` and the digits of
-- `n`: dots stand between the four numbers of its address, and behind a slash the number of its
-- bits, which are 32 where there is no slash.
abbrev pub written : ℕ → ℕ → List ℕ → Net4
written ip n [] = record { ip = ip * 256 + n; bits = 32 }
written ip n (byte ∷ more) =
    if byte == 46 then written (ip * 256 + n) 0 more
    else (if byte == 47 then record { ip = ip * 256 + n; bits = number_behind 0 more }
    else written ip (n * 10 + (byte - 48)) more)

abbrev pub spells_address : List ℕ → ℕ → Bool
spells_address text ip = nat_lt ip (2 ^ 32) && bytes_eq text (ip_text ip)

-- the address that a text is
abbrev pub address_of : List ℕ → Option ℕ
address_of text =
    if spells_address text (written 0 0 text).ip then Some (written 0 0 text).ip else None

-- with its bits, or an address alone, which has all 32
abbrev pub spells_network : List ℕ → Net4 → Bool
spells_network text net =
    (nat_lt net.ip (2 ^ 32) && nat_le net.bits 32)
    && (bytes_eq text (net_text net) || (bytes_eq text (ip_text net.ip) && net.bits == 32))

-- the network that a text is
abbrev pub network_of : List ℕ → Option Net4
network_of text = if spells_network text (written 0 0 text) then Some (written 0 0 text) else None

-- the address and the network's are the same in the network's first bits
abbrev pub agrees : ℕ → Net4 → Bool
agrees ip net = ip / 2 ^ (32 - net.bits) == net.ip / 2 ^ (32 - net.bits)

abbrev pub agrees_with : Option ℕ → Option Net4 → Option Bool
agrees_with None net = None
agrees_with (Some ip) None = None
agrees_with (Some ip) (Some net) = Some (agrees ip net)

-- whether the address agrees with the network; none where the words aren't of this form
abbrev pub compared : List ℕ → List ℕ → List ℕ → Option Bool
compared address word network =
    if bytes_eq word (codes "equals") then agrees_with (address_of address) (network_of network)
    else None

abbrev pub ip_addr_text : Option Bool → Result (List ℕ) TclFault
ip_addr_text (Some agree) = Ok (if agree then codes "1" else codes "0")
ip_addr_text None = Err (syntax_error (codes "IP::addr"))

abbrev pub ip_addr_value : List (List ℕ) → Result (List ℕ) TclFault
ip_addr_value (address ∷ (word ∷ (network ∷ []))) = ip_addr_text (compared address word network)
ip_addr_value _ = Err (wrong_arity (codes "IP::addr"))
