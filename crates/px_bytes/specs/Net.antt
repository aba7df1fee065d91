-- The spelling of networks: CIDR notation of RFC 4632, 3.1, with an address of four numbers. An
-- address alone is a network of 32 bits.
use Rattle.std.specs.Prelude.{◌≡◌, ◌⊎◌, ◌^◌, ◌<◌, ◌≤◌, List, ℕ, ◌++◌, codes, decimal}
use Rattle.px_bytes.specs.Address.{ip_text}
use Rattle.px_bytes.specs.declared.addr.Net4.{Net4}

-- the address, a slash, and the number of bits in decimal
abbrev pub net_text : Net4 → List ℕ
net_text net = ip_text net.ip ++ codes "/" ++ decimal net.bits

-- the text is the network's, or it is the address's alone and the network has 32 bits
abbrev pub SpellsNet : List ℕ → Net4 → Type 0
SpellsNet text net = (text ≡ net_text net) ⊎ (text ≡ ip_text net.ip) × (net.bits ≡ 32)

-- an address of 32 bits, and at most 32 bits that count
pub record IsNet (net : Net4) : Type 0 where
  pub ip : net.ip < 2 ^ 32
  pub bits : net.bits ≤ 32
