-- The network that an address matches among others: the longest prefix first (RFC 1812, 5.2.4.3).
use Rattle.std.specs.Prelude.{ℕ, zero, suc, Bool, false, ◌&&◌, ◌==◌, List, Option, None, Some}
use Rattle.std.specs.Prelude.{position}
use Rattle.std.specs.Option.{option_or}
use Rattle.px_bytes.specs.declared.addr.Net4.{Net4}
use Rattle.tcl_encodings.specs.Addresses.{agrees, network_of}
use Rattle.data_groups.specs.Groups.{Row}

-- the network has so many bits, and the address is in it
abbrev pub has_address : ℕ → ℕ → Option Net4 → Bool
has_address bits ip None = false
has_address bits ip (Some net) = net.bits == bits && agrees ip net

-- the first row whose network has so many bits and the address
abbrev pub first_of_bits : ℕ → ℕ → List Row → Option ℕ
first_of_bits bits ip rows = position (λ row. has_address bits ip (network_of row.0)) rows

-- the first row with the address among those of the most bits, of networks of fewer bits than n
unfoldable pub longest_below : ℕ → ℕ → List Row → Option ℕ
longest_below zero ip rows = None
longest_below (suc n) ip rows = option_or (first_of_bits n ip rows) (longest_below n ip rows)

-- the row of the longest network with the address, and of these the first; a network has at most 32
-- bits
abbrev pub longest_network : Option ℕ → List Row → Option ℕ
longest_network None rows = None
longest_network (Some ip) rows = longest_below 33 ip rows
