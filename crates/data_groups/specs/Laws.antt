-- What holds of the row that an address matches.
use Rattle.std.specs.Prelude.{◌≡◌, ℕ, ◌≤◌, ◌<◌, ◌⊎◌, List, Some, MatchOption, slice_get}
use Rattle.px_bytes.specs.declared.addr.Net4.{Net4}
use Rattle.tcl_encodings.specs.Addresses.{agrees, network_of}
use Rattle.std.specs.Prelude.{true}
use Rattle.data_groups.specs.Groups.{Row}
use Rattle.data_groups.specs.Networks.{longest_network}

-- the row at a place has this network as its key, and the address is in it
pub record HasAddress (rows : List Row) (ip at : ℕ) (net : Net4) : Type 0 where
  pub row : Row
  pub stands : slice_get rows at ≡ Some row
  pub network : network_of row.0 ≡ Some net
  pub agree : agrees ip net ≡ true

-- the row at a place comes before another: its network is longer, or as long and not behind it
abbrev pub ComesFirst : ℕ → Net4 → ℕ → Net4 → Type 0
ComesFirst at net other_at other =
    (other.bits < net.bits) ⊎ ((other.bits ≡ net.bits) × (at ≤ other_at))

-- each other row that has the address comes behind this one
pub record IsLongest (rows : List Row) (ip at : ℕ) : Type 0 where
  pub net : Net4
  pub is : HasAddress rows ip at net
  pub first : (other_at : ℕ) (other : Net4) → HasAddress rows ip other_at other
      → ComesFirst at net other_at other

-- the row that is found is the longest network with the address, and none has it where none is found
abbrev pub LongestNetworkWins : Type 0
LongestNetworkWins = (rows : List Row) (ip : ℕ)
    → MatchOption (longest_network (Some ip) rows)
    ((at : ℕ) (net : Net4) → ¬ HasAddress rows ip at net) (IsLongest rows ip)
