-- Clients' addresses at virtual servers that keep members (TMOS concepts: source address affinity
-- persistence).
use Rattle.std.specs.Prelude.{ℕ, ◌^◌, Bool, ◌&&◌, List, ◌∷◌, Option, Some, None, nat_lt, position}
use Rattle.std.specs.Prelude.{option_and_then, slice_get, if◌then◌else◌}
use Rattle.std.specs.Str.{bytes_eq}
use Rattle.tcl_encodings.specs.Addresses.{address_of}
use Rattle.shared_store.specs.declared.named.VirtualTime.{VirtualTime}
use Rattle.shared_store.specs.declared.source.Source.{Source}

abbrev pub has_name : List ℕ → VirtualTime → Bool
has_name name v = bytes_eq name v.name

-- A virtual server is known by its place, a number of 32 bits. Where its records last no time it keeps none.
abbrev pub source_by : ℕ → VirtualTime → ℕ → Option Source
source_by at v ip =
    if v.by_source && (nat_lt 0 v.timeout && nat_lt at (2 ^ 32))
    then Some (record { virtual_server = at; timeout = v.timeout; ip = ip }) else None

abbrev pub source_at : ℕ → Option VirtualTime → Option ℕ → Option Source
source_at at None ip = None
source_at at (Some v) None = None
source_at at (Some v) (Some ip) = source_by at v ip

-- the first virtual server of a name, where it keeps members, and the address that a word is
abbrev pub source_of : List ℕ → List ℕ → List VirtualTime → Option Source
source_of name ip virtuals =
    option_and_then (λ at. source_at at (slice_get virtuals at) (address_of ip))
    (position (has_name name) virtuals)

-- the same by the words `VIRTUAL POOL IP ..`
abbrev pub source_in : List (List ℕ) → List VirtualTime → Option Source
source_in (virtual ∷ (pool ∷ (ip ∷ wanted))) virtuals = source_of virtual ip virtuals
source_in words virtuals = None
