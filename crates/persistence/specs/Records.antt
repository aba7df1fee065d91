-- Records of source addresses (TMOS concepts: source address affinity persistence). Moments are in
-- milliseconds, timeouts in seconds.
use Rattle.std.specs.Prelude.{ℕ, ◌+◌, ◌*◌, ◌==◌, Bool, ◌&&◌, List, [], ◌∷◌, ◌++◌, length, Option}
use Rattle.std.specs.Prelude.{filter, find, option_map, nat_lt, if◌then◌else◌}
use Rattle.std.specs.List.{list_any}
use Rattle.px_bytes.specs.First.{with_first}
use Rattle.px_bytes.specs.declared.addr.Addr.{Addr}
use Rattle.persistence.specs.declared.record.Record.{Record}

-- it lasts from its last use for its timeout, the end not among it
abbrev pub is_live : ℕ → Record → Bool
is_live moment r = nat_lt moment (r.touched + 1000 * r.timeout)

abbrev pub is_of : ℕ → ℕ → Record → Bool
is_of virtual_server ip r = r.virtual_server == virtual_server && r.ip == ip

-- the records that are live at a moment
abbrev pub live : ℕ → List Record → List Record
live moment records = filter (is_live moment) records

-- the member of an address at a virtual server
abbrev pub member_of : ℕ → ℕ → List Record → Option Addr
member_of virtual_server ip records =
    option_map (λ r. r.member) (find (is_of virtual_server ip) records)

-- the most records
abbrev pub record_limit : ℕ
record_limit = 65536

-- A record in the place of the one of its address, or behind the others; where there are as many as
-- may be, a new one isn't kept.
abbrev pub kept : Record → List Record → List Record
kept new records =
    if list_any (is_of new.virtual_server new.ip) records
    then with_first (is_of new.virtual_server new.ip) (λ r. new) records
    else (if nat_lt (length records) record_limit then records ++ new ∷ [] else records)
