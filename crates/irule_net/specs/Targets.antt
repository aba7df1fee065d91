-- The words that choose where a server comes from (iRules: `pool`, `node`, LB::reselect). A port
-- that isn't given is the virtual server's. The tests of a port come before that of the member,
-- since it is looked up with its port.
use Rattle.std.specs.Prelude.{ℕ, ◌^◌, ℤ, pos, negsuc, ◌&&◌, List, [], ◌∷◌, codes, Option, Some, None}
use Rattle.std.specs.Prelude.{Result, Ok, Err, nat_lt, if◌then◌else◌}
use Rattle.std.specs.Str.{bytes_eq}
use Rattle.px_bytes.specs.FaultText.{out_of_range, syntax_error, wrong_arity}
use Rattle.px_bytes.specs.Gives.{with_value}
use Rattle.px_bytes.specs.WholeWord.{number_of}
use Rattle.px_bytes.specs.declared.addr.Addr.{Addr}
use Rattle.px_bytes.specs.declared.fault.TclFault.{TclFault}
use Rattle.tcl_encodings.specs.Addresses.{address_of}
use Rattle.irule_net.specs.FaultText.{no_such_member, no_such_pool}
use Rattle.irule_net.specs.Groups.{has_member, has_pool}
use Rattle.irule_net.specs.declared.groups.PoolMembers.{PoolMembers}
use Rattle.irule_net.specs.declared.state.Target.{Target}
use Rattle.irule_net.specs.declared.state.Target.TheVariants.{PoolOf, MemberOf, NodeAt}

abbrev pub ip_by : List ℕ → Option ℕ → Result ℕ TclFault
ip_by command (Some ip) = Ok ip
ip_by command None = Err (syntax_error command)

-- the address `A.B.C.D` that a word of the command is
abbrev pub ip_of : List ℕ → List ℕ → Result ℕ TclFault
ip_of command word = ip_by command (address_of word)

-- `member ADDR`
abbrev pub member_ip : List ℕ → List ℕ → Result ℕ TclFault
member_ip word addr =
    if bytes_eq word (codes "member") then ip_of (codes "pool") addr
    else Err (syntax_error (codes "pool"))

-- a port from 1 to 65,535
abbrev pub port_in : ℤ → Result ℕ TclFault
port_in (pos n) = if nat_lt 0 n && nat_lt n (2 ^ 16) then Ok n else Err out_of_range
port_in (negsuc n) = Err out_of_range

-- `[PORT]`
abbrev pub addr_of : ℕ → ℕ → List (List ℕ) → Result Addr TclFault
addr_of ip port [] = Ok (record { ip = ip; port = port })
addr_of ip port (word ∷ words) =
    with_value (number_of word) (λ number. with_value (port_in number)
    (λ given. Ok (record { ip = ip; port = given })))

-- there is a pool of this name
abbrev pub pool_named : List PoolMembers → List ℕ → Result (Unit {0}) TclFault
pool_named pools name = if has_pool name pools then Ok tt else Err (no_such_pool name)

abbrev pub member_target : List PoolMembers → List ℕ → Addr → Result Target TclFault
member_target pools name addr =
    if has_member name addr pools then Ok (MemberOf name addr) else Err (no_such_member addr)

-- `NAME [member ADDR [PORT]]`, with the virtual server's port
abbrev pub pool_target : List PoolMembers → ℕ → List (List ℕ) → Result Target TclFault
pool_target pools port [] = Err (wrong_arity (codes "pool"))
pool_target pools port (name ∷ []) = with_value (pool_named pools name) (λ _. Ok (PoolOf name))
pool_target pools port (name ∷ (word ∷ [])) = Err (wrong_arity (codes "pool"))
pool_target pools port (name ∷ (word ∷ (addr ∷ words))) =
    with_value (member_ip word addr) (λ ip. with_value (pool_named pools name)
    (λ _. with_value (addr_of ip port words) (member_target pools name)))

-- `ADDR [PORT]`, behind the command of this name
abbrev pub node_target : List ℕ → ℕ → List (List ℕ) → Result Target TclFault
node_target command port [] = Err (wrong_arity command)
node_target command port (addr ∷ words) =
    with_value (ip_of command addr) (λ ip. with_value (addr_of ip port words)
    (λ node. Ok (NodeAt node)))
