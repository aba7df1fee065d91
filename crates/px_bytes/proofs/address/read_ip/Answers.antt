use Rattle.px_bytes.proofs.Addresses.{dotted_is_ip, ip_is_dotted}
use Rattle.std.specs.Net.Addr.{ipv4_bits}
use Rattle.px_bytes.proofs.address.read_ip.Goals as goal

pub returns-in-Ok-clause-found : goal.returns-in-Ok-clause-found
unfolding ipv4_bits
returns-in-Ok-clause-found c =
    rw c.to_bits.ensures (dotted_is_ip c.args.text.now c.in-Ok.address.octets (rw c.in-Ok.is at c.parse_ascii.ensures))

pub returns-in-Err-clause-none : goal.returns-in-Err-clause-none
returns-in-Err-clause-none c ip fits e =
    (rw c.in-Err.is at c.parse_ascii.ensures) (record { octets = _ }) (ip_is_dotted c.args.text.now ip fits e)
