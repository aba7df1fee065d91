use Rattle.px_bytes.proofs.Nets.{not_without_slash, not_without_ip, not_without_bits}
use Rattle.px_bytes.proofs.net.read_net.Goals as goal

pub returns-in_err-ip-clause-none : goal.returns-in_err-ip-clause-none
returns-in_err-ip-clause-none c =
    rw c.from_residual.ensures (not_without_slash c.args.text.now c.in_default.ensures.first c.in_err-ip.ensures.none)

pub returns-in_err-ip-2-clause-none : goal.returns-in_err-ip-2-clause-none
returns-in_err-ip-2-clause-none c =
    rw c.from_residual-in_err-ip-2.ensures (not_without_ip c.args.text.now c.in-Some.front.now c.in-Some.back.now c.in-Some.ensures.first c.in_err-ip-2.ensures.none)

pub returns-in_err-bits-clause-none : goal.returns-in_err-bits-clause-none
returns-in_err-bits-clause-none c =
    rw c.from_residual-in_err-bits.ensures (not_without_bits c.args.text.now c.in-Some.front.now c.in-Some.back.now c.in-Some.ensures.first (rw c.from.ensures at c.in_err-bits.ensures.none))
