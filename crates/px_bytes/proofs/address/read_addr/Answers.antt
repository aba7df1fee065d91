use Rattle.px_bytes.proofs.Addresses.{not_without_colon, not_without_ip, not_without_port}
use Rattle.px_bytes.proofs.Addresses.{not_at_zero}
use Rattle.px_bytes.proofs.address.read_addr.Goals as goal

pub returns-in_err-front-clause-none : goal.returns-in_err-front-clause-none
returns-in_err-front-clause-none c =
    rw c.from_residual.ensures (not_without_colon c.args.text.now c.in_err-front.ensures.first)

pub returns-in_err-ip-clause-none : goal.returns-in_err-ip-clause-none
returns-in_err-ip-clause-none c =
    rw c.from_residual-in_err-ip.ensures (not_without_ip c.args.text.now c.in_ok-front.front.now c.in_ok-front.back.now c.in_ok-front.ensures.first c.in_err-ip.ensures.none)

pub returns-in_default-clause-none : goal.returns-in_default-clause-none
returns-in_default-clause-none c =
    not_at_zero c.args.text.now c.in_ok-front.front.now c.in_ok-front.back.now c.in-Some.port c.in_ok-front.ensures.first c.in-Some.ensures.found.0 c.if-port-gt0.false

pub returns-in_default-2-clause-none : goal.returns-in_default-2-clause-none
returns-in_default-2-clause-none c =
    not_without_port c.args.text.now c.in_ok-front.front.now c.in_ok-front.back.now c.in_ok-front.ensures.first (rw c.from.ensures at c.in_default.ensures.none)
