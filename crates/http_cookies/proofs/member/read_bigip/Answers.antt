use Rattle.std.proofs.Common.{Some}
use Rattle.std.proofs.lemmas.Bool.Decides.{Decides-eqb}
use Rattle.std.proofs.lemmas.Slice.Eq.{strip_suffix_is}
use Rattle.http_cookies.proofs.Values.{is_value, not_without_ip, not_without_port}
use Rattle.http_cookies.proofs.member.read_bigip.Goals as goal

pub returns-in_err-ip-clause-none : goal.returns-in_err-ip-clause-none
returns-in_err-ip-clause-none c =
    let numbers = strip_suffix_is Decides-eqb c.args.text.now _ (Some c.in_ok-strip_suffix.field-0) c.in_ok-strip_suffix.ensures.cases in
    rw c.from_residual-in_err-ip.ensures (not_without_ip c.args.text.now c.in_ok-strip_suffix.field-0.now c.around.result.0.now numbers c.around.ensures.before (rw c.from.ensures at c.in_err-ip.ensures.none))

pub returns-in_err-port-clause-none : goal.returns-in_err-port-clause-none
returns-in_err-port-clause-none c =
    let numbers = strip_suffix_is Decides-eqb c.args.text.now _ (Some c.in_ok-strip_suffix.field-0) c.in_ok-strip_suffix.ensures.cases in
    rw c.from_residual-in_err-port.ensures (not_without_port c.args.text.now c.in_ok-strip_suffix.field-0.now c.around.result.1.now numbers c.around.ensures.after (rw c.from-2.ensures at c.in_err-port.ensures.none))

pub returns-clause-found : goal.returns-clause-found
returns-clause-found c =
    let numbers = strip_suffix_is Decides-eqb c.args.text.now _ (Some c.in_ok-strip_suffix.field-0) c.in_ok-strip_suffix.ensures.cases in
    let low_ip = rw c.from.ensures at c.in_ok-ip.ensures.found.1 in
    let low_port = rw c.from-2.ensures at c.in_ok-port.ensures.found.1 in
    rw (c.swap_bytes.ensures, c.swap_bytes-2.ensures) (is_value c.args.text.now c.in_ok-strip_suffix.field-0.now c.around.result.0.now c.around.result.1.now c.in_ok-ip.ip c.in_ok-port.port numbers c.around.ensures.before c.around.ensures.after c.in_ok-ip.ensures.found.0 c.in_ok-port.ensures.found.0 low_ip low_port)
