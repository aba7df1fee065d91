use Rattle.std.proofs.Common.{None, Some, arith}
use Rattle.std.proofs.lemmas.Bool.Decides.{Decides-eqb}
use Rattle.std.proofs.lemmas.Slice.Eq.{strip_suffix_is}
use Rattle.journal_value.proofs.Leaves.{no_ip, no_suffix, portless_exact}
use Rattle.journal_value.proofs.words.portless.Goals as goal

pub returns-in_err-strip_suffix : goal.returns-in_err-strip_suffix
returns-in_err-strip_suffix c =
    let none = strip_suffix_is Decides-eqb c.args.word.now _ None c.in_err-strip_suffix.ensures.cases in
    rw c.from_residual.ensures (no_suffix c.args.word.now none)

pub returns-in_err-ip : goal.returns-in_err-ip
returns-in_err-ip c =
    let is = strip_suffix_is Decides-eqb c.args.word.now _ (Some c.in_ok-strip_suffix.field-0) c.in_ok-strip_suffix.ensures.cases in
    rw c.from_residual-in_err-ip.ensures (no_ip c.args.word.now c.in_ok-strip_suffix.field-0.now is c.in_err-ip.ensures.none)

pub returns : goal.returns
returns c =
    let is = strip_suffix_is Decides-eqb c.args.word.now _ (Some c.in_ok-strip_suffix.field-0) c.in_ok-strip_suffix.ensures.cases in
    portless_exact c.args.word.now c.in_ok-strip_suffix.field-0.now c.in_ok-ip.ip is c.in_ok-ip.ensures.found (omega arith)
