use Rattle.std.proofs.lemmas.Bool.{false≢true}
use Rattle.px_bytes.proofs.Decimals.{decimal_begins_plainly, decimal_is_utf8, parsed_is_decimal}
use Rattle.px_bytes.proofs.Decimals.{unparsed_is_none}
use Rattle.px_bytes.proofs.decimal.read_u64.Goals as goal

pub returns-then-not-begins_plainly-clause-none : goal.returns-then-not-begins_plainly-clause-none
returns-then-not-begins_plainly-clause-none c n fits e =
    false≢true ((rw c.if-not-begins_plainly.true at c.begins_plainly.ensures).1 (decimal_begins_plainly _ n fits e))

pub returns-in-Ok-clause-found : goal.returns-in-Ok-clause-found
returns-in-Ok-clause-found c =
    let read = rw (rw c.in-Ok.is at c.from_utf8.ensures.cases).0 at c.parse.ensures.value.0 in
    rw c.ok.ensures.value (parsed_is_decimal _ c.args.text.now c.parse.result (c.begins_plainly.ensures.0 c.if-not-begins_plainly.false) read)

pub returns-in-Ok-clause-none : goal.returns-in-Ok-clause-none
returns-in-Ok-clause-none c =
    let read = rw (rw c.in-Ok.is at c.from_utf8.ensures.cases).0 at c.parse.ensures.value.0 in
    rw c.ok.ensures.value (unparsed_is_none _ c.args.text.now c.parse.result read)

pub returns-in-Err-clause-none : goal.returns-in-Err-clause-none
returns-in-Err-clause-none c n fits e = (rw c.in-Err.is at c.from_utf8.ensures.cases).0 (decimal_is_utf8 _ n fits e)
