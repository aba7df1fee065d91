use Rattle.std.proofs.Common.{ℕ, Vec, Global, Ok, sym, ap, subst, ◌∙◌, arith}
use Rattle.px_bytes.specs.Gives.{Gives}
use Rattle.tcl_encodings.proofs.Sizes.{encoded_too_long, encoded_fits}
use Rattle.tcl_encodings.proofs.base64_text.encoded.Goals as goal

pub returns-then-bytes-gt-PLAIN_LIMIT : goal.returns-then-bytes-gt-PLAIN_LIMIT
returns-then-bytes-gt-PLAIN_LIMIT c =
    subst (λ wanted. Gives c.too_long.result wanted) (sym (encoded_too_long c.args.bytes.now (omega arith))) c.too_long.ensures

pub returns : goal.returns
returns c = encoded_fits c.args.bytes.now (omega arith) ∙ ap Ok (sym (c.from_vec.ensures ∙ ap (λ (v : Vec ℕ Global). v.items) c.into_bytes.ensures.value ∙ c.in_ok-text.ensures.text))
