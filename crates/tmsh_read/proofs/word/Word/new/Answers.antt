use Rattle.std.proofs.Common.{◌≡◌, true, Some, string_bytes, inl, inr, sym, ap, subst}
use Rattle.std.proofs.lemmas.Bool.{cases_Bool, false≢true}
use Rattle.std.proofs.lemmas.Str.{IsUtf8-from_is_utf8, is_utf8-from_IsUtf8, IsUtf8-string_bytes}
use Rattle.std.specs.Str.{IsUtf8, is_utf8}
use Rattle.tmsh_read.proofs.word.Word.new.Goals as goal

pub returns-in-Ok : goal.returns-in-Ok
returns-in-Ok c =
    let same : string_bytes c.in-Ok.text ≡ c.args.bytes.items = ap (λ v. v.items) c.in-Ok.ensures.ok in
    let is : is_utf8 c.args.bytes.items ≡ true = is_utf8-from_IsUtf8 _ (subst IsUtf8 same (IsUtf8-string_bytes c.in-Ok.text)) in
    rw is (ap Some same)

pub returns : goal.returns
returns c =
    elim (cases_Bool (is_utf8 c.args.bytes.items)) [
      | inl is ↦ absurd (false≢true (c.in-Err.ensures.succeeds (IsUtf8-from_is_utf8 c.args.bytes.items is)))
      | inr other ↦ rw other
    ]
