-- How long base64 is, and what it decodes to.
use Rattle.std.proofs.Common.{◌≡◌, ◌≢◌, ℕ, ◌+◌, ◌*◌, ◌/◌, ◌<◌, ◌≤◌, cond, List, [], length}
use Rattle.std.proofs.Common.{refl, ap, arith, length-append}
use Rattle.std.specs.Prelude.{Result, Ok, Err, replicate, nat_le, true, false}
use Rattle.std.specs.Result.{result_unwrap_or}
use Rattle.std.proofs.lemmas.Bool.Decides.{nat_tests}
use Rattle.std.proofs.lemmas.List.{length-replicate}
use Rattle.base64.specs.Engines.{standard}
use Rattle.base64.specs.GeneralPurpose.{decode_of}
use Rattle.base64.specs.Rfc4648.{encode_symbols, padding_len}
use Rattle.base64.proofs.EngineFacts.{decode_of-encode_of, decode_of_strict}
use Rattle.base64.proofs.RoundTrip.{length-encode_symbols}
use Rattle.px_bytes.specs.FaultText.{too_long}
use Rattle.tcl_encodings.specs.Base64Text.{alphabet, encoded}
use Rattle.tcl_encodings.specs.Laws.{DecodesEncodings, DecodesNothingElse}
use Rattle.px_bytes.specs.Limit.{limited}

length-encoded : (bytes : List ℕ) → length (encoded bytes) ≡ 4 * ((length bytes + 2) / 3)
length-encoded bytes =
    omega (arith, length-append (encode_symbols alphabet bytes) (replicate (padding_len (length bytes)) 61), length-encode_symbols alphabet bytes, length-replicate {A = ℕ} (padding_len (length bytes)) 61)

short : (n : ℕ) → n ≤ 1048576 → nat_le n 1048576 ≡ true
short n h = grind (arith, nat_tests)

not_short : (n : ℕ) → 1048576 < n → nat_le n 1048576 ≡ false
not_short n h = grind (arith, nat_tests)

pub encoded_too_long : (bytes : List ℕ) → 786432 < length bytes → limited (encoded bytes) ≡ Err too_long
encoded_too_long bytes more =
    let over : 1048576 < length (encoded bytes) = omega (arith, length-encoded bytes) in
    ap (λ b. cond b (Ok (encoded bytes)) (Err too_long)) (not_short _ over)

pub encoded_fits : (bytes : List ℕ) → length bytes ≤ 786432 → limited (encoded bytes) ≡ Ok (encoded bytes)
encoded_fits bytes few =
    let within : length (encoded bytes) ≤ 1048576 = omega (arith, length-encoded bytes) in
    ap (λ b. cond b (Ok (encoded bytes)) (Err too_long)) (short _ within)

pub decodes_encodings : DecodesEncodings
decodes_encodings bytes small = ap (λ r. result_unwrap_or r []) (decode_of-encode_of standard bytes refl small)

from_value : {E : Type 0} (r : Result (List ℕ) E) (text : List ℕ) → ((b : List ℕ) → r ≡ Ok b → text ≡ encoded b) → result_unwrap_or r [] ≢ [] → text ≡ encoded (result_unwrap_or r [])
from_value (Ok b) text is some = is b refl
from_value (Err e) text is some = absurd (some refl)

pub decodes_nothing_else : DecodesNothingElse
decodes_nothing_else text small some = from_value (decode_of standard text) text (λ b. decode_of_strict standard text b (refl, refl) small) some
