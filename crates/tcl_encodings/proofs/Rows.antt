-- Rows of the commands.
use Rattle.std.proofs.Common.{◌≡◌, [], ◌∷◌, refl}
use Rattle.std.specs.Prelude.{codes, Ok, Err}
use Rattle.std.specs.Fmt.{digits}
use Rattle.base64.proofs.OnLiterals.{base64_on_literals}
use Rattle.percent_encoding.specs.Percent.{percent_decode}
use Rattle.px_bytes.specs.FaultText.{syntax_error, wrong_arity}
use Rattle.tcl_encodings.specs.Addresses.{ip_addr_value}
use Rattle.tcl_encodings.specs.Base64Text.{b64decode_value, b64encode_value, decoded, encoded}
use Rattle.tcl_encodings.specs.Digest.{sha256_value}
use Rattle.tcl_encodings.specs.Percent.{escaped, uri_decode_value, uri_encode_value}

two_pads : b64encode_value (codes "a" ∷ []) ≡ Ok (codes "YQ==")
unfolding base64_on_literals
two_pads = refl

one_pad : encoded (codes "hello") ≡ codes "aGVsbG8="
unfolding base64_on_literals
one_pad = refl

no_pad : encoded (codes "abc") ≡ codes "YWJj"
unfolding base64_on_literals
no_pad = refl

two_words : b64encode_value (codes "a" ∷ codes "b" ∷ []) ≡ Err (wrong_arity (codes "b64encode"))
two_words = refl

one_byte : decoded (codes "YQ==") ≡ codes "a"
unfolding base64_on_literals
one_byte = refl

three_bytes : b64decode_value (codes "YWJj" ∷ []) ≡ Ok (codes "abc")
unfolding base64_on_literals
three_bytes = refl

plus_and_slash : decoded (codes "+/+/") ≡ 251 ∷ 255 ∷ 191 ∷ []
unfolding base64_on_literals
plus_and_slash = refl

other_alphabet : decoded (codes "-_-_") ≡ []
unfolding base64_on_literals
other_alphabet = refl

pad_lacks : decoded (codes "YQ=") ≡ []
unfolding base64_on_literals
pad_lacks = refl

bits_left : decoded (codes "YR==") ≡ []
unfolding base64_on_literals
bits_left = refl

line_end : decoded (codes "YQ==\n") ≡ []
unfolding base64_on_literals
line_end = refl

two_texts : decoded (codes "YQ==YQ==") ≡ []
unfolding base64_on_literals
two_texts = refl

no_digest : sha256_value [] ≡ Err (wrong_arity (codes "sha256"))
no_digest = refl

reserved : uri_encode_value (codes "a b/c?d=e&f" ∷ []) ≡ Ok (codes "a%20b%2Fc%3Fd%3De%26f")
reserved = refl

unreserved : escaped (codes "B9~-._") ≡ codes "B9~-._"
unreserved = refl

above_ascii : escaped (233 ∷ codes "b") ≡ codes "%E9b"
above_ascii = refl

letters : uri_decode_value (codes "%41%42" ∷ []) ≡ Ok (codes "AB")
unfolding percent_decode
letters = refl

one_digit : percent_decode (codes "%4z%41") ≡ codes "%4zA"
unfolding percent_decode
one_digit = refl

two_signs : percent_decode (codes "%%41") ≡ codes "%A"
unfolding percent_decode
two_signs = refl

both_cases : percent_decode (codes "%e9%E9") ≡ 233 ∷ 233 ∷ []
unfolding percent_decode
both_cases = refl

decoded_once : percent_decode (codes "%2541") ≡ codes "%41"
unfolding percent_decode
decoded_once = refl

within : ip_addr_value (codes "10.1.2.3" ∷ codes "equals" ∷ codes "10.9.9.9/8" ∷ []) ≡ Ok (codes "1")
unfolding digits
within = refl

outside : ip_addr_value (codes "11.1.2.3" ∷ codes "equals" ∷ codes "10.0.0.0/8" ∷ []) ≡ Ok (codes "0")
unfolding digits
outside = refl

no_bits : ip_addr_value (codes "1.2.3.4" ∷ codes "equals" ∷ codes "0.0.0.0/0" ∷ []) ≡ Ok (codes "1")
unfolding digits
no_bits = refl

alone : ip_addr_value (codes "10.0.0.1" ∷ codes "equals" ∷ codes "10.0.0.1" ∷ []) ≡ Ok (codes "1")
unfolding digits
alone = refl

bits_above : ip_addr_value (codes "1.2.3.4" ∷ codes "equals" ∷ codes "0.0.0.0/33" ∷ []) ≡ Err (syntax_error (codes "IP::addr"))
unfolding digits
bits_above = refl

three_numbers : ip_addr_value (codes "1.2.3" ∷ codes "equals" ∷ codes "1.2.3.0/24" ∷ []) ≡ Err (syntax_error (codes "IP::addr"))
unfolding digits
three_numbers = refl

network_first : ip_addr_value (codes "1.2.3.4/8" ∷ codes "equals" ∷ codes "1.2.3.4" ∷ []) ≡ Err (syntax_error (codes "IP::addr"))
unfolding digits
network_first = refl

other_form : ip_addr_value (codes "1.2.3.4" ∷ codes "is" ∷ codes "1.2.3.0/24" ∷ []) ≡ Err (syntax_error (codes "IP::addr"))
other_form = refl

a_word_lacks : ip_addr_value (codes "1.2.3.4" ∷ codes "equals" ∷ []) ≡ Err (wrong_arity (codes "IP::addr"))
a_word_lacks = refl

a_word_more : ip_addr_value (codes "1.2.3.4" ∷ codes "equals" ∷ codes "1.2.3.4" ∷ codes "5" ∷ []) ≡ Err (wrong_arity (codes "IP::addr"))
a_word_more = refl
