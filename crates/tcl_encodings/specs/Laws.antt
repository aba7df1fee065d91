-- What decoding is of encoding.
use Rattle.std.specs.Prelude.{◌≡◌, ◌≢◌, ℕ, List, []}
use Rattle.base64.specs.GeneralPurpose.{IsBytes}
use Rattle.tcl_encodings.specs.Base64Text.{encoded, decoded}

-- base64 of bytes decodes to those bytes
abbrev pub DecodesEncodings : Type 0
DecodesEncodings = (bytes : List ℕ) → IsBytes bytes → decoded (encoded bytes) ≡ bytes

-- a text that decodes to some bytes is the base64 of those bytes
abbrev pub DecodesNothingElse : Type 0
DecodesNothingElse = (text : List ℕ) → IsBytes text → decoded text ≢ []
    → text ≡ encoded (decoded text)
