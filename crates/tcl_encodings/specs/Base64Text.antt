-- The commands `b64encode` and `b64decode` (iRules): base64 of RFC 4648, 4, with its padding.
use Rattle.std.specs.Prelude.{ℕ, true, List, [], codes, Result}
use Rattle.std.specs.Result.{result_unwrap_or}
use Rattle.base64.specs.Engines.{standard}
use Rattle.base64.specs.GeneralPurpose.{decode_of}
use Rattle.base64.specs.Rfc4648.{encode}
use Rattle.px_bytes.specs.declared.fault.TclFault.{TclFault}
use Rattle.px_bytes.specs.Limit.{limited}
use Rattle.tcl_encodings.specs.Words.{of_one_word}

-- table 1, the alphabet of base 64
abbrev pub alphabet : List ℕ
alphabet = codes "ABCDEFGHIJKLMNOPQRSTUVWXYZabcdefghijklmnopqrstuvwxyz0123456789+/"

-- the bytes in that alphabet, with `=` behind them up to a whole group of four
abbrev pub encoded : List ℕ → List ℕ
encoded bytes = encode alphabet 61 true bytes

-- The bytes whose encoding the text is, and no bytes where it is no encoding: `Laws` says that it
-- is so.
abbrev pub decoded : List ℕ → List ℕ
decoded text = result_unwrap_or (decode_of standard text) []

abbrev pub b64encode_value : List (List ℕ) → Result (List ℕ) TclFault
b64encode_value arguments =
    of_one_word (codes "b64encode") (λ bytes. limited (encoded bytes)) arguments

abbrev pub b64decode_value : List (List ℕ) → Result (List ℕ) TclFault
b64decode_value arguments =
    of_one_word (codes "b64decode") (λ text. limited (decoded text)) arguments
