-- The command `sha256` (iRules): the digest SHA-256 of FIPS 180-4, as its 32 bytes.
use Rattle.std.specs.Prelude.{ℕ, List, codes, Result, Ok}
use Rattle.px_bytes.specs.declared.fault.TclFault.{TclFault}
use Rattle.sha2.specs.Sha256.{sha256}
use Rattle.tcl_encodings.specs.Words.{of_one_word}

abbrev pub sha256_value : List (List ℕ) → Result (List ℕ) TclFault
sha256_value arguments = of_one_word (codes "sha256") (λ text. Ok (sha256 text)) arguments
