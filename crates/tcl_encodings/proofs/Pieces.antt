-- What stands behind the first byte that a text decodes to.
use Rattle.std.proofs.Common.{◌≡◌, ℕ, ◌-◌, ◌<◌, ◌≤◌, List, [], ◌∷◌, length, get_or, take, drop}
use Rattle.std.proofs.Common.{ap, arith, length-drop}
use Rattle.std.proofs.lemmas.List.{take_rest}
use Rattle.std.specs.Char.{digit_value}
use Rattle.percent_encoding.specs.Percent.{KeepsFirst}
use Rattle.percent_encoding.proofs.PercentLemmas.{percent_decode_at_escape}
use Rattle.tcl_encodings.specs.Percent.{GivesOneByte}

pub escape_first : (text : List ℕ) → 3 ≤ length text → get_or text 0 0 ≡ 37 → digit_value (get_or text 1 0) < 16 → digit_value (get_or text 2 0) < 16
    → GivesOneByte text (take (length text - 3) (drop 3 text))
escape_first text long sign high low = rw (take_rest text 3) (record {
  one_more = omega (arith, ap length (percent_decode_at_escape text long sign high low));
  shorter = omega (arith, length-drop 3 text);
})

pub byte_first : (text : List ℕ) → 1 ≤ length text → KeepsFirst text → GivesOneByte text (take (length text - 1) (drop 1 text))
byte_first [] some keeps = absurd (omega arith)
byte_first (b ∷ rest) some keeps =
    rw (take_rest (b ∷ rest) 1) (record { one_more = omega (arith, ap length keeps); shorter = omega arith })
