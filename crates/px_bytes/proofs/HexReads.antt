-- What is printed in hexadecimal reads back.
use Rattle.std.proofs.Common.{◌≡◌, ℕ, ◌+◌, ◌*◌, ◌/◌, ◌%◌, ◌<◌, true, cond, ◌&&◌, List, [], ◌∷◌}
use Rattle.std.proofs.Common.{Option, Some, None, Result, Ok, Err, IfOk, refl, ap, ap₂, ◌∙◌, arith}
use Rattle.std.specs.Char.{digit_char, digit_value, is_digit}
use Rattle.std.specs.List.{All, flat_map}
use Rattle.std.proofs.lemmas.Bool.Decides.{nat_tests}
use Rattle.std.proofs.lemmas.List.Elements.{All-head, All-tail}
use Rattle.px_bytes.specs.Hexadecimal.{hex_pair}
use Rattle.px_bytes.specs.HexRead.{hex_byte, byte_before, hex_pairs, hex_bytes, ReadsPrinted}

digit_back : (d : ℕ) → d < 16 → digit_value (digit_char d) ≡ d
digit_back d h = grind (arith, nat_tests)

is_digit_back : (d : ℕ) → d < 16 → is_digit (digit_char d) 16 ≡ true
is_digit_back d h = let v = digit_back d h in grind (arith, nat_tests, v)

pair_back : (b : ℕ) → b < 256 → hex_byte (digit_char (b / 16)) (digit_char (b % 16)) ≡ Some b
pair_back b h =
    let high : b / 16 < 16 = omega arith in
    let low : b % 16 < 16 = omega arith in
    let whole : 16 * (b / 16) + b % 16 ≡ b = omega arith in
    ap₂ (λ p q. cond (p && q) (Some (16 * digit_value (digit_char (b / 16)) + digit_value (digit_char (b % 16)))) None) (is_digit_back (b / 16) high) (is_digit_back (b % 16) low)
    ∙ ap₂ (λ m n. Some (16 * m + n)) (digit_back (b / 16) high) (digit_back (b % 16) low) ∙ ap Some whole

pairs_back : (bytes : List ℕ) → All (λ byte. byte < 256) bytes → hex_pairs (flat_map hex_pair bytes) ≡ Some bytes
pairs_back [] all = refl
pairs_back (b ∷ bs) all =
    ap₂ byte_before (pair_back b (All-head (λ byte. byte < 256) b bs all)) (pairs_back bs (All-tail (λ byte. byte < 256) b bs all))

printed_back : (text : List ℕ) (read : Option (List ℕ)) → read ≡ hex_bytes text → ReadsPrinted text read
printed_back text read e first more all is = e ∙ ap hex_bytes is ∙ pairs_back (first ∷ more) all

pub reads_printed : (E : Type 0) (text : List ℕ) (r : Result (Option (List ℕ)) E) → IfOk r (λ read. read ≡ hex_bytes text) → IfOk r (λ read. ReadsPrinted text read)
reads_printed E text (Ok read) e = printed_back text read e
reads_printed E text (Err f) e = tt
