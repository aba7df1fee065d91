-- What was escaped is read back.
use Rattle.std.proofs.Common.{◌≡◌, ℕ, ◌+◌, ◌*◌, ◌-◌, ◌/◌, ◌%◌, ◌<◌, ◌≤◌, Bool, true, false, ◌||◌, cond, nat_lt, List, [], ◌∷◌, ◌++◌, refl, ap, ◌∙◌, arith, if◌then◌else◌}
use Rattle.std.specs.Prelude.{◌==◌}
use Rattle.std.specs.Char.{digit_char}
use Rattle.std.proofs.lemmas.Bool.{or_parts}
use Rattle.std.proofs.lemmas.List.Elements.{All-head, All-tail}
use Rattle.px_bytes.specs.Escapes.{needs_escape, digits_escape, escaped_byte, escaped}
use Rattle.journal_value.specs.Unescaped.{nibble, unescaped}
use Rattle.journal_value.specs.Words.{AreBytes}

low_digit : (n : ℕ) → n < 10 → nibble (48 + n) ≡ n
low_digit n small = by_test (nat_lt (48 + n) 97) refl
  where
    by_test : (b : Bool) → nat_lt (48 + n) 97 ≡ b → ((48 + n) - (if b then 48 else 87)) % 16 ≡ n
    by_test true e = omega arith
    by_test false e = absurd (grind arith)

high_digit : (n : ℕ) → 10 ≤ n → n < 16 → nibble (87 + n) ≡ n
high_digit n low small = by_test (nat_lt (87 + n) 97) refl
  where
    by_test : (b : Bool) → nat_lt (87 + n) 97 ≡ b → ((87 + n) - (if b then 48 else 87)) % 16 ≡ n
    by_test true e = absurd (grind arith)
    by_test false e = omega arith

nibble_digit : (n : ℕ) → n < 16 → nibble (digit_char n) ≡ n
nibble_digit n small = by_test (nat_lt n 10) refl
  where
    by_test : (b : Bool) → nat_lt n 10 ≡ b → nibble (cond b (48 + n) (87 + n)) ≡ n
    by_test true e = low_digit n (grind arith)
    by_test false e = high_digit n (grind arith) small

pub plain_byte : (b : ℕ) (r : List ℕ) → (b == 92) ≡ false → unescaped (b ∷ r) ≡ b ∷ unescaped r
plain_byte b [] e = refl
plain_byte b (x ∷ []) e = refl
plain_byte b (x ∷ (y ∷ [])) e = refl
plain_byte b (x ∷ (y ∷ (z ∷ r))) e = rw e refl

-- the byte of its two digits
pair_back : (b : ℕ) → b < 256 → 16 * nibble (digit_char (b / 16)) + nibble (digit_char (b % 16)) ≡ b
pair_back b small =
    let high = nibble_digit (b / 16) (omega arith) in
    let low = nibble_digit (b % 16) (omega arith) in
    rw (high, low) (omega arith)

one_back : (b : ℕ) (text : List ℕ) → b < 256 → unescaped (escaped text) ≡ text → unescaped (escaped_byte b ++ escaped text) ≡ b ∷ text
one_back b text small rest = by_need (needs_escape b) refl
  where
    by_need : (t : Bool) → needs_escape b ≡ t → unescaped ((if t then digits_escape b else b ∷ []) ++ escaped text) ≡ b ∷ text
    by_need true e = ap (λ x. x ∷ unescaped (escaped text)) (pair_back b small) ∙ ap (λ t. b ∷ t) rest
    by_need false e = plain_byte b (escaped text) ((or_parts (nat_lt b 0x20 || nat_lt 0x7e b) (b == 0x5c) e).1) ∙ ap (λ t. b ∷ t) rest

pub unescaped_back : (text : List ℕ) → AreBytes text → unescaped (escaped text) ≡ text
unescaped_back [] h = refl
unescaped_back (b ∷ text) h =
    one_back b text (All-head (λ byte. byte < 256) b text h) (unescaped_back text (All-tail (λ byte. byte < 256) b text h))
