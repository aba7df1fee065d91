-- A size in hexadecimal digits is read back.
use Rattle.std.proofs.Common.{◌≡◌, refl, ap, ap₂, ◌∙◌, ℕ, zero, suc, ◌+◌, ◌*◌, ◌/◌, ◌%◌, ◌^◌, ◌<◌, ◌≤◌, nat_lt, Bool, true, not, ◌&&◌, ◌||◌, ◌==◌, cond, List, [], ◌∷◌, ◌++◌, length, take, drop, arith, length-append}
use Rattle.std.specs.Char.{digit_char, is_ascii_hexdigit}
use Rattle.std.specs.List.{list_all}
use Rattle.std.specs.Str.Parse.{digits_value}
use Rattle.std.proofs.lemmas.Bool.{and_parts, cond-false, ltb-true, ltb-false}
use Rattle.std.proofs.lemmas.Bool.Decides.{nat_tests}
use Rattle.std.proofs.lemmas.Int.Digits.{digits_value_push}
use Rattle.std.proofs.Math.Seq.{drop-append_seam, take-append_seam}
use Rattle.std.proofs.lemmas.List.Folds.{list_all-append}
use Rattle.std.proofs.lemmas.Str.{digit_value-digit_char}
use Rattle.px_bytes.proofs.Tests.{by_cases}
use Rattle.http_frames.specs.ChunkLines.{crlf, digits_length, extension_length, line_by, line_ended, line_of, line_size, text_length}
use Rattle.http_frames.specs.ChunkLines.Crlf.{There}
use Rattle.conn_trace.specs.SentBodies.{hex, hex_digits}

-- ---- what the digits are

abbrev is_hex : List ℕ → Bool
is_hex text = list_all is_ascii_hexdigit text

digit_is : (d : ℕ) → d < 16 → is_ascii_hexdigit (digit_char d) ≡ true
digit_is d low = grind (arith, nat_tests)

all_hex : (n size : ℕ) → is_hex (hex_digits n size) ≡ true
all_hex zero size = refl
all_hex (suc n) size =
    by_cases (λ t. is_hex (cond t (digit_char size ∷ []) (hex_digits n (size / 16) ++ digit_char (size % 16) ∷ [])) ≡ true) (nat_lt size 16)
    (λ low. ap (λ t. t && true) (digit_is size (ltb-true size 16 low)))
    (λ high. list_all-append is_ascii_hexdigit (hex_digits n (size / 16)) (digit_char (size % 16) ∷ [])
    ∙ ap₂ (λ s t. s && t) (all_hex n (size / 16)) (ap (λ t. t && true) (digit_is (size % 16) (omega arith))))

-- ---- the number that they write

value_back : (n size : ℕ) → size < 16 ^ n → digits_value 16 (hex_digits n size) ≡ size
value_back zero size small = omega (arith, small)
value_back (suc n) size small =
    by_cases (λ t. digits_value 16 (cond t (digit_char size ∷ []) (hex_digits n (size / 16) ++ digit_char (size % 16) ∷ [])) ≡ size) (nat_lt size 16)
    (λ low. let l = ltb-true size 16 low in let none : digits_value 16 [] ≡ 0 = refl in
    digits_value_push 16 [] (digit_char size) ∙ omega (arith, none, digit_value-digit_char size (omega (arith, l))))
    (λ high. let less : size / 16 < 16 ^ n = omega (arith, small) in
    let d = digit_value-digit_char (size % 16) (omega arith) in
    let v = value_back n (size / 16) less in
    digits_value_push 16 (hex_digits n (size / 16)) (digit_char (size % 16)) ∙ ap₂ (λ a b. a * 16 + b) v d ∙ omega arith)

-- ---- how many there are

few_hex : (n k size : ℕ) → size < 16 ^ k → 1 ≤ k → length (hex_digits n size) ≤ k
few_hex zero k size small some = omega (arith, some)
few_hex (suc n) zero size small some = absurd (omega (arith, some))
few_hex (suc n) (suc zero) size small some =
    by_cases (λ t. length (cond t (digit_char size ∷ []) (hex_digits n (size / 16) ++ digit_char (size % 16) ∷ [])) ≤ 1) (nat_lt size 16)
    (λ low. omega arith) (λ high. absurd (let h = ltb-false size 16 high in omega (arith, h, small)))
few_hex (suc n) (suc (suc k)) size small some =
    by_cases (λ t. length (cond t (digit_char size ∷ []) (hex_digits n (size / 16) ++ digit_char (size % 16) ∷ [])) ≤ suc (suc k)) (nat_lt size 16)
    (λ low. omega arith)
    (λ high. let less : size / 16 < 16 ^ suc k = omega (arith, small) in
    omega (arith, few_hex n (suc k) (size / 16) less (omega arith), length-append (hex_digits n (size / 16)) (digit_char (size % 16) ∷ [])))

some_hex : (n size : ℕ) → 1 ≤ length (hex_digits (suc n) size)
some_hex n size =
    by_cases (λ t. 1 ≤ length (cond t (digit_char size ∷ []) (hex_digits n (size / 16) ++ digit_char (size % 16) ∷ []))) (nat_lt size 16)
    (λ low. omega arith) (λ high. omega (arith, length-append (hex_digits n (size / 16)) (digit_char (size % 16) ∷ [])))

-- ---- the line that they are

abbrev ended : List ℕ → List ℕ → List ℕ
ended ds more = ds ++ 13 ∷ 10 ∷ more

digits_end : (ds more : List ℕ) → is_hex ds ≡ true → digits_length (ended ds more) ≡ length ds
digits_end [] more all = refl
digits_end (d ∷ ds) more all =
    let both = and_parts (is_ascii_hexdigit d) (is_hex ds) all in
    let size : 1 + length ds ≡ length (d ∷ ds) = omega arith in
    ap (λ t. cond (not (not t)) (1 + digits_length (ended ds more)) 0) both.0 ∙ ap (λ n. 1 + n) (digits_end ds more both.1) ∙ size

module _ (d : ℕ) (ds more : List ℕ) (all : is_hex (d ∷ ds) ≡ true) (few : length (d ∷ ds) ≤ 15) where
  abbrev text : List ℕ
  text = ended (d ∷ ds) more

  size : digits_length text ≡ length (d ∷ ds)
  size = digits_end (d ∷ ds) more all

  rest : drop (digits_length text) text ≡ 13 ∷ 10 ∷ more
  rest = ap (λ n. drop n text) size ∙ drop-append_seam (d ∷ ds) (13 ∷ 10 ∷ more)

  front : take (digits_length text) text ≡ d ∷ ds
  front = ap (λ n. take n text) size ∙ take-append_seam (d ∷ ds) (13 ∷ 10 ∷ more)

  whole : text_length text ≡ length (d ∷ ds)
  whole = ap (λ r. digits_length text + extension_length r) rest ∙ omega (arith, size)

  behind : drop (text_length text) text ≡ 13 ∷ 10 ∷ more
  behind = ap (λ n. drop n text) whole ∙ drop-append_seam (d ∷ ds) (13 ∷ 10 ∷ more)

  pub digits_line : line_of text ≡ line_by (digits_value 16 (d ∷ ds)) (length (d ∷ ds)) (There more)
  digits_line =
      cond-false (digits_length text == 0 || nat_lt 15 (digits_length text)) (line_of (58 ∷ [])) (line_ended text) (let e = size in grind (arith, nat_tests))
      ∙ cond-false (nat_lt 4094 (text_length text)) (line_of (58 ∷ [])) (line_by (line_size text) (text_length text) (crlf (drop (text_length text) text))) (let e = whole in grind (arith, nat_tests))
      ∙ ap₂ (λ n r. line_by n (text_length text) (crlf r)) (ap (digits_value 16) front) behind
      ∙ ap (λ n. line_by (digits_value 16 (d ∷ ds)) n (There more)) whole

line_by_digits : (ds more : List ℕ) → is_hex ds ≡ true → 1 ≤ length ds → length ds ≤ 15
    → line_of (ended ds more) ≡ line_by (digits_value 16 ds) (length ds) (There more)
line_by_digits [] more all some few = absurd (omega (arith, some))
line_by_digits (d ∷ ds) more all some few = digits_line d ds more all few

-- a size below 16^15, behind which the line ends
pub line_back : (size : ℕ) (more : List ℕ) → size < 16 ^ 15 → line_of (hex size ++ 13 ∷ 10 ∷ more) ≡ line_by size (length (hex size)) (There more)
line_back size more small =
    line_by_digits (hex size) more (all_hex 16 size) (some_hex 15 size) (few_hex 16 15 size small (omega arith))
    ∙ ap (λ n. line_by n (length (hex size)) (There more)) (value_back 16 size (omega (arith, small)))
