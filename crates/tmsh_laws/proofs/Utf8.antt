-- What is printed is UTF-8.
use Rattle.std.proofs.Common.{◌≡◌, ℕ, suc, ◌+◌, ◌/◌, ◌%◌, ◌<◌, ◌≤◌, Bool, true, false, not, ◌&&◌, ◌||◌, eqb, ltb, List, [], ◌∷◌, ◌++◌, append_assoc, append-nil, length, get_or, inl, inr, refl, sym, ap, ap₂, subst, ◌∙◌, arith}
use Rattle.std.proofs.lemmas.Bool.{and_parts, cases_Bool, ltb-true}
use Rattle.std.proofs.lemmas.Bool.Decides.{nat_tests}
use Rattle.std.proofs.lemmas.Str.{IsUtf8-append, IsUtf8-encode, IsUtf8-from_is_utf8, IsUtf8-nil, encode_ascii, inside_one}
use Rattle.std.specs.Char.{digit_char, encode_utf8}
use Rattle.std.specs.Prelude.{IsUtf8, codes, encode_utf8_all, flat_map, if◌then◌else◌}
use Rattle.std.specs.Str.{all_scalars, is_utf8}
use Rattle.px_bytes.specs.Hexadecimal.{hex_text}
use Rattle.tmsh_laws.proofs.Ascii.{is_small, one_byte, small_utf8}
use Rattle.tmsh_laws.proofs.Lines.{Each}
use Rattle.tmsh_text.specs.Items.{joined}
use Rattle.tmsh_text.specs.Words.{is_plain, quoted, quoted_byte, quoted_bytes, word}

pub literal : (w : List ℕ) → is_small w ≡ true → IsUtf8 w
literal w e = small_utf8 w e

pub utf8_joined : (ps : List (List ℕ)) → Each IsUtf8 ps → IsUtf8 (joined ps)
utf8_joined [] each = IsUtf8-nil
utf8_joined (p ∷ ps) each = IsUtf8-append p (joined ps) each.0 (utf8_joined ps each.1)

pub utf8_flat : {A : Type 0} (f : A → List ℕ) (P : A → Type 0) → ((x : A) → P x → IsUtf8 (f x)) → (xs : List A) → Each P xs → IsUtf8 (flat_map f xs)
utf8_flat f P one [] each = IsUtf8-nil
utf8_flat f P one (x ∷ xs) each = IsUtf8-append (f x) (flat_map f xs) (one x each.0) (utf8_flat f P one xs each.1)

pub utf8_if : (x : Bool) (a b : List ℕ) → IsUtf8 a → IsUtf8 b → IsUtf8 (if x then a else b)
utf8_if true a b p q = p
utf8_if false a b p q = q

-- ---- words in quotes

digit_by : (h : ℕ) → h < 16 → (x : Bool) → ltb h 10 ≡ x → (if x then 48 + h else 87 + h) < 128
digit_by h small true e = omega (arith, small)
digit_by h small false e = omega (arith, small)

digit_small : (h : ℕ) → h < 16 → digit_char h < 128
digit_small h small = digit_by h small (ltb h 10) refl

byte_by : (b : ℕ) → b < 128 → (x y : Bool) → IsUtf8 (if x then 92 ∷ (b ∷ []) else (if y then joined (codes "\\x" ∷ (hex_text (b ∷ []) ∷ [])) else b ∷ []))
byte_by b h true y = IsUtf8-append (92 ∷ []) (b ∷ []) (literal (92 ∷ []) refl) (one_byte b h)
byte_by b h false true =
    let high : IsUtf8 (digit_char (b / 16) ∷ []) = one_byte (digit_char (b / 16)) (digit_small (b / 16) (omega (arith, h))) in
    let low : IsUtf8 (digit_char (b % 16) ∷ []) = one_byte (digit_char (b % 16)) (digit_small (b % 16) (omega (arith, h))) in
    utf8_joined (codes "\\x" ∷ (hex_text (b ∷ []) ∷ [])) (literal (codes "\\x") refl, (IsUtf8-append (digit_char (b / 16) ∷ []) (digit_char (b % 16) ∷ []) high low, tt))
byte_by b h false false = one_byte b h

small_byte : (b : ℕ) → b < 128 → IsUtf8 (quoted_byte b)
small_byte b h = byte_by b h (eqb b 34 || eqb b 92) (ltb b 32 || eqb b 127)

big_byte : (b : ℕ) → 128 ≤ b → quoted_byte b ≡ b ∷ []
big_byte b h =
    let a : eqb b 34 ≡ false = grind (arith, nat_tests, h) in
    let c : eqb b 92 ≡ false = grind (arith, nat_tests, h) in
    let d : ltb b 32 ≡ false = grind (arith, nat_tests, h) in
    let e : eqb b 127 ≡ false = grind (arith, nat_tests, h) in
    rw (a, c, d, e) refl

kept : (bs : List ℕ) → ((k : ℕ) → k < length bs → 128 ≤ get_or bs k 0) → quoted_bytes bs ≡ bs
kept [] h = refl
kept (b ∷ bs) h =
    let here : 128 ≤ b = h 0 (omega arith) in
    ap₂ (λ x y. x ++ y) (big_byte b here) (kept bs (λ k l. h (suc k) (omega (arith, l))))

split : (a b : List ℕ) → quoted_bytes (a ++ b) ≡ quoted_bytes a ++ quoted_bytes b
split [] b = refl
split (x ∷ a) b = ap (λ t. quoted_byte x ++ t) (split a b) ∙ sym (append_assoc (quoted_byte x) (quoted_bytes a) (quoted_bytes b))

module _ (c : ℕ) where
  large : 128 ≤ c → (k : ℕ) → k < length (encode_utf8 c) → 128 ≤ get_or (encode_utf8 c) k 0
  large h k l = elim (cases_Bool (ltb (get_or (encode_utf8 c) k 0) 128)) [
    | inl less ↦
        (let below : get_or (encode_utf8 c) k 0 < 128 = ltb-true (get_or (encode_utf8 c) k 0) 128 less in
        let same : c ≡ get_or (encode_utf8 c) k 0 = inside_one c [] (encode_utf8 c) k (sym (append-nil (encode_utf8 c))) l below in
        absurd (omega (arith, same, below, h)))
    | inr other ↦ grind (arith, nat_tests, other)
  ]

  char_quoted : IsUtf8 (encode_utf8 c) → IsUtf8 (quoted_bytes (encode_utf8 c))
  char_quoted utf8 = elim (cases_Bool (ltb c 128)) [
    | inl less ↦
        (let small : c < 128 = ltb-true c 128 less in
        subst (λ t. IsUtf8 (quoted_bytes t)) (sym (encode_ascii c small)) (subst IsUtf8 (sym (append-nil (quoted_byte c))) (small_byte c small)))
    | inr other ↦ (let big : 128 ≤ c = grind (arith, nat_tests, other) in subst IsUtf8 (sym (kept (encode_utf8 c) (large big))) utf8)
  ]

chars_quoted : (cs : List ℕ) → all_scalars cs ≡ true → IsUtf8 (quoted_bytes (encode_utf8_all cs))
chars_quoted [] e = IsUtf8-nil
chars_quoted (c ∷ cs) e =
    let parts = and_parts _ (all_scalars cs) e in
    let here = char_quoted c (IsUtf8-encode c parts.0) in
    subst IsUtf8 (sym (split (encode_utf8 c) (encode_utf8_all cs)))
    (IsUtf8-append (quoted_bytes (encode_utf8 c)) (quoted_bytes (encode_utf8_all cs)) here (chars_quoted cs parts.1))

bytes_quoted : (text : List ℕ) → IsUtf8 text → IsUtf8 (quoted_bytes text)
bytes_quoted text (cs, (scalars, is)) = subst (λ t. IsUtf8 (quoted_bytes t)) is (chars_quoted cs scalars)

pub utf8_word : (text : List ℕ) → is_utf8 text ≡ true → IsUtf8 (word text)
utf8_word text e =
    let utf8 = IsUtf8-from_is_utf8 text e in
    utf8_if (not (eqb (length text) 0) && is_plain text) text (quoted text) utf8
    (utf8_joined (codes "\"" ∷ (quoted_bytes text ∷ (codes "\"" ∷ []))) (literal (codes "\"") refl, (bytes_quoted text utf8, (literal (codes "\"") refl, tt))))
