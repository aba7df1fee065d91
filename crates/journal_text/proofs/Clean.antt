-- What an event writes holds no blank and isn't empty, and reads as what it is.
use Rattle.std.proofs.Common.{◌≡◌, ℕ, ◌+◌, ◌/◌, ◌%◌, ◌<◌, Bool, true, false, List, [], ◌∷◌}
use Rattle.std.proofs.Common.{cond, nat_lt, flat_map, refl, arith}
use Rattle.std.specs.Char.{digit_char}
use Rattle.std.specs.List.{All}
use Rattle.std.proofs.lemmas.Bool.{ne_eqb}
use Rattle.std.proofs.lemmas.List.Elements.{All-head, All-tail}
use Rattle.px_bytes.specs.Hexadecimal.{hex_pair}
use Rattle.journal_text.specs.Form.{health_text}
use Rattle.journal_text.specs.Line.{is_blank}
use Rattle.journal_text.proofs.Addresses.{Without, NoDigit}

blank_free : (x : ℕ) → 32 < x → is_blank x ≡ false
blank_free x above = rw (ne_eqb x 32 (λ e. omega arith)) (rw (ne_eqb x 9 (λ e. omega arith)) refl)

pub no_digit : NoDigit is_blank
no_digit d low high = blank_free d (omega arith)

cond_above : (b : Bool) (x y : ℕ) → 32 < x → 32 < y → 32 < cond b x y
cond_above true x y h k = h
cond_above false x y h k = k

hex_digit_free : (n : ℕ) → is_blank (digit_char n) ≡ false
hex_digit_free n = blank_free (digit_char n) (cond_above (nat_lt n 10) (48 + n) (87 + n) (omega arith) (omega arith))

pub hex_free : (bytes : List ℕ) → Without is_blank (flat_map hex_pair bytes)
hex_free [] = tt
hex_free (byte ∷ bytes) = (hex_digit_free (byte / 16), (hex_digit_free (byte % 16), hex_free bytes))

pub name_free : (name : List ℕ) → All (λ byte. is_blank byte ≡ false) name → Without is_blank name
name_free [] h = tt
name_free (x ∷ xs) h = (All-head (λ byte. is_blank byte ≡ false) x xs h, name_free xs (All-tail (λ byte. is_blank byte ≡ false) x xs h))

pub health_free : (up : Bool) → Without is_blank (health_text up)
health_free true = (refl, (refl, tt))
health_free false = (refl, (refl, (refl, (refl, tt))))
