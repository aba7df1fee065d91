-- Texts of ASCII are UTF-8.
use Rattle.std.proofs.Common.{◌≡◌, ℕ, zero, suc, ◌<◌, Bool, true, List, [], ◌∷◌, arith}
use Rattle.std.proofs.lemmas.Bool.{and_parts, ltb-true}
use Rattle.std.proofs.lemmas.Str.{IsUtf8-append, IsUtf8-from_ascii, IsUtf8-nil, is_utf8-from_IsUtf8}
use Rattle.std.specs.List.{list_all}
use Rattle.std.specs.Prelude.{IsAscii, IsUtf8, nat_lt}
use Rattle.std.specs.Str.{is_utf8}

ascii_one : (b : ℕ) → b < 128 → IsAscii (b ∷ [])
ascii_one b h zero = h
ascii_one b h (suc i) = omega arith

pub one_byte : (b : ℕ) → b < 128 → IsUtf8 (b ∷ [])
one_byte b h = IsUtf8-from_ascii (b ∷ []) (ascii_one b h)

abbrev pub is_small : List ℕ → Bool
is_small w = list_all (λ b. nat_lt b 128) w

pub small_utf8 : (w : List ℕ) → is_small w ≡ true → IsUtf8 w
small_utf8 [] e = IsUtf8-nil
small_utf8 (b ∷ w) e =
    let parts = and_parts (nat_lt b 128) (is_small w) e in
    IsUtf8-append (b ∷ []) w (one_byte b (ltb-true b 128 parts.0)) (small_utf8 w parts.1)

pub small_is : (w : List ℕ) → is_small w ≡ true → is_utf8 w ≡ true
small_is w e = is_utf8-from_IsUtf8 w (small_utf8 w e)
