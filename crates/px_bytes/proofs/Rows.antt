-- Rows of numbers, networks, patterns, hexadecimal and letters.
use Rattle.std.proofs.Common.{◌≡◌, ℕ, zero, suc, Bool, false, ◌||◌, ◌==◌, cond, List, [], ◌∷◌}
use Rattle.std.proofs.Common.{Option, Some, None, pos, neg_ℤ, inl, refl, ◌∙◌}
use Rattle.std.specs.Prelude.{codes}
use Rattle.std.specs.Fmt.{digits}
use Rattle.px_bytes.specs.Glob.{item_has, item_more, behind_set, behind_piece, Matches}
use Rattle.px_bytes.specs.Glob.Matches.{AtEnd, Many, One}
use Rattle.px_bytes.specs.HexRead.{hex_bytes}
use Rattle.px_bytes.specs.Letters.{lowered}
use Rattle.px_bytes.specs.Net.{SpellsNet}
use Rattle.px_bytes.specs.White.{trimmed}
use Rattle.px_bytes.specs.Whole.{whole}

octal : whole (codes "010") ≡ Some (pos 8)
octal = refl

no_octal_digit : whole (codes "08") ≡ None
no_octal_digit = refl

hexadecimal_below_zero : whole (codes " -0x10 ") ≡ Some (neg_ℤ (pos 16))
hexadecimal_below_zero = refl

upper_case_x : whole (codes "0X10") ≡ None
upper_case_x = refl

least : whole (codes "-0x8000000000000000") ≡ Some (neg_ℤ (pos 9223372036854775808))
least = refl

above_most : whole (codes "9223372036854775808") ≡ None
above_most = refl

zeros : whole (codes "00") ≡ Some (pos 0)
zeros = refl

no_digit : whole (codes "0x") ≡ None
no_digit = refl

sign_alone : whole (codes "-") ≡ None
sign_alone = refl

sign_apart : whole (codes "- 1") ≡ None
sign_apart = refl

white : trimmed (codes "\t a b\n ") ≡ codes "a b"
white = refl

both_cases : hex_bytes (codes "0aFF") ≡ Some (10 ∷ (255 ∷ []))
both_cases = refl

half_a_pair : hex_bytes (codes "0") ≡ None
half_a_pair = refl

ten_net : SpellsNet (codes "10.0.0.0/8") (record { ip = 167772160; bits = 8 })
unfolding digits
ten_net = inl refl

letters : lowered (codes "AbC-Z@[") ≡ codes "abc-z@["
letters = refl

set_then_star : Matches (codes "[a-c]*") (codes "bz")
set_then_star = One refl refl (Many refl 1 AtEnd)

star_of_nothing : Matches (codes "a*") (codes "a")
star_of_nothing = One refl refl (Many refl 0 AtEnd)

range_backwards : Matches (codes "[c-a]\\*?") (codes "a*z")
range_backwards = One refl refl (One refl refl (One refl refl AtEnd))

bracket_ends_range : behind_piece 91 (codes "a-]") 95 ≡ None
bracket_ends_range = refl

-- no `]` stands in the bytes
abbrev NoBracket : List ℕ → Type 0
NoBracket [] = Unit {0}
NoBracket (p ∷ ps) = ((p == 93) ≡ false) × NoBracket ps

no_end : (byte : ℕ) (found : Bool) (skip : ℕ) (ps : List ℕ) → NoBracket ps → behind_set byte found skip ps ≡ None
no_end byte found skip [] h = refl
no_end byte found (suc skip) (p ∷ ps) h = no_end byte found skip ps h.1
no_end byte found zero (p ∷ ps) h =
    (λ i. cond (h.0 i) (cond found (Some ps) None) (behind_set byte (found || item_has p ps byte) (item_more ps) ps)) ∙ no_end byte (found || item_has p ps byte) (item_more ps) ps h.1

none_is_some : (r : Option (List ℕ)) (x : List ℕ) → r ≡ None → r ≡ Some x → ⊥
none_is_some r x e f = cc

-- a `[` without its `]` matches nothing
open_set : {ps text : List ℕ} → NoBracket ps → ¬ Matches (91 ∷ ps) text
open_set h (Many star front m) = cc
open_set {ps} h (One {byte = byte} {rest = rest} star e m) = none_is_some _ rest (no_end byte false 0 ps h) e
