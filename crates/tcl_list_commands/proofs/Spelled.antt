-- How long an element is as it is written.
use Rattle.std.proofs.Common.{◌≡◌, ℕ, ◌+◌, ◌<◌, Bool, true, false, ◌==◌, cond, List, [], ◌∷◌, ◌++◌}
use Rattle.std.proofs.Common.{length, sym, ap, ap₂, refl, arith, length-append, zero-add}
use Rattle.std.specs.Prelude.{codes}
use Rattle.std.specs.List.{count_by}
use Rattle.std.proofs.lemmas.Bool.Decides.{nat_tests}
use Rattle.std.proofs.lemmas.List.Recursion.{is_count_by}
use Rattle.tcl_lists.specs.Write.{begins_comment, escape_letter, escaped, fits_braces, is_special}
use Rattle.tcl_lists.specs.Write.{spelled, spelled_byte, spelled_bytes, stands_bare}

-- how many bytes get a backslash
abbrev specials : List ℕ → ℕ
specials [] = 0
specials (b ∷ bs) = cond (is_special b) (1 + specials bs) (specials bs)

byte_len : (t : Bool) (b : ℕ) → length (cond t (92 ∷ (escape_letter b ∷ [])) (b ∷ [])) ≡ 1 + cond t 1 0
byte_len true b = refl
byte_len false b = refl

one_more : (t : Bool) (n : ℕ) → cond t (1 + n) n ≡ cond t 1 0 + n
one_more true n = refl
one_more false n = sym (zero-add n)

bytes_len : (bs : List ℕ) → length (spelled_bytes bs) ≡ length bs + specials bs
bytes_len [] = refl
bytes_len (b ∷ bs) =
    omega (arith, length-append (spelled_byte b) (spelled_bytes bs), byte_len (is_special b) b, one_more (is_special b) (specials bs), bytes_len bs)

escaped_by : (t : Bool) (b : ℕ) (bs : List ℕ) → (b == 35) ≡ t → length (cond t (codes "\\#") (spelled_byte b) ++ spelled_bytes bs) ≡ length (b ∷ bs) + specials (b ∷ bs) + cond t 1 0
escaped_by true b bs e =
    let is : b ≡ 35 = grind (arith, nat_tests) in
    let plain : specials (b ∷ bs) ≡ specials bs = ap (λ t. cond t (1 + specials bs) (specials bs)) (ap is_special is) in
    omega (arith, length-append (codes "\\#") (spelled_bytes bs), plain, bytes_len bs)
escaped_by false b bs e =
    omega (arith, length-append (spelled_byte b) (spelled_bytes bs), byte_len (is_special b) b, one_more (is_special b) (specials bs), bytes_len bs)

pub escaped_size : (text : List ℕ) (count hash : ℕ) → 0 < length text → stands_bare text ≡ false → fits_braces 0 text ≡ false → count ≡ count_by is_special text
    → hash ≡ cond (begins_comment text) 1 0 → length text + count + hash ≡ length (spelled text)
escaped_size [] count hash some bare fits counted hashed = absurd (omega arith)
escaped_size (b ∷ bs) count hash some bare fits counted hashed =
    let written : spelled (b ∷ bs) ≡ escaped (b ∷ bs) = ap₂ (λ s t. cond s (b ∷ bs) (cond t (123 ∷ (b ∷ bs) ++ codes "}") (escaped (b ∷ bs)))) bare fits in
    let same : specials (b ∷ bs) ≡ count_by is_special (b ∷ bs) = is_count_by specials is_special refl (λ _ _. refl) (b ∷ bs) in
    omega (arith, ap length written, escaped_by (b == 35) b bs refl, same, counted, hashed)
