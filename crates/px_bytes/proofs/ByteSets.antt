-- Sets of bytes.
use Rattle.std.proofs.Common.{◌≡◌, ◌≢◌, ℕ, zero, suc, ◌+◌, ◌<◌, Bool, true, false, ◌||◌, ◌==◌}
use Rattle.std.proofs.Common.{List, length, get_or, set, take, replicate, refl, ap, sym}
use Rattle.std.proofs.Common.{◌∙◌, arith}
use Rattle.std.proofs.lemmas.Bool.Decides.{nat_tests}
use Rattle.std.proofs.lemmas.List.{get_or-set_same, get_or-set_other}
use Rattle.std.proofs.lemmas.List.Folds.{list_any_more}
use Rattle.px_bytes.specs.ByteSet.{has_byte, is_among}

-- no byte is in the set at first
pub has_none : (n k : ℕ) → has_byte (replicate n false) k ≡ false
has_none zero zero = refl
has_none zero (suc k) = refl
has_none (suc n) zero = refl
has_none (suc n) (suc k) = has_none n k

same_byte : (b k : ℕ) → (b == k) ≡ true → k ≡ b
same_byte b k e = grind (arith, nat_tests)

other_byte : (b k : ℕ) → (b == k) ≡ false → k ≢ b
other_byte b k e = grind (arith, nat_tests)

or_true : (t : Bool) → true ≡ (t || true)
or_true true = refl
or_true false = refl

or_false : (t : Bool) → t ≡ (t || false)
or_false true = refl
or_false false = refl

has_by : (s : List Bool) (b k : ℕ) (t r : Bool) → (b == k) ≡ t → b < length s → has_byte s k ≡ r → has_byte (set s b true) k ≡ (r || t)
has_by s b k true r e there h =
    ap (λ j. get_or (set s b true) j false) (same_byte b k e) ∙ get_or-set_same s b true false there ∙ or_true r
has_by s b k false r e there h = get_or-set_other s b k true false (other_byte b k e) ∙ h ∙ or_false r

-- one more byte in the set
pub has_more : (s : List Bool) (bytes : List ℕ) (i b k : ℕ) → i < length bytes → b ≡ get_or bytes i 0 → b < length s → has_byte s k ≡ is_among (take i bytes) k → has_byte (set s b true) k ≡ is_among (take (i + 1) bytes) k
has_more s bytes i b k inside e there h =
    has_by s b k (b == k) (is_among (take i bytes) k) refl there h ∙ ap (λ x. is_among (take i bytes) k || (x == k)) e
    ∙ sym (list_any_more (λ x. x == k) bytes i 0 inside)
