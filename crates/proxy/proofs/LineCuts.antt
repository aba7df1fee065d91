-- A text cut behind its first LF.
use Rattle.std.proofs.Common.{◌≡◌, refl, sym, ap, ◌∙◌, ℕ, zero, suc, ◌+◌, ◌-◌, ◌≤◌, ◌<◌}
use Rattle.std.proofs.Common.{List, [], ◌∷◌, ◌++◌, length, take, drop, Bool, true, false}
use Rattle.std.proofs.Common.{Some, None, nat_eq, arith, if◌then◌else◌}
use Rattle.std.specs.List.{position_from}
use Rattle.std.proofs.lemmas.Bool.Decides.{nat_tests}
use Rattle.std.proofs.lemmas.List.{length-take-le}
use Rattle.proxy.specs.Lines.{IsLine}
use Rattle.proxy.specs.Stops.{with_line}

abbrev pub is_lf : ℕ → Bool
is_lf b = nat_eq b 10

-- a line and what stands behind its LF
pub record Cut (len : ℕ) (bytes : List ℕ) : Type 0 where
  pub is_line : IsLine (take len bytes)
  pub whole : bytes ≡ take len bytes ++ 10 ∷ drop (len + 1) bytes

cut_from : (i at : ℕ) (bytes : List ℕ) → position_from is_lf i bytes ≡ Some at → (i ≤ at) × Cut (at - i) bytes
cut_from i at [] e = cc
cut_from i at (b ∷ bytes) e = by_byte (is_lf b) refl (λ f. cut_from (i + 1) at bytes f) e
  where
    by_byte : (t : Bool) → is_lf b ≡ t → (position_from is_lf (i + 1) bytes ≡ Some at → (i + 1 ≤ at) × Cut (at - (i + 1)) bytes) → (if t then Some i else position_from is_lf (i + 1) bytes) ≡ Some at → (i ≤ at) × Cut (at - i) (b ∷ bytes)
    by_byte true t rest f =
        let g : at ≡ i = cc in
        let z : at - i ≡ 0 = omega arith in
        let lf : b ≡ 10 = grind (arith, nat_tests) in
        (omega arith, rw z (record { is_line = tt; whole = ap (λ x. x ∷ bytes) lf }))
    by_byte false t rest f =
        let r = rest f in
        let m : at - i ≡ suc (at - (i + 1)) = omega (arith, r.0) in
        let n : suc (at - (i + 1)) + 1 ≡ suc (at - (i + 1) + 1) = omega arith in
        (omega (arith, r.0), rw m (record { is_line = (t, r.1.is_line); whole = rw n (ap (λ x. b ∷ x) r.1.whole) }))

pub cut : (len : ℕ) (bytes : List ℕ) → position_from is_lf 0 bytes ≡ Some len → Cut len bytes
cut len bytes e = let m : len - 0 ≡ len = omega arith in rw m at ((cut_from 0 len bytes e).1)

no_lf_from : (i : ℕ) (bytes : List ℕ) → position_from is_lf i bytes ≡ None → IsLine bytes
no_lf_from i [] e = tt
no_lf_from i (b ∷ bytes) e = by_byte (is_lf b) refl (λ f. no_lf_from (i + 1) bytes f) e
  where
    by_byte : (t : Bool) → is_lf b ≡ t → (position_from is_lf (i + 1) bytes ≡ None → IsLine bytes) → (if t then Some i else position_from is_lf (i + 1) bytes) ≡ None → IsLine (b ∷ bytes)
    by_byte true t rest f = cc
    by_byte false t rest f = (t, rest f)

pub no_lf : (bytes : List ℕ) → position_from is_lf 0 bytes ≡ None → IsLine bytes
no_lf bytes e = no_lf_from 0 bytes e

take_nothing : (n : ℕ) → take {A = ℕ} n [] ≡ []
take_nothing zero = refl
take_nothing (suc n) = refl

-- what was read, one line later
take_more : (at len : ℕ) (s : List ℕ) → take at s ++ take len (drop at s) ≡ take (at + len) s
take_more zero len s = ap (λ n. take n s) (let e : len ≡ 0 + len = omega arith in e)
take_more (suc at) len [] = take_nothing len ∙ sym (take_nothing (suc at + len))
take_more (suc at) len (b ∷ s) = let e : suc at + len ≡ suc (at + len) = omega arith in rw e (ap (λ x. b ∷ x) (take_more at len s))

take_front : (a : List ℕ) (b : ℕ) (rest : List ℕ) → take (length a + 1) (a ++ b ∷ rest) ≡ a ++ b ∷ []
take_front [] b rest = refl
take_front (x ∷ a) b rest = let e : length (x ∷ a) + 1 ≡ suc (length a + 1) = omega arith in rw e (ap (λ l. x ∷ l) (take_front a b rest))

-- a text with one more line
pub next_line : (at len : ℕ) (s : List ℕ) → position_from is_lf 0 (drop at s) ≡ Some len → len < length (drop at s) → with_line (take at s) (take len (drop at s)) ≡ take (at + (len + 1)) s
next_line at len s e h =
    let d = drop at s in
    let c = cut len d e in
    let front : take (len + 1) d ≡ take len d ++ 10 ∷ [] =
    ap (take (len + 1)) c.whole ∙ ap (λ n. take (n + 1) (take len d ++ 10 ∷ drop (len + 1) d)) (sym (length-take-le len d (omega (arith, h)))) ∙ take_front (take len d) 10 (drop (len + 1) d) in
    ap (λ x. take at s ++ x) (sym front) ∙ take_more at (len + 1) s
