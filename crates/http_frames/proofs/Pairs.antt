-- Texts in which each CR and each LF belongs to a CRLF.
use Rattle.std.proofs.Common.{◌≡◌, ℕ, zero, suc, ◌+◌, ◌-◌, ◌≤◌, Bool, true, false, ◌&&◌, ◌==◌, cond, List, [], ◌∷◌, ◌++◌, length, take, drop, nat_lt, refl, sym, ap, ◌∙◌, arith}
use Rattle.std.specs.Prelude.{slice_index}
use Rattle.std.proofs.lemmas.Bool.{eqb-true, false≢true}
use Rattle.seg_buffer.specs.Bytes.{crlf2}
use Rattle.px_bytes.specs.declared.fault.HttpFault.TheVariants.{BadChunk}
use Rattle.http_frames.specs.Units.{is_paired, may_follow, of_lines, whole_trailers}
use Rattle.http_frames.specs.declared.unit.Unit.{Unit}
use Rattle.http_frames.specs.declared.unit.Unit.TheVariants.{Finished, Fault}
use Rattle.http_frames.proofs.Begun.{AtEnd}

-- whether a CR stands at the end
abbrev pub ends_cr : Bool → List ℕ → Bool
ends_cr behind [] = behind
ends_cr behind (byte ∷ text) = ends_cr (byte == 13) text

-- what isn't paired stays so, whatever follows
pub unpaired : (behind : Bool) (xs ys : List ℕ) → is_paired behind xs ≡ false → is_paired behind (xs ++ ys) ≡ false
unpaired behind [] ys is = absurd (false≢true (sym is))
unpaired behind (x ∷ xs) ys is =
    elim (may_follow behind x) as (λ t. (t && is_paired (x == 13) xs) ≡ false → (t && is_paired (x == 13) (xs ++ ys)) ≡ false) [
      | true ↦ λ h. unpaired (x == 13) xs ys h
      | false ↦ λ h. refl
    ] is

pub paired_more : (behind : Bool) (xs ys : List ℕ) → is_paired behind xs ≡ true → is_paired (ends_cr behind xs) ys ≡ true → is_paired behind (xs ++ ys) ≡ true
paired_more behind [] ys is rest = rest
paired_more behind (x ∷ xs) ys is rest =
    elim (may_follow behind x) as (λ t. (t && is_paired (x == 13) xs) ≡ true → (t && is_paired (x == 13) (xs ++ ys)) ≡ true) [
      | true ↦ λ h. paired_more (x == 13) xs ys h rest
      | false ↦ λ h. absurd (false≢true h)
    ] is

last_byte : (behind : Bool) (x : ℕ) (xs : List ℕ) → ends_cr behind (x ∷ xs) ≡ (slice_index (x ∷ xs) (length xs) == 13)
last_byte behind x [] = refl
last_byte behind x (y ∷ ys) = last_byte (x == 13) y ys

-- the end of a text that ends with some bytes of CR LF CR LF
end_is : (text : List ℕ) (n : ℕ) → AtEnd text (suc n) → ends_cr false text ≡ (slice_index crlf2 n == 13)
end_is [] n at = absurd (let fits = at.fits in omega (arith, fits))
end_is (x ∷ xs) n at =
    let fits = at.fits in
    let place : length (x ∷ xs) - suc n + n ≡ length xs = omega (arith, fits) in
    last_byte false x xs ∙ ap (λ b. b == 13) (ap (slice_index (x ∷ xs)) (sym place) ∙ at.reads n (omega arith))

one_at_end : (x : ℕ) (xs : List ℕ) → ends_cr false (x ∷ xs) ≡ true → AtEnd (x ∷ xs) 1
one_at_end x xs is = record {
  fits = omega arith;
  reads = λ j less.
      let first : j ≡ 0 = omega (arith, less) in
      let place : length (x ∷ xs) - 1 + j ≡ length xs = omega (arith, less) in
      ap (slice_index (x ∷ xs)) place ∙ eqb-true _ 13 (sym (last_byte false x xs) ∙ is) ∙ sym (ap (slice_index crlf2) first);
}

no_cr : (text : List ℕ) → (AtEnd text 1 → ⊥) → ends_cr false text ≡ false
no_cr [] none = refl
no_cr (x ∷ xs) none = elim (ends_cr false (x ∷ xs)) as (λ t. ends_cr false (x ∷ xs) ≡ t → t ≡ false) [
  | true ↦ λ h. absurd (none (one_at_end x xs h))
  | false ↦ λ h. refl
] refl

-- the rest of CR LF CR LF makes pairs
pub rest_paired : (text : List ℕ) (n : ℕ) → n ≤ 3 → AtEnd text n → (AtEnd text 1 → 1 ≤ n) → is_paired (ends_cr false text) (drop n crlf2) ≡ true
rest_paired text zero few at most = ap (λ c. is_paired c crlf2) (no_cr text (λ one. let more = most one in omega (arith, more)))
rest_paired text (suc zero) few at most = ap (λ c. is_paired c (10 ∷ 13 ∷ 10 ∷ [])) (end_is text 0 at)
rest_paired text (suc (suc zero)) few at most = ap (λ c. is_paired c (13 ∷ 10 ∷ [])) (end_is text 1 at)
rest_paired text (suc (suc (suc zero))) few at most = ap (λ c. is_paired c (10 ∷ [])) (end_is text 2 at)
rest_paired text (suc (suc (suc (suc n)))) few at most = absurd (omega (arith, few))

-- a text of which more is taken than it has
take_more_than : (n : ℕ) (xs ys : List ℕ) → length xs ≤ n → take n (xs ++ ys) ≡ xs ++ take (n - length xs) ys
take_more_than n [] ys many = ap (λ k. take k ys) (omega arith)
take_more_than zero (x ∷ xs) ys many = absurd (omega (arith, many))
take_more_than (suc n) (x ∷ xs) ys many =
    let less : n - length xs ≡ suc n - length (x ∷ xs) = omega arith in
    ap (λ r. x ∷ r) (take_more_than n xs ys (omega (arith, many))) ∙ ap (λ k. x ∷ (xs ++ take k ys)) less

pub not_lines : (text : List ℕ) (u : Unit) → is_paired false text ≡ false → of_lines text u ≡ Fault BadChunk
not_lines text u is = ap (λ p. cond p u (Fault BadChunk)) is

pub are_lines : (text : List ℕ) (u : Unit) → is_paired false text ≡ true → of_lines text u ≡ u
are_lines text u is = ap (λ p. cond p u (Fault BadChunk)) is

pub refused : (long : Bool) (u : Unit) → u ≡ Fault BadChunk → cond long (Fault BadChunk) u ≡ Fault BadChunk
refused true u is = refl
refused false u is = is

-- trailers that aren't lines stay so, wherever they end
pub still_refused : (at : ℕ) (text more : List ℕ) (q : ℕ) → length text ≤ q + 4 → is_paired false text ≡ false → whole_trailers at (text ++ more) q ≡ Fault BadChunk
still_refused at text more q there is =
    let front = take_more_than (q + 4) text more there in
    let trailers = take (q + 4) (text ++ more) in
    refused (nat_lt 60000 (q + 2)) (of_lines trailers (Finished (at + q + 4)))
    (not_lines trailers (Finished (at + q + 4)) (ap (is_paired false) front ∙ unpaired false text (take (q + 4 - length text) more) is))
