-- A chunk line of a text stays that of a longer one.
use Rattle.std.proofs.Common.{◌≡◌, ℕ, ◌+◌, ◌<◌, ◌≤◌, Bool, true, false, not, ◌||◌, ◌==◌, cond, List, [], ◌∷◌, ◌++◌, length, drop, nat_lt, refl, sym, ap, ap₂, subst, ◌∙◌, arith}
use Rattle.std.specs.Prelude.{⊤}
use Rattle.std.proofs.lemmas.Bool.{cond-false, cond-true, ltb-false}
use Rattle.std.proofs.lemmas.Bool.Decides.{nat_tests}
use Rattle.std.specs.List.{position_or_len}
use Rattle.std.proofs.lemmas.List.{drop-append-le, drop_all, length-drop}
use Rattle.std.proofs.lemmas.List.Sums.{prefix_len-le-length}
use Rattle.http_frames.specs.ChunkLines.{IsWithin, behind_cr, crlf, digits_length, extension_length, is_line_end, is_no_digit, line_by, line_ended, line_of, line_size, text_length}
use Rattle.http_frames.specs.ChunkLines.Crlf.{There, Other}
use Rattle.http_frames.specs.declared.chunk_line.Line.{Line}
use Rattle.http_frames.specs.declared.chunk_line.Line.TheVariants.{Whole, Begins, Never}
use Rattle.http_frames.proofs.Reaches.{Reach, first_place, same_size, text_reach}
use Rattle.http_frames.proofs.Reaches.Reach.{Inside, ToEnd}

-- beside a longer text's
abbrev pub Stays : Line → Line → Type 0
Stays Begins m = ⊤
Stays Never m = m ≡ Never
Stays (Whole size n) m = m ≡ Whole size n

stays_if : (a b : Bool) (l m : Line) → (a ≡ true → b ≡ true) → (a ≡ false → Stays l (cond b Never m)) → Stays (cond a Never l) (cond b Never m)
stays_if true b l m long short = cond-true b Never m (long refl)
stays_if false b l m long short = short refl

by_crlf : (n size : ℕ) (rest more : List ℕ) → 0 < length rest → Stays (line_by n size (crlf rest)) (line_by n size (crlf (rest ++ more)))
by_crlf n size [] more some = absurd (omega (arith, some))
by_crlf n size (x ∷ []) more some =
    elim (x == 13) as (λ t. Stays (line_by n size (cond t (behind_cr []) Other)) (line_by n size (cond t (behind_cr more) Other))) [ true ↦ tt | false ↦ refl ]
by_crlf n size (x ∷ y ∷ rest) more some =
    elim (x == 13) as (λ t. Stays (line_by n size (cond t (behind_cr (y ∷ rest)) Other)) (line_by n size (cond t (behind_cr (y ∷ (rest ++ more))) Other))) [
      | true ↦ elim (y == 10) as (λ t. Stays (line_by n size (cond t (There rest) Other)) (line_by n size (cond t (There (rest ++ more)) Other))) [ true ↦ refl | false ↦ refl ]
      | false ↦ refl
    ]

-- a text that is digits and extensions up to its end is the front of a line, or too long
open_end : (text : List ℕ) → text_length text ≡ length text → line_by (line_size text) (text_length text) (crlf (drop (text_length text) text)) ≡ Begins
open_end text all = ap (λ r. line_by (line_size text) (text_length text) (crlf r)) (ap (λ n. drop n text) all ∙ drop_all (length text) text (omega arith))

too_long : (a b : ℕ) → a ≤ b → nat_lt 4094 a ≡ true → nat_lt 4094 b ≡ true
too_long a b more h = grind (arith, nat_tests)

few_digits : (d n : ℕ) → n ≤ d → nat_lt 15 d ≡ false → nat_lt 4094 n ≡ false
few_digits d n few h = grind (arith, nat_tests)

ended_by : (text more : List ℕ) → line_size (text ++ more) ≡ line_size text → Reach (length text) (text_length text) (text_length (text ++ more))
    → Stays (line_ended text) (line_ended (text ++ more))
ended_by text more size (ToEnd all reach) =
    let short = text_length text in
    let long = text_length (text ++ more) in
    stays_if (nat_lt 4094 short) (nat_lt 4094 long) _ _ (too_long short long (omega (arith, all, reach)))
    (λ h. subst (λ l. Stays l (line_ended (text ++ more))) (sym (open_end text all)) tt)
ended_by text more size (Inside inside is) =
    let short = text_length text in
    let long = text_length (text ++ more) in
    let rest : drop long (text ++ more) ≡ drop short text ++ more = ap (λ n. drop n (text ++ more)) is ∙ drop-append-le short text more (omega (arith, inside)) in
    let line : line_by (line_size (text ++ more)) long (crlf (drop long (text ++ more))) ≡ line_by (line_size text) short (crlf (drop short text ++ more)) =
    ap (λ n. line_by n long (crlf (drop long (text ++ more)))) size ∙ ap₂ (λ n r. line_by (line_size text) n (crlf r)) is rest in
    stays_if (nat_lt 4094 short) (nat_lt 4094 long) _ _ (too_long short long (omega (arith, is)))
    (λ h. subst (Stays (line_by (line_size text) short (crlf (drop short text)))) (sym (cond-false (nat_lt 4094 long) Never _ (ap (nat_lt 4094) is ∙ h) ∙ line))
    (by_crlf (line_size text) short (drop short text) more (omega (arith, inside, length-drop short text))))

-- digits alone are the front of a line, or too many
digits_only : (text : List ℕ) → digits_length text ≡ length text → nat_lt 15 (digits_length text) ≡ false → line_ended text ≡ Begins
digits_only text all few =
    let d = digits_length text in
    let rest : drop d text ≡ [] = ap (λ n. drop n text) all ∙ drop_all (length text) text (omega arith) in
    let plain : text_length text ≡ length text = ap (λ r. d + extension_length r) rest ∙ omega (arith, all) in
    let small : nat_lt 4094 (text_length text) ≡ false = few_digits d (text_length text) (omega (arith, plain, all)) few in
    cond-false (nat_lt 4094 (text_length text)) Never _ small ∙ open_end text plain

abbrev pub no_size : List ℕ → Bool
no_size text = digits_length text == 0 || nat_lt 15 (digits_length text)

line_by_digits : (byte : ℕ) (text more : List ℕ) → Reach (length (byte ∷ text)) (digits_length (byte ∷ text)) (digits_length (byte ∷ (text ++ more)))
    → Stays (line_of (byte ∷ text)) (line_of (byte ∷ (text ++ more)))
line_by_digits byte text more (ToEnd all reach) =
    let short = digits_length (byte ∷ text) in
    let long = digits_length (byte ∷ (text ++ more)) in
    stays_if (no_size (byte ∷ text)) (no_size (byte ∷ (text ++ more))) _ _ (λ h. grind (arith, nat_tests))
    (λ h. subst (λ l. Stays l (line_of (byte ∷ (text ++ more)))) (sym (digits_only (byte ∷ text) all (grind (arith, nat_tests)))) tt)
line_by_digits byte text more (Inside less same) =
    let here = ap (λ d. d == 0 || nat_lt 15 d) same in
    stays_if (no_size (byte ∷ text)) (no_size (byte ∷ (text ++ more))) _ _ (λ h. here ∙ h)
    (λ h. subst (Stays (line_ended (byte ∷ text))) (sym (cond-false (no_size (byte ∷ (text ++ more))) Never _ (here ∙ h)))
    (ended_by (byte ∷ text) more (same_size (byte ∷ text) more less same) (text_reach (byte ∷ text) more less same)))

pub line_stays : (text more : List ℕ) → Stays (line_of text) (line_of (text ++ more))
line_stays [] more = tt
line_stays (byte ∷ text) more = line_by_digits byte text more (first_place is_no_digit (byte ∷ text) more)

crlf_within : (n size : ℕ) (rest : List ℕ) → size ≤ 4094 → IsWithin (size + length rest) (line_by n size (crlf rest))
crlf_within n size [] few = tt
crlf_within n size (x ∷ []) few = elim (x == 13) as (λ t. IsWithin (size + length (x ∷ [])) (line_by n size (cond t (behind_cr []) Other))) [ true ↦ tt | false ↦ tt ]
crlf_within n size (x ∷ y ∷ rest) few =
    elim (x == 13) as (λ t. IsWithin (size + length (x ∷ y ∷ rest)) (line_by n size (cond t (behind_cr (y ∷ rest)) Other))) [
      | true ↦ elim (y == 10) as (λ t. IsWithin (size + length (x ∷ y ∷ rest)) (line_by n size (cond t (There rest) Other))) [ true ↦ (omega arith, omega (arith, few), omega arith) | false ↦ tt ]
      | false ↦ tt
    ]

ended_within : (text : List ℕ) → text_length text ≤ length text → IsWithin (length text) (line_ended text)
ended_within text inside =
    let size = text_length text in
    elim (nat_lt 4094 size) as (λ t. nat_lt 4094 size ≡ t → IsWithin (length text) (cond t Never (line_by (line_size text) size (crlf (drop size text))))) [
      | true ↦ λ h. tt
      | false ↦ λ h. subst (λ n. IsWithin n (line_by (line_size text) size (crlf (drop size text)))) (omega (arith, inside, length-drop size text))
          (crlf_within (line_size text) size (drop size text) (ltb-false 4094 size h))
    ] refl

extension_within : (text : List ℕ) → extension_length text ≤ length text
extension_within [] = omega arith
extension_within (byte ∷ text) =
    elim (byte == 59) as (λ t. cond t (1 + position_or_len is_line_end text) 0 ≤ length (byte ∷ text)) [
      | true ↦ omega (arith, prefix_len-le-length (λ b. not (is_line_end b)) text)
      | false ↦ omega arith
    ]

pub text_within : (text : List ℕ) → text_length text ≤ length text
text_within text =
    let d = digits_length text in
    omega (arith, prefix_len-le-length (λ b. not (is_no_digit b)) text, extension_within (drop d text), length-drop d text)

pub line_within : (text : List ℕ) → IsWithin (length text) (line_of text)
line_within [] = tt
line_within (byte ∷ text) =
    elim (no_size (byte ∷ text)) as (λ t. IsWithin (length (byte ∷ text)) (cond t Never (line_ended (byte ∷ text)))) [
      | true ↦ tt
      | false ↦ ended_within (byte ∷ text) (text_within (byte ∷ text))
    ]
