-- What is the front of a chunk line can be completed.
use Rattle.std.proofs.Common.{◌≡◌, ◌⊎◌, inl, inr, ℕ, ◌+◌, ◌≤◌, Bool, true, false, not, ◌||◌, ◌==◌, cond, List, [], ◌∷◌, ◌++◌, length, take, drop, nat_lt, refl, sym, ap, ap₂, ◌∙◌, append_assoc}
use Rattle.std.specs.List.{position_or_len}
use Rattle.std.specs.Str.Parse.{digits_value}
use Rattle.std.proofs.lemmas.Bool.{cond-false, eqb-true, false≢true}
use Rattle.std.proofs.lemmas.List.{append-nil, drop-append-le, length-take-le, take-append-drop, take-append-le}
use Rattle.std.proofs.lemmas.List.Sums.{prefix_len-le-length}
use Rattle.std.proofs.Math.Seq.{drop-append_seam}
use Rattle.http_frames.specs.ChunkLines.{behind_cr, crlf, digits_length, extension_length, is_line_end, is_no_digit, line_by, line_ended, line_of, line_size, text_length}
use Rattle.http_frames.specs.ChunkLines.Crlf.{There, Due, Other}
use Rattle.http_frames.specs.declared.chunk_line.Line.{Line}
use Rattle.http_frames.specs.declared.chunk_line.Line.TheVariants.{Whole, Begins, Never}
use Rattle.http_frames.proofs.Lines.{no_size, text_within}

-- a byte that stops behind a text
stopped : (p : ℕ → Bool) (xs : List ℕ) (y : ℕ) (ys : List ℕ) → p y ≡ true → position_or_len p (xs ++ y ∷ ys) ≡ position_or_len p xs
stopped p [] y ys stops = cond-false (not (p y)) _ _ (ap not stops)
stopped p (x ∷ xs) y ys stops = ap (λ n. cond (not (p x)) (1 + n) 0) (stopped p xs y ys stops)

extension_stopped : (xs ys : List ℕ) → extension_length (xs ++ 13 ∷ ys) ≡ extension_length xs
extension_stopped [] ys = refl
extension_stopped (x ∷ xs) ys = ap (λ n. cond (x == 59) (1 + n) 0) (stopped is_line_end xs 13 ys refl)

module _ (front ys : List ℕ) where
  pub digits_stopped : digits_length (front ++ 13 ∷ ys) ≡ digits_length front
  digits_stopped = stopped is_no_digit front 13 ys refl

  inside : digits_length front ≤ length front
  inside = prefix_len-le-length (λ b. not (is_no_digit b)) front

  text_stopped : text_length (front ++ 13 ∷ ys) ≡ text_length front
  text_stopped =
      let d = digits_length front in
      let rest : drop (digits_length (front ++ 13 ∷ ys)) (front ++ 13 ∷ ys) ≡ drop d front ++ 13 ∷ ys =
      ap (λ n. drop n (front ++ 13 ∷ ys)) digits_stopped ∙ drop-append-le d front (13 ∷ ys) inside in
      ap₂ (λ n r. n + extension_length r) digits_stopped rest ∙ ap (λ n. d + n) (extension_stopped (drop d front) ys)

  size_stopped : line_size (front ++ 13 ∷ ys) ≡ line_size front
  size_stopped =
      ap (digits_value 16) (ap (λ n. take n (front ++ 13 ∷ ys)) digits_stopped ∙ take-append-le (digits_length front) front (13 ∷ ys) inside)

-- digits and extensions, as they stand before a line's CRLF
pub record IsText (front : List ℕ) : Type 0 where
  pub sized : no_size front ≡ false
  pub all : text_length front ≡ length front
  pub few : nat_lt 4094 (length front) ≡ false

ended_line : (front rest : List ℕ) → IsText front → line_ended (front ++ 13 ∷ 10 ∷ rest) ≡ Whole (length front + 2) (line_size front)
ended_line front rest is =
    let long = front ++ 13 ∷ 10 ∷ rest in
    let size : text_length long ≡ length front = text_stopped front (10 ∷ rest) ∙ is.all in
    let behind : drop (text_length long) long ≡ 13 ∷ 10 ∷ rest = ap (λ n. drop n long) size ∙ drop-append_seam front (13 ∷ 10 ∷ rest) in
    cond-false (nat_lt 4094 (text_length long)) _ _ (ap (nat_lt 4094) size ∙ is.few)
    ∙ ap (λ r. line_by (line_size long) (text_length long) (crlf r)) behind
    ∙ ap₂ (λ n m. Whole (m + 2) n) (size_stopped front (10 ∷ rest)) size

pub whole_line : (front rest : List ℕ) → IsText front → line_of (front ++ 13 ∷ 10 ∷ rest) ≡ Whole (length front + 2) (line_size front)
whole_line [] rest is = absurd (false≢true (sym is.sized))
whole_line (b ∷ front) rest is =
    let sized : no_size ((b ∷ front) ++ 13 ∷ 10 ∷ rest) ≡ false = ap (λ d. d == 0 || nat_lt 15 d) (digits_stopped (b ∷ front) (10 ∷ rest)) ∙ is.sized in
    cond-false (no_size ((b ∷ front) ++ 13 ∷ 10 ∷ rest)) _ _ sized ∙ ended_line (b ∷ front) rest is

abbrev begins : Line → Bool
begins Begins = true
begins l = false

other_line : {A : Type 0} (l : Line) → l ≡ Begins → begins l ≡ false → A
other_line l is other = absurd (false≢true (sym other ∙ ap begins is))

-- a line that isn't refused yet
kept : (never : Bool) (l : Line) → cond never Never l ≡ Begins → (never ≡ false) × (l ≡ Begins)
kept true l is = other_line Never is refl
kept false l is = (refl, is)

-- what may stand behind the text of a line that has only begun
tail_of : (n size : ℕ) (rest : List ℕ) → line_by n size (crlf rest) ≡ Begins → (rest ≡ []) ⊎ (rest ≡ 13 ∷ [])
tail_of n size [] is = inl refl
tail_of n size (x ∷ []) is =
    elim (x == 13) as (λ t. (x == 13) ≡ t → line_by n size (cond t Due Other) ≡ Begins → ((x ∷ []) ≡ []) ⊎ ((x ∷ []) ≡ 13 ∷ [])) [
      | true ↦ λ h i. inr (ap (λ y. y ∷ []) (eqb-true x 13 h))
      | false ↦ λ h i. other_line Never i refl
    ] refl is
tail_of n size (x ∷ y ∷ rest) is =
    elim (x == 13) as (λ t. line_by n size (cond t (behind_cr (y ∷ rest)) Other) ≡ Begins → ((x ∷ y ∷ rest) ≡ []) ⊎ ((x ∷ y ∷ rest) ≡ 13 ∷ [])) [
      | true ↦ elim (y == 10) as (λ t. line_by n size (cond t (There rest) Other) ≡ Begins → ((x ∷ y ∷ rest) ≡ []) ⊎ ((x ∷ y ∷ rest) ≡ 13 ∷ [])) [
        | true ↦ λ i. other_line (Whole (size + 2) n) i refl
        | false ↦ λ i. other_line Never i refl
      ]
      | false ↦ λ i. other_line Never i refl
    ] is

-- what makes a line of its front, with an empty line behind it
pub record Completed (text : List ℕ) : Type 0 where
  pub more : List ℕ
  pub front : List ℕ
  pub same : text ++ more ≡ front ++ 13 ∷ 10 ∷ 13 ∷ 10 ∷ []
  pub is_text : IsText front

as_text : (text front tail : List ℕ) → text ≡ front ++ tail → (tail ≡ []) ⊎ (tail ≡ 13 ∷ []) → (digits_length front ≡ digits_length text) × (text_length front ≡ text_length text)
as_text text front tail same (inl none) =
    let is : text ≡ front = same ∙ ap (λ t. front ++ t) none ∙ append-nil front in (ap digits_length (sym is), ap text_length (sym is))
as_text text front tail same (inr cr) =
    let is : text ≡ front ++ 13 ∷ [] = same ∙ ap (λ t. front ++ t) cr in
    (sym (ap digits_length is ∙ digits_stopped front []), sym (ap text_length is ∙ text_stopped front []))

front_is_text : (text front tail : List ℕ) → text ≡ front ++ tail → (tail ≡ []) ⊎ (tail ≡ 13 ∷ []) → no_size text ≡ false → length front ≡ text_length text → nat_lt 4094 (text_length text) ≡ false → IsText front
front_is_text text front tail same ends sized size few =
    let both = as_text text front tail same ends in
    record { sized = ap (λ d. d == 0 || nat_lt 15 d) both.0 ∙ sized; all = both.1 ∙ sym size; few = ap (nat_lt 4094) size ∙ few }

with_tail : (text front tail : List ℕ) → text ≡ front ++ tail → (tail ≡ []) ⊎ (tail ≡ 13 ∷ []) → IsText front → Completed text
with_tail text front tail same (inl none) is = record {
  more = 13 ∷ 10 ∷ 13 ∷ 10 ∷ [];
  front = front;
  same = ap (λ t. t ++ 13 ∷ 10 ∷ 13 ∷ 10 ∷ []) (same ∙ ap (λ t. front ++ t) none ∙ append-nil front);
  is_text = is;
}
with_tail text front tail same (inr cr) is = record {
  more = 10 ∷ 13 ∷ 10 ∷ [];
  front = front;
  same = ap (λ t. t ++ 10 ∷ 13 ∷ 10 ∷ []) (same ∙ ap (λ t. front ++ t) cr) ∙ append_assoc front (13 ∷ []) (10 ∷ 13 ∷ 10 ∷ []);
  is_text = is;
}

pub completed : (text : List ℕ) → line_of text ≡ Begins → Completed text
completed [] is = record { more = 49 ∷ 13 ∷ 10 ∷ 13 ∷ 10 ∷ []; front = 49 ∷ []; same = refl; is_text = record { sized = refl; all = refl; few = refl } }
completed (b ∷ bs) is =
    let text : List ℕ = b ∷ bs in
    let size = text_length text in
    let sized = kept (no_size text) (line_ended text) is in
    let short = kept (nat_lt 4094 size) (line_by (line_size text) size (crlf (drop size text))) sized.1 in
    let ends = tail_of (line_size text) size (drop size text) short.1 in
    let same = sym (take-append-drop size text) in
    with_tail text (take size text) (drop size text) same ends
    (front_is_text text (take size text) (drop size text) same ends sized.0 (length-take-le size text (text_within text)) short.0)
