-- A chunk line tells a size from 1 to below 16^15.
use Rattle.std.proofs.Common.{◌≡◌, subst, ℕ, zero, suc, ◌+◌, ◌-◌, ◌^◌, ◌<◌, ◌≤◌, nat_lt, Bool, true, false, not, ◌||◌, ◌==◌, cond, List, [], ◌∷◌, length, take, drop, Option, Some, None, arith}
use Rattle.std.specs.Prelude.{⊤}
use Rattle.std.specs.Char.{digit_value}
use Rattle.std.specs.Str.Parse.{AllDigits}
use Rattle.std.proofs.Math.Nat.{pow-le-pow_right}
use Rattle.std.proofs.lemmas.Bool.{ltb-false}
use Rattle.std.proofs.lemmas.Bool.Decides.{nat_tests}
use Rattle.std.proofs.lemmas.Int.Digits.{digits_value-lt}
use Rattle.std.proofs.lemmas.List.{length-take}
use Rattle.px_bytes.proofs.Tests.{by_cases}
use Rattle.px_bytes.specs.declared.fault.HttpFault.TheVariants.{BadChunk}
use Rattle.memchr.specs.Find.{first_of, matches}
use Rattle.seg_buffer.specs.Bytes.{crlf2}
use Rattle.http_frames.specs.ChunkLines.Crlf.{There, Due, Other}
use Rattle.http_frames.specs.ChunkLines.{Crlf, crlf, digits_length, is_no_digit, line_by, line_ended, line_of, line_size, text_length}
use Rattle.http_frames.specs.NextUnit.{line_unit, next_unit}
use Rattle.http_frames.specs.Parts.{Part, Byte, Chunk, End, part_by, part_of}
use Rattle.http_frames.specs.Units.{begun, is_paired, piece, trailers_by, waits}
use Rattle.http_frames.specs.declared.state.BodyState.{BodyState}
use Rattle.http_frames.specs.declared.state.BodyState.TheVariants as state
use Rattle.http_frames.specs.declared.unit.Unit.{Unit}
use Rattle.http_frames.specs.declared.unit.Unit.TheVariants as unit

-- a size that a chunk line may tell
pub record IsSize (size : ℕ) : Type 0 where
  pub some : 1 ≤ size
  pub small : size < 16 ^ 15

-- what stands at the front where a chunk line is due: no byte
abbrev pub LinePart : Part → Type 0
LinePart Byte = ⊥
LinePart (Chunk line size) = IsSize size
LinePart p = ⊤

abbrev LineUnit : Unit → Type 0
LineUnit u = LinePart (part_by u)

-- and where bytes are: neither a line nor the end
abbrev pub PiecePart : Part → Type 0
PiecePart (Chunk line size) = ⊥
PiecePart (End size) = ⊥
PiecePart p = ⊤

-- ---- digits

hex_digit : (byte : ℕ) → is_no_digit byte ≡ false → digit_value byte < 16
hex_digit byte is = grind (arith, nat_tests)

front_digits : (text : List ℕ) → AllDigits 16 (take (digits_length text) text)
front_digits [] = tt
front_digits (byte ∷ text) =
    by_cases (λ t. AllDigits 16 (take (cond (not t) (1 + digits_length text) 0) (byte ∷ text))) (is_no_digit byte)
    (λ h. tt)
    (λ h. let shape : 1 + digits_length text ≡ suc (digits_length text) = omega arith in rw shape (hex_digit byte h, front_digits text))

few_small : (text : List ℕ) → nat_lt 15 (digits_length text) ≡ false → line_size text < 16 ^ 15
few_small text few =
    let ds = take (digits_length text) text in
    let most_digits : digits_length text ≤ 15 = ltb-false 15 (digits_length text) few in
    let size : length ds ≤ 15 = omega (arith, most_digits, length-take (digits_length text) text) in
    let most : 16 ^ length ds ≤ 16 ^ 15 = pow-le-pow_right (omega arith) size in
    omega (arith, most, digits_value-lt 16 ds (front_digits text))

-- ---- what is no chunk line

waiting : (ended : Bool) → LineUnit (waits ended)
waiting true = tt
waiting false = tt

in_lines : (b : Bool) (u : Unit) → LineUnit u → LineUnit (cond b u (unit.Fault BadChunk))
in_lines true u is = is
in_lines false u is = tt

unless_long : (b : Bool) (u : Unit) → LineUnit u → LineUnit (cond b (unit.Fault BadChunk) u)
unless_long true u is = tt
unless_long false u is = is

trailing : (at : ℕ) (text : List ℕ) (place : Option ℕ) (ended : Bool) → LineUnit (trailers_by at text place ended)
trailing at text (Some k) ended =
    unless_long (nat_lt 60000 (k + 2)) _ (in_lines (is_paired false (take (k + 4) text)) (unit.Finished (at + k + 4)) tt)
trailing at text None ended =
    unless_long (nat_lt 60002 (length text + (4 - begun text))) _ (in_lines (is_paired false text) (waits ended) (waiting ended))

-- ---- what is one

module _ (before : ℕ) (held : List ℕ) (ended : Bool) where
  sized_by : (size n : ℕ) (c : Crlf) → size < 16 ^ 15 → LineUnit (line_unit before (line_by size n c) held ended)
  sized_by zero n (There rest) small = (let at = before + (n + 2 - 2) in trailing at (drop at held) (first_of (matches (drop at held) crlf2 0)) ended)
  sized_by (suc k) n (There rest) small = record { some = omega arith; small = small }
  sized_by size n Due small = waiting ended
  sized_by size n Other small = tt

  sized_ended : (text : List ℕ) → nat_lt 15 (digits_length text) ≡ false → LineUnit (line_unit before (line_ended text) held ended)
  sized_ended text few =
      let n = text_length text in
      by_cases (λ t. LineUnit (line_unit before (cond t (line_of (58 ∷ [])) (line_by (line_size text) n (crlf (drop n text)))) held ended)) (nat_lt 4094 n)
      (λ long. tt) (λ short. sized_by (line_size text) n (crlf (drop n text)) (few_small text few))

  few_of : (text : List ℕ) → (digits_length text == 0 || nat_lt 15 (digits_length text)) ≡ false → nat_lt 15 (digits_length text) ≡ false
  few_of text is = grind (arith, nat_tests)

  sized_line : (text : List ℕ) → LineUnit (line_unit before (line_of text) held ended)
  sized_line [] = waiting ended
  sized_line (byte ∷ text) =
      by_cases (λ t. LineUnit (line_unit before (cond t (line_of (58 ∷ [])) (line_ended (byte ∷ text))) held ended))
      (digits_length (byte ∷ text) == 0 || nat_lt 15 (digits_length (byte ∷ text)))
      (λ no. tt) (λ is. sized_ended (byte ∷ text) (few_of (byte ∷ text) is))

module _ (held : List ℕ) (ended : Bool) where
  sized_next : (c : Crlf) → LineUnit (next_unit c held ended)
  sized_next Due = waiting ended
  sized_next Other = tt
  sized_next (There rest) = sized_line 2 held ended (drop 2 held)

-- ---- by the state

pub first_lines : (held : List ℕ) (ended : Bool) → LinePart (part_of state.FirstLine held ended)
first_lines held ended = sized_line 0 held ended held

pub next_lines : (held : List ℕ) (ended : Bool) → LinePart (part_of state.NextLine held ended)
next_lines held ended = sized_next held ended (crlf held)

piece_waits : (ended : Bool) → PiecePart (part_by (waits ended))
piece_waits true = tt
piece_waits false = tt

pieces : (n : ℕ) (held : List ℕ) (ended : Bool) → PiecePart (part_by (piece n held ended))
pieces n [] ended = piece_waits ended
pieces n (b ∷ held) ended = tt

pub left_pieces : (n : ℕ) (held : List ℕ) (ended : Bool) → PiecePart (part_of (state.Left (suc n)) held ended)
left_pieces n held ended = pieces (suc n) held ended

pub chunk_pieces : (n : ℕ) (held : List ℕ) (ended : Bool) → PiecePart (part_of (state.Chunk (suc n)) held ended)
chunk_pieces n held ended = pieces (suc n) held ended

to_end_pieces : (held : List ℕ) (ended : Bool) (line size : ℕ) → part_of state.ToEnd held ended ≡ Chunk line size → IsSize size
to_end_pieces [] true line size is = absurd (cc)
to_end_pieces [] false line size is = absurd (cc)
to_end_pieces (b ∷ held) ended line size is = absurd (cc)

pub line_sized : (s : BodyState) (held : List ℕ) (ended : Bool) (line size : ℕ) → part_of s held ended ≡ Chunk line size → IsSize size
line_sized (state.Left zero) held ended line size is = absurd (cc)
line_sized (state.Left (suc n)) held ended line size is = absurd (subst PiecePart is (left_pieces n held ended))
line_sized state.ToEnd held ended line size is = to_end_pieces held ended line size is
line_sized state.FirstLine held ended line size is = subst LinePart is (first_lines held ended)
line_sized (state.Chunk zero) held ended line size is = subst LinePart is (next_lines held ended)
line_sized (state.Chunk (suc n)) held ended line size is = absurd (subst PiecePart is (chunk_pieces n held ended))
line_sized state.NextLine held ended line size is = subst LinePart is (next_lines held ended)
