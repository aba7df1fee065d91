-- What stands at the front of what is sent of a body.
use Rattle.std.proofs.Common.{◌≡◌, refl, sym, ap, subst, ◌∙◌, ℕ, suc, ◌+◌, ◌-◌, ◌^◌, ◌<◌, true, false, List, [], ◌∷◌, ◌++◌, append_assoc, length, drop, arith}
use Rattle.memchr.specs.Find.{first_of, matches_from}
use Rattle.std.proofs.Math.Seq.{drop-append-add}
use Rattle.http_frames.specs.NextUnit.{line_unit}
use Rattle.http_frames.specs.Parts.{Chunk, End, part_by, part_of}
use Rattle.http_frames.specs.declared.state.BodyState.TheVariants as state
use Rattle.conn_trace.specs.Fronts.{in_chunk}
use Rattle.conn_trace.specs.SentBodies.{chunk_line, end_of_line, hex, last_line}
use Rattle.http_frames.proofs.PartsStay.{parts_stay}
use Rattle.forwarded_requests.specs.Bodies.{IsBody}
use Rattle.forwarded_requests.proofs.HexBack.{line_back}
use Rattle.forwarded_requests.proofs.ReadBodies.{a_byte, a_line, an_end}

-- ---- chunk lines

module _ (k : ℕ) (more : List ℕ) (small : suc k < 16 ^ 15) where
  abbrev line : List ℕ
  line = hex (suc k) ++ 13 ∷ 10 ∷ more

  first_part : part_of state.FirstLine line false ≡ Chunk (length (hex (suc k)) + 2) (suc k)
  first_part = ap (λ l. part_by (line_unit 0 l line false)) (line_back (suc k) more small) ∙ ap (λ n. Chunk n (suc k)) (omega arith)

  next_part : part_of state.NextLine (13 ∷ 10 ∷ line) false ≡ Chunk (2 + (length (hex (suc k)) + 2)) (suc k)
  next_part = ap (λ l. part_by (line_unit 2 l (13 ∷ 10 ∷ line) false)) (line_back (suc k) more small)

  behind_line : drop (length (hex (suc k)) + 2) line ≡ more
  behind_line = drop-append-add (hex (suc k)) (13 ∷ 10 ∷ more) 2

  text : chunk_line false (suc k) ++ more ≡ line
  text = append_assoc (hex (suc k)) end_of_line more

  pub first_line : (bytes rest : List ℕ) → IsBody (state.Chunk (suc k)) more false bytes rest
      → IsBody state.FirstLine (chunk_line false (suc k) ++ more) false bytes rest
  first_line bytes rest behind =
      subst (λ held. IsBody state.FirstLine held false bytes rest) (sym text)
      (a_line state.FirstLine line false (length (hex (suc k)) + 2) (suc k) bytes rest first_part
      (subst (λ held. IsBody (state.Chunk (suc k)) held false bytes rest) (sym behind_line) behind))

  behind_next : drop (2 + (length (hex (suc k)) + 2)) (13 ∷ 10 ∷ line) ≡ more
  behind_next =
      let shape : 2 + (length (hex (suc k)) + 2) ≡ suc (suc (length (hex (suc k)) + 2)) = omega arith in
      ap (λ n. drop n (13 ∷ 10 ∷ line)) shape ∙ behind_line

  pub next_line : (bytes rest : List ℕ) → IsBody (state.Chunk (suc k)) more false bytes rest
      → IsBody state.NextLine (13 ∷ 10 ∷ chunk_line false (suc k) ++ more) false bytes rest
  next_line bytes rest behind =
      subst (λ held. IsBody state.NextLine (13 ∷ 10 ∷ held) false bytes rest) (sym text)
      (a_line state.NextLine (13 ∷ 10 ∷ line) false (2 + (length (hex (suc k)) + 2)) (suc k) bytes rest next_part
      (subst (λ held. IsBody (state.Chunk (suc k)) held false bytes rest) (sym behind_next) behind))

-- ---- the end

first_end : (more : List ℕ) → part_of state.FirstLine (last_line false ++ more) false ≡ End 5
unfolding first_of matches_from
first_end more = parts_stay state.FirstLine (last_line false) more false

next_end : (more : List ℕ) → part_of state.NextLine (last_line true ++ more) false ≡ End 7
unfolding first_of matches_from
next_end more = parts_stay state.NextLine (last_line true) more false

pub first_last : (more : List ℕ) → IsBody state.FirstLine (last_line false ++ more) false [] more
first_last more = an_end state.FirstLine (last_line false ++ more) false 5 (first_end more)

pub next_last : (more : List ℕ) → IsBody state.NextLine (last_line true ++ more) false [] more
next_last more = an_end state.NextLine (last_line true ++ more) false 7 (next_end more)

pub none_left : (more : List ℕ) → IsBody (state.Left 0) more false [] more
none_left more = an_end (state.Left 0) more false 0 refl

-- ---- bytes

pub left_byte : (n b : ℕ) (more bytes rest : List ℕ) → IsBody (state.Left n) more false bytes rest → IsBody (state.Left (suc n)) (b ∷ more) false (b ∷ bytes) rest
left_byte n b more bytes rest behind =
    let one : n ≡ suc n - 1 = omega arith in
    a_byte (state.Left (suc n)) (b ∷ more) false bytes rest refl (subst (λ k. IsBody (state.Left k) more false bytes rest) one behind)

pub chunk_byte : (n b : ℕ) (more bytes rest : List ℕ) → IsBody (in_chunk n) more false bytes rest → IsBody (state.Chunk (suc n)) (b ∷ more) false (b ∷ bytes) rest
chunk_byte n b more bytes rest behind =
    let one : n ≡ suc n - 1 = omega arith in
    a_byte (state.Chunk (suc n)) (b ∷ more) false bytes rest refl (subst (λ k. IsBody (in_chunk k) more false bytes rest) one behind)

-- bytes of a told length, and of a chunk

pub left_bytes : (front : List ℕ) (n : ℕ) (more bytes rest : List ℕ) → IsBody (state.Left n) more false bytes rest
    → IsBody (state.Left (length front + n)) (front ++ more) false (front ++ bytes) rest
left_bytes [] n more bytes rest behind = subst (λ k. IsBody (state.Left k) more false bytes rest) (omega arith) behind
left_bytes (b ∷ front) n more bytes rest behind =
    let size : suc (length front + n) ≡ length (b ∷ front) + n = omega arith in
    subst (λ k. IsBody (state.Left k) (b ∷ front ++ more) false (b ∷ front ++ bytes) rest) size
    (left_byte (length front + n) b (front ++ more) (front ++ bytes) rest (left_bytes front n more bytes rest behind))

pub chunk_bytes : (front more bytes rest : List ℕ) → IsBody state.NextLine more false bytes rest
    → IsBody (in_chunk (length front)) (front ++ more) false (front ++ bytes) rest
chunk_bytes [] more bytes rest behind = behind
chunk_bytes (b ∷ front) more bytes rest behind =
    let size : suc (length front) ≡ length (b ∷ front) = omega arith in
    subst (λ k. IsBody (in_chunk k) (b ∷ front ++ more) false (b ∷ front ++ bytes) rest) size
    (chunk_byte (length front) b (front ++ more) (front ++ bytes) rest (chunk_bytes front more bytes rest behind))
