-- A body that is read part by part.
use Rattle.std.proofs.Common.{◌≡◌, refl, ap, ◌∙◌, ℕ, zero, suc, Bool, List, [], ◌++◌, take, drop, Option, Some, None}
use Rattle.http_frames.specs.Parts.{Part, Byte, Chunk, End, Pending, Bad, part_of}
use Rattle.http_frames.specs.declared.state.BodyState.{BodyState}
use Rattle.http_frames.specs.declared.state.BodyState.TheVariants as state
use Rattle.conn_trace.specs.Fronts.{after_byte}
use Rattle.forwarded_requests.specs.Bodies.{Read, BodyIsOne, IsBody, read_from, with_front}

-- ---- it is one

one_front : (front : List ℕ) (a b : Option Read) (x y : Read) → ((p q : Read) → a ≡ Some p → b ≡ Some q → p ≡ q)
    → with_front front a ≡ Some x → with_front front b ≡ Some y → x ≡ y
one_front front None b x y one h k = absurd (cc)
one_front front (Some p) None x y one h k = absurd (cc)
one_front front (Some p) (Some q) x y one h k =
    let same = one p q refl refl in
    let left : x ≡ (front ++ p.0, p.1) = cc in
    let right : (front ++ q.0, q.1) ≡ y = cc in
    left ∙ ap (λ (r : Read). (front ++ r.0, r.1)) same ∙ right

pub one_read : (n m : ℕ) (s : BodyState) (held : List ℕ) (ended : Bool) (p : Part) (x y : Read)
    → read_from n s held ended p ≡ Some x → read_from m s held ended p ≡ Some y → x ≡ y
one_read zero m s held ended p x y h k = absurd (cc)
one_read (suc n) zero s held ended p x y h k = absurd (cc)
one_read (suc n) (suc m) s held ended Byte x y h k =
    let behind = drop 1 held in
    let t = after_byte s in
    one_front (take 1 held) (read_from n t behind ended (part_of t behind ended)) (read_from m t behind ended (part_of t behind ended)) x y
    (λ p q. one_read n m t behind ended (part_of t behind ended) p q) h k
one_read (suc n) (suc m) s held ended (Chunk line size) x y h k =
    one_read n m (state.Chunk size) (drop line held) ended (part_of (state.Chunk size) (drop line held) ended) x y h k
one_read (suc n) (suc m) s held ended (End size) x y h k = cc
one_read (suc n) (suc m) s held ended Pending x y h k = absurd (cc)
one_read (suc n) (suc m) s held ended (Bad f) x y h k = absurd (cc)

pub body_one : BodyIsOne
body_one s held ended a b rest other x y =
    let same = one_read x.0 y.0 s held ended (part_of s held ended) (a, rest) (b, other) x.1 y.1 in
    (ap (λ (r : Read). r.0) same, ap (λ (r : Read). r.1) same)

-- ---- part by part

module _ (s : BodyState) (held : List ℕ) (ended : Bool) where
  abbrev from : ℕ → Part → Option Read
  from n p = read_from n s held ended p

  -- a byte, and the rest
  pub a_byte : (bytes rest : List ℕ) → part_of s held ended ≡ Byte → IsBody (after_byte s) (drop 1 held) ended bytes rest
      → IsBody s held ended (take 1 held ++ bytes) rest
  a_byte bytes rest is behind = (suc behind.0, ap (from (suc behind.0)) is ∙ ap (with_front (take 1 held)) behind.1)

  -- a chunk line, and the rest
  pub a_line : (line size : ℕ) (bytes rest : List ℕ) → part_of s held ended ≡ Chunk line size → IsBody (state.Chunk size) (drop line held) ended bytes rest
      → IsBody s held ended bytes rest
  a_line line size bytes rest is behind = (suc behind.0, ap (from (suc behind.0)) is ∙ behind.1)

  -- the end
  pub an_end : (size : ℕ) → part_of s held ended ≡ End size → IsBody s held ended [] (drop size held)
  an_end size is = (1, ap (from 1) is)
