-- The bytes of a body that stands at the front of a stream, by the grammar: RFC 9112, 6 and 7.1, in
-- this profile.
use Rattle.std.specs.Prelude.{◌≡◌, ℕ, zero, suc, Bool, List, [], ◌++◌, take, drop}
use Rattle.std.specs.Prelude.{Option, Some, None}
use Rattle.http_frames.specs.Parts.{Part, Byte, Chunk, End, Pending, Bad, part_of}
use Rattle.http_frames.specs.declared.state.BodyState.{BodyState}
use Rattle.http_frames.specs.declared.state.BodyState.TheVariants as state
use Rattle.conn_trace.specs.Fronts.{after_byte}

-- bytes of a body, and what stands behind it
abbrev pub Read : Type 0
Read = List ℕ × List ℕ

abbrev pub with_front : List ℕ → Option Read → Option Read
with_front front None = None
with_front front (Some read) = Some (front ++ read.0, read.1)

-- what is read, part by part, in so many parts at most; the flag tells that no more bytes come
abbrev pub read_from : ℕ → BodyState → List ℕ → Bool → Part → Option Read
read_from zero s held ended p = None
read_from (suc n) s held ended Byte =
    let behind = drop 1 held in
    with_front (take 1 held)
    (read_from n (after_byte s) behind ended (part_of (after_byte s) behind ended))
read_from (suc n) s held ended (Chunk line size) =
    let behind = drop line held in
    read_from n (state.Chunk size) behind ended (part_of (state.Chunk size) behind ended)
read_from (suc n) s held ended (End size) = Some ([], drop size held)
read_from (suc n) s held ended Pending = None
read_from (suc n) s held ended (Bad f) = None

-- a body of which the reader stands there is read whole: these are its bytes, and this is behind it
abbrev pub IsBody : BodyState → (held : List ℕ) → (ended : Bool) → (bytes rest : List ℕ) → Type 0
IsBody s held ended bytes rest =
    (n : ℕ) × (read_from n s held ended (part_of s held ended) ≡ Some (bytes, rest))

-- it is one body
abbrev pub BodyIsOne : Type 0
BodyIsOne = (s : BodyState) (held : List ℕ) (ended : Bool) (a b rest other : List ℕ)
    → IsBody s held ended a rest → IsBody s held ended b other → (a ≡ b) × (rest ≡ other)
