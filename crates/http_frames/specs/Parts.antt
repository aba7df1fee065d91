-- What stands next in a body, byte by byte: RFC 9112, 6 and 7.1. A part is the unit, but that a piece is one byte.
-- So whatever follows, it is the same.
use Rattle.std.specs.Prelude.{◌≡◌, ℕ, ◌≤◌, Bool, false, List, ◌++◌, length, ⊤}
use Rattle.px_bytes.specs.declared.fault.HttpFault.{HttpFault}
use Rattle.http_frames.specs.NextUnit.{unit_of}
use Rattle.http_frames.specs.declared.state.BodyState.{BodyState}
use Rattle.http_frames.specs.declared.unit.Unit.{Unit}
use Rattle.http_frames.specs.declared.unit.Unit.TheVariants as unit

-- a byte of the body; a chunk line of so many bytes, and the size of its chunk; the end, with so many bytes;
-- nothing yet; a fault
pub data Part : Type 0 where
  Byte : Part
  Chunk : (line size : ℕ) → Part
  End : ℕ → Part
  Pending : Part
  Bad : HttpFault → Part

abbrev pub part_by : Unit → Part
part_by (unit.Piece taken) = Byte
part_by (unit.ChunkLine line size) = Chunk line size
part_by (unit.Finished size) = End size
part_by unit.NotYet = Pending
part_by (unit.Fault f) = Bad f

abbrev pub part_of : BodyState → List ℕ → Bool → Part
part_of s held ended = part_by (unit_of s held ended)

-- beside what a longer stream has there: the same, but where nothing was there yet
abbrev pub PartStays : Part → Part → Type 0
PartStays Pending q = ⊤
PartStays p q = q ≡ p

-- a part stays, whatever follows
abbrev pub PartsStay : Type 0
PartsStay = (s : BodyState) (held more : List ℕ) (ended : Bool)
    → PartStays (part_of s held false) (part_of s (held ++ more) ended)

-- what it takes of what is held is there
abbrev pub PartIn : List ℕ → Part → Type 0
PartIn held Byte = 1 ≤ length held
PartIn held (Chunk line size) = line ≤ length held
PartIn held (End size) = size ≤ length held
PartIn held p = ⊤

abbrev pub PartsAreThere : Type 0
PartsAreThere = (s : BodyState) (held : List ℕ) (ended : Bool) → PartIn held (part_of s held ended)
