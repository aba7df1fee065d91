-- Where the reader of a body stands: RFC 9112, 6 and 7.
use Rattle.std.specs.Prelude.{ℕ, ◌-◌, ◌==◌, if◌then◌else◌}
use Rattle.http_frames.specs.declared.state.Body.{Body}
use Rattle.http_frames.specs.declared.state.Body.TheVariants as body
use Rattle.http_frames.specs.declared.state.BodyState.{BodyState}
use Rattle.http_frames.specs.declared.state.BodyState.TheVariants as state
use Rattle.http_frames.specs.declared.unit.Unit.{Unit}
use Rattle.http_frames.specs.declared.unit.Unit.TheVariants as unit

abbrev pub beginning : Body → BodyState
beginning (body.Length size) = state.Left size
beginning body.Chunked = state.FirstLine
beginning body.ToEnd = state.ToEnd
beginning body.None = state.Left 0

-- a chunk of which nothing is left is closed
abbrev pub chunk_left : ℕ → BodyState
chunk_left left = if left == 0 then state.NextLine else state.Chunk left

abbrev pub chunk_after : ℕ → ℕ → BodyState
chunk_after left taken = chunk_left (left - taken)

abbrev pub after_unit : BodyState → Unit → BodyState
after_unit (state.Left left) (unit.Piece taken) = state.Left (left - taken)
after_unit (state.Chunk left) (unit.Piece taken) = chunk_after left taken
after_unit state.FirstLine (unit.ChunkLine line size) = state.Chunk size
after_unit state.NextLine (unit.ChunkLine line size) = state.Chunk size
after_unit s u = s
