-- Each unit of pieces is read of the whole stream.
use Rattle.std.proofs.Common.{ℕ, Bool, List, ◌++◌}
use Rattle.http_frames.specs.Cuttings.{EachIsRead, Lasts}
use Rattle.http_frames.specs.Units.{IsUnit}
use Rattle.http_frames.specs.declared.state.BodyState.{BodyState}
use Rattle.http_frames.specs.declared.unit.Unit.{Unit}
use Rattle.http_frames.specs.declared.unit.Unit.TheVariants.{Piece, ChunkLine, Finished, NotYet, Fault}
use Rattle.http_frames.proofs.Longer.{Stands, stays}
use Rattle.http_frames.proofs.OneUnit.{one_unit}

lasts : (s : BodyState) (held : List ℕ) (ended : Bool) (u v : Unit) → Stands u (IsUnit s held ended) → IsUnit s held ended v → Lasts u v
lasts s held ended NotYet v stands is = tt
lasts s held ended (Piece taken) v stands is = (stands.0, one_unit held ended v (Piece _) s is stands.1)
lasts s held ended (ChunkLine line size) v stands is = one_unit held ended v (ChunkLine line size) s is stands
lasts s held ended (Finished size) v stands is = one_unit held ended v (Finished size) s is stands
lasts s held ended (Fault f) v stands is = one_unit held ended v (Fault f) s is stands

pub each_is_read : EachIsRead
each_is_read s held more ended u v is long = lasts s (held ++ more) ended u v (stays s held more ended u is) long
