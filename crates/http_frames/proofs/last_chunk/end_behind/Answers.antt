use Rattle.std.proofs.Common.{Some, None}
use Rattle.http_frames.proofs.last_chunk.end_behind.Goals as goal

pub returns-in-Some : goal.returns-in-Some
returns-in-Some c = (Some c.in-Some.place, c.in-Some.ensures.place, c.whole_trailers.ensures)

pub returns-in-None : goal.returns-in-None
returns-in-None c = (None, c.in-None.ensures.place, c.open_trailers.ensures)
