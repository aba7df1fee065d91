-- Rows: what stands at the front of some bytes, and of which statuses a body's length is known.
use Rattle.std.proofs.Common.{◌≡◌, ℕ, true, false, List, [], ◌∷◌, codes, refl, Result, Ok, Err}
use Rattle.memchr.specs.Find.{first_of, matches_from}
use Rattle.px_bytes.specs.declared.fault.HttpFault.{HttpFault}
use Rattle.px_bytes.specs.declared.fault.HttpFault.TheVariants as fault
use Rattle.http_heads.specs.declared.line.Version.TheVariants.{Http11}
use Rattle.http_heads.specs.declared.response.ResponseHead.{ResponseHead}
use Rattle.http_frames.specs.Bodies.{response_body}
use Rattle.http_frames.specs.NextUnit.{unit_of}
use Rattle.http_frames.specs.Parts.{part_of}
use Rattle.http_frames.specs.Parts.Part.{Bad, Byte, Chunk, End, Pending}
use Rattle.http_frames.specs.declared.state.Body.{Body}
use Rattle.http_frames.specs.declared.state.Body.TheVariants as body
use Rattle.http_frames.specs.declared.state.BodyState.TheVariants as state
use Rattle.http_frames.specs.declared.unit.Unit.TheVariants as unit

-- trailer lines hold neither CR nor LF of their own (RFC 9112, 2.2 and 7.1.2)
bare_lf : unit_of state.FirstLine (codes "0\r\nX: y\n\n") false ≡ unit.Fault fault.BadChunk
unfolding first_of matches_from
bare_lf = refl

bare_cr : unit_of state.FirstLine (codes "0\r\nX: y\rz\r\n\r\n") false ≡ unit.Fault fault.BadChunk
unfolding first_of matches_from
bare_cr = refl

lf_at_once : unit_of state.NextLine (codes "\r\n0\r\n\n\r\n\r\n") false ≡ unit.Fault fault.BadChunk
unfolding first_of matches_from
lf_at_once = refl

cut_cr : unit_of state.FirstLine (codes "0\r\nX: y\r") false ≡ unit.NotYet
unfolding first_of matches_from
cut_cr = refl

no_field : unit_of state.FirstLine (codes "0\r\nX y\r\n\r\n") false ≡ unit.Finished 10
unfolding first_of matches_from
no_field = refl

bytes_behind : unit_of state.NextLine (codes "\r\n0\r\nX: y\r\n\r\nGET\n") false ≡ unit.Finished 13
unfolding first_of matches_from
bytes_behind = refl

-- byte by byte (RFC 9112, 7.1)
a_chunk_line : part_of state.FirstLine (codes "5;x\r\nhello") false ≡ Chunk 5 5
a_chunk_line = refl

a_byte : part_of (state.Chunk 5) (codes "hello") false ≡ Byte
a_byte = refl

an_end : part_of state.NextLine (codes "\r\n0\r\n\r\n") false ≡ End 7
unfolding first_of matches_from
an_end = refl

nothing_yet : part_of state.NextLine (codes "\r\n0\r") false ≡ Pending
unfolding first_of matches_from
nothing_yet = refl

too_short : part_of (state.Left 3) [] true ≡ Bad fault.ShortBody
too_short = refl

-- a status below 100 (RFC 9110, 15)
abbrev answer : ℕ → ResponseHead
answer code = record { version = Http11; status = code; reason = []; fields = (codes "Content-Length", codes "42") ∷ [] }

abbrev with_status : ℕ → Result Body HttpFault
with_status code = response_body (answer code) (codes "GET") Http11

below_100 : with_status 42 ≡ Err fault.Framing
below_100 = refl

at_99 : with_status 99 ≡ Err fault.Framing
at_99 = refl

at_100 : with_status 100 ≡ Ok body.None
at_100 = refl

at_200 : with_status 200 ≡ Ok (body.Length 42)
at_200 = refl
