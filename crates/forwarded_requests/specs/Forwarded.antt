-- A request that goes on to its server: RFC 9112, 6.3 and 9.6 (a proxy keeps where a message ends).
use Rattle.std.specs.Prelude.{◌≡◌, ℕ, ◌+◌, ◌^◌, ◌<◌, ◌≤◌, List, [], ◌∷◌, ◌++◌, length}
use Rattle.std.specs.Prelude.{Bool, true, false, Option, Some, None, Ok, codes}
use Rattle.http_heads.specs.Fields.{are_trimmed, named}
use Rattle.http_heads.specs.Heads.{bare_request}
use Rattle.http_heads.specs.Laws.{IsRequestHead}
use Rattle.http_heads.specs.declared.request.RequestHead.{RequestHead}
use Rattle.http_frames.specs.Bodies.{request_body}
use Rattle.http_frames.specs.declared.state.Body.{Body}
use Rattle.http_frames.specs.declared.state.Body.TheVariants as body
use Rattle.http_frames.specs.declared.state.BodyState.{BodyState}
use Rattle.http_frames.specs.declared.state.BodyState.TheVariants as state
use Rattle.px_bytes.specs.declared.addr.Side.TheVariants.{Client}
use Rattle.irule_http.specs.Payload.{payload_limit}
use Rattle.irule_http.specs.Sent.{request_out}
use Rattle.irule_http.specs.declared.state.Http.{Http}
use Rattle.conn_trace.specs.Host.{http_of}
use Rattle.conn_trace.specs.Http.{gathered_so, the_heads}
use Rattle.conn_trace.specs.Item.{Item, server_output}
use Rattle.conn_trace.specs.Setup.{Setup}
use Rattle.conn_trace.specs.State.{Phase, Forwarding, Heading, AtResponse, Stream, Answers}
use Rattle.conn_trace.specs.State.{TraceState, Does}
use Rattle.conn_trace.specs.Trace.{next_item, Unfolds, start}
use Rattle.forwarded_requests.specs.Bodies.{IsBody}
use Rattle.forwarded_requests.specs.Requests.{IsRequest}

abbrev pub is_forwarding : Phase → Bool
is_forwarding (Forwarding Client s standing) = true
is_forwarding other = false

-- from l these items come, behind each of which but the last the request's body is sent on, and
-- behind the last the whole request was: its response is awaited
abbrev pub Forwards : Setup → TraceState → List Item → TraceState → Type 0
Forwards g l [] m = ⊥
Forwards g l (i ∷ []) m = (next_item g l ≡ Does i m) × (m.phase ≡ AtResponse)
Forwards g l (i ∷ j ∷ items) m =
    (mid : TraceState) × (next_item g l ≡ Does i mid) × (is_forwarding mid.phase ≡ true)
    × Forwards g mid (j ∷ items) m

-- where the reader of a chunked body stands between two parts
abbrev pub InChunks : BodyState → Type 0
InChunks state.FirstLine = Unit {0}
InChunks state.NextLine = Unit {0}
InChunks (state.Chunk n) = (1 ≤ n) × (n < 16 ^ 15)
InChunks s = ⊥

-- of a chunked body nothing was gathered, or it was, up to there
abbrev pub ChunksStand : (whole : Bool) → (gathered : Option ℕ) → BodyState → Type 0
ChunksStand whole None s = (whole ≡ false) × (s ≡ state.FirstLine)
ChunksStand true (Some n) s = Unit {0}
ChunksStand false (Some n) s = InChunks s

-- where the reader stands behind what was gathered of a body, which may be whole
abbrev pub Stands : Body → Http → Type 0
Stands body.None h = (h.payload ≡ []) × (h.reader ≡ state.Left 0)
Stands (body.Length size) h =
    (left : ℕ) × (h.reader ≡ state.Left left) × (gathered_so h.gathered + left ≡ size)
    × (h.whole ≡ true → left ≡ 0)
Stands body.Chunked h = ChunksStand h.whole h.gathered h.reader
Stands body.ToEnd h = ⊥

-- The head of a request as rules left it says how long its body is, as the head did that came: the
-- fields that say it have no white space around their values.
pub record IsFramed (h : Http) (head : RequestHead) : Type 0 where
  pub is : IsRequestHead head
  pub codings : are_trimmed (named (codes "transfer-encoding") head.fields) ≡ true
  pub sizes : are_trimmed (named (codes "content-length") head.fields) ≡ true
  pub framed : request_body head ≡ Ok h.body
  pub payload : length h.payload ≤ payload_limit
  pub stands : Stands h.body h

-- each head that is about to be sent is so
abbrev pub HeadsAreFramed : Type 0
HeadsAreFramed =
    (g : Setup) (client : Stream) (answers : Answers) (before : List Item) (l : TraceState)
    (head : RequestHead) → g.heads ≡ the_heads → Unfolds g (start g client answers) before l
    → l.phase ≡ Heading Client → let h = http_of l.host in h.request ≡ Some head → IsFramed h head

-- what was gathered of the body, as rules left it
abbrev pub gathered_text : Option ℕ → List ℕ → List ℕ
gathered_text None payload = []
gathered_text (Some n) payload = payload

-- how much is left of a body whose length is told
abbrev pub left_in : BodyState → ℕ
left_in (state.Left n) = n
left_in s = 0

-- its length as it goes on has at most 18 digits
abbrev pub HasShortLength : Http → Type 0
HasShortLength h = left_in h.reader + length (gathered_text h.gathered h.payload) < 10 ^ 18

-- what of the body comes behind that, where it isn't whole
abbrev pub Comes : (whole : Bool) → BodyState → TraceState → TraceState → List ℕ → Type 0
Comes true s l m bytes = (bytes ≡ []) × (m.client.unread ≡ l.client.unread)
Comes false s l m bytes = IsBody s l.client.unread l.client.ended bytes m.client.unread

-- Of a request that was sent on whole the server connection gets, by the grammar, one request: its
-- head as rules left it, what they left of the bytes that were gathered of its body, and the others
-- as they came; and no byte more.
abbrev pub ForwardedIsOne : Type 0
ForwardedIsOne =
    (g : Setup) (client : Stream) (answers : Answers) (before : List Item) (l m : TraceState)
    (items : List Item) (head : RequestHead)
    → g.heads ≡ the_heads → Unfolds g (start g client answers) before l → l.phase ≡ Heading Client
    → let h = http_of l.host in h.request ≡ Some head → HasShortLength h → Forwards g l items m
    → (bytes : List ℕ) × Comes h.whole h.reader l m bytes
    × ((more : List ℕ) → IsRequest (server_output l.sent.number items ++ more)
    (bare_request (request_out h head)) (gathered_text h.gathered h.payload ++ bytes) more)
