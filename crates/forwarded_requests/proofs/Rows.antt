-- Worked rows, by computation: requests as they stand at the front of a stream, and as they go on (RFC 9112, 2 to 7).
use Rattle.std.proofs.Common.{◌≡◌, refl, ap, subst, ◌∙◌, ℕ, List, [], ◌∷◌, ◌++◌, append-nil, Bool, true, false, Some, Ok, codes}
use Rattle.std.specs.Str.{chars, is_utf8}
use Rattle.httparse.specs.Grammar.{is_token_byte, print_request, trim_ows}
use Rattle.memchr.specs.Find.{first_of, matches_from}
use Rattle.px_bytes.specs.declared.addr.Side.TheVariants.{Client}
use Rattle.http_heads.specs.Fields.{Pair}
use Rattle.http_heads.specs.Heads.{GivesRequest}
use Rattle.http_heads.specs.Reading.{read_request, told}
use Rattle.http_heads.specs.declared.line.Version.TheVariants.{Http11}
use Rattle.http_heads.specs.declared.request.RequestHead.{RequestHead}
use Rattle.http_heads.proofs.HeadsRead.{request_is_read}
use Rattle.http_frames.specs.Bodies.{request_body}
use Rattle.http_frames.specs.States.{beginning}
use Rattle.http_frames.specs.declared.state.Body.{Body}
use Rattle.http_frames.specs.declared.state.Body.TheVariants as body
use Rattle.http_frames.specs.declared.state.BodyState.{BodyState}
use Rattle.http_frames.specs.declared.state.BodyState.TheVariants as state
use Rattle.irule_net.specs.declared.state.Target.TheVariants.{NodeAt}
use Rattle.conn_trace.specs.Gates.{no_bytes}
use Rattle.conn_trace.specs.Host.{first_host}
use Rattle.conn_trace.specs.Http.{the_heads}
use Rattle.conn_trace.specs.Item.{Item, Moved, Read, ToServer, server_output}
use Rattle.conn_trace.specs.Setup.{Setup}
use Rattle.conn_trace.specs.Messages.{request_host}
use Rattle.conn_trace.specs.State.{AtResponse, Forwarding, Heading, Phase, There, TraceState, no_answers}
use Rattle.conn_trace.specs.Trace.{behind, next_item, start}
use Rattle.conn_trace.proofs.Rows.{node_at, relay_setup, stream, towards}
use Rattle.forwarded_requests.specs.Bodies.{IsBody}
use Rattle.forwarded_requests.specs.Forwarded.{Forwards}
use Rattle.forwarded_requests.specs.Requests.{IsRequest}

-- ---- bodies

-- a length is told, and what stands behind it is another request
counted_row : IsBody (state.Left 5) (codes "helloGET") false (codes "hello") (codes "GET")
counted_row = (6, refl)

none_row : IsBody (state.Left 0) (codes "GET") false [] (codes "GET")
none_row = (1, refl)

-- two chunks, of which one has an extension, a last one and a trailer field
chunked_row : IsBody state.FirstLine (codes "5;x\r\nhello\r\nA\r\n, 10 bytes\r\n0\r\nX: y\r\n\r\nGET") false
    (codes "hello, 10 bytes") (codes "GET")
unfolding first_of matches_from
chunked_row = (18, refl)

-- ---- requests

request_row : (bytes behind : List ℕ) (head : RequestHead) (b : Body) (text rest : List ℕ) → read_request bytes ≡ Ok head
    → request_body head ≡ Ok b → IsBody (beginning b) behind false text rest → IsRequest (bytes ++ behind) head text rest
request_row bytes behind head b text rest read framed is =
    let gives : GivesRequest (Ok head) bytes = subst (λ r. GivesRequest (told r) bytes) read (request_is_read bytes).0 in
    record {
      text = gives.0;
      behind = behind;
      framing = b;
      reads = (gives.1.0.0, ap (λ t. t ++ behind) (gives.1.0.1 ∙ append-nil (print_request gives.0)));
      few = gives.1.1;
      sees = gives.2;
      framed = framed;
      body = is;
    }

abbrev asked : List ℕ → List Pair → RequestHead
asked method fields = record { method = method; target = codes "/"; version = Http11; fields = (codes "Host", codes "a") ∷ fields }

abbrev get : List ℕ
get = codes "GET / HTTP/1.1\r\nHost: a\r\n\r\n"

abbrev gets : RequestHead
gets = asked (codes "GET") []

abbrev post : List ℕ
post = codes "POST / HTTP/1.1\r\nHost: a\r\nContent-Length: 5\r\n\r\n"

abbrev posts : RequestHead
posts = asked (codes "POST") ((codes "Content-Length", codes "5") ∷ [])

abbrev put : List ℕ
put = codes "PUT / HTTP/1.1\r\nHost: a\r\nTransfer-Encoding: chunked\r\n\r\n"

abbrev puts : RequestHead
puts = asked (codes "PUT") ((codes "Transfer-Encoding", codes "chunked") ∷ [])

get_row : IsRequest (get ++ codes "POST") gets [] (codes "POST")
unfolding is_token_byte trim_ows is_utf8 chars lib.Utf8.encode
get_row = request_row get (codes "POST") gets body.None [] (codes "POST") refl refl (1, refl)

post_row : IsRequest (post ++ codes "helloGET") posts (codes "hello") (codes "GET")
unfolding is_token_byte trim_ows is_utf8 chars lib.Utf8.encode
post_row = request_row post (codes "helloGET") posts (body.Length 5) (codes "hello") (codes "GET") refl refl (6, refl)

put_row : IsRequest (put ++ codes "5\r\nhello\r\n0\r\n\r\nGET") puts (codes "hello") (codes "GET")
unfolding is_token_byte trim_ows is_utf8 chars lib.Utf8.encode first_of matches_from
put_row = request_row put (codes "5\r\nhello\r\n0\r\n\r\nGET") puts body.Chunked (codes "hello") (codes "GET") refl refl (7, refl)

-- ---- as they go on

abbrev web : Setup
web = record relay_setup { http = true; heads = the_heads }

abbrev over : ℕ → List ℕ → Item
over n bytes = Moved Client n (ToServer 1) bytes

-- behind so many items of a client that sends this, with a server that is there
abbrev at : List ℕ → ℕ → TraceState
at bytes n =
    let recorded = record no_answers { connects = Some (stream [] false) ∷ [] } in
    behind n web (towards (NodeAt node_at) (start web (stream bytes false) recorded))

-- from the beginning: behind the fourth item the head is about to be sent
get_goes : Forwards web (at get 4) (over 0 get ∷ Read Client 0 ∷ []) (at get 6)
unfolding next_item is_token_byte trim_ows is_utf8 chars lib.Utf8.encode first_of matches_from print_request
get_goes = (at get 5, refl, refl, (refl, refl))

-- a request's head is about to be sent, and so much of the client's isn't read yet
abbrev heading : RequestHead → Body → (unread : List ℕ) → TraceState
heading head b unread = record (start web (stream unread false) no_answers) {
  phase = Heading Client;
  host = request_host (record { head = head; body = b; persists = true; expects = false }) (first_host web);
  server = There (stream [] false);
  sent = record no_bytes { number = 1 };
}

-- and so much was sent
abbrev behind_it : TraceState → (unread : List ℕ) → Phase → (sent : ℕ) → TraceState
behind_it l unread phase sent = record l { phase = phase; client = stream unread false; sent = record l.sent { server = sent } }

-- the bytes of a body go one after another
abbrev letter : List ℕ → Item
letter text = over 1 text

abbrev post_items : List Item
post_items =
    over 0 post ∷ letter (codes "h") ∷ letter (codes "e") ∷ letter (codes "l") ∷ letter (codes "l") ∷ letter (codes "o")
    ∷ Read Client 0 ∷ []

abbrev posting : TraceState
posting = heading posts (body.Length 5) (codes "hello")

abbrev posted : (unread : List ℕ) → (left sent : ℕ) → TraceState
posted unread left sent = behind_it posting unread (Forwarding Client (state.Left left) false) sent

post_goes : Forwards web posting post_items (behind_it posting [] AtResponse 52)
unfolding next_item print_request
post_goes = (
  posted (codes "hello") 5 47,
  refl,
  refl,
  (
    posted (codes "ello") 4 48,
    refl,
    refl,
    (
      posted (codes "llo") 3 49,
      refl,
      refl,
      (posted (codes "lo") 2 50, refl, refl, (posted (codes "o") 1 51, refl, refl, (posted [] 0 52, refl, refl, (refl, refl)))),
    ),
  ),
)

post_sends : server_output 1 post_items ≡ post ++ codes "hello"
post_sends = refl

-- a chunk goes without its extension
abbrev last : List ℕ
last = codes "\r\n0\r\n\r\n"

abbrev chunk_items : List Item
chunk_items = letter (codes "h") ∷ letter (codes "i") ∷ over 7 last ∷ []

abbrev put_items : List Item
put_items = over 0 put ∷ over 5 (codes "2\r\n") ∷ chunk_items

abbrev putting : TraceState
putting = heading puts body.Chunked (codes "2;x\r\nhi" ++ last)

abbrev done : (unread : List ℕ) → BodyState → (standing : Bool) → (sent : ℕ) → TraceState
done unread s standing sent = behind_it putting (unread ++ last) (Forwarding Client s standing) sent

chunk_goes : Forwards web (done (codes "hi") (state.Chunk 2) true 58) chunk_items (behind_it putting [] AtResponse 67)
unfolding next_item print_request first_of matches_from
chunk_goes = (done (codes "i") (state.Chunk 1) true 59, refl, refl, (done [] state.NextLine true 60, refl, refl, (refl, refl)))

put_goes : Forwards web putting put_items (behind_it putting [] AtResponse 67)
unfolding next_item print_request first_of matches_from
put_goes =
    (done (codes "2;x\r\nhi") state.FirstLine false 55, refl, refl, (done (codes "hi") (state.Chunk 2) true 58, refl, refl, chunk_goes))

put_sends : server_output 1 put_items ≡ put ++ codes "2\r\nhi\r\n0\r\n\r\n"
put_sends = refl
