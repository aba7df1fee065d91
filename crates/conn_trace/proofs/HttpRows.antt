-- Worked rows of HTTP, by computation, with a small reader of heads.
use Rattle.std.proofs.Common.{◌≡◌, refl, ℕ, List, [], ◌∷◌, ◌++◌, Bool, true, false, not, Option, Some, None, Ok, Err, Result, codes, map, if◌then◌else◌, nat_eq}
use Rattle.std.specs.Prelude.{slice_index}
use Rattle.std.specs.Fmt.{digits}
use Rattle.httparse.specs.Grammar.{print_response}
use Rattle.memchr.specs.Find.{first_of, matches_from}
use Rattle.px_bytes.specs.declared.addr.Side.{Side}
use Rattle.px_bytes.specs.declared.addr.Side.TheVariants.{Client, Server}
use Rattle.px_bytes.specs.declared.fault.HttpFault.{HttpFault}
use Rattle.px_bytes.specs.declared.fault.HttpFault.TheVariants.{BadHead, BadChunk, ShortBody, Switching}
use Rattle.tcl_vars.specs.Scopes.{no_level}
use Rattle.tcl_trees.specs.Tree.{Tree, trees_of}
use Rattle.tcl_trees.specs.Tree as tree
use Rattle.tcl_trees.specs.declared.node.Verb.TheVariants as verb
use Rattle.rule_model.specs.Evaluator.{evaluate}
use Rattle.event_order.specs.declared.event.EventName.{EventName}
use Rattle.event_order.specs.declared.event.EventName.TheVariants.{HttpRequest, HttpRequestData}
use Rattle.http_heads.specs.Fields.{Pair}
use Rattle.http_heads.specs.declared.line.Version.TheVariants.{Http11}
use Rattle.http_heads.specs.declared.response.ResponseHead.{ResponseHead}
use Rattle.http_frames.specs.Bodies.{response_body}
use Rattle.http_frames.specs.declared.state.Body.{Body}
use Rattle.http_frames.specs.declared.state.Body.TheVariants as body
use Rattle.http_answers.specs.Answers.{reason_of}
use Rattle.irule_net.specs.declared.state.Target.TheVariants.{NodeAt}
use Rattle.irule_http.specs.State.{no_http}
use Rattle.irule_http.specs.declared.state.Request.{Request}
use Rattle.irule_http.specs.declared.state.Response.{Response}
use Rattle.conn_trace.specs.Gates.{Counts, TakenCounts, may_give}
use Rattle.conn_trace.specs.Host.{HostState, commands, first_host}
use Rattle.conn_trace.specs.Http.{Heads}
use Rattle.conn_trace.specs.Item.{Item, Opened, BeforeBodies, Resumed, Connected, Answered, Moved, Read, Sent, Ran, Reused, Retires, Finished, Closed, Http as HttpReason, ToClient, ToServer, Reuses}
use Rattle.conn_trace.specs.Messages.{request_host, response_host}
use Rattle.conn_trace.specs.Places.{begun}
use Rattle.conn_trace.specs.Routing.{chosen, detaching, routed}
use Rattle.conn_trace.specs.Setup.{Handler, Setup}
use Rattle.conn_trace.specs.State.{Answers, AtReuse, BeforeSelect, GivingUp, TraceState, ForBytes, ForReuse, Up, Waits, no_answers}
use Rattle.conn_trace.specs.Trace.{next_item, trace, behind, start}
use Rattle.conn_trace.proofs.Rows.{setup, no_handlers, node_at, towards, stream, responds}

-- ---- a small reader: `P` is a chunked POST, `G` a GET and `H` a HEAD without a body

abbrev crlf : List ℕ
crlf = 13 ∷ 10 ∷ []

abbrev asked : List ℕ → Body → Request
asked method b = record { head = record { method = method; target = codes "/"; version = Http11; fields = [] }; body = b; persists = true; expects = false }

-- the third digit of a status tells it: 200 has two bytes, 203 lasts to the end, 304 has a length, and 101 has none
abbrev head_told : (last : ℕ) → ResponseHead
head_told last =
    if nat_eq last 49 then told 101 [] else (if nat_eq last 52 then told 304 two else (if nat_eq last 51 then told 203 [] else told 200 two))
  where
    told : ℕ → List Pair → ResponseHead
    told status fields = record { version = Http11; status = status; reason = codes "OK"; fields = fields }

    two : List Pair
    two = (codes "Content-Length", codes "2") ∷ []

abbrev to_end : Body → Bool
to_end body.ToEnd = true
to_end b = false

abbrev told_by : ResponseHead → Result Body HttpFault → Result Response HttpFault
told_by head (Ok b) = Ok (record { head = head; body = b; persists = not (to_end b) })
told_by head (Err f) = Err f

abbrev method_of : Option Request → List ℕ
method_of None = []
method_of (Some r) = r.head.method

abbrev told_to : Option Request → ResponseHead → Result Response HttpFault
told_to came head = told_by head (response_body head (method_of came) Http11)

abbrev asked_as : (first : ℕ) → Result Request HttpFault
asked_as first =
    if nat_eq first 80 then Ok (asked (codes "POST") body.Chunked)
    else (if nat_eq first 71 then Ok (asked (codes "GET") body.None)
    else (if nat_eq first 72 then Ok (asked (codes "HEAD") body.None) else Err BadHead))

abbrev small : Heads
small = record {
  request = λ bytes. asked_as (slice_index bytes 0);
  response = λ came bytes. told_to came (head_told (slice_index bytes 11));
  sent = λ side h. head_of side;
  interim = λ r. [];
  refusal = λ f. codes "400";
}
  where
    head_of : Side → List ℕ
    head_of Client = codes "Q "
    head_of Server = codes "S "

abbrev web_setup : (EventName → List Handler) → Setup
web_setup handlers = record (setup no_level [] handlers) { http = true; heads = small }

abbrev web_start : (EventName → List Handler) → List ℕ → Answers → TraceState
web_start handlers bytes answers = towards (NodeAt node_at) (start (web_setup handlers) (stream bytes false) answers)

abbrev post : List ℕ
post = codes "POST / HTTP/1.1" ++ crlf ++ codes "Host: a" ++ crlf ++ crlf

abbrev get : List ℕ
get = codes "GET / HTTP/1.1" ++ crlf ++ codes "Host: a" ++ crlf ++ crlf

abbrev chunks : List ℕ
chunks = codes "5;x" ++ crlf ++ codes "hello" ++ crlf ++ codes "0" ++ crlf ++ crlf

abbrev ok : List ℕ
ok = codes "HTTP/1.1 200 OK" ++ crlf ++ crlf ++ codes "ok"

-- bytes of a body that go over one by one
abbrev bytes_over : List ℕ → List Item
bytes_over bytes = map (λ b. Moved Client 1 (ToServer 1) (b ∷ [])) bytes

-- a POST with a chunked body, its answer, and a GET on the same two connections
abbrev kept : Answers
kept = record no_answers { connects = Some (stream (ok ++ ok) false) ∷ []; choices = Reuses true ∷ [] }

abbrev post_items : List Item
post_items =
    Read Client 28 ∷ Resumed ∷ Connected node_at ∷ Answered true ∷ Moved Client 0 (ToServer 1) (codes "Q ")
    ∷ Moved Client 5 (ToServer 1) (codes "5" ++ crlf) ∷ (bytes_over (codes "hello") ++ Moved Client 7 (ToServer 1) (crlf ++ codes "0" ++ crlf ++ crlf)
    ∷ Read Server 19 ∷ Moved Server 0 ToClient (codes "S ") ∷ Moved Server 1 ToClient (codes "o") ∷ Moved Server 1 ToClient (codes "k") ∷ Read Server 0 ∷ [])

abbrev get_items : List Item
get_items =
    Read Client 27 ∷ Reused true ∷ Moved Client 0 (ToServer 1) (codes "Q ") ∷ Read Client 0
    ∷ Read Server 19 ∷ Moved Server 0 ToClient (codes "S ") ∷ Moved Server 1 ToClient (codes "o") ∷ Moved Server 1 ToClient (codes "k") ∷ Read Server 0 ∷ []

pub post_row : trace 17 (web_setup no_handlers) (web_start no_handlers (post ++ chunks ++ get) kept) ≡ post_items
unfolding next_item first_of matches_from
post_row = refl

kept_row : trace 40 (web_setup no_handlers) (web_start no_handlers (post ++ chunks ++ get) kept) ≡ post_items ++ get_items
unfolding next_item first_of matches_from
kept_row = refl

kept_waits : next_item (web_setup no_handlers) (behind 26 (web_setup no_handlers) (web_start no_handlers (post ++ chunks ++ get) kept)) ≡ Waits (ForBytes Client)
unfolding next_item first_of matches_from
kept_waits = refl

-- gone: its closing event runs, it is given up, and another connection is made
abbrev gone : Answers
gone = record no_answers { connects = Some (stream ok true) ∷ Some (stream ok false) ∷ []; choices = Reuses false ∷ [] }

gone_row : trace 40 (web_setup no_handlers) (web_start no_handlers (get ++ get) gone)
    ≡ Read Client 27 ∷ Resumed ∷ Connected node_at ∷ Answered true ∷ Moved Client 0 (ToServer 1) (codes "Q ") ∷ Read Client 0
    ∷ Read Server 19 ∷ Moved Server 0 ToClient (codes "S ") ∷ Moved Server 1 ToClient (codes "o") ∷ Moved Server 1 ToClient (codes "k") ∷ Read Server 0
    ∷ Read Client 27 ∷ Reused false ∷ Resumed ∷ Retires ∷ Resumed ∷ Connected node_at ∷ Answered true ∷ Moved Client 0 (ToServer 2) (codes "Q ") ∷ Read Client 0
    ∷ Read Server 19 ∷ Moved Server 0 ToClient (codes "S ") ∷ Moved Server 1 ToClient (codes "o") ∷ Moved Server 1 ToClient (codes "k") ∷ Read Server 0 ∷ []
unfolding next_item first_of matches_from
gone_row = refl

-- whether it is used again wasn't recorded yet
reuse_waits : next_item (web_setup no_handlers) (behind 12 (web_setup no_handlers) (web_start no_handlers (get ++ get) (record gone { choices = [] }))) ≡ Waits ForReuse
unfolding next_item first_of matches_from
reuse_waits = refl

-- a rule answers the POST: what is left of its body is dropped, and the next request is read
abbrev plain : List ℕ → Tree
plain text = tree.word (trees_of (tree.plain text ∷ []))

abbrev says : Tree
says = tree.script (trees_of (tree.command verb.Named (trees_of (plain (codes "HTTP::respond") ∷ plain (codes "200") ∷ plain (codes "content") ∷ plain (codes "no") ∷ [])) ∷ []))

abbrev no : List ℕ
no = codes "HTTP/1.0 200 OK" ++ crlf ++ codes "Server: BigIP" ++ crlf ++ codes "Connection: Keep-Alive" ++ crlf ++ codes "Content-Length: 2" ++ crlf ++ crlf ++ codes "no"

abbrev answers : EventName → List Handler
answers HttpRequest = record (responds []) { body = says } ∷ []
answers other = []

dropped_row : trace 12 (web_setup answers) (web_start answers (post ++ chunks ++ get) no_answers)
    ≡ Read Client 28 ∷ Opened BeforeBodies ∷ Sent ToClient no ∷ Ran HttpRequest 5
    ∷ Read Client 5 ∷ Read Client 1 ∷ Read Client 1 ∷ Read Client 1 ∷ Read Client 1 ∷ Read Client 1 ∷ Read Client 7 ∷ Read Client 27 ∷ []
unfolding next_item evaluate commands first_of matches_from reason_of print_response digits
dropped_row = refl

-- a chunked body is gathered whole and then answered: nothing of it is left to be dropped, and the next request is read
abbrev collects : Tree
collects = tree.script (trees_of (tree.command verb.Named (trees_of (plain (codes "HTTP::collect") ∷ [])) ∷ []))

abbrev gathers : EventName → List Handler
gathers HttpRequest = record (responds []) { body = collects } ∷ []
gathers HttpRequestData = record (responds []) { body = says } ∷ []
gathers other = []

gathered_row : trace 16 (web_setup gathers) (web_start gathers (post ++ chunks ++ get) no_answers)
    ≡ Read Client 28 ∷ Opened BeforeBodies ∷ Ran HttpRequest 2
    ∷ Read Client 5 ∷ Read Client 1 ∷ Read Client 1 ∷ Read Client 1 ∷ Read Client 1 ∷ Read Client 1 ∷ Read Client 7
    ∷ Opened BeforeBodies ∷ Sent ToClient no ∷ Ran HttpRequestData 5 ∷ Read Client 0 ∷ Read Client 27 ∷ Opened BeforeBodies ∷ []
unfolding next_item evaluate commands first_of matches_from reason_of print_response digits
gathered_row = refl

-- a chunk line that is none: 400, also behind an answer
bad_chunk_row : trace 20 (web_setup answers) (web_start answers (post ++ codes "g") no_answers)
    ≡ Read Client 28 ∷ Opened BeforeBodies ∷ Sent ToClient no ∷ Ran HttpRequest 5 ∷ Sent ToClient (codes "400") ∷ Finished (HttpReason BadChunk) ∷ []
unfolding next_item evaluate commands first_of matches_from reason_of print_response digits
bad_chunk_row = refl

-- ---- responses

abbrev reply : List ℕ → List ℕ
reply status = codes "HTTP/1.1 " ++ status ++ codes " OK" ++ crlf ++ crlf

abbrev made_once : List ℕ → (ended : Bool) → Answers
made_once bytes ended = record no_answers { connects = Some (stream bytes ended) ∷ [] }

-- up to the head of the response, of a request without a body
abbrev asks : (length : ℕ) → List Item
asks length = Read Client length ∷ Resumed ∷ Connected node_at ∷ Answered true ∷ Moved Client 0 (ToServer 1) (codes "Q ") ∷ Read Client 0 ∷ []

-- it switches to another protocol: nothing is read of it, and it has no answer
switching_row : trace 20 (web_setup no_handlers) (web_start no_handlers get (made_once (reply (codes "101")) false)) ≡ asks 27 ++ Finished (HttpReason Switching) ∷ []
unfolding next_item first_of matches_from
switching_row = refl

-- a response to HEAD and a 304 have no body, whatever length they tell: the next request is waited for
head_row : trace 20 (web_setup no_handlers) (web_start no_handlers (codes "HEAD / HTTP/1.1" ++ crlf ++ crlf) (made_once (reply (codes "200") ++ codes "ok") false))
    ≡ asks 19 ++ Read Server 19 ∷ Moved Server 0 ToClient (codes "S ") ∷ Read Server 0 ∷ []
unfolding next_item first_of matches_from
head_row = refl

unmodified_row : trace 20 (web_setup no_handlers) (web_start no_handlers get (made_once (reply (codes "304") ++ codes "ok") false))
    ≡ asks 27 ++ Read Server 19 ∷ Moved Server 0 ToClient (codes "S ") ∷ Read Server 0 ∷ []
unfolding next_item first_of matches_from
unmodified_row = refl

-- a body that lasts to the end of the stream: both connections close behind it
to_end_row : trace 20 (web_setup no_handlers) (web_start no_handlers get (made_once (reply (codes "203") ++ codes "ok") true))
    ≡ asks 27 ++ Read Server 19 ∷ Moved Server 0 ToClient (codes "S ") ∷ Moved Server 1 ToClient (codes "o") ∷ Moved Server 1 ToClient (codes "k") ∷ Read Server 0
    ∷ Resumed ∷ Retires ∷ Finished Closed ∷ []
unfolding next_item first_of matches_from
to_end_row = refl

-- a server that ends before its response cuts it short
short_row : trace 20 (web_setup no_handlers) (web_start no_handlers get (made_once [] true)) ≡ asks 27 ++ Finished (HttpReason ShortBody) ∷ []
unfolding next_item first_of matches_from
short_row = refl

-- the given-up server connection still drains: another is asked for once it took both bytes
abbrev drained : Counts
drained = (behind 15 (web_setup no_handlers) (web_start no_handlers (get ++ get) gone)).sent

abbrev took : ℕ → TakenCounts
took n = record { client = None; servers = Some n ∷ [] }

drains_row : may_give (Connected node_at) drained (took 1) ≡ false
unfolding next_item first_of matches_from
drains_row = refl

drained_row : may_give (Connected node_at) drained (took 2) ≡ true
unfolding next_item first_of matches_from
drained_row = refl

-- ---- giving a server connection up

-- the open one serves the request's choice, and so it is used again
abbrev served : HostState
served = by_host (first_host (web_setup no_handlers))
  where
    by_host : HostState → HostState
    by_host h = record h { http = Some (record no_http { serves = Some (chosen h) }) }

served_row : routed Up served ≡ AtReuse
served_row = refl

next_served_row : (r : Request) → routed Up (request_host r served) ≡ AtReuse
next_served_row r = refl

-- a rule gave it up in an event of the request
abbrev detached : HostState
detached = by_net served
  where
    by_net : HostState → HostState
    by_net h = record h { net = record h.net { wishes = record h.net.wishes { detaches = true } } }

-- the next events don't forget it, nor where the request goes then
detach_row : routed Up (begun HttpRequestData Up (begun HttpRequestData Up detached)) ≡ GivingUp BeforeSelect
detach_row = refl

-- the next request does, and the response
next_request_row : (r : Request) → detaching (begun HttpRequest Up (request_host r detached)) ≡ false
next_request_row r = refl

request_row : (r : Request) → detaching (request_host r (begun HttpRequestData Up detached)) ≡ false
request_row r = refl

response_row : (r : Response) → detaching (response_host r (begun HttpRequestData Up detached)) ≡ false
response_row r = refl
