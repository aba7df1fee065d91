-- How many bytes of a connection lie unread, and how many are pending to its sides (flow control
-- between the two TCP connections of a full proxy: each holds a bounded number of bytes).
use Rattle.std.specs.Prelude.{ℕ, ◌<◌, ◌≤◌, List, [], ◌∷◌, length, Option, Some, None, ◌≡◌, Ok}
use Rattle.px_bytes.specs.declared.addr.Side.{Side}
use Rattle.px_bytes.specs.declared.fault.HttpFault.{HttpFault}
use Rattle.conn_trace.specs.Gates.{TakenCounts, no_bytes, to_take, sent_from, Met}
use Rattle.conn_trace.specs.Http.{the_heads}
use Rattle.conn_trace.specs.Item.{Item, Passed}
use Rattle.conn_trace.specs.Queries.{unread_limit}
use Rattle.conn_trace.specs.Setup.{Setup}
use Rattle.conn_trace.specs.State.{Stream, ServerSide, NoServer, Sought, There, Leaving, Retired}
use Rattle.conn_trace.specs.State.{Answers, TraceState}
use Rattle.conn_trace.specs.Trace.{Unfolds, start}
use Rattle.irule_http.specs.Laws.{HeadsWithin, RequestWithin, ResponseWithin}
use Rattle.irule_http.specs.declared.state.Http.{Http}
use Rattle.irule_http.specs.declared.state.Request.{Request}
use Rattle.irule_http.specs.declared.state.Response.{Response}
use Rattle.http_heads.specs.Fronts.{head_limit}

-- no more than n bytes of a stream lie unread
abbrev pub FewUnread : ℕ → Stream → Type 0
FewUnread n s = length s.unread ≤ n

abbrev pub FewOfServer : ℕ → ServerSide → Type 0
FewOfServer n NoServer = Unit {0}
FewOfServer n Sought = Unit {0}
FewOfServer n (There s) = FewUnread n s
FewOfServer n (Leaving b s) = FewUnread n s
FewOfServer n (Retired s) = FewUnread n s

-- of connections that were made and not taken yet
abbrev pub FewOfMade : ℕ → List (Option Stream) → Type 0
FewOfMade n [] = Unit {0}
FewOfMade n (None ∷ more) = FewOfMade n more
FewOfMade n (Some s ∷ more) = FewUnread n s × FewOfMade n more

-- no more than n bytes of any of its streams
pub record FewLie (n : ℕ) (client : Stream) (server : ServerSide) (connects : List (Option Stream))
    : Type 0 where
  pub of_client : FewUnread n client
  pub of_server : FewOfServer n server
  pub of_made : FewOfMade n connects

abbrev pub UnreadWithin : ℕ → TraceState → Type 0
UnreadWithin n l = FewLie n l.client l.server l.answers.connects

-- how many bytes an item passes on by a choice
abbrev pub passed_by : Item → ℕ
passed_by (Passed from to bytes) = length bytes
passed_by other = 0

-- no item passes on more than n bytes
abbrev pub PassWithin : ℕ → List Item → Type 0
PassWithin n [] = Unit {0}
PassWithin n (i ∷ items) = (passed_by i ≤ n) × PassWithin n items

-- no item lengthens what lies unread, and none passes on more than that
pub record ReadsOnly (n : ℕ) (m : TraceState) (items : List Item) : Type 0 where
  pub within : UnreadWithin n m
  pub passes : PassWithin n items

abbrev pub UnreadStaysWithin : Type 0
UnreadStaysWithin =
    (g : Setup) (n : ℕ) (l m : TraceState) (items : List Item)
    → UnreadWithin n l → Unfolds g l items m → ReadsOnly n m items

-- fewer bytes than these are pending to a side
abbrev pub pending_limit : ℕ
pending_limit = 2400000

abbrev pub refusal_limit : ℕ
refusal_limit = 128

-- A head that was read has no more than 100 fields and these bytes as it is written: the 65,536 of what was
-- read, and what a reader adds to its lines.
abbrev pub read_limit : ℕ
read_limit = 66000

-- How much heads have: those that are read, and so each that is sent of such a one. A fault is answered
-- without a gate.
pub record HeadsFit (g : Setup) : Type 0 where
  pub request : (bytes : List ℕ) (r : Request) → length bytes ≤ head_limit
      → g.heads.request bytes ≡ Ok r → RequestWithin read_limit (Some r.head)
  pub response : (came : Option Request) (bytes : List ℕ) (r : Response) → length bytes ≤ head_limit
      → g.heads.response came bytes ≡ Ok r → ResponseWithin read_limit (Some r.head)
  pub sent : (side : Side) (h : Http) → HeadsWithin read_limit h → length (g.heads.sent side h) ≤ 131072
  pub interim : (r : Response) → ResponseWithin read_limit (Some r.head)
      → length (g.heads.interim r) ≤ 131072
  pub refusal : (f : HttpFault) → length (g.heads.refusal f) ≤ refusal_limit

-- Those of every connection that speaks HTTP do.
abbrev pub TheHeadsFit : Type 0
TheHeadsFit = (g : Setup) → g.heads ≡ the_heads → HeadsFit g

-- Where each item met its gate, and none passed on more than may lie unread, fewer are pending than
-- 2,400,000: 65,535 at a gate, and behind it at most twice 1,114,112 of the bodies of one event
-- (`TCP::respond`, `HTTP::respond`), 1,048,576 that they release, those of one pass, or a head with what was
-- gathered of its body.
abbrev pub PendingIsBounded : Type 0
PendingIsBounded =
    (g : Setup) → HeadsFit g → (client : Stream) (answers : Answers) (m : TraceState) (items : List Item)
    (took : TakenCounts) (side : Side) → Unfolds g (start g client answers) items m
    → Met no_bytes took items → PassWithin unread_limit items
    → to_take (sent_from no_bytes items) took side < pending_limit
