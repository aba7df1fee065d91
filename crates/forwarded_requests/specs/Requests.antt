-- A request that stands at the front of a stream: RFC 9112, 2.1.
use Rattle.std.specs.Prelude.{◌≡◌, ℕ, ◌≤◌, List, length, false, Ok}
use Rattle.httparse.specs.Grammar as grammar
use Rattle.httparse.specs.Grammar.{ReadsRequest}
use Rattle.http_heads.specs.Heads.{SeesRequest}
use Rattle.http_heads.specs.declared.request.RequestHead.{RequestHead}
use Rattle.http_frames.specs.Bodies.{request_body}
use Rattle.http_frames.specs.States.{beginning}
use Rattle.http_frames.specs.declared.state.Body.{Body}
use Rattle.forwarded_requests.specs.Bodies.{IsBody}

-- its head, with at most 100 fields, the bytes of its body, and what stands behind it
pub record IsRequest (held : List ℕ) (head : RequestHead) (bytes rest : List ℕ) : Type 0 where
  pub text : grammar.RequestHead
  pub behind : List ℕ
  pub framing : Body
  pub reads : ReadsRequest held text behind
  pub few : length text.fields ≤ 100
  pub sees : SeesRequest text head
  pub framed : request_body head ≡ Ok framing
  pub body : IsBody (beginning framing) behind false bytes rest

-- it is one request
abbrev pub RequestIsOne : Type 0
RequestIsOne = (held : List ℕ) (a b : RequestHead) (x y rest other : List ℕ)
    → IsRequest held a x rest → IsRequest held b y other → (a ≡ b) × (x ≡ y) × (rest ≡ other)
