-- What HTTP commands leave of the fields that tell how long a request's body is (RFC 9112, 6.3).
use Rattle.std.specs.Prelude.{◌≡◌, ℕ, List, codes, Option, Some, None, ⊤}
use Rattle.event_order.specs.declared.event.EventName.{EventName}
use Rattle.http_heads.specs.Fields.{named}
use Rattle.http_heads.specs.Laws.{IsRequestHead}
use Rattle.http_heads.specs.declared.request.RequestHead.{RequestHead}
use Rattle.http_frames.specs.declared.state.Body.TheVariants as body
use Rattle.irule_http.specs.Commands.{http_step}
use Rattle.irule_http.specs.Laws.{left}
use Rattle.irule_http.specs.declared.state.Http.{Http}

-- a head says the same as another, and is one that its type holds where the other is
pub record SaysSame (a b : RequestHead) : Type 0 where
  pub is : IsRequestHead a → IsRequestHead b
  pub version : b.version ≡ a.version
  pub codings : named (codes "transfer-encoding") b.fields ≡ named (codes "transfer-encoding") a.fields
  pub sizes : named (codes "content-length") b.fields ≡ named (codes "content-length") a.fields

abbrev pub HeadSays : (old new : Option RequestHead) → Type 0
HeadSays None None = ⊤
HeadSays (Some a) (Some b) = SaysSame a b
HeadSays old new = ⊥

pub record FramingStays (h t : Http) : Type 0 where
  pub head : HeadSays h.request t.request
  -- without a body nothing is put in its place
  pub payload : h.body ≡ body.None → t.payload ≡ h.payload

-- No command of a rule changes how long a request's head says that its body is.
abbrev pub FramingIsKept : Type 0
FramingIsKept = (event : EventName) (h : Http) (words : List (List ℕ)) → FramingStays h (left (http_step event h words))
