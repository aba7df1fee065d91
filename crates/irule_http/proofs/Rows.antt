-- Worked rows, by computation: `GET /a?b HTTP/1.1` with `Host: h`, in the events of a rule.
use Rattle.std.proofs.Common.{◌≡◌, refl, ℕ, List, [], ◌∷◌, ◌++◌, codes, Bool, true, false, Option, Some, None}
use Rattle.px_bytes.specs.FaultText.{syntax_error, too_long, wrong_arity}
use Rattle.px_bytes.specs.Host.{Gives, Faults, Sent}
use Rattle.px_bytes.specs.declared.addr.Side.TheVariants.{Client}
use Rattle.event_order.specs.declared.event.EventName.{EventName}
use Rattle.event_order.specs.declared.event.EventName.TheVariants.{HttpRequest, HttpRequestData, LbSelected}
use Rattle.http_frames.specs.declared.state.Body.TheVariants as body
use Rattle.http_heads.specs.Fields.{Pair}
use Rattle.http_heads.specs.declared.line.Version.TheVariants.{Http11}
use Rattle.http_heads.specs.declared.request.RequestHead.{RequestHead}
use Rattle.irule_net.specs.FaultText.{not_here}
use Rattle.irule_http.specs.Commands.{http_step}
use Rattle.irule_http.specs.FaultText.{already_answered}
use Rattle.irule_http.specs.State.{no_http}
use Rattle.irule_http.specs.declared.state.Http.{Http}

abbrev head : List Pair → RequestHead
head fields = record { method = codes "GET"; target = codes "/a?b"; version = Http11; fields = (codes "Host", codes "h") ∷ fields }

abbrev asked : Http
asked = record no_http {
  number = 1;
  came = Some (record { head = head []; body = body.None; persists = true; expects = false });
  request = Some (head []);
}

-- what stands before and behind the first `?`
path_row : http_step LbSelected asked (codes "HTTP::path" ∷ []) ≡ Gives (codes "/a") asked []
path_row = refl

query_row : http_step HttpRequest asked (codes "HTTP::query" ∷ []) ≡ Gives (codes "b") asked []
query_row = refl

-- an edit behind the selection isn't there, and its number of words is tested first
set_row : http_step LbSelected asked (codes "HTTP::uri" ∷ codes "/x" ∷ []) ≡ Faults (not_here (codes "HTTP::uri")) asked []
set_row = refl

words_row : http_step LbSelected asked (codes "HTTP::uri" ∷ codes "/x" ∷ codes "y" ∷ [])
    ≡ Faults (wrong_arity (codes "HTTP::uri")) asked []
words_row = refl

-- one other word alone is a field's name
field_row : http_step HttpRequest asked (codes "HTTP::header" ∷ codes "HOST" ∷ []) ≡ Gives (codes "h") asked []
field_row = refl

-- a target holds no blank
blank_row : http_step HttpRequest asked (codes "HTTP::uri" ∷ codes "/a b" ∷ [])
    ≡ Faults (syntax_error (codes "HTTP::uri")) asked []
blank_row = refl

-- behind an answer an edit is refused, and `HTTP::close` is not
abbrev answered : Http
answered = record asked { answer = Some false; made = 100 }

late_row : http_step HttpRequest answered (codes "HTTP::release" ∷ [])
    ≡ Faults (already_answered (codes "HTTP::release")) answered []
late_row = refl

close_row : http_step HttpRequest answered (codes "HTTP::close" ∷ []) ≡ Gives [] (record answered { closes = true }) []
close_row = refl

-- a message without a body has no payload to replace
payload_row : http_step HttpRequestData asked (codes "HTTP::payload" ∷ codes "replace" ∷ codes "0" ∷ codes "0" ∷ codes "x" ∷ [])
    ≡ Faults (not_here (codes "HTTP::payload")) asked []
payload_row = refl
