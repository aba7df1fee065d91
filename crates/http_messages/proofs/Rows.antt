-- Worked rows, by computation: requests and responses as they come, and their faults.
use Rattle.std.proofs.Common.{◌≡◌, ℕ, List, ◌∷◌, [], ◌++◌, codes, refl, Bool, true, false, Option, Some, None, Result, Ok, Err}
use Rattle.std.specs.Str.{chars, is_utf8}
use Rattle.httparse.specs.Grammar.{is_token_byte, trim_ows}
use Rattle.px_bytes.specs.declared.fault.HttpFault.{HttpFault}
use Rattle.px_bytes.specs.declared.fault.HttpFault.TheVariants.{BadHead, Framing, Host, Method}
use Rattle.http_frames.specs.declared.state.Body.{Body}
use Rattle.http_frames.specs.declared.state.Body.TheVariants as body
use Rattle.http_heads.specs.declared.line.Version.TheVariants.{Http11}
use Rattle.http_messages.specs.Messages.{request_of, response_of}
use Rattle.irule_http.specs.declared.state.Request.{Request}
use Rattle.irule_http.specs.declared.state.Response.{Response}

-- what a message says of its body, of whether its connection persists, and of `Expect`
pub record Says : Type 0 where
  pub body : Body
  pub persists : Bool
  pub expects : Bool

abbrev says : Result Request HttpFault → Result Says HttpFault
says (Err f) = Err f
says (Ok r) = Ok (record { body = r.body; persists = r.persists; expects = r.expects })

abbrev said : Body → (persists expects : Bool) → Result Says HttpFault
said b persists expects = Ok (record { body = b; persists = persists; expects = expects })

abbrev asked : List ℕ → Result Says HttpFault
asked text = says (request_of text)

-- RFC 9112, 9.3: one of 1.1 persists, one of 1.0 where it says so
plain : asked (codes "GET / HTTP/1.1\r\nHost: a\r\n\r\n") ≡ said body.None true false
unfolding is_token_byte trim_ows is_utf8 chars lib.Utf8.encode
plain = refl

closing : asked (codes "GET / HTTP/1.1\r\nHost: a\r\nConnection: te, Close\r\n\r\n") ≡ said body.None false false
unfolding is_token_byte trim_ows is_utf8 chars lib.Utf8.encode
closing = refl

-- also where Connection names itself
hiding : asked (codes "GET / HTTP/1.1\r\nHost: a\r\nConnection: close, connection\r\n\r\n") ≡ said body.None false false
unfolding is_token_byte trim_ows is_utf8 chars lib.Utf8.encode
hiding = refl

old : asked (codes "GET / HTTP/1.0\r\n\r\n") ≡ said body.None false false
unfolding is_token_byte trim_ows is_utf8 chars lib.Utf8.encode
old = refl

kept : asked (codes "GET / HTTP/1.0\r\nConnection: Keep-Alive\r\n\r\n") ≡ said body.None true false
unfolding is_token_byte trim_ows is_utf8 chars lib.Utf8.encode
kept = refl

-- RFC 9110, 10.1.1: a length of 0 is a body, none is none
waiting : asked (codes "PUT / HTTP/1.1\r\nHost: a\r\nExpect: 100-Continue\r\nContent-Length: 0\r\n\r\n") ≡ said (body.Length 0) true true
unfolding is_token_byte trim_ows is_utf8 chars lib.Utf8.encode
waiting = refl

idle : asked (codes "PUT / HTTP/1.1\r\nHost: a\r\nExpect: 100-continue\r\n\r\n") ≡ said body.None true false
unfolding is_token_byte trim_ows is_utf8 chars lib.Utf8.encode
idle = refl

-- of several faults the first counts
two_lengths : asked (codes "POST / HTTP/1.1\r\nHost: a\r\nContent-Length: 3\r\nTransfer-Encoding: chunked\r\n\r\n") ≡ Err Framing
unfolding is_token_byte trim_ows is_utf8 chars lib.Utf8.encode
two_lengths = refl

two_hosts : asked (codes "CONNECT a:1 HTTP/1.1\r\nHost: a\r\nHost: b\r\n\r\n") ≡ Err Host
unfolding is_token_byte trim_ows is_utf8 chars lib.Utf8.encode
two_hosts = refl

tunnel : asked (codes "CONNECT a:1 HTTP/1.1\r\nHost: a\r\n\r\n") ≡ Err Method
unfolding is_token_byte trim_ows is_utf8 chars lib.Utf8.encode
tunnel = refl

framed_tunnel : asked (codes "CONNECT a:1 HTTP/1.1\r\nHost: a\r\nContent-Length: x\r\n\r\n") ≡ Err Framing
unfolding is_token_byte trim_ows is_utf8 chars lib.Utf8.encode
framed_tunnel = refl

-- a response to HEAD has no body whatever its length, and it persists by its own head
abbrev head : Request
head = record {
  head = record { method = codes "HEAD"; target = codes "/"; version = Http11; fields = [] };
  body = body.None;
  persists = true;
  expects = false;
}

abbrev answer : Result Response HttpFault → Result Says HttpFault
answer (Err f) = Err f
answer (Ok r) = Ok (record { body = r.body; persists = r.persists; expects = false })

to_head : answer (response_of (Some head) (codes "HTTP/1.1 200 OK\r\nContent-Length: 5\r\nConnection: close\r\n\r\n")) ≡ said body.None false false
unfolding is_token_byte trim_ows
to_head = refl
