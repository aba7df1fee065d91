-- A request at the front of a stream is one.
use Rattle.std.proofs.Common.{◌≡◌, refl, sym, ap, subst, ◌∙◌, ℕ, List, map, false, arith}
use Rattle.httparse.specs.Grammar as grammar
use Rattle.httparse.specs.Spans.{name_and_value}
use Rattle.httparse.proofs.GrammarLemmas.{request_unique}
use Rattle.http_heads.specs.Lines.{minor_of}
use Rattle.http_heads.specs.declared.line.Version.{Version}
use Rattle.http_heads.specs.declared.line.Version.TheVariants.{Http10, Http11}
use Rattle.http_heads.specs.declared.request.RequestHead.{RequestHead}
use Rattle.http_frames.specs.Bodies.{request_body}
use Rattle.http_frames.specs.States.{beginning}
use Rattle.forwarded_requests.specs.Bodies.{IsBody}
use Rattle.forwarded_requests.specs.Requests.{IsRequest, RequestIsOne}
use Rattle.forwarded_requests.proofs.ReadBodies.{body_one}

one_version : (a b : Version) → minor_of a ≡ minor_of b → a ≡ b
one_version Http10 Http10 same = refl
one_version Http10 Http11 same = absurd (omega (arith, same))
one_version Http11 Http10 same = absurd (omega (arith, same))
one_version Http11 Http11 same = refl

one_head : (held : List ℕ) (a b : RequestHead) (x y rest other : List ℕ) (p : IsRequest held a x rest) (q : IsRequest held b y other) → p.text ≡ q.text → a ≡ b
one_head held a b x y rest other p q same =
    let method = p.sees.method ∙ ap (λ (h : grammar.RequestHead). h.method) same ∙ sym q.sees.method in
    let target = p.sees.target ∙ ap (λ (h : grammar.RequestHead). h.target) same ∙ sym q.sees.target in
    let version = one_version a.version b.version (p.sees.version ∙ ap (λ (h : grammar.RequestHead). h.minor) same ∙ sym q.sees.version) in
    let fields = p.sees.fields ∙ ap (λ (h : grammar.RequestHead). map name_and_value h.fields) same ∙ sym q.sees.fields in
    λ i. record { method = method i; target = target i; version = version i; fields = fields i }

pub request_one : RequestIsOne
request_one held a b x y rest other p q =
    let same = request_unique held p.text q.text p.behind q.behind p.reads q.reads in
    let head = one_head held a b x y rest other p q same.0 in
    let framing : p.framing ≡ q.framing = (let e = sym p.framed ∙ ap request_body head ∙ q.framed in cc) in
    let body : IsBody (beginning q.framing) q.behind false x rest =
    subst (λ f. IsBody (beginning f) q.behind false x rest) framing (subst (λ t. IsBody (beginning p.framing) t false x rest) same.1 p.body) in
    let one = body_one (beginning q.framing) q.behind false x y rest other body q.body in
    (head, one.0, one.1)
