-- Bytes are at most one head.
use Rattle.std.proofs.Common.{◌≡◌, [], map, refl, sym, ap, ◌∙◌, arith}
use Rattle.httparse.specs.Grammar as grammar
use Rattle.httparse.specs.Grammar.{reason_phrase, status_code}
use Rattle.httparse.specs.Spans.{name_and_value}
use Rattle.httparse.proofs.GrammarLemmas.{request_unique, response_unique}
use Rattle.http_heads.specs.Laws.{RequestIsOne, ResponseIsOne}
use Rattle.http_heads.specs.Lines.{minor_of}
use Rattle.http_heads.specs.declared.line.Version.{Version}
use Rattle.http_heads.specs.declared.line.Version.TheVariants.{Http10, Http11}

one_version : (a b : Version) → minor_of a ≡ minor_of b → a ≡ b
one_version Http10 Http10 same = refl
one_version Http10 Http11 same = absurd (omega (arith, same))
one_version Http11 Http10 same = absurd (omega (arith, same))
one_version Http11 Http11 same = refl

pub request_one : RequestIsOne
request_one bytes a b x y =
    let same = (request_unique bytes x.0 y.0 [] [] x.1.0 y.1.0).0 in
    let method = x.2.method ∙ ap (λ (h : grammar.RequestHead). h.method) same ∙ sym y.2.method in
    let target = x.2.target ∙ ap (λ (h : grammar.RequestHead). h.target) same ∙ sym y.2.target in
    let version = one_version a.version b.version (x.2.version ∙ ap (λ (h : grammar.RequestHead). h.minor) same ∙ sym y.2.version) in
    let fields = x.2.fields ∙ ap (λ (h : grammar.RequestHead). map name_and_value h.fields) same ∙ sym y.2.fields in
    λ i. record { method = method i; target = target i; version = version i; fields = fields i }

pub response_one : ResponseIsOne
response_one bytes a b x y =
    let same = (response_unique bytes x.0 y.0 [] [] x.1.0 y.1.0).0 in
    let version = one_version a.version b.version (x.2.version ∙ ap (λ (h : grammar.ResponseHead). h.minor) same ∙ sym y.2.version) in
    let status = x.2.status ∙ ap status_code same ∙ sym y.2.status in
    let reason = x.2.reason ∙ ap (λ (h : grammar.ResponseHead). reason_phrase h.reason) same ∙ sym y.2.reason in
    let fields = x.2.fields ∙ ap (λ (h : grammar.ResponseHead). map name_and_value h.fields) same ∙ sym y.2.fields in
    λ i. record { version = version i; status = status i; reason = reason i; fields = fields i }
