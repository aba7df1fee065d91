-- Heads at the spans that were found.
use Rattle.std.proofs.Common.{◌≡◌, ℕ, ◌≤◌, true, List, map, length, take, drop, sym, ap, subst, ◌∙◌, arith, Ok}
use Rattle.std.specs.Prelude.{All}
use Rattle.std.specs.List.{list_all}
use Rattle.std.proofs.Math.Seq.{drop-length}
use Rattle.std.proofs.lemmas.List.{length-map, length-take}
use Rattle.httparse.specs.Grammar as grammar
use Rattle.httparse.specs.Grammar.{Field, IsField, ReadsRequest, ReadsResponse, is_token, is_value_byte, reason_phrase, status_code}
use Rattle.httparse.specs.Spans.{AreFieldsAt, IsRequestAt, IsResponseAt, header_bytes, name_and_value, span_bytes}
use Rattle.httparse.specs.declared.spans.HeaderSpan.{HeaderSpan}
use Rattle.httparse.specs.declared.spans.RequestSpans.{RequestSpans}
use Rattle.httparse.specs.declared.spans.ResponseSpans.{ResponseSpans}
use Rattle.http_heads.specs.Fields.{is_field}
use Rattle.http_heads.specs.Heads.{GivesRequest, GivesResponse}
use Rattle.http_heads.specs.Lines.{IsTarget, minor_of}
use Rattle.http_heads.specs.declared.request.RequestHead.{RequestHead}
use Rattle.http_heads.specs.declared.response.ResponseHead.{ResponseHead}
use Rattle.http_heads.proofs.ReadFields.{fields_read, is_token_of, test_of}

pub found_fields : (bytes : List ℕ) (headers : List HeaderSpan) (count : ℕ) (fs : List Field) → AreFieldsAt bytes headers count fs → All IsField fs
    → list_all is_field (map (header_bytes bytes) (take count headers)) ≡ true
found_fields bytes headers count fs at all = ap (list_all is_field) at ∙ fields_read fs all

few_fields : (bytes : List ℕ) (headers : List HeaderSpan) (count : ℕ) (fs : List Field) → AreFieldsAt bytes headers count fs → length headers ≤ 100
    → length fs ≤ 100
few_fields bytes headers count fs at few =
    let same = ap length at in
    omega (arith, few, same, length-map fs name_and_value, length-map (take count headers) (header_bytes bytes), length-take count headers)

module _ (bytes : List ℕ) (headers : List HeaderSpan) (found : RequestSpans) (h : grammar.RequestHead) (at : IsRequestAt bytes headers found h) where
  pub found_method : (method : List ℕ) → method ≡ span_bytes bytes found.method → is_token method ≡ true
  found_method method is = ap is_token (is ∙ at.method) ∙ is_token_of h.method at.reads.0.method

  pub found_target : (target : List ℕ) → target ≡ span_bytes bytes found.path → IsTarget target
  found_target target is = subst IsTarget (sym (is ∙ at.path))
      (record { some = at.reads.0.target.0; visible = at.reads.0.target.1; characters = at.reads.0.target_text })

  pub found_request : (head : RequestHead) → found.len ≡ length bytes → length headers ≤ 100
      → head.method ≡ span_bytes bytes found.method → head.target ≡ span_bytes bytes found.path → minor_of head.version ≡ found.version
      → head.fields ≡ map (header_bytes bytes) (take found.headers headers) → GivesRequest (Ok head) bytes
  found_request head whole few method target version fields = (
    h,
    (subst (ReadsRequest bytes h) (ap (λ n. drop n bytes) whole ∙ drop-length bytes) at.reads, few_fields bytes headers found.headers h.fields at.fields few),
    record {
      method = method ∙ at.method;
      target = target ∙ at.path;
      version = version ∙ at.version;
      fields = fields ∙ at.fields;
    },
  )

module _ (bytes : List ℕ) (headers : List HeaderSpan) (found : ResponseSpans) (h : grammar.ResponseHead) (at : IsResponseAt bytes headers found h) where
  pub found_reason : (reason : List ℕ) → reason ≡ span_bytes bytes found.reason → list_all is_value_byte reason ≡ true
  found_reason reason is = ap (list_all is_value_byte) (is ∙ at.reason) ∙ test_of is_value_byte (reason_phrase h.reason) at.reads.0.reason

  pub found_response : (head : ResponseHead) → found.len ≡ length bytes → length headers ≤ 100
      → minor_of head.version ≡ found.version → head.status ≡ found.code → head.reason ≡ span_bytes bytes found.reason
      → head.fields ≡ map (header_bytes bytes) (take found.headers headers) → GivesResponse (Ok head) bytes
  found_response head whole few version status reason fields = (
    h,
    (subst (ReadsResponse bytes h) (ap (λ n. drop n bytes) whole ∙ drop-length bytes) at.reads, few_fields bytes headers found.headers h.fields at.fields few),
    record {
      version = version ∙ at.version;
      status = status ∙ at.code;
      reason = reason ∙ at.reason;
      fields = fields ∙ at.fields;
    },
  )
