-- A head that was written is read back.
use Rattle.std.proofs.Common.{◌≡◌, ℕ, ◌+◌, ◌/◌, ◌%◌, ◌<◌, ◌≤◌, true, ◌&&◌, refl, sym, ap₂, arith, Ok}
use Rattle.std.specs.List.{list_all}
use Rattle.std.specs.Char.{is_ascii_digit}
use Rattle.std.proofs.lemmas.Bool.Decides.{nat_tests}
use Rattle.std.proofs.lemmas.List.{append-nil, length-map}
use Rattle.httparse.specs.Grammar.{is_token, is_value_byte, status_code}
use Rattle.http_heads.specs.Fields.{AreFields}
use Rattle.http_heads.specs.Heads.{GivesRequest, GivesResponse, bare_request, bare_response}
use Rattle.http_heads.specs.Lines.{IsTarget, minor_of}
use Rattle.http_heads.specs.Written.{code_digits, line_of, request_of, response_of, written_request, written_response}
use Rattle.http_heads.specs.declared.line.Version.{Version}
use Rattle.http_heads.specs.declared.line.Version.TheVariants.{Http10, Http11}
use Rattle.http_heads.specs.declared.request.RequestHead.{RequestHead}
use Rattle.http_heads.specs.declared.response.ResponseHead.{ResponseHead}
use Rattle.http_heads.proofs.ReadFields.{come_back, pass_of, token_of}

minor_small : (version : Version) → minor_of version ≤ 1
minor_small Http10 = omega arith
minor_small Http11 = omega arith

pub request_comes_back : (head : RequestHead) → is_token head.method ≡ true → IsTarget head.target → AreFields head.fields
    → GivesRequest (Ok (bare_request head)) (written_request head)
request_comes_back head method target fields =
    let back = come_back head.fields fields.are in (
      request_of head,
      (
        (
          record {
            method = token_of head.method method;
            target = (target.some, target.visible);
            target_text = target.characters;
            minor = minor_small head.version;
            fields = back.are;
          },
          sym (append-nil (written_request head)),
        ),
        omega (arith, fields.few, length-map head.fields line_of),
      ),
      record { method = refl; target = refl; version = refl; fields = sym back.same },
    )

digit_test : (n : ℕ) → n < 10 → is_ascii_digit (48 + n) ≡ true
digit_test n small = grind (arith, nat_tests)

digits_are : (code : ℕ) → code < 1000 → list_all is_ascii_digit (code_digits code) ≡ true
digits_are code small =
    ap₂ (λ s t. s && t) (digit_test (code / 100) (omega arith))
    (ap₂ (λ s t. s && t) (digit_test (code / 10 % 10) (omega arith)) (ap₂ (λ s t. s && t) (digit_test (code % 10) (omega arith)) refl))

code_comes_back : (head : ResponseHead) → head.status < 1000 → head.status ≡ status_code (response_of head)
code_comes_back head small = grind (arith, nat_tests)

pub response_comes_back : (head : ResponseHead) → head.status < 1000 → list_all is_value_byte head.reason ≡ true → AreFields head.fields
    → GivesResponse (Ok (bare_response head)) (written_response head)
response_comes_back head status reason fields =
    let back = come_back head.fields fields.are in (
      response_of head,
      (
        (
          record {
            minor = minor_small head.version;
            digits = (refl, pass_of is_ascii_digit (code_digits head.status) (digits_are head.status status));
            reason = pass_of is_value_byte head.reason reason;
            fields = back.are;
          },
          sym (append-nil (written_response head)),
        ),
        omega (arith, fields.few, length-map head.fields line_of),
      ),
      record { version = refl; status = code_comes_back head status; reason = refl; fields = sym back.same },
    )
