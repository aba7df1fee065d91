-- A head that is forwarded is a head, and hardly longer.
use Rattle.std.proofs.Common.{◌≡◌, ℕ, zero, suc, ◌+◌, ◌/◌, ◌%◌, ◌^◌, ◌<◌, ◌≤◌, Bool, true, false, not, ◌&&◌, cond, Option, Some, None, List, [], ◌∷◌, ◌++◌, length, map, refl, sym, ap, ap₂, subst, ◌∙◌, arith, length-append}
use Rattle.std.specs.Prelude.{codes, filter, nat_lt, ◌==◌, ◌||◌, sum_by}
use Rattle.std.specs.Fmt.{decimal, digit_glyph, digits, digits_onto}
use Rattle.std.specs.List.{list_all}
use Rattle.std.proofs.lemmas.Bool.{and_parts}
use Rattle.std.proofs.lemmas.Bool.Decides.{nat_tests}
use Rattle.std.proofs.lemmas.Fmt.{length-decimal-le}
use Rattle.std.proofs.lemmas.List.{append_assoc, length-map}
use Rattle.std.proofs.lemmas.List.Folds.{list_all-append}
use Rattle.std.proofs.lemmas.List.Sums.{sum_by-cons}
use Rattle.httparse.specs.Grammar.{crlf, is_token, is_token_byte, is_value_byte, print_end}
use Rattle.px_bytes.proofs.Tests.{by_cases, on_if}
use Rattle.http_heads.specs.Fields.{AreFields, Pair, is_field, is_named, is_value, line_length, without}
use Rattle.http_heads.specs.Forwarded.{connection_field, fields_out, forwarded_request, forwarded_response, omitted_of, with_length}
use Rattle.http_heads.specs.Laws.{FitsWord, ForwardedRequestIsShort, ForwardedResponseIsShort}
use Rattle.http_heads.specs.Passed.{first_alone, goes_on, passed, unframed}
use Rattle.http_heads.specs.Written.{lines_of, request_line, status_line, written_request, written_response}
use Rattle.http_heads.specs.declared.forwarded.ConnectionOption.{ConnectionOption}
use Rattle.http_heads.specs.declared.forwarded.ConnectionOption.TheVariants.{Close, KeepAlive}
use Rattle.http_heads.specs.declared.forwarded.Omitted.TheVariants as omitted
use Rattle.http_heads.specs.declared.request.RequestHead.{RequestHead}
use Rattle.http_heads.specs.declared.response.ResponseHead.{ResponseHead}
use Rattle.http_heads.proofs.FilterFields.{all_left, few_left}
use Rattle.http_heads.proofs.FirstFields.{all_first, few_first}
use Rattle.http_heads.proofs.ForwardedFields.{lines_append, request_out, response_out}
use Rattle.http_heads.proofs.ShorterFields.{shorter_filter, shorter_first}
use Rattle.http_heads.proofs.WrittenLengths.{lines_length, request_length, response_length}
use Rattle.http_heads.proofs.WrittenLines.{request_text, response_text}

joined : (xs ys zs : List ℕ) → (xs ++ ys) ++ zs ≡ xs ++ (ys ++ zs)
joined xs ys zs = simp append_assoc

-- ---- as they are written part by part

pub forwarded_text : (size : Option ℕ) (head : RequestHead)
    → (request_line head ++ lines_of (fields_out omitted.Expect size false head.fields)) ++ codes "\r\n"
    ≡ written_request (forwarded_request size head)
forwarded_text size head =
    let fields = (forwarded_request size head).fields in
    ap (λ fs. (request_line head ++ lines_of fs) ++ codes "\r\n") (request_out size head)
    ∙ joined (request_line head) (lines_of fields) (codes "\r\n")
    ∙ request_text (forwarded_request size head)

pub answered_text : (size : Option ℕ) (option : Option ConnectionOption) (head : ResponseHead)
    → ((status_line head ++ lines_of (fields_out (omitted_of head.status) size false head.fields)) ++ lines_of (connection_field option)) ++ codes "\r\n"
    ≡ written_response (forwarded_response size option head)
answered_text size option head =
    let fs = fields_out (omitted_of head.status) size false head.fields in
    let fields = (forwarded_response size option head).fields in
    let both : lines_of fs ++ lines_of (connection_field option) ≡ lines_of fields =
    sym (lines_append fs (connection_field option)) ∙ ap (λ gs. lines_of (gs ++ connection_field option)) (response_out size head) in
    ap (λ t. t ++ codes "\r\n") (joined (status_line head) (lines_of fs) (lines_of (connection_field option)) ∙ ap (λ t. status_line head ++ t) both)
    ∙ joined (status_line head) (lines_of fields) (codes "\r\n")
    ∙ response_text (forwarded_response size option head)

-- ---- they are fields

glyph_is_value : (d : ℕ) → d < 10 → is_value_byte (digit_glyph false d) ≡ true
glyph_is_value d low = grind (arith, nat_tests)

digits_are_value : (k n : ℕ) (after : List ℕ) → is_value after ≡ true → is_value (digits_onto k 10 false n after) ≡ true
digits_are_value zero n after all = all
digits_are_value (suc k) n after all =
    let more = digit_glyph false (n % 10) ∷ after in
    let first : is_value more ≡ true = ap₂ (λ s t. s && t) (glyph_is_value (n % 10) (omega arith)) all in
    on_if (λ t. is_value t ≡ true) (n / 10 == 0) first (digits_are_value k (n / 10) more first)

decimal_is_value : (n : ℕ) → is_value (decimal n) ≡ true
unfolding digits
decimal_is_value n = digits_are_value 64 n [] refl

field_by : (b : Bool) (n : ℕ) (f : Pair) → is_field f ≡ true → is_field (cond b (f.0, decimal n) f) ≡ true
field_by true n f is =
    let parts = and_parts (is_token f.0) (is_value f.1) is in
    ap₂ (λ s t. s && t) parts.0 (decimal_is_value n)
field_by false n f is = is

told_field : (size : Option ℕ) (f : Pair) → is_field f ≡ true → is_field (with_length size f) ≡ true
told_field None f is = is
told_field (Some n) f is = field_by (is_named (codes "content-length") f) n f is

told_fields : (size : Option ℕ) (fs : List Pair) → list_all is_field fs ≡ true
    → list_all is_field (map (with_length size) fs) ≡ true
told_fields size [] all = refl
told_fields size (f ∷ fs) all =
    let both = and_parts (is_field f) (list_all is_field fs) all in
    ap₂ (λ s t. s && t) (told_field size f both.0) (told_fields size fs both.1)

abbrev on : Pair → Bool
on f = goes_on [] f.0

passed_fields : (fs : List Pair) → list_all is_field fs ≡ true → list_all is_field (passed [] fs) ≡ true
passed_fields fs all = all_first (codes "content-length") (filter on fs) (all_left on fs all)

passed_few : (fs : List Pair) → length (passed [] fs) ≤ length fs
passed_few fs = omega (arith, few_first (codes "content-length") (filter on fs), few_left on fs)

pub request_fields : (size : Option ℕ) (head : RequestHead) → AreFields head.fields
    → AreFields (forwarded_request size head).fields
request_fields size head are =
    let fs = without (codes "expect") head.fields in
    let all = all_left (λ f. not (is_named (codes "expect") f)) head.fields are.are in
    record {
      are = told_fields size (passed [] fs) (passed_fields fs all);
      few = omega (arith, are.few, length-map (passed [] fs) (with_length size), passed_few fs, few_left (λ f. not (is_named (codes "expect") f)) head.fields);
    }

unframed_by : (b d : Bool) (fs : List Pair) → list_all is_field fs ≡ true
    → list_all is_field (cond b (without (codes "transfer-encoding") (without (codes "content-length") fs)) (cond d (without (codes "transfer-encoding") fs) fs)) ≡ true
unframed_by true d fs all =
    all_left (λ f. not (is_named (codes "transfer-encoding") f)) (without (codes "content-length") fs)
    (all_left (λ f. not (is_named (codes "content-length") f)) fs all)
unframed_by false true fs all = all_left (λ f. not (is_named (codes "transfer-encoding") f)) fs all
unframed_by false false fs all = all

connection_token : is_token (codes "Connection") ≡ true
unfolding is_token_byte
connection_token = refl

option_field : (option : Option ConnectionOption) → list_all is_field (connection_field option) ≡ true
option_field None = refl
option_field (Some Close) = ap₂ (λ s t. s && t) (ap₂ (λ s t. s && t) connection_token refl) refl
option_field (Some KeepAlive) = ap₂ (λ s t. s && t) (ap₂ (λ s t. s && t) connection_token refl) refl

pub response_fields : (size : Option ℕ) (option : Option ConnectionOption) (head : ResponseHead) → AreFields head.fields
    → list_all is_field (forwarded_response size option head).fields ≡ true
response_fields size option head are =
    let fs = unframed head.status head.fields in
    let all = unframed_by (nat_lt head.status 200 || head.status == 204) (head.status == 304) head.fields are.are in
    list_all-append is_field (map (with_length size) (passed [] fs)) (connection_field option)
    ∙ ap₂ (λ s t. s && t) (told_fields size (passed [] fs) (passed_fields fs all)) (option_field option)

-- ---- their lengths

abbrev tells : Pair → Bool
tells f = is_named (codes "content-length") f

line_by : (b : Bool) (n : ℕ) (f : Pair) → n < 2 ^ 64 → line_length (cond b (f.0, decimal n) f) ≤ line_length f + 20
line_by true n f fits = omega (arith, length-decimal-le 20 n (omega arith) (omega (arith, fits)) fits)
line_by false n f fits = omega arith

line_short : (size : Option ℕ) (f : Pair) → FitsWord size → line_length (with_length size f) ≤ line_length f + 20
line_short None f fits = omega arith
line_short (Some n) f fits = line_by (tells f) n f fits

untold : (size : Option ℕ) (f : Pair) → tells f ≡ false → with_length size f ≡ f
untold None f other = refl
untold (Some n) f other = ap (λ t. cond t (f.0, decimal n) f) other

-- no other field tells a length
plain_others : (size : Option ℕ) (fs : List Pair) → map (with_length size) (without (codes "content-length") fs) ≡ without (codes "content-length") fs
plain_others size [] = refl
plain_others size (f ∷ fs) =
    let others = without (codes "content-length") fs in
    by_cases (λ t. map (with_length size) (cond (not t) (f ∷ others) others) ≡ cond (not t) (f ∷ others) others) (tells f)
    (λ is. plain_others size fs) (λ other. ap₂ (λ g gs. g ∷ gs) (untold size f other) (plain_others size fs))

first_told : (size : Option ℕ) (fs : List Pair) → FitsWord size
    → sum_by line_length (map (with_length size) (first_alone (codes "content-length") fs)) ≤ sum_by line_length (first_alone (codes "content-length") fs) + 20
first_told size [] fits = omega arith
first_told size (f ∷ fs) fits =
    let others = without (codes "content-length") fs in
    let rest = first_alone (codes "content-length") fs in
    let g = with_length size f in
    by_cases (λ t. sum_by line_length (map (with_length size) (cond t (f ∷ others) (f ∷ rest))) ≤ sum_by line_length (cond t (f ∷ others) (f ∷ rest)) + 20) (tells f)
    (λ is. omega (arith, sum_by-cons line_length g (map (with_length size) others), sum_by-cons line_length f others, ap (sum_by line_length) (plain_others size fs), line_short size f fits))
    (λ other. omega (arith, sum_by-cons line_length g (map (with_length size) rest), sum_by-cons line_length f rest, ap line_length (untold size f other), first_told size fs fits))

passed_short : (size : Option ℕ) (fs : List Pair) → FitsWord size
    → sum_by line_length (map (with_length size) (passed [] fs)) ≤ sum_by line_length fs + 20
passed_short size fs fits =
    omega (arith, first_told size (filter on fs) fits, shorter_first (codes "content-length") (filter on fs), shorter_filter on fs)

pub request_short : ForwardedRequestIsShort
request_short size head fits =
    let fs = without (codes "expect") head.fields in
    omega (arith, request_length (forwarded_request size head), request_length head, passed_short size fs fits, shorter_filter (λ f. not (is_named (codes "expect") f)) head.fields)

unframed_short : (b d : Bool) (fs : List Pair)
    → sum_by line_length (cond b (without (codes "transfer-encoding") (without (codes "content-length") fs)) (cond d (without (codes "transfer-encoding") fs) fs))
    ≤ sum_by line_length fs
unframed_short true d fs =
    omega (arith, shorter_filter (λ f. not (is_named (codes "transfer-encoding") f)) (without (codes "content-length") fs), shorter_filter (λ f. not (is_named (codes "content-length") f)) fs)
unframed_short false true fs = shorter_filter (λ f. not (is_named (codes "transfer-encoding") f)) fs
unframed_short false false fs = omega arith

option_short : (option : Option ConnectionOption) → length (lines_of (connection_field option)) ≤ 24
option_short None = omega arith
option_short (Some Close) = omega arith
option_short (Some KeepAlive) = omega arith

-- fields one behind another
both_sums : (fs gs : List Pair) → sum_by line_length (fs ++ gs) ≡ sum_by line_length fs + length (lines_of gs)
both_sums fs gs =
    let all = ap length (lines_append fs gs) ∙ length-append (lines_of fs) (lines_of gs) in
    omega (arith, all, lines_length (fs ++ gs), lines_length fs)

pub response_short : ForwardedResponseIsShort
response_short size option head fits =
    let fs = unframed head.status head.fields in
    omega (
      arith,
      response_length (forwarded_response size option head),
      response_length head,
      both_sums (map (with_length size) (passed [] fs)) (connection_field option),
      passed_short size fs fits,
      option_short option,
      unframed_short (nat_lt head.status 200 || head.status == 204) (head.status == 304) head.fields,
    )
