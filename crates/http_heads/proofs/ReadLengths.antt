-- A head that was received is hardly longer as it is written than as it came.
use Rattle.std.proofs.Common.{◌≡◌, ℕ, zero, suc, ◌+◌, ◌*◌, ◌≤◌, Bool, true, false, cond, List, [], ◌∷◌, ◌++◌, length, map, take, drop, Option, Some, None, Result, Ok, Err, refl, sym, ap, subst, ◌∙◌, arith, length-append, true≢false}
use Rattle.std.specs.Prelude.{◌==◌, codes, flat_map, is_some, nat_lt, sum_by}
use Rattle.std.specs.Str.{bytes_eq}
use Rattle.std.proofs.lemmas.List.{length-drop, length-map, take-append-drop}
use Rattle.std.proofs.lemmas.List.Sums.{sum_by-cons}
use Rattle.std.proofs.lemmas.Bool.{ltb-true}
use Rattle.httparse.specs.Grammar as grammar
use Rattle.httparse.specs.Grammar.{Field, LineEnd, crlf, lf, print_blank, print_end, print_field, print_reason, print_request, print_response, print_section, print_version, reason_phrase}
use Rattle.httparse.specs.Spans.{name_and_value}
use Rattle.px_bytes.specs.declared.fault.HttpFault.{HttpFault}
use Rattle.px_bytes.specs.declared.fault.HttpFault.TheVariants.{Host}
use Rattle.http_heads.specs.Fields.{Pair, last_place, line_length}
use Rattle.http_heads.specs.Heads.{GivesRequest, GivesResponse}
use Rattle.http_heads.specs.Laws.{RequestStaysShort, ResponseStaysShort}
use Rattle.http_heads.specs.Received.{asked_for, connection_of, host_put, hosted, kept, placed, received_by, received_request, received_response, value_set, without_options}
use Rattle.http_heads.specs.Hosts.{host_fits}
use Rattle.http_heads.specs.Passed.{is_kept}
use Rattle.http_heads.specs.Targets.{authority_at, authority_length, authority_of, path_of, rest_of}
use Rattle.http_heads.specs.Written.{written_request, written_response}
use Rattle.http_heads.specs.declared.request.RequestHead.{RequestHead}
use Rattle.http_heads.specs.declared.response.ResponseHead.{ResponseHead}
use Rattle.http_heads.proofs.FilterFields.{few_left}
use Rattle.http_heads.proofs.ShorterFields.{shorter_filter, trim_shorter}
use Rattle.http_heads.proofs.WrittenLengths.{request_length, response_length}

-- ---- as it came

end_some : (e : LineEnd) → 1 ≤ length (print_end e)
end_some crlf = omega arith
end_some lf = omega arith

raw_line : (f : Field) → line_length (name_and_value f) ≤ length (print_field f) + 2
raw_line f =
    let front = f.name ++ 58 ∷ f.raw in
    let size : length (print_field f) ≡ length front + length (print_end f.end) = length-append front (print_end f.end) in
    omega (arith, size, length-append f.name (58 ∷ f.raw), end_some f.end, trim_shorter f.raw)

lines_read : (fs : List Field) → sum_by line_length (map name_and_value fs) ≤ length (flat_map print_field fs) + 2 * length fs
lines_read [] = omega arith
lines_read (f ∷ fs) =
    let size : length (flat_map print_field (f ∷ fs)) ≡ length (print_field f) + length (flat_map print_field fs) =
    length-append (print_field f) (flat_map print_field fs) in
    let sum : sum_by line_length (map name_and_value (f ∷ fs)) ≡ line_length (name_and_value f) + sum_by line_length (map name_and_value fs) =
    sum_by-cons line_length (name_and_value f) (map name_and_value fs) in
    omega (arith, size, sum, raw_line f, lines_read fs)

request_bytes : (h : grammar.RequestHead)
    → length h.method + length h.target + length (flat_map print_field h.fields) + 12 ≤ length (print_request h)
unfolding print_request
request_bytes h =
    let version = print_version h.minor in
    let flat = flat_map print_field h.fields in
    let first = print_blank h.blank ++ h.method in
    let second = first ++ 32 ∷ h.target in
    let third = second ++ 32 ∷ version in
    let fourth = third ++ print_end h.line_end in
    let nine : length (32 ∷ version) ≡ 9 = refl in
    let whole : length (print_request h) ≡ length fourth + length (flat ++ print_end h.last) = length-append fourth (flat ++ print_end h.last) in
    omega (
      arith,
      whole,
      length-append flat (print_end h.last),
      length-append third (print_end h.line_end),
      length-append second (32 ∷ version),
      nine,
      length-append first (32 ∷ h.target),
      length-append (print_blank h.blank) h.method,
      end_some h.last,
      end_some h.line_end,
    )

reason_some : (r : Option (List ℕ)) → length (reason_phrase r) ≤ length (print_reason r)
reason_some None = omega arith
reason_some (Some phrase) = omega arith

response_bytes : (h : grammar.ResponseHead)
    → length h.digits + length (reason_phrase h.reason) + length (flat_map print_field h.fields) + 11 ≤ length (print_response h)
unfolding print_response
response_bytes h =
    let version = print_version h.minor in
    let flat = flat_map print_field h.fields in
    let first = print_blank h.blank ++ version in
    let second = first ++ 32 ∷ h.digits in
    let third = second ++ print_reason h.reason in
    let fourth = third ++ print_end h.line_end in
    let eight : length version ≡ 8 = refl in
    let whole : length (print_response h) ≡ length fourth + length (flat ++ print_end h.last) = length-append fourth (flat ++ print_end h.last) in
    omega (
      arith,
      whole,
      length-append flat (print_end h.last),
      length-append third (print_end h.line_end),
      length-append second (print_reason h.reason),
      eight,
      length-append first (32 ∷ h.digits),
      length-append (print_blank h.blank) version,
      end_some h.last,
      end_some h.line_end,
      reason_some h.reason,
    )

request_read : (bytes : List ℕ) (head : RequestHead) → GivesRequest (Ok head) bytes
    → (length head.fields ≤ 100) × (length (written_request head) ≤ length bytes + 203)
request_read bytes head gives =
    let h = gives.0 in
    let sees = gives.2 in
    let few : length head.fields ≤ 100 = omega (arith, ap length sees.fields, length-map h.fields name_and_value, gives.1.1) in
    let size : length bytes ≡ length (print_request h) + 0 = ap length gives.1.0.1 ∙ length-append (print_request h) [] in
    (few, omega (arith, size, gives.1.1, request_bytes h, request_length head, ap length sees.method, ap length sees.target, ap (sum_by line_length) sees.fields, lines_read h.fields))

response_read : (bytes : List ℕ) (head : ResponseHead) → GivesResponse (Ok head) bytes
    → (length head.fields ≤ 100) × (length (written_response head) ≤ length bytes + 203)
response_read bytes head gives =
    let h = gives.0 in
    let sees = gives.2 in
    let few : length head.fields ≤ 100 = omega (arith, ap length sees.fields, length-map h.fields name_and_value, gives.1.1) in
    let size : length bytes ≡ length (print_response h) + 0 = ap length gives.1.0.1 ∙ length-append (print_response h) [] in
    (few, omega (arith, size, gives.1.1, gives.1.0.0.digits.0, response_bytes h, response_length head, ap length sees.reason, ap (sum_by line_length) sees.fields, lines_read h.fields))

-- ---- as rules see it

-- one fields list is hardly longer than another
abbrev HardlyMore : ℕ → List Pair → List Pair → Type 0
HardlyMore more gs fs = (length gs ≤ 100) × (sum_by line_length gs ≤ sum_by line_length fs + more)

kept_less : (fs : List Pair) → length fs ≤ 100 → HardlyMore 0 (kept fs) fs
kept_less fs few =
    let test = λ (f : Pair). is_kept (connection_of fs) f.0 in
    (omega (arith, few, few_left test fs), omega (arith, shorter_filter test fs))

value_sum : (fs : List Pair) (at : ℕ) (value : List ℕ)
    → (length (value_set fs at value) ≡ length fs) × (sum_by line_length (value_set fs at value) ≤ sum_by line_length fs + length value)
value_sum [] at value = (refl, omega arith)
value_sum (f ∷ fs) zero value =
    (refl, omega (arith, sum_by-cons line_length (f.0, value) fs, sum_by-cons line_length f fs))
value_sum (f ∷ fs) (suc at) value =
    let rest = value_sum fs at value in
    (omega (arith, rest.0), omega (arith, rest.1, sum_by-cons line_length f (value_set fs at value), sum_by-cons line_length f fs))

last_sum : (fs : List Pair) (f : Pair)
    → (length (fs ++ f ∷ []) ≡ length fs + 1) × (sum_by line_length (fs ++ f ∷ []) ≡ sum_by line_length fs + line_length f)
last_sum [] f = (refl, omega (arith, sum_by-cons line_length f []))
last_sum (g ∷ fs) f =
    let rest = last_sum fs f in
    (omega (arith, rest.0), omega (arith, rest.1, sum_by-cons line_length g (fs ++ f ∷ []), sum_by-cons line_length g fs))

abbrev some_of : List Pair → Option (List Pair) → List Pair
some_of d None = d
some_of d (Some fs) = fs

-- the Host field is put in
host_less : (authority : List ℕ) (fs gs : List Pair) (at : Option ℕ) (room : Bool) → length fs ≤ 100 → nat_lt (length fs) 100 ≡ room
    → host_put authority fs at ≡ Some gs → HardlyMore (length authority + 8) gs fs
host_less authority fs gs (Some at) room few is put =
    let sum = value_sum fs at authority in
    subst (λ hs. HardlyMore (length authority + 8) hs fs) (ap (some_of gs) put) (omega (arith, sum.0, few), omega (arith, sum.1))
host_less authority fs gs None true few is put =
    let f : Pair = (codes "Host", authority) in
    let sum = last_sum fs f in
    let line : line_length f ≡ length authority + 8 = omega arith in
    let same : Some (fs ++ f ∷ []) ≡ Some gs = sym (ap (λ t. cond t (Some (fs ++ f ∷ [])) None) is) ∙ put in
    let room = ltb-true _ _ is in
    subst (λ hs. HardlyMore (length authority + 8) hs fs) (ap (some_of gs) same) (omega (arith, sum.0, room), omega (arith, sum.1, line))
host_less authority fs gs None false few is put =
    let none : None ≡ Some gs = sym (ap (λ t. cond t (Some (fs ++ (codes "Host", authority) ∷ [])) None) is) ∙ put in
    absurd (true≢false (sym (ap is_some none)))

path_by : (b : Bool) (byte : ℕ) (rest : List ℕ) → length (cond b (byte ∷ rest) (47 ∷ byte ∷ rest)) ≤ length (byte ∷ rest) + 1
path_by true byte rest = omega arith
path_by false byte rest = omega arith

root_by : (b : Bool) → length {A = ℕ} (cond b (42 ∷ []) (47 ∷ [])) ≤ 1
root_by true = omega arith
root_by false = omega arith

path_more : (method rest : List ℕ) → length (path_of method rest) ≤ length rest + 1
path_more method [] = root_by (bytes_eq method (codes "OPTIONS"))
path_more method (byte ∷ rest) = path_by (byte == 47) byte rest

abbrev head_of : RequestHead → Result RequestHead HttpFault → RequestHead
head_of d (Ok head) = head
head_of d (Err f) = d

abbrev is_head : Result RequestHead HttpFault → Bool
is_head (Ok head) = true
is_head (Err f) = false

abbrev IsShort : RequestHead → RequestHead → Type 0
IsShort seen head = (length seen.fields ≤ 100) × (length (written_request seen) ≤ length (written_request head) + 9)

apart_short : (text : List ℕ) (head seen : RequestHead) (o : Option (List Pair)) → length text ≤ length head.target
    → ((gs : List Pair) → o ≡ Some gs → HardlyMore (length (authority_of text) + 8) gs head.fields)
    → asked_for o (path_of head.method (rest_of text)) head ≡ Ok seen → IsShort seen head
apart_short text head seen None inside more is = absurd (true≢false (sym (ap is_head is)))
apart_short text head seen (Some gs) inside more is =
    let n = authority_length text in
    let r : RequestHead = record head { target = path_of head.method (rest_of text); fields = gs } in
    let m = more gs refl in
    let parts : length text ≡ length (authority_of text) + length (rest_of text) =
    sym (ap length (take-append-drop n text)) ∙ length-append (authority_of text) (rest_of text) in
    subst (λ s. IsShort s head) (ap (head_of seen) is)
    (m.0, omega (arith, m.1, inside, parts, request_length r, request_length head, path_more head.method (rest_of text)))

placed_short : (at : Option ℕ) (head seen : RequestHead) → length head.fields ≤ 100 → placed at head ≡ Ok seen → IsShort seen head
placed_short None head seen few is = subst (λ s. IsShort s head) (ap (head_of seen) is) (few, omega arith)
placed_short (Some from) head seen few is =
    let text = drop from head.target in
    let authority = authority_of text in
    let more = λ (gs : List Pair). λ (put : hosted authority head.fields ≡ Some gs).
    host_less authority head.fields gs (last_place (codes "host") head.fields) (nat_lt (length head.fields) 100) few refl put in
    apart_short text head seen (hosted authority head.fields) (omega (arith, length-drop from head.target)) more is

kept_short : (head seen : RequestHead) → length head.fields ≤ 100 → IsShort seen (without_options head) → IsShort seen head
kept_short head seen few short =
    (short.0, omega (arith, short.1, (kept_less head.fields few).1, request_length (without_options head), request_length head))

seen_short : (at : Result (Option ℕ) HttpFault) (hosts : Bool) (head seen : RequestHead) → length head.fields ≤ 100
    → host_fits head.version head.fields ≡ hosts → received_by at head ≡ Ok seen → IsShort seen head
seen_short (Err f) hosts head seen few fits is = absurd (true≢false (sym (ap is_head is)))
seen_short (Ok at) true head seen few fits is =
    let placed_is = sym (ap (λ t. cond t (placed at (without_options head)) (Err Host)) fits) ∙ is in
    kept_short head seen few (placed_short at (without_options head) seen (kept_less head.fields few).0 placed_is)
seen_short (Ok at) false head seen few fits is =
    let none : Err Host ≡ Ok seen = sym (ap (λ t. cond t (placed at (without_options head)) (Err Host)) fits) ∙ is in
    absurd (true≢false (sym (ap is_head none)))

pub request_short : RequestStaysShort
request_short bytes head seen gives is =
    let read = request_read bytes head gives in
    let short = seen_short (authority_at head.method head.target) (host_fits head.version head.fields) head seen read.0 refl is in
    (short.0, omega (arith, short.1, read.1))

pub response_short : ResponseStaysShort
response_short bytes head gives =
    let read = response_read bytes head gives in
    let less = kept_less head.fields read.0 in
    (less.0, omega (arith, less.1, read.1, response_length (received_response head), response_length head))
