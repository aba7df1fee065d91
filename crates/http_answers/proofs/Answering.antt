-- What an answer sends is a response's head and its content.
use Rattle.std.proofs.Common.{◌≡◌, ℕ, ◌≤◌, ◌<◌, Bool, true, false, not, ◌&&◌, ◌||◌, cond, List, [], ◌∷◌, ◌++◌, length, map, reverse, refl, arith, ap, ap₂, sym, subst, ◌∙◌}
use Rattle.std.proofs.Common.{Err, Option, Some, None, Result, Ok}
use Rattle.std.specs.Prelude.{codes, nat_lt, ◌==◌, ◌^◌, if◌then◌else◌}
use Rattle.std.specs.Char.{is_ascii_digit}
use Rattle.std.specs.Fmt.{decimal}
use Rattle.std.specs.List.{list_all}
use Rattle.std.specs.Str.{bytes_eq}
use Rattle.std.specs.Str.Parse.{AllDigits, digits_value}
use Rattle.std.proofs.lemmas.Bool.{and_parts, le-leb, leb-true, lt-ltb}
use Rattle.std.proofs.lemmas.Bool.Decides.{nat_tests}
use Rattle.std.proofs.lemmas.Fmt.{decimal_is_IsNumeral, length-decimal-le}
use Rattle.std.proofs.lemmas.Str.Parse.{digit_from_value}
use Rattle.std.proofs.lemmas.List.{reverse-append, reverse-reverse}
use Rattle.std.proofs.lemmas.List.Elements.{filter-append}
use Rattle.std.proofs.lemmas.List.Folds.{list_all-append}
use Rattle.httparse.specs.Grammar.{is_ows, is_token, is_token_byte, is_value_byte, skip_ows, trim_ows}
use Rattle.http_frames.specs.Bodies as bodies
use Rattle.http_frames.specs.Bodies.{fields_body, response_body, unless_bodiless, values}
use Rattle.http_frames.specs.declared.state.Body.{Body}
use Rattle.http_frames.specs.declared.state.Body.TheVariants as body
use Rattle.http_frames.proofs.OneLength.{no_length, one_length}
use Rattle.http_heads.specs.Fields.{AreFields, Pair, bare, is_field, is_named, named}
use Rattle.http_heads.specs.Heads.{bare_response}
use Rattle.http_heads.specs.declared.line.Version.{Version}
use Rattle.http_heads.specs.declared.request.RequestHead.{RequestHead}
use Rattle.http_heads.proofs.ReadBack.{response_comes_back}
use Rattle.px_bytes.specs.declared.fault.HttpFault.{HttpFault}
use Rattle.px_bytes.specs.declared.fault.HttpFault.TheVariants.{Framing}
use Rattle.http_answers.specs.Answers.{Answer, answer_fields, answer_head, composed}
use Rattle.http_answers.specs.Answers.{connection_field, content_sent}
use Rattle.http_answers.specs.Answers.{gives_close, is_bodiless, is_close, is_framing}
use Rattle.http_answers.specs.Answers.{is_head_request, is_written}
use Rattle.http_answers.specs.Answers.{length_field, reason_in, reason_of, reasons, server_field}
use Rattle.http_answers.specs.Answers.{written_given}
use Rattle.http_answers.specs.Limits.{response_fits}
use Rattle.http_answers.specs.Laws.{HasContent, IsAnswer, Made, method_of}

-- ---- digits

-- digits are bytes of a value, and no white space
record Plain (ds : List ℕ) : Type 0 where
  bytes : list_all is_value_byte ds ≡ true
  digits : list_all is_ascii_digit ds ≡ true
  visible : list_all (λ b. not (is_ows b)) ds ≡ true

digit_byte : (d : ℕ) → 48 ≤ d → d ≤ 57 → is_value_byte d ≡ true
digit_byte d low high = grind (arith, nat_tests)

digit_digit : (d : ℕ) → 48 ≤ d → d ≤ 57 → is_ascii_digit d ≡ true
digit_digit d low high = grind (arith, nat_tests)

digit_visible : (d : ℕ) → 48 ≤ d → d ≤ 57 → not (is_ows d) ≡ true
digit_visible d low high = grind (arith, nat_tests)

plain : (ds : List ℕ) → AllDigits 10 ds → Plain ds
plain [] h = record { bytes = refl; digits = refl; visible = refl }
plain (d ∷ ds) h =
    let range = digit_from_value d h.0 in
    let low : 48 ≤ d = omega arith in
    let high : d ≤ 57 = omega arith in
    let rest = plain ds h.1 in
    record {
      bytes = ap₂ (λ s t. s && t) (digit_byte d low high) rest.bytes;
      digits = ap₂ (λ s t. s && t) (digit_digit d low high) rest.digits;
      visible = ap₂ (λ s t. s && t) (digit_visible d low high) rest.visible;
    }

not_false : (t : Bool) → not t ≡ true → t ≡ false
not_false true h = sym h
not_false false h = refl

skip_plain : (xs : List ℕ) → list_all (λ b. not (is_ows b)) xs ≡ true → skip_ows xs ≡ xs
skip_plain [] all = refl
skip_plain (b ∷ bs) all =
    let both = and_parts (not (is_ows b)) (list_all (λ c. not (is_ows c)) bs) all in
    ap (λ t. cond t (skip_ows bs) (b ∷ bs)) (not_false (is_ows b) both.0)

visible_back : (xs : List ℕ) → list_all (λ b. not (is_ows b)) xs ≡ true → list_all (λ b. not (is_ows b)) (reverse xs) ≡ true
visible_back [] all = refl
visible_back (b ∷ bs) all =
    let visible : ℕ → Bool = λ c. not (is_ows c) in
    let both = and_parts (not (is_ows b)) (list_all visible bs) all in
    ap (list_all visible) (reverse-append (b ∷ []) bs) ∙ list_all-append visible (reverse bs) (b ∷ [])
    ∙ ap₂ (λ s t. s && t) (visible_back bs both.1) (ap₂ (λ s t. s && t) both.0 refl)

trim_plain : (ds : List ℕ) → list_all (λ b. not (is_ows b)) ds ≡ true → trim_ows ds ≡ ds
unfolding trim_ows
trim_plain ds all =
    ap (λ t. reverse (skip_ows (reverse t))) (skip_plain ds all)
    ∙ ap reverse (skip_plain (reverse ds) (visible_back ds all)) ∙ reverse-reverse ds

-- the length of a content, as it is written
record IsLength (n : ℕ) : Type 0 where
  plain_is : Plain (decimal n)
  size_is : bodies.is_size (decimal n) ≡ true
  value_is : digits_value 10 (decimal n) ≡ n

is_length : (n : ℕ) → n ≤ 1048576 → IsLength n
is_length n few =
    let fits : n < 2 ^ 64 = omega (arith, few) in
    let numeral = decimal_is_IsNumeral n fits in
    let p = plain (decimal n) numeral.0.1 in
    let short = length-decimal-le 7 n (omega arith) (omega (arith, few)) fits in
    record {
      plain_is = p;
      size_is = ap₂ (λ s t. s && t) (lt-ltb 0 (length (decimal n)) numeral.0.0)
          (ap₂ (λ s t. s && t) (le-leb (length (decimal n)) 18 (omega (arith, short))) p.digits);
      value_is = numeral.1;
    }

-- ---- the fields of an answer

-- no field of the name is left among those that are written
abbrev Goes : List ℕ → Type 0
Goes name = (f : Pair) → is_framing f ≡ false → is_named name f ≡ false

or_left : (a b : Bool) → (a || b) ≡ false → a ≡ false
or_left true b h = h
or_left false b h = refl

or_right : (a b : Bool) → (a || b) ≡ false → b ≡ false
or_right true b h = cc
or_right false b h = h

lengths_go : Goes (codes "content-length")
lengths_go f h = or_left (is_named (codes "content-length") f) (is_named (codes "transfer-encoding") f) h

codings_go : Goes (codes "transfer-encoding")
codings_go f h = or_right (is_named (codes "content-length") f) (is_named (codes "transfer-encoding") f) h

written_not : (closed : Bool) (f : Pair) → is_written closed f ≡ true → is_framing f ≡ false
written_not closed f h = not_false (is_framing f) (and_parts (not (is_framing f)) (not (closed && is_close f)) h).0

given_step : (name : List ℕ) (closed : Bool) (f : Pair) (rest : List Pair) (b : Bool) → Goes name → named name rest ≡ []
    → is_written closed f ≡ b → named name (cond b (f ∷ rest) rest) ≡ []
given_step name closed f rest true goes none e =
    ap (λ t. cond t (f ∷ named name rest) (named name rest)) (goes f (written_not closed f e)) ∙ none
given_step name closed f rest false goes none e = none

none_given : (name : List ℕ) → Goes name → (closed : Bool) (fs : List Pair) → named name (written_given closed fs) ≡ []
none_given name goes closed [] = refl
none_given name goes closed (f ∷ fs) =
    given_step name closed f (written_given (closed || is_close f) fs) (is_written closed f) goes
    (none_given name goes (closed || is_close f) fs) refl

kept_step : (b : Bool) (f : Pair) (rest : List Pair) → is_field f ≡ true → list_all is_field rest ≡ true
    → list_all is_field (cond b (f ∷ rest) rest) ≡ true
kept_step true f rest is all = ap₂ (λ s t. s && t) is all
kept_step false f rest is all = all

fields_given : (closed : Bool) (fs : List Pair) → list_all is_field fs ≡ true → list_all is_field (written_given closed fs) ≡ true
fields_given closed [] all = refl
fields_given closed (f ∷ fs) all =
    let both = and_parts (is_field f) (list_all is_field fs) all in
    kept_step (is_written closed f) f (written_given (closed || is_close f) fs) both.0
    (fields_given (closed || is_close f) fs both.1)

-- the fields of its own that are of no name, and those that are fields
record Own (name : List ℕ) : Type 0 where
  goes : Goes name
  server : (b : Bool) → named name (server_field b) ≡ []
  connection : (given closes : Bool) → named name (connection_field given closes) ≡ []

server_length : (b : Bool) → named (codes "content-length") (server_field b) ≡ []
server_length true = refl
server_length false = refl

server_coding : (b : Bool) → named (codes "transfer-encoding") (server_field b) ≡ []
server_coding true = refl
server_coding false = refl

connection_length : (given closes : Bool) → named (codes "content-length") (connection_field given closes) ≡ []
connection_length true closes = refl
connection_length false closes = refl

connection_coding : (given closes : Bool) → named (codes "transfer-encoding") (connection_field given closes) ≡ []
connection_coding true closes = refl
connection_coding false closes = refl

own_lengths : Own (codes "content-length")
own_lengths = record { goes = lengths_go; server = server_length; connection = connection_length }

own_codings : Own (codes "transfer-encoding")
own_codings = record { goes = codings_go; server = server_coding; connection = connection_coding }

abbrev own_length : Answer → List Pair
own_length a = length_field (is_bodiless a.code) (length a.content)

named_answer : (name : List ℕ) (a : Answer) → Own name → named name (answer_fields a) ≡ named name (own_length a)
named_answer name a own =
    let g = written_given false a.given in
    let s = server_field a.server in
    let k = connection_field (gives_close a.given) a.closes in
    let l = own_length a in
    filter-append (is_named name) (g ++ s ++ k) l
    ∙ ap (λ x. x ++ named name l) (filter-append (is_named name) (g ++ s) k
    ∙ ap₂ (λ x y. x ++ y) (filter-append (is_named name) g s
    ∙ ap₂ (λ x y. x ++ y) (none_given name own.goes false a.given) (own.server a.server))
    (own.connection (gives_close a.given) a.closes))

named_bare : (name : List ℕ) (fs : List Pair) → named name (map bare fs) ≡ map bare (named name fs)
named_bare name [] = refl
named_bare name (f ∷ fs) =
    elim (is_named name f) as (λ t. cond t (bare f ∷ named name (map bare fs)) (named name (map bare fs)) ≡ map bare (cond t (f ∷ named name fs) (named name fs))) [
      | true ↦ ap (λ gs. bare f ∷ gs) (named_bare name fs)
      | false ↦ named_bare name fs
    ]

values_bare : (name : List ℕ) (a : Answer) → Own name
    → values name (map bare (answer_fields a)) ≡ map (λ f. f.1) (map bare (named name (own_length a)))
values_bare name a own =
    ap (map (λ f. f.1)) (named_bare name (answer_fields a) ∙ ap (map bare) (named_answer name a own))

coding_by : (b : Bool) (n : ℕ) → map (λ f. f.1) (map bare (named (codes "transfer-encoding") (length_field b n))) ≡ []
coding_by true n = refl
coding_by false n = refl

-- the length that is told, which white space doesn't stand around
size_by : (n : ℕ) → IsLength n
    → map (λ f. f.1) (map bare (named (codes "content-length") (length_field false n))) ≡ decimal n ∷ []
size_by n is = let p = is.plain_is in ap (λ t. t ∷ []) (trim_plain (decimal n) p.visible)

abbrev body_due : Bool → ℕ → Result Body HttpFault
body_due true n = Ok body.ToEnd
body_due false n = Ok (body.Length n)

-- how the length of an answer's body is known by its fields
body_by : (version : Version) (fields : List Pair) (b : Bool) (n : ℕ) → IsLength n
    → values (codes "transfer-encoding") fields ≡ []
    → values (codes "content-length") fields ≡ map (λ f. f.1) (map bare (named (codes "content-length") (length_field b n)))
    → fields_body version fields body.ToEnd ≡ body_due b n
body_by version fields true n is coded sized = no_length version fields body.ToEnd coded sized
body_by version fields false n is coded sized =
    one_length version fields body.ToEnd (decimal n) coded (sized ∙ size_by n is) is.size_is
    ∙ ap (λ v. Ok (body.Length v)) is.value_is

body_is : (version : Version) (a : Answer) → IsLength (length a.content)
    → fields_body version (map bare (answer_fields a)) body.ToEnd ≡ body_due (is_bodiless a.code) (length a.content)
body_is version a is =
    let b = is_bodiless a.code in
    let n = length a.content in
    body_by version (map bare (answer_fields a)) b n is (values_bare (codes "transfer-encoding") a own_codings ∙ coding_by b n)
    (values_bare (codes "content-length") a own_lengths)

-- ---- the head of an answer

server_token : is_token (codes "Server") ≡ true
unfolding is_token_byte
server_token = refl

connection_token : is_token (codes "Connection") ≡ true
unfolding is_token_byte
connection_token = refl

length_token : is_token (codes "Content-Length") ≡ true
unfolding is_token_byte
length_token = refl

server_is : (b : Bool) → list_all is_field (server_field b) ≡ true
server_is true = ap₂ (λ s t. s && t) (ap₂ (λ s t. s && t) server_token refl) refl
server_is false = refl

connection_is : (given closes : Bool) → list_all is_field (connection_field given closes) ≡ true
connection_is true closes = refl
connection_is false true = ap₂ (λ s t. s && t) (ap₂ (λ s t. s && t) connection_token refl) refl
connection_is false false = ap₂ (λ s t. s && t) (ap₂ (λ s t. s && t) connection_token refl) refl

length_is : (b : Bool) (n : ℕ) → IsLength n → list_all is_field (length_field b n) ≡ true
length_is true n is = refl
length_is false n is =
    let p = is.plain_is in ap₂ (λ s t. s && t) (ap₂ (λ s t. s && t) length_token p.bytes) refl

all_fields : (a : Answer) → list_all is_field a.given ≡ true → IsLength (length a.content) → list_all is_field (answer_fields a) ≡ true
all_fields a given is =
    let g = written_given false a.given in
    let s = server_field a.server in
    let k = connection_field (gives_close a.given) a.closes in
    let l = own_length a in
    list_all-append is_field (g ++ s ++ k) l
    ∙ ap₂ (λ x y. x && y) (list_all-append is_field (g ++ s) k
    ∙ ap₂ (λ x y. x && y) (list_all-append is_field g s
    ∙ ap₂ (λ x y. x && y) (fields_given false a.given given) (server_is a.server))
    (connection_is (gives_close a.given) a.closes))
    (length_is (is_bodiless a.code) (length a.content) is)

reason_by : (rows : List (ℕ × List ℕ)) (code : ℕ) → list_all (λ row. list_all is_value_byte row.1) rows ≡ true
    → list_all is_value_byte (reason_in rows code) ≡ true
reason_by [] code all = refl
reason_by (row ∷ rows) code all =
    let both = and_parts (list_all is_value_byte row.1) (list_all (λ r. list_all is_value_byte r.1) rows) all in
    elim (row.0 == code) as (λ t. list_all is_value_byte (cond t row.1 (reason_in rows code)) ≡ true) [
      | true ↦ both.0
      | false ↦ reason_by rows code both.1
    ]

reason_is : (code : ℕ) → list_all is_value_byte (reason_of code) ≡ true
unfolding reason_of
reason_is code = reason_by reasons code refl

-- ---- the body of an answer

swapped : (m r s : Bool) → (((m || false) || r) || s) ≡ ((r || s) || m)
swapped true true true = refl
swapped true true false = refl
swapped true false true = refl
swapped true false false = refl
swapped false true true = refl
swapped false true false = refl
swapped false false true = refl
swapped false false false = refl

has_content : (b m : Bool) (content : List ℕ)
    → HasContent (unless_bodiless (b || m) (body_due b (length content))) (cond (b || m) [] content)
has_content true m content = refl
has_content false true content = refl
has_content false false content = refl

head_method : (request : Option RequestHead) → bytes_eq (method_of request) (codes "HEAD") ≡ is_head_request request
head_method None = refl
head_method (Some head) = refl

-- a code from 200 on has a body unless it is 204 or 304, or answers HEAD
bodiless_is : (request : Option RequestHead) (code : ℕ) → 200 ≤ code
    → bodies.is_bodiless (method_of request) code ≡ (is_bodiless code || is_head_request request)
bodiless_is request code least =
    let low : nat_lt code 200 ≡ false = grind (arith, nat_tests) in
    ap₂ (λ m l. ((m || l) || code == 204) || code == 304) (head_method request) low
    ∙ swapped (is_head_request request) (code == 204) (code == 304)

body_answers : (request : Option RequestHead) (a : Answer) (version : Version) → 200 ≤ a.code → IsLength (length a.content)
    → HasContent (response_body (bare_response (answer_head a)) (method_of request) version) (content_sent request a)
body_answers request a version least is =
    let method = method_of request in
    let fields = fields_body (bodies.both a.version version) (map bare (answer_fields a)) body.ToEnd in
    let hundred : nat_lt a.code 100 ≡ false = grind (arith, nat_tests) in
    let found =
    ap (λ t. if t then Err Framing else unless_bodiless (bodies.is_bodiless method a.code) fields) hundred
    ∙ ap₂ unless_bodiless (bodiless_is request a.code least) (body_is (bodies.both a.version version) a is) in
    subst (λ f. HasContent f (content_sent request a)) (sym found) (has_content (is_bodiless a.code) (is_head_request request) a.content)

composed_by : (request : Option RequestHead) (a : Answer) → Made a → (b : Bool) (text : List ℕ) → response_fits (answer_head a) ≡ b
    → composed request a ≡ Some text → IsAnswer request text
composed_by request a made false text fits is = cc
composed_by request a made true text fits is =
    let n = is_length (length a.content) made.few in
    let reason = reason_is a.code in
    let fields : AreFields (answer_fields a) = record { are = all_fields a made.given n; few = leb-true _ _ (and_parts _ _ fits).0 } in
    record {
      head = answer_head a;
      content = content_sent request a;
      bytes_are = cc;
      reads = response_comes_back (answer_head a) (omega (arith, made.most)) reason fields;
      body = λ version. body_answers request a version made.least n;
    }

pub is_answer : (request : Option RequestHead) (a : Answer) → Made a → (text : List ℕ) → composed request a ≡ Some text
    → IsAnswer request text
is_answer request a made text is = composed_by request a made (response_fits (answer_head a)) text refl is
