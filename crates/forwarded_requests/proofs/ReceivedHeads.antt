-- A request's head that was read, and as rules see it, is one that its type holds, with no white space around its values.
use Rattle.std.proofs.Common.{◌≡◌, refl, sym, ap, ap₂, subst, ◌∙◌, ℕ, zero, suc, ◌+◌, ◌≤◌, Bool, true, false, not, ◌&&◌, cond, List, [], ◌∷◌, ◌++◌, map, length, take, drop, codes, Option, Some, None, Result, Ok, Err, arith}
use Rattle.std.specs.Prelude.{All, filter, nat_lt, ◌||◌}
use Rattle.std.specs.List.{list_all}
use Rattle.std.proofs.lemmas.Bool.{and_parts, lt-ltb, ltb-true}
use Rattle.std.proofs.lemmas.Bool.Decides.{nat_tests}
use Rattle.std.proofs.lemmas.List.{length-drop, length-map, length-take}
use Rattle.std.proofs.lemmas.List.Elements.{All-head, All-tail}
use Rattle.std.proofs.lemmas.List.Folds.{list_all-append}
use Rattle.httparse.specs.Grammar.{AllPass, Field, IsField, IsToken, field_value, is_ows, is_token, is_token_byte, is_value_byte}
use Rattle.httparse.specs.Spans.{name_and_value}
use Rattle.httparse.proofs.TrimLemmas.{AllPass-trim_ows}
use Rattle.px_bytes.specs.declared.fault.HttpFault.{HttpFault}
use Rattle.px_bytes.specs.declared.fault.HttpFault.TheVariants.{BadHead, Host}
use Rattle.http_heads.specs.Fields.{AreFields, Pair, are_trimmed, is_field, is_trimmed, last_place}
use Rattle.http_heads.specs.Heads.{GivesRequest}
use Rattle.http_heads.specs.Hosts.{host_fits, is_authority, is_host, is_host_byte}
use Rattle.http_heads.specs.Laws.{IsRequestHead}
use Rattle.http_heads.specs.Lines.{IsTarget}
use Rattle.http_heads.specs.Passed.{is_kept}
use Rattle.http_heads.specs.Received.{asked_for, connection_of, host_put, hosted, kept, placed, received_by, received_request, value_set, without_options}
use Rattle.http_heads.specs.Targets.{authority_at, authority_length, authority_of, begins_apart, behind_scheme, is_absolute, is_connect, is_http, path_of, rest_of, scheme_length}
use Rattle.http_heads.specs.declared.request.RequestHead.{RequestHead}
use Rattle.http_heads.proofs.FilterFields.{fields_left}
use Rattle.http_heads.proofs.HostFields.{fields_more, fields_value_set, host_field, host_is_value}
use Rattle.http_heads.proofs.PathsAre.{path_is}
use Rattle.http_heads.proofs.Trimmed.{request_trimmed}
use Rattle.forwarded_requests.proofs.Decimals.{all_trimmed}
use Rattle.forwarded_requests.proofs.PassedFields.{size}

-- ---- as it came

pass_all : (test : ℕ → Bool) (bs : List ℕ) → AllPass test bs → list_all test bs ≡ true
pass_all test [] all = refl
pass_all test (b ∷ bs) all =
    ap₂ (λ s t. s && t) (All-head (λ c. test c ≡ true) b bs all) (pass_all test bs (All-tail (λ c. test c ≡ true) b bs all))

token_is : (text : List ℕ) → IsToken text → is_token text ≡ true
token_is text token = ap₂ (λ s t. s && t) (lt-ltb _ _ token.0) (pass_all is_token_byte text token.1)

field_is : (f : Field) → IsField f → is_field (name_and_value f) ≡ true
field_is f is =
    ap₂ (λ s t. s && t) (token_is f.name is.name) (pass_all is_value_byte (field_value f) (AllPass-trim_ows is_value_byte f.raw is.raw))

fields_are : (fs : List Field) → All IsField fs → list_all is_field (map name_and_value fs) ≡ true
fields_are [] all = refl
fields_are (f ∷ fs) all = ap₂ (λ s t. s && t) (field_is f (All-head IsField f fs all)) (fields_are fs (All-tail IsField f fs all))

-- it is one that its type holds, and its values are trimmed
pub record Came (head : RequestHead) : Type 0 where
  pub is : IsRequestHead head
  pub trimmed : are_trimmed head.fields ≡ true

pub came : (bytes : List ℕ) (head : RequestHead) → GivesRequest (Ok head) bytes → Came head
came bytes head gives =
    let h = gives.0 in
    let read = gives.1.0.0 in
    let target : IsTarget h.target = record { some = read.target.0; visible = read.target.1; characters = read.target_text } in
    let few : length (map name_and_value h.fields) ≤ 100 = omega (arith, gives.1.1, length-map h.fields name_and_value) in
    let fields : AreFields (map name_and_value h.fields) = record { are = fields_are h.fields read.fields; few = few } in
    record {
      is = record {
        method = ap is_token gives.2.method ∙ token_is h.method read.method;
        target = subst IsTarget (sym gives.2.target) target;
        fields = subst AreFields (sym gives.2.fields) fields;
      };
      trimmed = request_trimmed bytes head gives;
    }

-- ---- as rules see it

pub filter_trimmed : (test : Pair → Bool) (fs : List Pair) → are_trimmed fs ≡ true → are_trimmed (filter test fs) ≡ true
filter_trimmed test [] all = refl
filter_trimmed test (f ∷ fs) all =
    let both = and_parts (is_trimmed f.1) (are_trimmed fs) all in
    let rest = filter_trimmed test fs both.1 in
    elim (test f) as (λ t. are_trimmed (cond t (f ∷ filter test fs) (filter test fs)) ≡ true) [
      | true ↦ ap₂ (λ s t. s && t) both.0 rest
      | false ↦ rest
    ]

set_trimmed : (fs : List Pair) (at : ℕ) (v : List ℕ) → are_trimmed fs ≡ true → is_trimmed v ≡ true → are_trimmed (value_set fs at v) ≡ true
set_trimmed [] at v all is = refl
set_trimmed (f ∷ fs) zero v all is = ap₂ (λ s t. s && t) is (and_parts (is_trimmed f.1) (are_trimmed fs) all).1
set_trimmed (f ∷ fs) (suc at) v all is =
    let both = and_parts (is_trimmed f.1) (are_trimmed fs) all in ap₂ (λ s t. s && t) both.0 (set_trimmed fs at v both.1 is)

host_visible : (b : ℕ) → is_host_byte b ≡ true → not (is_ows b) ≡ true
host_visible b is = grind (arith, nat_tests)

host_trimmed : (v : List ℕ) → is_host v ≡ true → is_trimmed v ≡ true
host_trimmed v is = all_trimmed is_host_byte host_visible v is

abbrev host : List ℕ
host = codes "Host"

-- such fields
record Stay (fs : List Pair) : Type 0 where
  are : AreFields fs
  trimmed : are_trimmed fs ≡ true

module _ (v : List ℕ) (is : is_host v ≡ true) (fs : List Pair) (stay : Stay fs) where
  put_behind : (room : Bool) → nat_lt (length fs) 100 ≡ room → (out : List Pair) → cond room (Some (fs ++ (host, v) ∷ [])) None ≡ Some out
      → Stay out
  put_behind true few out put =
      let same : fs ++ (host, v) ∷ [] ≡ out = cc in
      subst Stay same (record {
        are = fields_more fs (host, v) stay.are (host_field host v refl is) (ltb-true (length fs) 100 few);
        trimmed = list_all-append (λ (f : Pair). is_trimmed f.1) fs ((host, v) ∷ [])
            ∙ ap₂ (λ s t. s && t) stay.trimmed (ap (λ t. t && true) (host_trimmed v is));
      })
  put_behind false few out put = absurd (cc)

  put_by : (place : Option ℕ) (out : List Pair) → host_put v fs place ≡ Some out → Stay out
  put_by (Some at) out put =
      let same : value_set fs at v ≡ out = cc in
      subst Stay same
      (record {
        are = fields_value_set fs at v stay.are (host_is_value v is);
        trimmed = set_trimmed fs at v stay.trimmed
            (host_trimmed v is);
      })
  put_by None out put = put_behind (nat_lt (length fs) 100) refl out put

-- ---- with its target taken apart

-- what stands at a place of a target that has an authority there
authority_is : (target : List ℕ) (from : ℕ) → is_authority (authority_of (drop from target)) ≡ true
    → (from ≤ length target) × (is_host (authority_of (drop from target)) ≡ true)
authority_is target from good =
    let text = drop from target in
    let parts = and_parts (nat_lt 0 (length (authority_of text))) (is_host (authority_of text)) good in
    let some = ltb-true 0 (length (authority_of text)) parts.0 in
    (omega (arith, some, length-take (authority_length text) text, length-drop from target), parts.1)

module _ (head seen : RequestHead) (k : Came head) (from : ℕ) (good : is_authority (authority_of (drop from head.target)) ≡ true) where
  abbrev text : List ℕ
  text = drop from head.target

  asked_by : (fields : Option (List Pair)) → hosted (authority_of text) head.fields ≡ fields
      → asked_for fields (path_of head.method (rest_of text)) head ≡ Ok seen → Came seen
  asked_by None is gives = absurd (cc)
  asked_by (Some fs) is gives =
      let there = authority_is head.target from good in
      let stay = put_by (authority_of text) there.1 head.fields (record { are = k.is.fields; trimmed = k.trimmed })
      (last_place (codes "host") head.fields) fs is in
      let path = path_is head.target from k.is.target there.0 good head.method in
      let same : record head { target = path_of head.method (rest_of text); fields = fs } ≡ seen = cc in
      subst Came same (record { is = record { method = k.is.method; target = path; fields = stay.are }; trimmed = stay.trimmed })

-- where an authority is found there is one
place_by : (b : Bool) (size from : ℕ) (target : List ℕ) (f : HttpFault)
    → (b ≡ true → is_authority (authority_of (drop size target)) ≡ true)
    → cond b (Ok (Some size)) (Err f) ≡ Ok (Some from) → is_authority (authority_of (drop from target)) ≡ true
place_by true size from target f good is =
    let same : size ≡ from = cc in subst (λ n. is_authority (authority_of (drop n target)) ≡ true) same (good refl)
place_by false size from target f good is = absurd (cc)

-- the tests that a target passes before its authority is found
third : (a b c : Bool) → (a && b && c) ≡ true → c ≡ true
third a b true is = refl
third true true false is = is
third true false false is = is
third false b false is = is

place_is : (method target : List ℕ) (from : ℕ) → authority_at method target ≡ Ok (Some from)
    → is_authority (authority_of (drop from target)) ≡ true
place_is method target from is = by_form (is_connect method || not (is_absolute target)) is
  where
    n : ℕ
    n = scheme_length target

    tests : Bool
    tests = is_http (take n target) && begins_apart (drop n target) && is_authority (authority_of (drop (n + 3) target))

    by_form : (b : Bool) → cond b (Ok None) (behind_scheme n target) ≡ Ok (Some from)
        → is_authority (authority_of (drop from target)) ≡ true
    by_form true e = absurd (cc)
    by_form false e =
        place_by tests (n + 3) from target BadHead
        (third (is_http (take n target)) (begins_apart (drop n target)) (is_authority (authority_of (drop (n + 3) target)))) e

module _ (head seen : RequestHead) (k : Came head) where
  bare_options : Came (without_options head)
  bare_options =
      let stays : Pair → Bool = λ f. is_kept (connection_of head.fields) f.0 in
      record {
        is = record { method = k.is.method; target = k.is.target; fields = fields_left stays head.fields k.is.fields };
        trimmed = filter_trimmed stays head.fields k.trimmed;
      }

  placed_by : (at : Option ℕ) → authority_at head.method head.target ≡ Ok at → placed at (without_options head) ≡ Ok seen → Came seen
  placed_by None there is = let same : without_options head ≡ seen = cc in subst Came same bare_options
  placed_by (Some from) there is =
      asked_by (without_options head) seen bare_options from (place_is head.method head.target from there)
      (hosted (authority_of (drop from head.target)) (kept head.fields)) refl is

  fitting_by : (b : Bool) (at : Option ℕ) → authority_at head.method head.target ≡ Ok at
      → cond b (placed at (without_options head)) (Err Host) ≡ Ok seen → Came seen
  fitting_by true at there is = placed_by at there is
  fitting_by false at there is = absurd (cc)

  seen_by : (at : Result (Option ℕ) HttpFault) → authority_at head.method head.target ≡ at → received_by at head ≡ Ok seen → Came seen
  seen_by (Err f) there is = absurd (cc)
  seen_by (Ok at) there is = fitting_by (host_fits head.version head.fields) at there is

  pub received : received_request head ≡ Ok seen → Came seen
  received is = seen_by (authority_at head.method head.target) refl is
