-- Fields as they are forwarded, in one walk.
use Rattle.std.proofs.Common.{◌≡◌, ℕ, suc, ◌+◌, ◌<◌, Bool, true, false, not, ◌&&◌, ◌||◌, cond, Option, List, [], ◌∷◌, ◌++◌, length, map, drop, get_or, refl, sym, ap, ap₂, ◌∙◌, arith}
use Rattle.std.specs.Prelude.{codes, filter}
use Rattle.std.proofs.lemmas.List.{append_assoc, drop_more}
use Rattle.httparse.specs.Grammar.{print_field}
use Rattle.http_heads.specs.Fields.{Pair, is_named, without}
use Rattle.http_heads.specs.Forwarded.{fields_out, forwarded_request, forwarded_response, goes_out, is_forwarded, next_out, omitted_of, told_behind, with_length}
use Rattle.http_heads.specs.Passed.{first_alone, goes_on, passed, unframed}
use Rattle.http_heads.specs.Written.{line_of, lines_of}
use Rattle.http_heads.specs.declared.forwarded.Omitted.{Omitted}
use Rattle.http_heads.specs.declared.forwarded.Omitted.TheVariants as omitted
use Rattle.http_heads.specs.declared.request.RequestHead.{RequestHead}
use Rattle.http_heads.specs.declared.response.ResponseHead.{ResponseHead}
use Rattle.http_heads.proofs.FirstFields.{rest_of}

abbrev tells : Pair → Bool
tells f = is_named (codes "content-length") f

-- ---- the loop

joined : (xs ys zs : List ℕ) → (xs ++ ys) ++ zs ≡ xs ++ (ys ++ zs)
joined xs ys zs = simp append_assoc

pub lines_append : (fs gs : List Pair) → lines_of (fs ++ gs) ≡ lines_of fs ++ lines_of gs
lines_append [] gs = refl
lines_append (f ∷ fs) gs =
    ap (λ t. print_field (line_of f) ++ t) (lines_append fs gs)
    ∙ sym (joined (print_field (line_of f)) (lines_of fs) (lines_of gs))

-- what goes out of a field stands before what goes out of the others
pub next_goes : (o : Omitted) (size : Option ℕ) (told now : Bool) (f : Pair) (fs : List Pair) (at : ℕ) (out more : List ℕ)
    → at < length fs → f ≡ get_or fs at f → more ≡ out ++ lines_of (next_out o size told f) → now ≡ told_behind o told f
    → more ++ lines_of (fields_out o size now (drop (at + 1) fs)) ≡ out ++ lines_of (fields_out o size told (drop at fs))
next_goes o size told now f fs at out more there is goes says =
    let next = next_out o size told f in
    let rest = fields_out o size (told_behind o told f) (drop (at + 1) fs) in
    let at_front : drop at fs ≡ f ∷ drop (at + 1) fs = drop_more fs at f there ∙ ap₂ (λ g n. g ∷ drop n fs) (sym is) (omega arith) in
    ap₂ (λ t b. t ++ lines_of (fields_out o size b (drop (at + 1) fs))) goes says
    ∙ joined out (lines_of next) (lines_of rest)
    ∙ ap (λ t. out ++ t) (sym (lines_append next rest))
    ∙ ap (λ gs. out ++ lines_of (fields_out o size told gs)) (sym at_front)

-- ---- the walk

-- what is left of the fields, once a length was told or not
abbrev left : Omitted → Option ℕ → Bool → List Pair → List Pair
left o size told fs = map (with_length size) (rest_of (codes "content-length") told (filter (is_forwarded o) fs))

none_left : (o : Omitted) (size : Option ℕ) (told : Bool) → [] ≡ left o size told []
none_left o size true = refl
none_left o size false = refl

-- one field more, by whether it goes on, whether it tells a length and whether one was told
abbrev one_out : (on named told : Bool) → (size : Option ℕ) → Pair → List Pair
one_out on named told size f = cond (on && not (named && told)) (with_length size f ∷ []) []

abbrev told_now : (on named told : Bool) → Bool
told_now on named told = told || ((on && not (named && told)) && named)

one_more : (o : Omitted) (size : Option ℕ) (f : Pair) (fs : List Pair) (on named told : Bool) → tells f ≡ named
    → one_out on named told size f ++ left o size (told_now on named told) fs
    ≡ map (with_length size) (rest_of (codes "content-length") told (cond on (f ∷ filter (is_forwarded o) fs) (filter (is_forwarded o) fs)))
one_more o size f fs false named true is = refl
one_more o size f fs false named false is = refl
one_more o size f fs true true true is =
    let gs = filter (is_forwarded o) fs in
    sym (ap (λ t. map (with_length size) (cond (not t) (f ∷ without (codes "content-length") gs) (without (codes "content-length") gs))) is)
one_more o size f fs true false true is =
    let gs = filter (is_forwarded o) fs in
    sym (ap (λ t. map (with_length size) (cond (not t) (f ∷ without (codes "content-length") gs) (without (codes "content-length") gs))) is)
one_more o size f fs true true false is =
    let gs = filter (is_forwarded o) fs in
    sym (ap (λ t. map (with_length size) (cond t (f ∷ without (codes "content-length") gs) (f ∷ first_alone (codes "content-length") gs))) is)
one_more o size f fs true false false is =
    let gs = filter (is_forwarded o) fs in
    sym (ap (λ t. map (with_length size) (cond t (f ∷ without (codes "content-length") gs) (f ∷ first_alone (codes "content-length") gs))) is)

walked : (o : Omitted) (size : Option ℕ) (told : Bool) (fs : List Pair) → fields_out o size told fs ≡ left o size told fs
walked o size told [] = none_left o size told
walked o size told (f ∷ fs) =
    ap (λ gs. next_out o size told f ++ gs) (walked o size (told_behind o told f) fs)
    ∙ one_more o size f fs (is_forwarded o f) (tells f) told refl

-- ---- the fields that are forwarded

both_filters : (p q : Pair → Bool) (fs : List Pair) → filter p (filter q fs) ≡ filter (λ f. q f && p f) fs
both_filters p q [] = refl
both_filters p q (f ∷ fs) =
    elim (q f) as (λ t. filter p (cond t (f ∷ filter q fs) (filter q fs)) ≡ cond (t && p f) (f ∷ filter (λ g. q g && p g) fs) (filter (λ g. q g && p g) fs)) [
      | true ↦ ap (λ gs. cond (p f) (f ∷ gs) gs) (both_filters p q fs)
      | false ↦ both_filters p q fs
    ]

same_filter : (p q : Pair → Bool) → ((f : Pair) → p f ≡ q f) → (fs : List Pair) → filter p fs ≡ filter q fs
same_filter p q same [] = refl
same_filter p q same (f ∷ fs) = ap₂ (λ t gs. cond t (f ∷ gs) gs) (same f) (same_filter p q same fs)

neither : (a b c : Bool) → (not a && (not b && c)) ≡ (not (a || b) && c)
neither true b c = refl
neither false b c = refl

abbrev on : Pair → Bool
on f = goes_on [] f.0

abbrev other_than : List ℕ → Pair → Bool
other_than name f = not (is_named name f)

by_status : (b d : Bool) (fs : List Pair)
    → filter on (cond b (without (codes "transfer-encoding") (without (codes "content-length") fs)) (cond d (without (codes "transfer-encoding") fs) fs))
    ≡ filter (is_forwarded (cond b omitted.Framing (cond d omitted.Coding omitted.Nothing))) fs
by_status true d fs =
    both_filters on (other_than (codes "transfer-encoding")) (without (codes "content-length") fs)
    ∙ both_filters (λ f. other_than (codes "transfer-encoding") f && on f) (other_than (codes "content-length")) fs
    ∙ same_filter _ (is_forwarded omitted.Framing) (λ f. neither (tells f) (is_named (codes "transfer-encoding") f) (on f)) fs
by_status false true fs = both_filters on (other_than (codes "transfer-encoding")) fs
by_status false false fs = refl

abbrev told_of : Option ℕ → List Pair → List Pair
told_of size fs = map (with_length size) (first_alone (codes "content-length") fs)

pub request_out : (size : Option ℕ) (head : RequestHead)
    → fields_out omitted.Expect size false head.fields ≡ (forwarded_request size head).fields
request_out size head =
    walked omitted.Expect size false head.fields
    ∙ ap (told_of size) (sym (both_filters on (other_than (codes "expect")) head.fields))

pub response_out : (size : Option ℕ) (head : ResponseHead)
    → fields_out (omitted_of head.status) size false head.fields ≡ map (with_length size) (passed [] (unframed head.status head.fields))
response_out size head =
    walked (omitted_of head.status) size false head.fields
    ∙ ap (told_of size) (sym (by_status _ _ head.fields))
