-- Values without white space around them.
use Rattle.std.proofs.Common.{◌≡◌, ℕ, Bool, true, false, not, ◌&&◌, cond, List, [], ◌∷◌, ◌++◌, map, reverse, refl, sym, ap, ap₂, subst, ◌∙◌, Ok}
use Rattle.std.specs.List.{list_all}
use Rattle.std.proofs.lemmas.Bool.{and_parts}
use Rattle.std.proofs.lemmas.List.{reverse-append, reverse-reverse}
use Rattle.httparse.specs.Grammar.{Field, is_ows, skip_ows, trim_ows}
use Rattle.httparse.specs.Spans.{name_and_value}
use Rattle.px_bytes.proofs.Tests.{by_cases}
use Rattle.http_heads.specs.Fields.{Pair, are_trimmed, bare, begins_visible, is_trimmed}
use Rattle.http_heads.specs.Heads.{GivesRequest, GivesResponse, bare_request, bare_response}
use Rattle.http_heads.specs.Laws.{IsRequestHead, IsResponseHead}
use Rattle.http_heads.specs.Written.{written_request, written_response}
use Rattle.http_heads.specs.declared.request.RequestHead.{RequestHead}
use Rattle.http_heads.specs.declared.response.ResponseHead.{ResponseHead}
use Rattle.http_heads.proofs.ReadBack.{request_comes_back, response_comes_back}

not_false : (t : Bool) → not t ≡ true → t ≡ false
not_false true h = sym h
not_false false h = refl

skip_begun : (v : List ℕ) → begins_visible v ≡ true → skip_ows v ≡ v
skip_begun [] h = refl
skip_begun (b ∷ bs) h = ap (λ t. cond t (skip_ows bs) (b ∷ bs)) (not_false (is_ows b) h)

-- ---- a value that has none stays

pub trim_same : (v : List ℕ) → is_trimmed v ≡ true → trim_ows v ≡ v
unfolding trim_ows
trim_same v h =
    let both = and_parts (begins_visible v) (begins_visible (reverse v)) h in
    ap (λ t. reverse (skip_ows (reverse t))) (skip_begun v both.0) ∙ ap reverse (skip_begun (reverse v) both.1) ∙ reverse-reverse v

pub bare_same : (fs : List Pair) → are_trimmed fs ≡ true → map bare fs ≡ fs
bare_same [] h = refl
bare_same (f ∷ fs) h =
    let both = and_parts (is_trimmed f.1) (are_trimmed fs) h in
    ap₂ (λ v gs. (f.0, v) ∷ gs) (trim_same f.1 both.0) (bare_same fs both.1)

pub request_back : (head : RequestHead) → IsRequestHead head → are_trimmed head.fields ≡ true → GivesRequest (Ok head) (written_request head)
request_back head is h =
    let same : bare_request head ≡ head = ap (λ fs. record head { fields = fs }) (bare_same head.fields h) in
    subst (λ r. GivesRequest (Ok r) (written_request head)) same (request_comes_back head is.method is.target is.fields)

pub response_back : (head : ResponseHead) → IsResponseHead head → are_trimmed head.fields ≡ true → GivesResponse (Ok head) (written_response head)
response_back head is h =
    let same : bare_response head ≡ head = ap (λ fs. record head { fields = fs }) (bare_same head.fields h) in
    subst (λ r. GivesResponse (Ok r) (written_response head)) same (response_comes_back head is.status is.reason is.fields)

-- ---- what was trimmed has none

skip_begins : (v : List ℕ) → begins_visible (skip_ows v) ≡ true
skip_begins [] = refl
skip_begins (b ∷ bs) =
    by_cases (λ t. begins_visible (cond t (skip_ows bs) (b ∷ bs)) ≡ true) (is_ows b) (λ e. skip_begins bs) (λ e. ap not e)

skipped : (w : List ℕ) → (p : List ℕ) × (w ≡ p ++ skip_ows w)
skipped [] = ([], refl)
skipped (b ∷ bs) =
    by_cases (λ t. (p : List ℕ) × (b ∷ bs ≡ p ++ cond t (skip_ows bs) (b ∷ bs))) (is_ows b)
    (λ e. (b ∷ (skipped bs).0, ap (λ t. b ∷ t) (skipped bs).1)) (λ e. ([], refl))

front_begins : (a b : List ℕ) → begins_visible (a ++ b) ≡ true → begins_visible a ≡ true
front_begins [] b h = refl
front_begins (x ∷ xs) b h = h

trimmed : (v : List ℕ) → is_trimmed (trim_ows v) ≡ true
unfolding trim_ows
trimmed v =
    let u = skip_ows v in
    let s = skip_ows (reverse u) in
    let p = (skipped (reverse u)).0 in
    let apart : u ≡ reverse s ++ reverse p = sym (reverse-reverse u) ∙ ap reverse (skipped (reverse u)).1 ∙ reverse-append p s in
    let front : begins_visible (reverse s) ≡ true = front_begins (reverse s) (reverse p) (sym (ap begins_visible apart) ∙ skip_begins v) in
    let back : begins_visible (reverse (reverse s)) ≡ true = ap begins_visible (reverse-reverse s) ∙ skip_begins (reverse u) in
    ap₂ (λ x y. x && y) front back

fields_trimmed : (fs : List Field) → are_trimmed (map name_and_value fs) ≡ true
fields_trimmed [] = refl
fields_trimmed (f ∷ fs) = ap₂ (λ x y. x && y) (trimmed f.raw) (fields_trimmed fs)

pub request_trimmed : (bytes : List ℕ) (head : RequestHead) → GivesRequest (Ok head) bytes → are_trimmed head.fields ≡ true
request_trimmed bytes head gives = ap are_trimmed gives.2.fields ∙ fields_trimmed gives.0.fields

pub response_trimmed : (bytes : List ℕ) (head : ResponseHead) → GivesResponse (Ok head) bytes → are_trimmed head.fields ≡ true
response_trimmed bytes head gives = ap are_trimmed gives.2.fields ∙ fields_trimmed gives.0.fields
