-- The fields that tell how long a body is, in a head as it goes on.
use Rattle.std.proofs.Common.{◌≡◌, refl, sym, ap, ap₂, ◌∙◌, ℕ, Bool, true, false, true≢false, not, ◌&&◌, ◌||◌, cond, List, [], ◌∷◌, map, codes, Option, Some, None}
use Rattle.std.specs.Prelude.{filter}
use Rattle.std.specs.Fmt.{decimal}
use Rattle.std.specs.Str.{bytes_eq}
use Rattle.std.proofs.lemmas.Slice.Eq.{bytes_eq-Decides}
use Rattle.px_bytes.proofs.Tests.{by_cases}
use Rattle.px_bytes.specs.Letters.{lowered}
use Rattle.http_heads.specs.Fields.{Pair, are_trimmed, bare, is_named, named, without}
use Rattle.http_heads.specs.Forwarded.{with_length}
use Rattle.http_heads.specs.Passed.{first_alone, goes_on, passed}
use Rattle.http_heads.proofs.Trimmed.{bare_same}

abbrev pub coding : List ℕ
coding = codes "transfer-encoding"

abbrev pub size : List ℕ
size = codes "content-length"

-- ---- fields of a name among those that stay

named_filter : (name : List ℕ) (p : Pair → Bool) (fs : List Pair) → ((f : Pair) → is_named name f ≡ true → p f ≡ true)
    → named name (filter p fs) ≡ named name fs
named_filter name p [] all = refl
named_filter name p (f ∷ fs) all =
    let same = named_filter name p fs all in
    by_cases (λ t. p f ≡ t → named name (cond t (f ∷ filter p fs) (filter p fs)) ≡ named name (f ∷ fs)) (p f)
    (λ yes is. by_cases (λ t. cond t (f ∷ named name (filter p fs)) (named name (filter p fs)) ≡ cond t (f ∷ named name fs) (named name fs)) (is_named name f)
    (λ so. ap (λ gs. f ∷ gs) same) (λ so. same))
    (λ other is. by_cases (λ t. is_named name f ≡ t → named name (filter p fs) ≡ cond t (f ∷ named name fs) (named name fs)) (is_named name f)
    (λ so here. absurd (true≢false (sym (all f here) ∙ is))) (λ so here. same) refl) refl

none_named : (name : List ℕ) (fs : List Pair) → named name (without name fs) ≡ []
none_named name [] = refl
none_named name (f ∷ fs) =
    let none = none_named name fs in
    let others = without name fs in
    by_cases (λ t. is_named name f ≡ t → named name (cond (not t) (f ∷ others) others) ≡ []) (is_named name f)
    (λ so here. none) (λ so here. ap (λ t. cond t (f ∷ named name others) (named name others)) here ∙ none) refl

abbrev pub first : List Pair → List Pair
first [] = []
first (f ∷ fs) = f ∷ []

named_first : (name : List ℕ) (fs : List Pair) → named name (first_alone name fs) ≡ first (named name fs)
named_first name [] = refl
named_first name (f ∷ fs) =
    let others = without name fs in
    let rest = first_alone name fs in
    by_cases (λ t. is_named name f ≡ t → named name (cond t (f ∷ others) (f ∷ rest)) ≡ first (cond t (f ∷ named name fs) (named name fs))) (is_named name f)
    (λ so here. ap (λ t. cond t (f ∷ named name others) (named name others)) here ∙ ap (λ gs. f ∷ gs) (none_named name fs))
    (λ so here. ap (λ t. cond t (f ∷ named name rest) (named name rest)) here ∙ named_first name fs) refl

-- ---- of the two names

is_lowered : (name : List ℕ) (f : Pair) → is_named name f ≡ true → lowered f.0 ≡ lowered name
is_lowered name f is = (bytes_eq-Decides (lowered f.0) (lowered name)).0 is

abbrev says : List ℕ → List ℕ → Bool
says w name = bytes_eq w (lowered name)

-- `goes_on []` by the lowered name
abbrev goes_by : List ℕ → Bool
goes_by w =
    not (says w (codes "connection") || says w (codes "keep-alive") || says w (codes "proxy-connection") || says w (codes "te") || says w (codes "upgrade"))
    && ((says w (codes "host") || says w (codes "cookie") || says w (codes "content-length") || says w (codes "transfer-encoding")) || true)

coding_goes : (f : Pair) → is_named coding f ≡ true → goes_on [] f.0 ≡ true
coding_goes f is = ap goes_by (is_lowered coding f is)

size_goes : (f : Pair) → is_named size f ≡ true → goes_on [] f.0 ≡ true
size_goes f is = ap goes_by (is_lowered size f is)

coding_kept : (f : Pair) → is_named coding f ≡ true → not (is_named (codes "expect") f) ≡ true
coding_kept f is = ap (λ w. not (says w (codes "expect"))) (is_lowered coding f is)

size_kept : (f : Pair) → is_named size f ≡ true → not (is_named (codes "expect") f) ≡ true
size_kept f is = ap (λ w. not (says w (codes "expect"))) (is_lowered size f is)

coding_no_size : (f : Pair) → is_named coding f ≡ true → is_named size f ≡ false
coding_no_size f is = ap (λ w. says w size) (is_lowered coding f is)

-- ---- of a head as it goes on

abbrev on : Pair → Bool
on f = goes_on [] f.0

abbrev pub kept : List Pair → List Pair
kept fields = passed [] (without (codes "expect") fields)

coding_first : (fs : List Pair) → named coding (first_alone size fs) ≡ named coding fs
coding_first [] = refl
coding_first (f ∷ fs) =
    let others = without size fs in
    let rest = first_alone size fs in
    by_cases (λ t. named coding (cond t (f ∷ others) (f ∷ rest)) ≡ named coding (f ∷ fs)) (is_named size f)
    (λ so. ap (λ gs. cond (is_named coding f) (f ∷ gs) gs) (named_filter coding (λ g. not (is_named size g)) fs (λ g is. ap not (coding_no_size g is))))
    (λ so. ap (λ gs. cond (is_named coding f) (f ∷ gs) gs) (coding_first fs))

codings_kept : (fields : List Pair) → named coding (kept fields) ≡ named coding fields
codings_kept fields =
    let fs = without (codes "expect") fields in
    coding_first (filter on fs) ∙ named_filter coding on fs coding_goes
    ∙ named_filter coding (λ f. not (is_named (codes "expect") f)) fields coding_kept

sizes_kept : (fields : List Pair) → named size (kept fields) ≡ first (named size fields)
sizes_kept fields =
    let fs = without (codes "expect") fields in
    named_first size (filter on fs)
    ∙ ap first (named_filter size on fs size_goes ∙ named_filter size (λ f. not (is_named (codes "expect") f)) fields size_kept)

-- ---- with another length, and without white space around the values

named_map : (name : List ℕ) (k : Pair → Pair) (fs : List Pair) → ((f : Pair) → is_named name (k f) ≡ is_named name f) → named name (map k fs) ≡ map k (named name fs)
named_map name k [] same = refl
named_map name k (f ∷ fs) same =
    let rest = named_map name k fs same in
    ap (λ t. cond t (k f ∷ named name (map k fs)) (named name (map k fs))) (same f)
    ∙ by_cases (λ t. cond t (k f ∷ named name (map k fs)) (named name (map k fs)) ≡ map k (cond t (f ∷ named name fs) (named name fs))) (is_named name f)
    (λ so. ap (λ gs. k f ∷ gs) rest) (λ so. rest)

same_name : (name : List ℕ) (told : Option ℕ) (f : Pair) → is_named name (with_length told f) ≡ is_named name f
same_name name None f = refl
same_name name (Some n) f =
    by_cases (λ t. is_named name (cond t (f.0, decimal n) f) ≡ is_named name f) (is_named size f) (λ so. refl) (λ so. refl)

untold : (told : Option ℕ) (f : Pair) → is_named size f ≡ false → with_length told f ≡ f
untold None f other = refl
untold (Some n) f other = ap (λ t. cond t (f.0, decimal n) f) other

codings_untold : (told : Option ℕ) (fs : List Pair) → map (with_length told) (named coding fs) ≡ named coding fs
codings_untold told [] = refl
codings_untold told (f ∷ fs) =
    let rest = codings_untold told fs in
    by_cases (λ t. is_named coding f ≡ t → map (with_length told) (cond t (f ∷ named coding fs) (named coding fs)) ≡ cond t (f ∷ named coding fs) (named coding fs)) (is_named coding f)
    (λ so is. ap₂ (λ g gs. g ∷ gs) (untold told f (coding_no_size f is)) rest) (λ so is. rest) refl

abbrev pub out : Option ℕ → List Pair → List Pair
out told fields = map bare (map (with_length told) (kept fields))

pub codings_out : (told : Option ℕ) (fields : List Pair) → are_trimmed (named coding fields) ≡ true → named coding (out told fields) ≡ named coding fields
codings_out told fields trimmed =
    named_map coding bare (map (with_length told) (kept fields)) (λ f. refl)
    ∙ ap (map bare) (named_map coding (with_length told) (kept fields) (same_name coding told)
    ∙ ap (map (with_length told)) (codings_kept fields) ∙ codings_untold told fields)
    ∙ bare_same (named coding fields) trimmed

pub sizes_out : (told : Option ℕ) (fields : List Pair) → named size (out told fields) ≡ map bare (map (with_length told) (first (named size fields)))
sizes_out told fields =
    named_map size bare (map (with_length told) (kept fields)) (λ f. refl)
    ∙ ap (map bare) (named_map size (with_length told) (kept fields) (same_name size told) ∙ ap (map (with_length told)) (sizes_kept fields))

pub told_out : (n : ℕ) (f : Pair) → is_named size f ≡ true → with_length (Some n) f ≡ (f.0, decimal n)
told_out n f is = ap (λ t. cond t (f.0, decimal n) f) is
