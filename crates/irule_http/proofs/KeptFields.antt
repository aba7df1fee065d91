-- Edits of fields of other names leave those that tell how long a body is.
use Rattle.std.proofs.Common.{◌≡◌, refl, sym, ap, ap₂, ◌∙◌, ℕ, zero, suc, ◌+◌, Bool, true, false, true≢false, not, cond, List, [], ◌∷◌, ◌++◌, ◌&&◌, append-nil, set, codes, Option, Some, None, arith}
use Rattle.std.specs.List.{flat_map, list_all}
use Rattle.std.proofs.lemmas.Bool.{and_parts}
use Rattle.http_heads.proofs.LastFields.{all_set}
use Rattle.std.specs.Str.{bytes_eq}
use Rattle.std.proofs.lemmas.List.Elements.{filter-append}
use Rattle.std.proofs.lemmas.Slice.Eq.{bytes_eq-Decides}
use Rattle.px_bytes.proofs.Tests.{by_cases}
use Rattle.px_bytes.specs.Letters.{lowered}
use Rattle.std.specs.Prelude.{slice_get}
use Rattle.http_heads.specs.Fields.{Pair, field_at, is_field, is_named, last_field, last_place, later, named, placed, replaced, without}
use Rattle.http_cookies.specs.Cookies.{cookies_in}
use Rattle.http_cookies.specs.MessageCookies.{cookie_left, field_left, has_called, joined_onto, others, rejoined}

abbrev pub coding : List ℕ
coding = codes "transfer-encoding"

abbrev pub size : List ℕ
size = codes "content-length"

-- ---- another name

abbrev same_names : List ℕ → List ℕ → Bool
same_names a b = bytes_eq (lowered a) (lowered b)

-- a field of one name isn't one of another
pub not_named : (name other : List ℕ) (f : Pair) → is_named other f ≡ true → same_names other name ≡ false → is_named name f ≡ false
not_named name other f is apart = ap (λ w. bytes_eq w (lowered name)) ((bytes_eq-Decides (lowered f.0) (lowered other)).0 is) ∙ apart

turned : (a b : List ℕ) → bytes_eq a b ≡ false → bytes_eq b a ≡ false
turned a b apart =
    by_cases (λ t. bytes_eq b a ≡ t → t ≡ false) (bytes_eq b a)
    (λ yes is. absurd (true≢false (sym ((bytes_eq-Decides a b).1 (sym ((bytes_eq-Decides b a).0 is))) ∙ apart))) (λ no_one is. refl) refl

-- ---- a field behind the others, or in the place of another

named_more : (name : List ℕ) (fs : List Pair) (f : Pair) → is_named name f ≡ false → named name (fs ++ f ∷ []) ≡ named name fs
named_more name fs f other = filter-append (is_named name) fs (f ∷ []) ∙ ap (λ t. named name fs ++ cond t (f ∷ []) []) other ∙ append-nil (named name fs)

-- a field of the place's name in the place of one of it
module _ (name other : List ℕ) (f : Pair) (new : is_named name f ≡ false) (apart : same_names other name ≡ false) where
  here : (g : Pair) (fs : List Pair) → is_named other g ≡ true → named name (f ∷ fs) ≡ named name (g ∷ fs)
  here g fs so = ap (λ t. cond t (f ∷ named name fs) (named name fs)) new ∙ sym (ap (λ t. cond t (g ∷ named name fs) (named name fs)) (not_named name other g so apart))

  first_set : (g : Pair) (fs : List Pair) (k : ℕ) (now : Bool) → is_named other g ≡ now → later None now ≡ Some k → named name (set (g ∷ fs) k f) ≡ named name (g ∷ fs)
  first_set g fs k true so is = let first : k ≡ zero = cc in ap (λ j. named name (set (g ∷ fs) j f)) first ∙ here g fs so
  first_set g fs k false so is = absurd (cc)

  by_later : (g : Pair) (fs : List Pair) (last : Option ℕ) (k : ℕ) → ((n : ℕ) → last ≡ Some n → named name (set fs n f) ≡ named name fs)
      → later last (is_named other g) ≡ Some k → named name (set (g ∷ fs) k f) ≡ named name (g ∷ fs)
  by_later g fs (Some n) k rest is =
      let next : k ≡ suc n = (let e : n + 1 ≡ k = cc in omega (arith, e)) in
      ap (λ j. named name (set (g ∷ fs) j f)) next ∙ ap (λ gs. cond (is_named name g) (g ∷ gs) gs) (rest n refl)
  by_later g fs None k rest is = first_set g fs k (is_named other g) refl is

  named_set : (fs : List Pair) (at : ℕ) → last_place other fs ≡ Some at → named name (set fs at f) ≡ named name fs
  named_set [] at is = absurd (cc)
  named_set (g ∷ fs) at is = by_later g fs (last_place other fs) at (λ n so. named_set fs n so) is

named_placed : (name : List ℕ) (fs : List Pair) (f : Pair) (last : Option ℕ) → last_place f.0 fs ≡ last → is_named name f ≡ false
    → named name (placed f fs last) ≡ named name fs
named_placed name fs f None is new = named_more name fs f new
named_placed name fs f (Some at) is new = named_set name f.0 f new new fs at is

pub named_replaced : (name : List ℕ) (fs : List Pair) (f : Pair) → is_named name f ≡ false → named name (replaced f fs) ≡ named name fs
named_replaced name fs f new = named_placed name fs f (last_place f.0 fs) refl new

pub named_behind : (name : List ℕ) (fs : List Pair) (f : Pair) → is_named name f ≡ false → named name (fs ++ f ∷ []) ≡ named name fs
named_behind name fs f new = named_more name fs f new

-- ---- fields that go

pub named_without : (name other : List ℕ) (fs : List Pair) → same_names other name ≡ false → named name (without other fs) ≡ named name fs
named_without name other [] apart = refl
named_without name other (f ∷ fs) apart =
    let rest = named_without name other fs apart in
    by_cases (λ t. is_named other f ≡ t → named name (cond (not t) (f ∷ without other fs) (without other fs)) ≡ named name (f ∷ fs)) (is_named other f)
    (λ yes so. rest ∙ sym (ap (λ t. cond t (f ∷ named name fs) (named name fs)) (not_named name other f so apart)))
    (λ stays so. ap (λ gs. cond (is_named name f) (f ∷ gs) gs) rest) refl

-- a Cookie field, whatever is left of it
none_left : (name : List ℕ) (f : Pair) (left : Option (List ℕ)) → is_named name f ≡ false → named name (rejoined f.0 left) ≡ []
none_left name f None other = refl
none_left name f (Some v) other = ap (λ t. cond t ((f.0, v) ∷ []) []) other

cookie_gone : (name cookie : List ℕ) (f : Pair) → is_named name f ≡ false → named name (cookie_left cookie f (cookies_in f.1)) ≡ []
cookie_gone name cookie f other =
    by_cases (λ t. named name (cond t (rejoined f.0 (joined_onto None (others cookie (cookies_in f.1)))) (f ∷ [])) ≡ []) (has_called cookie (cookies_in f.1))
    (λ yes. none_left name f (joined_onto None (others cookie (cookies_in f.1))) other) (λ stays. ap (λ t. cond t (f ∷ []) []) other)

pub named_uncooked : (name cookie : List ℕ) (fs : List Pair) → same_names (codes "cookie") name ≡ false → named name (flat_map (field_left false cookie) fs) ≡ named name fs
named_uncooked name cookie [] apart = refl
named_uncooked name cookie (f ∷ fs) apart =
    let rest = named_uncooked name cookie fs apart in
    filter-append (is_named name) (field_left false cookie f) (flat_map (field_left false cookie) fs)
    ∙ by_cases (λ t. is_named (codes "cookie") f ≡ t
    → named name (cond t (cookie_left cookie f (cookies_in f.1)) (f ∷ [])) ++ named name (flat_map (field_left false cookie) fs) ≡ named name (f ∷ fs)) (is_named (codes "cookie") f)
    (λ yes so. let other = not_named name (codes "cookie") f so apart in
    ap (λ gs. gs ++ named name (flat_map (field_left false cookie) fs)) (cookie_gone name cookie f other) ∙ rest
    ∙ sym (ap (λ t. cond t (f ∷ named name fs) (named name fs)) other))
    (λ stays so. by_cases (λ t. cond t (f ∷ []) [] ++ named name (flat_map (field_left false cookie) fs) ≡ cond t (f ∷ named name fs) (named name fs)) (is_named name f)
    (λ yes. ap (λ gs. f ∷ gs) rest) (λ none. rest)) refl

-- ---- the last field of a name is one

module _ (name : List ℕ) (f : Pair) where
  last_by : (g : Pair) (fs : List Pair) (last : Option ℕ) → (field_at fs last ≡ Some f → is_named name f ≡ true)
      → field_at (g ∷ fs) (later last (is_named name g)) ≡ Some f → is_named name f ≡ true
  last_by g fs (Some n) rest is =
      let next : n + 1 ≡ suc n = omega arith in
      rest (sym (ap (λ k. slice_get (g ∷ fs) k) next) ∙ is)
  last_by g fs None rest is =
      by_cases (λ t. is_named name g ≡ t → field_at (g ∷ fs) (cond t (Some 0) None) ≡ Some f → is_named name f ≡ true) (is_named name g)
      (λ yes so e. let same : g ≡ f = cc in ap (is_named name) (sym same) ∙ so) (λ none so e. absurd (cc)) refl is

  last_at : (fs : List Pair) → field_at fs (last_place name fs) ≡ Some f → is_named name f ≡ true
  last_at [] is = absurd (cc)
  last_at (g ∷ fs) is = last_by g fs (last_place name fs) (last_at fs) is

pub last_named : (name : List ℕ) (fs : List Pair) (f : Pair) → last_field name fs ≡ Some f → is_named name f ≡ true
last_named name fs f is = last_at name f fs is

-- ---- fields that a head may hold

pub all_more : (fs : List Pair) (f : Pair) → list_all is_field fs ≡ true → is_field f ≡ true → list_all is_field (fs ++ f ∷ []) ≡ true
all_more [] f all is = ap (λ t. t && true) is
all_more (g ∷ fs) f all is =
    let both = and_parts (is_field g) (list_all is_field fs) all in
    ap₂ (λ s t. s && t) both.0 (all_more fs f both.1 is)

pub all_placed : (fs : List Pair) (f : Pair) (last : Option ℕ) → list_all is_field fs ≡ true → is_field f ≡ true → list_all is_field (placed f fs last) ≡ true
all_placed fs f None all is = all_more fs f all is
all_placed fs f (Some at) all is = all_set fs at f all is
