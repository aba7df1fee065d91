-- What fields say of a body, with one field more.
use Rattle.std.proofs.Common.{◌≡◌, ℕ, ◌+◌, ◌<◌, Bool, true, false, cond, ◌==◌, List, [], ◌∷◌, ◌++◌, length, get_or, take, map, codes, refl, sym, ap, ◌∙◌, arith}
use Rattle.std.specs.List.{filter}
use Rattle.std.specs.Str.{bytes_eq}
use Rattle.std.specs.Str.Parse.{digits_value}
use Rattle.std.proofs.lemmas.Bool.Decides.{nat_tests}
use Rattle.std.proofs.lemmas.List.{append-nil, map-append, take_more}
use Rattle.std.proofs.lemmas.List.Elements.{filter-append}
use Rattle.px_bytes.specs.Letters.{lowered}
use Rattle.http_heads.specs.Fields.{Pair, is_named}
use Rattle.http_frames.specs.Bodies.{coding_of, coding_with, is_size, size_both, size_named, size_of, size_with, values}
use Rattle.http_frames.specs.declared.body.Coding.TheVariants as coding
use Rattle.http_frames.specs.declared.body.Size.{Size}
use Rattle.http_frames.specs.declared.body.Size.TheVariants as size

pub coding_more : (vs : List (List ℕ)) (v : List ℕ) → coding_of (vs ++ v ∷ []) ≡ coding_with (coding_of vs) v
coding_more [] v = refl
coding_more (a ∷ []) v =
    elim (bytes_eq (lowered a) (lowered (codes "chunked"))) as (λ t. coding.Other ≡ coding_with (cond t coding.Chunked coding.Other) v) [ true ↦ refl | false ↦ refl ]
coding_more (a ∷ b ∷ vs) v = refl

both_assoc : (a b c : Size) → size_both a (size_both b c) ≡ size_both (size_both a b) c
both_assoc size.Absent b c = refl
both_assoc size.Bad b c = refl
both_assoc (size.Known n) size.Absent c = refl
both_assoc (size.Known n) size.Bad c = refl
both_assoc (size.Known n) (size.Known m) size.Absent =
    elim (n == m) as (λ t. size.Bad ≡ size_both (cond t (size.Known n) size.Bad) size.Absent) [ true ↦ refl | false ↦ refl ]
both_assoc (size.Known n) (size.Known m) size.Bad =
    elim (n == m) as (λ t. size.Bad ≡ size_both (cond t (size.Known n) size.Bad) size.Bad) [ true ↦ refl | false ↦ refl ]
both_assoc (size.Known n) (size.Known m) (size.Known k) = grind (arith, nat_tests)

-- a size that isn't absent
abbrev Stated : Size → Type 0
Stated s = (v : List ℕ) → size_with s v ≡ size_both s (size_named v)

named_stated : (a : List ℕ) → Stated (size_named a)
named_stated a v =
    elim (is_size a) as (λ t. size_with (cond t (size.Known (digits_value 10 a)) size.Bad) v ≡ size_both (cond t (size.Known (digits_value 10 a)) size.Bad) (size_named v)) [ true ↦ refl | false ↦ refl ]

both_stated : (a b : Size) → Stated (size_both a b)
both_stated size.Absent b v = refl
both_stated size.Bad b v = refl
both_stated (size.Known n) size.Absent v = refl
both_stated (size.Known n) size.Bad v = refl
both_stated (size.Known n) (size.Known m) v =
    elim (n == m) as (λ t. size_with (cond t (size.Known n) size.Bad) v ≡ size_both (cond t (size.Known n) size.Bad) (size_named v)) [ true ↦ refl | false ↦ refl ]

of_stated : (a : List ℕ) (vs : List (List ℕ)) → Stated (size_of (a ∷ vs))
of_stated a [] = named_stated a
of_stated a (b ∷ vs) = both_stated (size_named a) (size_of (b ∷ vs))

pub size_more : (vs : List (List ℕ)) (v : List ℕ) → size_of (vs ++ v ∷ []) ≡ size_with (size_of vs) v
size_more [] v = refl
size_more (a ∷ []) v = sym (named_stated a v)
size_more (a ∷ b ∷ vs) v =
    ap (size_both (size_named a)) (size_more (b ∷ vs) v ∙ of_stated b vs v)
    ∙ both_assoc (size_named a) (size_of (b ∷ vs)) (size_named v)
    ∙ sym (both_stated (size_named a) (size_of (b ∷ vs)) v)

-- what is said of the fields of a name, with one field more of whatever name
module _ {S : Type 0} (of : List (List ℕ) → S) (with_one : S → List ℕ → S) (more : (vs : List (List ℕ)) (v : List ℕ) → of (vs ++ v ∷ []) ≡ with_one (of vs) v) where
  by_name : (fs : List Pair) (f : Pair) (named_so : Bool) (vs : List (List ℕ))
      → cond named_so (with_one (of vs) f.1) (of vs) ≡ of (vs ++ map (λ g. g.1) (cond named_so (f ∷ []) []))
  by_name fs f true vs = sym (more vs f.1)
  by_name fs f false vs = ap of (sym (append-nil vs))

  pub next : (name : List ℕ) (fs : List Pair) (i : ℕ) (f : Pair) → i < length fs → f ≡ get_or fs i f → (s : S) → s ≡ of (values name (take i fs))
      → cond (is_named name f) (with_one s f.1) s ≡ of (values name (take (i + 1) fs))
  next name fs i f there is s so =
      let before = take i fs in
      let split : values name (take (i + 1) fs) ≡ values name before ++ map (λ g. g.1) (cond (is_named name f) (f ∷ []) []) =
      ap (values name) (take_more fs i f there ∙ ap (λ y. before ++ y ∷ []) (sym is))
      ∙ ap (map (λ g. g.1)) (filter-append (is_named name) before (f ∷ []))
      ∙ map-append (λ g. g.1) (filter (is_named name) before) (cond (is_named name f) (f ∷ []) []) in
      ap (λ x. cond (is_named name f) (with_one x f.1) x) so ∙ by_name fs f (is_named name f) (values name before) ∙ ap of (sym split)
