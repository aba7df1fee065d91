-- The fields of a text, one after another.
use Rattle.std.proofs.Common.{◌≡◌, ℕ, zero, suc, ◌+◌, ◌-◌, ◌<◌, get_or, Bool, true, false, cond, List, [], ◌∷◌}
use Rattle.std.proofs.Common.{length, take, drop, Option, Some, None, option_map, sym, ap, subst, refl, ◌∙◌}
use Rattle.std.proofs.Common.{arith}
use Rattle.std.specs.List.{onto_first}
use Rattle.std.proofs.lemmas.Bool.{false≢true}
use Rattle.tcl_strings.specs.Search.{begins_with, more_of, first_place}
use Rattle.tcl_strings.specs.Fields.{fields_from, fields}

skipped : (separator : List ℕ) (skip : ℕ) (text : List ℕ) → fields_from separator skip text ≡ fields separator (drop skip text)
skipped separator zero text = refl
skipped separator (suc skip) [] = refl
skipped separator (suc skip) (c ∷ cs) = skipped separator skip cs

-- what the first place of the separator makes of the fields
abbrev Cut : List ℕ → List ℕ → Option ℕ → Type 0
Cut separator text None = fields separator text ≡ text ∷ []
Cut separator text (Some k) = fields separator text ≡ take k text ∷ fields separator (drop (k + length separator) text)

fields_by : (separator : List ℕ) (c : ℕ) (cs : List ℕ) (t : Bool) → begins_with separator (c ∷ cs) ≡ t
    → fields separator (c ∷ cs) ≡ cond t ([] ∷ fields_from separator (more_of separator) cs) (onto_first c (fields separator cs))
fields_by separator c cs t e = ap (λ b. cond b ([] ∷ fields_from separator (more_of separator) cs) (onto_first c (fields separator cs))) e

here : (separator : List ℕ) (c : ℕ) (cs : List ℕ) → begins_with separator (c ∷ cs) ≡ true → Cut separator (c ∷ cs) (Some 0)
here [] c cs e = absurd (false≢true e)
here (s ∷ ss) c cs e =
    let size : suc (length ss) ≡ 0 + length (s ∷ ss) = omega arith in
    fields_by (s ∷ ss) c cs true e ∙ ap (λ l. [] ∷ l) (skipped (s ∷ ss) (length ss) cs) ∙ ap (λ n. [] ∷ fields (s ∷ ss) (drop n (c ∷ cs))) size

further : (separator : List ℕ) (c : ℕ) (cs : List ℕ) (r : Option ℕ) → begins_with separator (c ∷ cs) ≡ false → Cut separator cs r → Cut separator (c ∷ cs) (option_map suc r)
further separator c cs None e h = fields_by separator c cs false e ∙ ap (onto_first c) h
further separator c cs (Some k) e h =
    let size : suc (k + length separator) ≡ suc k + length separator = omega arith in
    fields_by separator c cs false e ∙ ap (onto_first c) h ∙ ap (λ n. (c ∷ take k cs) ∷ fields separator (drop n (c ∷ cs))) size

cut_by : (separator : List ℕ) (c : ℕ) (cs : List ℕ) (t : Bool) → begins_with separator (c ∷ cs) ≡ t → Cut separator cs (first_place separator cs)
    → Cut separator (c ∷ cs) (cond t (Some 0) (option_map suc (first_place separator cs)))
cut_by separator c cs true e h = here separator c cs e
cut_by separator c cs false e h = further separator c cs (first_place separator cs) e h

cut : (separator text : List ℕ) → Cut separator text (first_place separator text)
cut separator [] = refl
cut separator (c ∷ cs) = cut_by separator c cs (begins_with separator (c ∷ cs)) refl (cut separator cs)

pub first_cut : (separator text : List ℕ) (k : ℕ) → Some k ≡ first_place separator text → fields separator text ≡ take k text ∷ fields separator (drop (k + length separator) text)
first_cut separator text k e = subst (Cut separator text) (sym e) (cut separator text)

pub no_cut : (separator text : List ℕ) → None ≡ first_place separator text → fields separator text ≡ text ∷ []
no_cut separator text e = subst (Cut separator text) (sym e) (cut separator text)

-- the field with so many before it, behind the first one
pub field_behind : (first : List ℕ) (more : List (List ℕ)) (left : ℕ) → 0 < left → get_or (first ∷ more) left [] ≡ get_or more (left - 1) []
field_behind first more zero some = absurd (omega arith)
field_behind first more (suc left) some = let less : left ≡ suc left - 1 = omega arith in ap (λ n. get_or more n []) less
