-- Each element stands at its place.
use Rattle.std.proofs.Common.{◌≡◌, ℕ, zero, suc, ◌+◌, ◌-◌, Bool, true, false, ◌==◌, cond, List, []}
use Rattle.std.proofs.Common.{◌∷◌, ◌++◌, length, take, drop, Result, Ok, Err, sym, ap, ap₂, refl}
use Rattle.std.proofs.Common.{◌∙◌, arith, append_assoc, length-append}
use Rattle.std.proofs.lemmas.List.{drop_at, length-take, take_min}
use Rattle.px_bytes.specs.White.{is_space}
use Rattle.tcl_lists.specs.Element.{ListElement, Found, is_quote, free_len, brace_len, value_of}
use Rattle.tcl_lists.specs.Element.{place_of, enclosed, bare, element}
use Rattle.tcl_lists.specs.Escape.{replaced}
use Rattle.tcl_lists.specs.Laws.{value_at, values_at, PlacesHoldValues}
use Rattle.tcl_lists.specs.Read.{with_first, found_first, each, elements_from}
use Rattle.tcl_lists.specs.declared.fault.ListFault.{ListFault}
use Rattle.tcl_lists.specs.declared.fault.ListFault.TheVariants.{OpenBrace, OpenQuote, Extra}
use Rattle.tcl_lists.proofs.Again.{in_front, first_value}

-- the element's bytes stand at its place in the whole text
abbrev IsPlaced : List ℕ → Result Found ListFault → Type 0
IsPlaced whole (Ok f) = value_at whole (place_of f.element) ≡ value_of f.element
IsPlaced whole (Err fault) = Unit {0}

raw_at : (whole front tail raw : List ℕ) (start : ℕ) → whole ≡ front ++ tail → length front ≡ start → take (length raw) tail ≡ raw → take (start + length raw - start) (drop start whole) ≡ raw
raw_at whole front tail raw start is size same =
    let count : start + length raw - start ≡ length raw = omega arith in
    ap₂ (λ n t. take n (drop start t)) count is ∙ ap (take (length raw)) (drop_at front tail start size) ∙ same

value_there : (whole : List ℕ) (e : ListElement) → take (e.start + length e.raw - e.start) (drop e.start whole) ≡ e.raw → value_at whole (place_of e) ≡ value_of e
value_there whole e same = ap (λ raw. cond e.braced raw (replaced raw)) same

again : (count : ℕ) (xs : List ℕ) → take (length (take count xs)) xs ≡ take count xs
again count xs = ap (λ n. take n xs) (length-take count xs) ∙ take_min count xs

one_on : (whole front rest : List ℕ) (b at : ℕ) → whole ≡ front ++ (b ∷ rest) → length front ≡ at → (whole ≡ (front ++ (b ∷ [])) ++ rest) × (length (front ++ (b ∷ [])) ≡ at + 1)
one_on whole front rest b at is size = (is ∙ sym (append_assoc front (b ∷ []) rest), length-append front (b ∷ []) ∙ ap (λ n. n + 1) size)

enclosed_placed : (whole front rest : List ℕ) (b at count : ℕ) (p q in_braces : Bool) (fault : ListFault) → whole ≡ front ++ (b ∷ rest) → length front ≡ at
    → IsPlaced whole (cond p (cond q (Ok (record { element = record { raw = take count rest; start = at + 1; braced = in_braces }; more = count + 1 })) (Err (Extra at))) (Err fault))
enclosed_placed whole front rest b at count true true in_braces fault is size =
    let on = one_on whole front rest b at is size in
    let e : ListElement = record { raw = take count rest; start = at + 1; braced = in_braces } in
    value_there whole e (raw_at whole (front ++ (b ∷ [])) rest (take count rest) (at + 1) on.0 on.1 (again count rest))
enclosed_placed whole front rest b at count true false in_braces fault is size = tt
enclosed_placed whole front rest b at count false q in_braces fault is size = tt

element_placed : (whole front rest : List ℕ) (b at : ℕ) (p q : Bool) → whole ≡ front ++ (b ∷ rest) → length front ≡ at
    → IsPlaced whole (cond p (enclosed at (OpenBrace at) true (brace_len false 0 rest) rest) (cond q (enclosed at (OpenQuote at) false (free_len is_quote false rest) rest) (Ok (bare at b rest))))
element_placed whole front rest b at true q is size = enclosed_placed whole front rest b at (brace_len false 0 rest) _ _ true (OpenBrace at) is size
element_placed whole front rest b at false true is size = enclosed_placed whole front rest b at (free_len is_quote false rest) _ _ false (OpenQuote at) is size
element_placed whole front rest b at false false is size =
    value_there whole (bare at b rest).element (raw_at whole front (b ∷ rest) (b ∷ take (free_len is_space (b == 92) rest) rest) at is size (ap (λ t. b ∷ t) (again (free_len is_space (b == 92) rest) rest)))

first_at : (whole : List ℕ) (e : ListElement) (r : Result (List ListElement) ListFault) → values_at whole (each place_of (with_first e r)) ≡ in_front (value_at whole (place_of e)) (values_at whole (each place_of r))
first_at whole e (Ok es) = refl
first_at whole e (Err fault) = refl

found_placed : (whole : List ℕ) (f : Result Found ListFault) (k : ℕ → Result (List ListElement) ListFault) → IsPlaced whole f
    → ((more : ℕ) → each value_of (k more) ≡ values_at whole (each place_of (k more))) → each value_of (found_first f k) ≡ values_at whole (each place_of (found_first f k))
found_placed whole (Ok f) k placed more =
    first_value f.element (value_of f.element) (k f.more) refl ∙ ap₂ in_front (sym placed) (more f.more) ∙ sym (first_at whole f.element (k f.more))
found_placed whole (Err fault) k placed more = refl

space_placed : (whole front rest : List ℕ) (b at : ℕ) (t : Bool) → whole ≡ front ++ (b ∷ rest) → length front ≡ at
    → ((skip : ℕ) → each value_of (elements_from skip (at + 1) rest) ≡ values_at whole (each place_of (elements_from skip (at + 1) rest)))
    → each value_of (cond t (elements_from 0 (at + 1) rest) (found_first (element at b rest) (λ more. elements_from more (at + 1) rest)))
    ≡ values_at whole (each place_of (cond t (elements_from 0 (at + 1) rest) (found_first (element at b rest) (λ more. elements_from more (at + 1) rest))))
space_placed whole front rest b at true is size more = more 0
space_placed whole front rest b at false is size more = found_placed whole (element at b rest) _ (element_placed whole front rest b at (b == 123) (b == 34) is size) more

all_placed : (whole front text : List ℕ) (skip at : ℕ) → whole ≡ front ++ text → length front ≡ at → each value_of (elements_from skip at text) ≡ values_at whole (each place_of (elements_from skip at text))
all_placed whole front [] skip at is size = refl
all_placed whole front (b ∷ rest) (suc skip) at is size = let on = one_on whole front rest b at is size in all_placed whole (front ++ (b ∷ [])) rest skip (at + 1) on.0 on.1
all_placed whole front (b ∷ rest) zero at is size =
    let on = one_on whole front rest b at is size in
    space_placed whole front rest b at (is_space b) is size (λ skip. all_placed whole (front ++ (b ∷ [])) rest skip (at + 1) on.0 on.1)

pub places_hold : PlacesHoldValues
places_hold text = all_placed text [] text 0 0 refl refl
