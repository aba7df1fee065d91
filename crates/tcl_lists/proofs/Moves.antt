-- What white space before a list does, and what is added to a written list.
use Rattle.std.proofs.Common.{◌≡◌, ℕ, zero, suc, ◌+◌, ◌<◌, Bool, true, false, ◌==◌, cond, List, []}
use Rattle.std.proofs.Common.{◌∷◌, ◌++◌, length, get_or, take, Result, Ok, Err, sym, ap, refl, ◌∙◌}
use Rattle.std.proofs.Common.{arith, add-zero, append_assoc}
use Rattle.std.specs.List.{AllPass}
use Rattle.std.proofs.lemmas.List.{length-take-le, take_more}
use Rattle.std.proofs.lemmas.List.Elements.{All-head, All-tail}
use Rattle.px_bytes.specs.White.{is_space}
use Rattle.tcl_lists.specs.Element.{ListElement, Found, is_quote, free_len, brace_len, value_of}
use Rattle.tcl_lists.specs.Element.{enclosed, bare, element}
use Rattle.tcl_lists.specs.Laws.{fault_further, further, BracesKeepBytes, WhiteSpaceMoves}
use Rattle.tcl_lists.specs.Read.{found_first, each, elements_from}
use Rattle.tcl_lists.specs.Write.{spelled, joined, blank_behind}
use Rattle.tcl_lists.specs.declared.fault.ListFault.{ListFault}
use Rattle.tcl_lists.specs.declared.fault.ListFault.TheVariants.{OpenBrace, OpenQuote, Extra}
use Rattle.tcl_lists.proofs.Again.{in_front, first_value, braced_reads}

-- the same element further on, or the same fault
abbrev Same : ℕ → Result Found ListFault → Result Found ListFault → Type 0
Same n (Ok f) (Ok g) = (value_of f.element ≡ value_of g.element) × (f.more ≡ g.more)
Same n (Ok f) (Err e) = ⊥
Same n (Err e) (Ok g) = ⊥
Same n (Err e) (Err d) = e ≡ fault_further n d

enclosed_by : (n at count : ℕ) (p q in_braces : Bool) (fault : ListFault) (rest : List ℕ)
    → Same n (cond p (cond q (Ok (record { element = record { raw = take count rest; start = at + n + 1; braced = in_braces }; more = count + 1 })) (Err (Extra (at + n)))) (Err (fault_further n fault)))
    (cond p (cond q (Ok (record { element = record { raw = take count rest; start = at + 1; braced = in_braces }; more = count + 1 })) (Err (Extra at))) (Err fault))
enclosed_by n at count true true in_braces fault rest = (refl, refl)
enclosed_by n at count true false in_braces fault rest = refl
enclosed_by n at count false q in_braces fault rest = refl

element_by : (n at b : ℕ) (p q : Bool) (rest : List ℕ)
    → Same n (cond p (enclosed (at + n) (OpenBrace (at + n)) true (brace_len false 0 rest) rest) (cond q (enclosed (at + n) (OpenQuote (at + n)) false (free_len is_quote false rest) rest) (Ok (bare (at + n) b rest))))
    (cond p (enclosed at (OpenBrace at) true (brace_len false 0 rest) rest) (cond q (enclosed at (OpenQuote at) false (free_len is_quote false rest) rest) (Ok (bare at b rest))))
element_by n at b true q rest = enclosed_by n at (brace_len false 0 rest) _ _ true (OpenBrace at) rest
element_by n at b false true rest = enclosed_by n at (free_len is_quote false rest) _ _ false (OpenQuote at) rest
element_by n at b false false rest = (refl, refl)

in_front_further : (n : ℕ) (x : List ℕ) (r : Result (List (List ℕ)) ListFault) → in_front x (further n r) ≡ further n (in_front x r)
in_front_further n x (Ok xs) = refl
in_front_further n x (Err fault) = refl

found_moves : (n : ℕ) (f g : Result Found ListFault) (k m : ℕ → Result (List ListElement) ListFault) → Same n f g
    → ((more : ℕ) → each value_of (k more) ≡ further n (each value_of (m more))) → each value_of (found_first f k) ≡ further n (each value_of (found_first g m))
found_moves n (Ok f) (Ok g) k m same more =
    first_value f.element (value_of g.element) (k f.more) same.0 ∙ ap (λ i. in_front (value_of g.element) (each value_of (k i))) same.1
    ∙ ap (in_front (value_of g.element)) (more g.more) ∙ in_front_further n (value_of g.element) (each value_of (m g.more))
    ∙ ap (further n) (sym (first_value g.element (value_of g.element) (m g.more) refl))
found_moves n (Ok f) (Err e) k m same more = absurd same
found_moves n (Err e) (Ok g) k m same more = absurd same
found_moves n (Err e) (Err d) k m same more = ap Err same

space_by : (n at : ℕ) (t : Bool) (b : ℕ) (rest : List ℕ) → ((skip : ℕ) → each value_of (elements_from skip (at + n + 1) rest) ≡ further n (each value_of (elements_from skip (at + 1) rest)))
    → each value_of (cond t (elements_from 0 (at + n + 1) rest) (found_first (element (at + n) b rest) (λ more. elements_from more (at + n + 1) rest)))
    ≡ further n (each value_of (cond t (elements_from 0 (at + 1) rest) (found_first (element at b rest) (λ more. elements_from more (at + 1) rest))))
space_by n at true b rest more = more 0
space_by n at false b rest more = found_moves n (element (at + n) b rest) (element at b rest) _ _ (element_by n at b (b == 123) (b == 34) rest) more

-- reading so much further on gives the same values, and a fault so much further on
moves : (n skip at : ℕ) (text : List ℕ) → each value_of (elements_from skip (at + n) text) ≡ further n (each value_of (elements_from skip at text))
moves n skip at [] = refl
moves n (suc skip) at (b ∷ rest) = let same : at + n + 1 ≡ at + 1 + n = omega arith in ap (λ i. each value_of (elements_from skip i rest)) same ∙ moves n skip (at + 1) rest
moves n zero at (b ∷ rest) =
    let same : at + n + 1 ≡ at + 1 + n = omega arith in
    space_by n at (is_space b) b rest (λ skip. ap (λ i. each value_of (elements_from skip i rest)) same ∙ moves n skip (at + 1) rest)

white_passed : (white text : List ℕ) (at : ℕ) → AllPass is_space white → elements_from 0 at (white ++ text) ≡ elements_from 0 (at + length white) text
white_passed [] text at all = ap (λ i. elements_from 0 i text) (sym (add-zero at))
white_passed (b ∷ white) text at all =
    let same : at + 1 + length white ≡ at + length (b ∷ white) = omega arith in
    ap (λ t. cond t (elements_from 0 (at + 1) (white ++ text)) (found_first (element at b (white ++ text)) (λ more. elements_from more (at + 1) (white ++ text)))) (All-head (λ x. is_space x ≡ true) b white all)
    ∙ white_passed white text (at + 1) (All-tail (λ x. is_space x ≡ true) b white all) ∙ ap (λ i. elements_from 0 i text) same

pub white_moves : WhiteSpaceMoves
white_moves white text all = ap (each value_of) (white_passed white text 0 all) ∙ moves (length white) 0 0 text

pub braces_keep : BracesKeepBytes
braces_keep bytes size = braced_reads bytes [] 0 size refl

-- WRITTEN

behind_others : (x : List ℕ) (xs : List (List ℕ)) (y : List ℕ) → joined ((x ∷ xs) ++ (y ∷ [])) ≡ joined (x ∷ xs) ++ (32 ∷ spelled y)
behind_others x [] y = refl
behind_others x (z ∷ zs) y = ap (λ t. spelled x ++ (32 ∷ t)) (behind_others z zs y) ∙ sym (append_assoc (spelled x) (32 ∷ joined (z ∷ zs)) (32 ∷ spelled y))

-- one element more
pub joined_more : (xs : List (List ℕ)) (y : List ℕ) (count : ℕ) → count ≡ length xs → joined (xs ++ (y ∷ [])) ≡ (joined xs ++ blank_behind count) ++ spelled y
joined_more [] y count size = ap (λ n. blank_behind n ++ spelled y) (sym size)
joined_more (x ∷ xs) y count size = behind_others x xs y ∙ sym (append_assoc (joined (x ∷ xs)) (32 ∷ []) (spelled y)) ∙ ap (λ n. (joined (x ∷ xs) ++ blank_behind n) ++ spelled y) (sym size)

pub one_written : (items : List (List ℕ)) (at : ℕ) (out once twice item : List ℕ) → at < length items → item ≡ get_or items at item
    → out ≡ joined (take at items) → once ≡ out ++ blank_behind at → twice ≡ once ++ spelled item → twice ≡ joined (take (at + 1) items)
one_written items at out once twice item inside is e f g =
    g ∙ ap (λ t. t ++ spelled item) (f ∙ ap (λ t. t ++ blank_behind at) e) ∙ sym (joined_more (take at items) item at (sym (length-take-le at items (omega arith))))
    ∙ ap (λ x. joined (take at items ++ (x ∷ []))) is ∙ ap joined (sym (take_more items at item inside))
