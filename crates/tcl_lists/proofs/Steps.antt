-- Steps of reading and writing.
use Rattle.std.proofs.Common.{◌≡◌, ℕ, zero, suc, ◌+◌, ◌-◌, ◌*◌, ◌%◌, ◌<◌, ◌≤◌, Bool, true, false}
use Rattle.std.proofs.Common.{not, ◌==◌, cond, List, [], ◌∷◌, ◌++◌, length, get_or, take, drop, Ok}
use Rattle.std.proofs.Common.{Err, sym, ap, ap₂, refl, ◌∙◌, arith, add-zero, add-one, append_assoc}
use Rattle.std.proofs.Common.{append-nil}
use Rattle.std.specs.Char.{digit_value}
use Rattle.std.specs.List.{position_or_len}
use Rattle.std.specs.Str.Parse.{digits_value_after}
use Rattle.std.proofs.lemmas.Bool.Decides.{nat_tests}
use Rattle.std.proofs.lemmas.List.{at_drop_more, get_or-drop, length-drop, nil_from_length}
use Rattle.std.proofs.lemmas.List.{take_rest}
use Rattle.std.proofs.lemmas.List.Sums.{passes_at_first}
use Rattle.std.proofs.lemmas.Nat.{mul-mod_first}
use Rattle.px_bytes.specs.White.{is_space}
use Rattle.tcl_lists.specs.Element.{Found, element}
use Rattle.tcl_lists.specs.Escape.{escape, replaced_from, replaced}
use Rattle.tcl_lists.specs.Read.{with_first, found_first, elements_from}
use Rattle.tcl_lists.specs.Write.{is_special, escape_letter, spelled_bytes}
use Rattle.tcl_lists.specs.declared.escape.Escape.{Escape}
use Rattle.tcl_lists.specs.declared.fault.ListFault.{ListFault}

-- DIGITS

same_step : (radix m n d : ℕ) → m % 256 ≡ n % 256 → (m * radix + d) % 256 ≡ (n * radix + d) % 256
same_step radix m n d e =
    let p : (m * radix) % 256 ≡ (n * radix) % 256 = sym (mul-mod_first m radix 256) ∙ ap (λ x. (x * radix) % 256) e ∙ mul-mod_first n radix 256 in
    omega arith

same_after : (radix m n : ℕ) (ds : List ℕ) → m % 256 ≡ n % 256 → digits_value_after radix m ds % 256 ≡ digits_value_after radix n ds % 256
same_after radix m n [] e = e
same_after radix m n (d ∷ ds) e = same_after radix (m * radix + digit_value d) (n * radix + digit_value d) ds (same_step radix m n (digit_value d) e)

pub one_digit : (radix value next at : ℕ) (text : List ℕ) (whole : ℕ) → at < length text → next ≡ ((value * radix) % 256 + digit_value (get_or text at 0)) % 256
    → digits_value_after radix value (drop at text) % 256 ≡ whole → digits_value_after radix next (drop (at + 1) text) % 256 ≡ whole
one_digit radix value next at text whole inside e same =
    let d = digit_value (get_or text at 0) in
    let small : next % 256 ≡ (value * radix + d) % 256 = omega arith in
    same_after radix next (value * radix + d) (drop (at + 1) text) small ∙ sym (ap (λ n. n % 256) (at_drop_more (digits_value_after radix value) text at 0 inside)) ∙ same

-- RUNS

run_step : (f : List ℕ → List ℕ) (b : Bool) (x n : ℕ) (xs : List ℕ) → (b ≡ false → f (x ∷ xs) ≡ x ∷ f xs) → f xs ≡ take n xs ++ f (drop n xs)
    → f (x ∷ xs) ≡ take (cond (not b) (1 + n) 0) (x ∷ xs) ++ f (drop (cond (not b) (1 + n) 0) (x ∷ xs))
run_step f true x n xs plain more = refl
run_step f false x n xs plain more = let s : 1 + n ≡ suc n = omega arith in rw s (plain refl ∙ ap (λ t. x ∷ t) more)

-- what keeps each byte that fails the test keeps those before the first that passes
pub run : (f : List ℕ → List ℕ) (p : ℕ → Bool) → ((x : ℕ) (xs : List ℕ) → p x ≡ false → f (x ∷ xs) ≡ x ∷ f xs)
    → (xs : List ℕ) → f xs ≡ take (position_or_len p xs) xs ++ f (drop (position_or_len p xs) xs)
run f p plain [] = refl
run f p plain (x ∷ xs) = run_step f (p x) x (position_or_len p xs) xs (plain x xs) (run f p plain xs)

-- and ends where nothing is left behind them
pub run_ends : (f : List ℕ → List ℕ) (p : ℕ → Bool) → f [] ≡ [] → ((x : ℕ) (xs : List ℕ) → p x ≡ false → f (x ∷ xs) ≡ x ∷ f xs)
    → (xs other : List ℕ) → other ≡ drop (position_or_len p xs) xs → length other < 1 → f xs ≡ take (position_or_len p xs) xs
run_ends f p none plain xs other back over =
    let left : drop (position_or_len p xs) xs ≡ [] = sym back ∙ nil_from_length other (omega arith) in
    run f p plain xs ∙ ap (λ t. take (position_or_len p xs) xs ++ f t) left ∙ ap (λ t. take (position_or_len p xs) xs ++ t) none ∙ append-nil _

-- the byte behind them passes
pub passes : (p : ℕ → Bool) (xs other : List ℕ) → other ≡ drop (position_or_len p xs) xs → 1 ≤ length other → p (get_or other 0 0) ≡ true
passes p xs other back some =
    let k = position_or_len p xs in
    let inside : k < length xs = omega (arith, length-drop k xs, ap length back) in
    let same : k + 0 ≡ k = omega arith in
    ap (λ t. p (get_or t 0 0)) back ∙ ap p (get_or-drop k xs 0 0 ∙ ap (λ i. get_or xs i 0) same) ∙ passes_at_first p xs 0 inside

-- two pieces are added, and the tail is still to come
pub two_added : (out front middle tail whole once twice : List ℕ) → once ≡ out ++ front → twice ≡ once ++ middle → out ++ (front ++ (middle ++ tail)) ≡ whole → twice ++ tail ≡ whole
two_added out front middle tail whole once twice e f g =
    ap (λ t. t ++ tail) (f ∙ ap (λ t. t ++ middle) e) ∙ append_assoc (out ++ front) middle tail ∙ append_assoc out front (middle ++ tail) ∙ g

-- ESCAPES

pub replaced_skip : (skip : ℕ) (text : List ℕ) → replaced_from skip text ≡ replaced (drop skip text)
replaced_skip zero text = refl
replaced_skip (suc skip) [] = refl
replaced_skip (suc skip) (b ∷ rest) = replaced_skip skip rest

abbrev pub is_backslash : ℕ → Bool
is_backslash b = b == 92

pub plain_kept : (b : ℕ) (rest : List ℕ) → is_backslash b ≡ false → replaced (b ∷ rest) ≡ b ∷ replaced rest
plain_kept b rest e = ap (λ t. cond t ((escape rest).byte ∷ replaced_from (escape rest).taken rest) (b ∷ replaced_from 0 rest)) e

-- a backslash, and what it takes
pub one_replaced : (b : ℕ) (rest : List ℕ) (e : Escape) → is_backslash b ≡ true → e ≡ escape rest → replaced (b ∷ rest) ≡ (e.byte ∷ []) ++ replaced (drop e.taken rest)
one_replaced b rest e is same =
    ap (λ t. cond t ((escape rest).byte ∷ replaced_from (escape rest).taken rest) (b ∷ replaced_from 0 rest)) is
    ∙ ap (λ (x : Escape). x.byte ∷ replaced_from x.taken rest) (sym same) ∙ ap (λ t. e.byte ∷ t) (replaced_skip e.taken rest)

pub nothing_replaced : replaced [] ≡ []
nothing_replaced = refl

-- what one turn of the loop adds
pub replaced_turn : (rest other : List ℕ) (e : Escape) → other ≡ drop (position_or_len is_backslash rest) rest → 1 ≤ length other
    → e ≡ escape (take (length other - 1) (drop 1 other)) → e.taken ≤ length other - 1
    → replaced rest ≡ take (position_or_len is_backslash rest) rest ++ ((e.byte ∷ []) ++ replaced (take (length (take (length other - 1) (drop 1 other)) - e.taken) (drop e.taken (take (length other - 1) (drop 1 other)))))
replaced_turn rest [] e back some same within = absurd (omega arith)
replaced_turn rest (b ∷ behind) e back some same within =
    let tail : take (length (b ∷ behind) - 1) (drop 1 (b ∷ behind)) ≡ behind = take_rest (b ∷ behind) 1 in
    let slashed : is_backslash b ≡ true = passes is_backslash rest (b ∷ behind) back some in
    let here : e ≡ escape behind = same ∙ ap escape tail in
    rw (tail, take_rest behind e.taken)
    (run replaced is_backslash plain_kept rest ∙ ap (λ t. take (position_or_len is_backslash rest) rest ++ replaced t) (sym back)
    ∙ ap (λ t. take (position_or_len is_backslash rest) rest ++ t) (one_replaced b behind e slashed here))

-- WRITING

pub plain_spelled : (b : ℕ) (rest : List ℕ) → is_special b ≡ false → spelled_bytes (b ∷ rest) ≡ b ∷ spelled_bytes rest
plain_spelled b rest e = ap (λ t. cond t (92 ∷ (escape_letter b ∷ [])) (b ∷ []) ++ spelled_bytes rest) e

pub spelled_turn : (rest other : List ℕ) → other ≡ drop (position_or_len is_special rest) rest → 1 ≤ length other
    → spelled_bytes rest ≡ take (position_or_len is_special rest) rest ++ ((92 ∷ (escape_letter (get_or other 0 0) ∷ [])) ++ spelled_bytes (take (length other - 1) (drop 1 other)))
spelled_turn rest [] back some = absurd (omega arith)
spelled_turn rest (b ∷ behind) back some =
    let special : is_special b ≡ true = passes is_special rest (b ∷ behind) back some in
    rw (take_rest (b ∷ behind) 1)
    (run spelled_bytes is_special plain_spelled rest ∙ ap (λ t. take (position_or_len is_special rest) rest ++ spelled_bytes t) (sym back)
    ∙ ap (λ t. take (position_or_len is_special rest) rest ++ (cond t (92 ∷ (escape_letter b ∷ [])) (b ∷ []) ++ spelled_bytes behind)) special)

-- ELEMENTS

pub elements_skip : (skip at : ℕ) (text : List ℕ) → elements_from skip at text ≡ elements_from 0 (at + skip) (drop skip text)
elements_skip zero at text = ap (λ n. elements_from 0 n text) (sym (add-zero at))
elements_skip (suc skip) at [] = refl
elements_skip (suc skip) at (b ∷ rest) = let same : at + 1 + skip ≡ at + suc skip = omega arith in elements_skip skip (at + 1) rest ∙ ap (λ n. elements_from 0 n (drop skip rest)) same

-- an element stands at the front
pub found_at_front : (at b : ℕ) (rest : List ℕ) (f : Found) → is_space b ≡ false → element at b rest ≡ Ok f
    → elements_from 0 at (b ∷ rest) ≡ with_first f.element (elements_from 0 (at + 1 + f.more) (drop f.more rest))
found_at_front at b rest f other e =
    ap (λ t. cond t (elements_from 0 (at + 1) rest) (found_first (element at b rest) (λ more. elements_from more (at + 1) rest))) other
    ∙ ap (λ r. found_first r (λ more. elements_from more (at + 1) rest)) e ∙ ap (with_first f.element) (elements_skip f.more (at + 1) rest)

pub fault_at_front : (at b : ℕ) (rest : List ℕ) (fault : ListFault) → is_space b ≡ false → element at b rest ≡ Err fault → elements_from 0 at (b ∷ rest) ≡ Err fault
fault_at_front at b rest fault other e =
    ap (λ t. cond t (elements_from 0 (at + 1) rest) (found_first (element at b rest) (λ more. elements_from more (at + 1) rest))) other
    ∙ ap (λ r. found_first r (λ more. elements_from more (at + 1) rest)) e

-- what the text behind its white space begins with
pub next_is : (text : List ℕ) (at : ℕ) (f : Found) → 0 < length text → is_space (get_or text 0 0) ≡ false → element at (get_or text 0 0) (drop 1 text) ≡ Ok f
    → elements_from 0 at text ≡ with_first f.element (elements_from 0 (at + f.more + 1) (take (length text - (f.more + 1)) (drop (f.more + 1) text)))
next_is [] at f some other e = absurd (omega arith)
next_is (b ∷ rest) at f some other e =
    let places : at + 1 + f.more ≡ at + f.more + 1 = omega arith in
    rw (take_rest (b ∷ rest) (f.more + 1)) (found_at_front at b rest f other e ∙ ap₂ (λ n t. with_first f.element (elements_from 0 n t)) places (ap (λ n. drop n (b ∷ rest)) (sym (add-one f.more))))

pub fault_is : (text : List ℕ) (at : ℕ) (fault : ListFault) → 0 < length text → is_space (get_or text 0 0) ≡ false → element at (get_or text 0 0) (drop 1 text) ≡ Err fault
    → elements_from 0 at text ≡ Err fault
fault_is [] at fault some other e = absurd (omega arith)
fault_is (b ∷ rest) at fault some other e = fault_at_front at b rest fault other e

pub nothing_is : (text : List ℕ) (at : ℕ) → (length text == 0) ≡ true → elements_from 0 at text ≡ Ok []
nothing_is [] at e = refl
nothing_is (b ∷ rest) at e = let never : ⊥ = grind (arith, nat_tests) in absurd never
