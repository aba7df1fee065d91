-- What is read is a list of the grammar.
use Rattle.std.proofs.Common.{◌≡◌, ℕ, zero, suc, ◌+◌, ◌-◌, ◌<◌, Bool, true, false, ◌&&◌, ◌==◌, ltb}
use Rattle.std.proofs.Common.{cond, ◌⊎◌, inl, inr, List, [], ◌∷◌, ◌++◌, length, take, drop, map}
use Rattle.std.proofs.Common.{Result, Ok, Err, sym, ap, ap₂, refl, subst, ◌∙◌, arith, add-one}
use Rattle.std.proofs.Common.{append_assoc}
use Rattle.std.proofs.lemmas.Bool.{false≢true}
use Rattle.std.proofs.lemmas.Bool.Decides.{nat_tests, Decides-eqb}
use Rattle.std.proofs.lemmas.List.{take-append-drop, take_all, drop_all}
use Rattle.px_bytes.specs.White.{is_space}
use Rattle.tcl_lists.specs.Element.{ListElement, is_quote, free_len, brace_len, value_of}
use Rattle.tcl_lists.specs.Element.{stands_alone, enclosed, bare, element}
use Rattle.tcl_lists.specs.Escape.{replaced}
use Rattle.tcl_lists.specs.Grammar.{is_plain, Balanced, Free, begins_bare, IsList}
use Rattle.tcl_lists.specs.Grammar.{ReadsExactlyLists, SplitsList}
use Rattle.tcl_lists.specs.Grammar.Balanced.{NoByte, Plain, Taken, Nested}
use Rattle.tcl_lists.specs.Grammar.Free.{FreeEnd, FreeByte, FreeTaken}
use Rattle.tcl_lists.specs.Grammar.IsList.{NoElement, White, InBraces, InQuotes, Bare, BareEnd}
use Rattle.tcl_lists.specs.Read.{with_first, found_first, each, elements_from, list_values, Answers}
use Rattle.tcl_lists.specs.declared.fault.ListFault.{ListFault}
use Rattle.tcl_lists.specs.declared.fault.ListFault.TheVariants.{OpenBrace, OpenQuote, Extra}
use Rattle.tcl_lists.specs.declared.fault.ListFault.TheVariants.{Memory}
use Rattle.tcl_lists.proofs.Spelled.{spelled_reads}
use Rattle.tcl_lists.proofs.Steps.{elements_skip}

-- the backslash before, where there is one
abbrev before : Bool → List ℕ → List ℕ
before false xs = xs
before true xs = 92 ∷ xs

same_byte : (b v : ℕ) → (b == v) ≡ true → b ≡ v
same_byte b v e = (Decides-eqb b v).0 e

-- FREE BYTES

-- what stands behind free bytes: nothing, or a byte that passes
abbrev ends_at : (ℕ → Bool) → List ℕ → Type 0
ends_at test [] = Unit {0}
ends_at test (b ∷ bs) = test b ≡ true

-- free bytes up to one that passes or the end, or a last backslash alone
abbrev FreeCut : (ℕ → Bool) → Bool → List ℕ → Type 0
FreeCut test taken xs = let n = free_len test taken xs in
    (Free test (before taken (take n xs)) × ends_at test (drop n xs))
    ⊎ ((raw : List ℕ) × Free test raw × (before taken xs ≡ raw ++ (92 ∷ [])) × (n ≡ length xs))

more_free : (test : ℕ → Bool) (b : ℕ) (xs : List ℕ) → test b ≡ false → (b == 92) ≡ false → FreeCut test false xs
    → (Free test (take (1 + free_len test false xs) (b ∷ xs)) × ends_at test (drop (1 + free_len test false xs) (b ∷ xs)))
    ⊎ ((raw : List ℕ) × Free test raw × ((b ∷ xs) ≡ raw ++ (92 ∷ [])) × (1 + free_len test false xs ≡ length (b ∷ xs)))
more_free test b xs h slash (inl w) = let s : 1 + free_len test false xs ≡ suc (free_len test false xs) = omega arith in rw s (inl (FreeByte h slash w.0, w.1))
more_free test b xs h slash (inr w) = inr (b ∷ w.0, FreeByte h slash w.1, ap (λ t. b ∷ t) w.2, omega (arith, w.3))

taken_free : (test : ℕ → Bool) (c : ℕ) (xs : List ℕ) → FreeCut test false xs → FreeCut test true (c ∷ xs)
taken_free test c xs (inl w) = let s : 1 + free_len test false xs ≡ suc (free_len test false xs) = omega arith in rw s (inl (FreeTaken c w.0, w.1))
taken_free test c xs (inr w) = inr (92 ∷ (c ∷ w.0), FreeTaken c w.1, ap (λ t. 92 ∷ (c ∷ t)) w.2, omega (arith, w.3))

slash_free : (test : ℕ → Bool) (xs : List ℕ) → FreeCut test true xs
    → (Free test (take (1 + free_len test true xs) (92 ∷ xs)) × ends_at test (drop (1 + free_len test true xs) (92 ∷ xs)))
    ⊎ ((raw : List ℕ) × Free test raw × ((92 ∷ xs) ≡ raw ++ (92 ∷ [])) × (1 + free_len test true xs ≡ length (92 ∷ xs)))
slash_free test xs (inl w) = let s : 1 + free_len test true xs ≡ suc (free_len test true xs) = omega arith in rw s (inl (w.0, w.1))
slash_free test xs (inr w) = inr (w.0, w.1, w.2, omega (arith, w.3))

-- by the tests of the first byte
free_by : (test : ℕ → Bool) (b : ℕ) (xs : List ℕ) (p q : Bool) → test b ≡ p → (b == 92) ≡ q → FreeCut test false xs → FreeCut test true xs
    → let n = cond p 0 (1 + free_len test q xs) in
    (Free test (take n (b ∷ xs)) × ends_at test (drop n (b ∷ xs))) ⊎ ((raw : List ℕ) × Free test raw × ((b ∷ xs) ≡ raw ++ (92 ∷ [])) × (n ≡ length (b ∷ xs)))
free_by test b xs true q e f plain taken = inl (FreeEnd, e)
free_by test b xs false false e f plain taken = more_free test b xs e f plain
free_by test b xs false true e f plain taken =
    subst (λ (v : ℕ). let n = 1 + free_len test true xs in
    (Free test (take n (v ∷ xs)) × ends_at test (drop n (v ∷ xs))) ⊎ ((raw : List ℕ) × Free test raw × ((v ∷ xs) ≡ raw ++ (92 ∷ [])) × (n ≡ length (v ∷ xs))))
    (sym (same_byte b 92 f)) (slash_free test xs taken)

free_cut : (test : ℕ → Bool) (taken : Bool) (xs : List ℕ) → FreeCut test taken xs
free_cut test false [] = inl (FreeEnd, tt)
free_cut test true [] = inr ([], FreeEnd, refl, refl)
free_cut test false (b ∷ xs) = free_by test b xs (test b) (b == 92) refl refl (free_cut test false xs) (free_cut test true xs)
free_cut test true (c ∷ xs) = taken_free test c xs (free_cut test false xs)

-- BRACES

-- bytes with so many closing braces that have no partner before them
abbrev Segments : ℕ → List ℕ → Type 0
Segments zero xs = Balanced xs
Segments (suc d) xs = (ys : List ℕ) × (zs : List ℕ) × (xs ≡ ys ++ (125 ∷ zs)) × Balanced ys × Segments d zs

-- what can stand before balanced bytes can stand before segments
put_before : (p : List ℕ) → ((ys : List ℕ) → Balanced ys → Balanced (p ++ ys)) → (d : ℕ) (xs : List ℕ) → Segments d xs → Segments d (p ++ xs)
put_before p can zero xs s = can xs s
put_before p can (suc d) xs s = (p ++ s.0, s.1, ap (λ t. p ++ t) s.2 ∙ sym (append_assoc p s.0 (125 ∷ s.1)), can s.0 s.3, s.4)

nest : (d : ℕ) (xs : List ℕ) → Segments (suc d) xs → Segments d (123 ∷ xs)
nest d xs s =
    let p = 123 ∷ (s.0 ++ (125 ∷ [])) in
    let can : (ys : List ℕ) → Balanced ys → Balanced (p ++ ys) = λ ys by. subst Balanced (ap (λ t. 123 ∷ t) (sym (append_assoc s.0 (125 ∷ []) ys))) (Nested s.3 by) in
    subst (Segments d) (ap (λ t. 123 ∷ t) (append_assoc s.0 (125 ∷ []) s.1 ∙ sym s.2)) (put_before p can d s.1 s.4)

-- the bytes before the closing brace, and that it is one
abbrev BraceCut : Bool → ℕ → List ℕ → Type 0
BraceCut taken depth xs = let n = brace_len taken depth xs in
    n < length xs → Segments depth (before taken (take n xs)) × (drop n xs ≡ 125 ∷ drop (n + 1) xs)

one_more : (n : ℕ) (b : ℕ) (xs : List ℕ) → drop n xs ≡ 125 ∷ drop (n + 1) xs → drop (1 + n) (b ∷ xs) ≡ 125 ∷ drop (1 + n + 1) (b ∷ xs)
one_more n b xs e = let s : 1 + n ≡ suc n = omega arith in let t : 1 + n + 1 ≡ suc (n + 1) = omega arith in rw (t, s) e

brace_taken : (c depth : ℕ) (xs : List ℕ) → BraceCut false depth xs → BraceCut true depth (c ∷ xs)
brace_taken c depth xs more inside =
    let w = more (omega arith) in
    let s : 1 + brace_len false depth xs ≡ suc (brace_len false depth xs) = omega arith in
    (subst (λ (n : ℕ). Segments depth (92 ∷ take n (c ∷ xs))) (sym s) (put_before (92 ∷ (c ∷ [])) (λ ys by. Taken c by) depth (take (brace_len false depth xs) xs) w.0), one_more (brace_len false depth xs) c xs w.1)

-- what the first byte makes of it
abbrev CutsAt : ℕ → ℕ → List ℕ → Type 0
CutsAt n depth bytes = n < length bytes → Segments depth (take n bytes) × (drop n bytes ≡ 125 ∷ drop (n + 1) bytes)

no_segment : (depth : ℕ) → depth ≡ 0 → Segments depth []
no_segment depth e = subst (λ (d : ℕ). Segments d []) (sym e) NoByte

closes_all : (b depth : ℕ) (xs : List ℕ) → (b == 125) ≡ true → (depth == 0) ≡ true → CutsAt 0 depth (b ∷ xs)
closes_all b depth xs e f inside = (no_segment depth (same_byte depth 0 f), ap (λ v. v ∷ xs) (same_byte b 125 e))

closes_one : (b depth : ℕ) (xs : List ℕ) → (b == 125) ≡ true → (depth == 0) ≡ false → BraceCut false (depth - 1) xs → CutsAt (1 + brace_len false (depth - 1) xs) depth (b ∷ xs)
closes_one b zero xs e f more inside = absurd (false≢true (sym f))
closes_one b (suc d) xs e f more inside =
    let less : suc d - 1 ≡ d = omega arith in
    let n = brace_len false (suc d - 1) xs in
    let w = more (omega arith) in
    let s : 1 + n ≡ suc n = omega arith in
    let first : b ∷ take n xs ≡ 125 ∷ take n xs = ap (λ v. v ∷ take n xs) (same_byte b 125 e) in
    let here : Segments (suc d) (b ∷ take n xs) = ([], take n xs, first, NoByte, subst (λ (k : ℕ). Segments k (take n xs)) less w.0) in
    (subst (λ (k : ℕ). Segments (suc d) (take k (b ∷ xs))) (sym s) here, one_more n b xs w.1)

opens_one : (b depth : ℕ) (xs : List ℕ) → (b == 123) ≡ true → BraceCut false (depth + 1) xs → CutsAt (1 + brace_len false (depth + 1) xs) depth (b ∷ xs)
opens_one b depth xs e more inside =
    let n = brace_len false (depth + 1) xs in
    let w = more (omega arith) in
    let s : 1 + n ≡ suc n = omega arith in
    let deeper : Segments (suc depth) (take n xs) = subst (λ (k : ℕ). Segments k (take n xs)) (add-one depth) w.0 in
    let here : Segments depth (b ∷ take n xs) = subst (λ (v : ℕ). Segments depth (v ∷ take n xs)) (sym (same_byte b 123 e)) (nest depth (take n xs) deeper) in
    (subst (λ (k : ℕ). Segments depth (take k (b ∷ xs))) (sym s) here, one_more n b xs w.1)

slash_one : (b depth : ℕ) (xs : List ℕ) → (b == 92) ≡ true → BraceCut true depth xs → CutsAt (1 + brace_len true depth xs) depth (b ∷ xs)
slash_one b depth xs e more inside =
    let n = brace_len true depth xs in
    let w = more (omega arith) in
    let s : 1 + n ≡ suc n = omega arith in
    let here : Segments depth (b ∷ take n xs) = subst (λ (v : ℕ). Segments depth (v ∷ take n xs)) (sym (same_byte b 92 e)) w.0 in
    (subst (λ (k : ℕ). Segments depth (take k (b ∷ xs))) (sym s) here, one_more n b xs w.1)

plain_one : (b depth : ℕ) (xs : List ℕ) → is_plain b ≡ true → BraceCut false depth xs → CutsAt (1 + brace_len false depth xs) depth (b ∷ xs)
plain_one b depth xs e more inside =
    let n = brace_len false depth xs in
    let w = more (omega arith) in
    let s : 1 + n ≡ suc n = omega arith in
    (subst (λ (k : ℕ). Segments depth (take k (b ∷ xs))) (sym s) (put_before (b ∷ []) (λ ys by. Plain e by) depth (take n xs) w.0), one_more n b xs w.1)

brace_by : (b depth : ℕ) (xs : List ℕ) (slash opens closes none : Bool) → (b == 92) ≡ slash → (b == 123) ≡ opens → (b == 125) ≡ closes → (depth == 0) ≡ none
    → ((taken : Bool) (d : ℕ) → BraceCut taken d xs) → CutsAt (cond (closes && none) 0 (1 + brace_len slash (cond opens (depth + 1) (cond closes (depth - 1) depth)) xs)) depth (b ∷ xs)
brace_by b depth xs true true closes none e f g h more = let never : ⊥ = grind (arith, nat_tests) in absurd never
brace_by b depth xs true false true none e f g h more = let never : ⊥ = grind (arith, nat_tests) in absurd never
brace_by b depth xs true false false none e f g h more = slash_one b depth xs e (more true depth)
brace_by b depth xs false true true none e f g h more = let never : ⊥ = grind (arith, nat_tests) in absurd never
brace_by b depth xs false true false none e f g h more = opens_one b depth xs f (more false (depth + 1))
brace_by b depth xs false false true true e f g h more = closes_all b depth xs g h
brace_by b depth xs false false true false e f g h more = closes_one b depth xs g h (more false (depth - 1))
brace_by b depth xs false false false none e f g h more = plain_one b depth xs (simp (e, f, g)) (more false depth)

none_below : (n : ℕ) → n < n → ⊥
none_below n h = omega arith

brace_cut : (taken : Bool) (depth : ℕ) (xs : List ℕ) → BraceCut taken depth xs
brace_cut false depth [] = λ inside. absurd (none_below 0 inside)
brace_cut true depth [] = λ inside. absurd (none_below 0 inside)
brace_cut true depth (c ∷ xs) = brace_taken c depth xs (brace_cut false depth xs)
brace_cut false depth (b ∷ xs) = brace_by b depth xs (b == 92) (b == 123) (b == 125) (depth == 0) refl refl refl refl (λ taken d. brace_cut taken d xs)

-- READ

-- what was read behind the first element
record Behind (e : ListElement) (r : Result (List ListElement) ListFault) (xs : List (List ℕ)) : Type 0 where
  more : List (List ℕ)
  first : value_of e ∷ more ≡ xs
  others : each value_of r ≡ Ok more

read_behind : (e : ListElement) (r : Result (List ListElement) ListFault) (xs : List (List ℕ)) → each value_of (with_first e r) ≡ Ok xs → Behind e r xs
read_behind e (Ok es) xs is = record { more = map value_of es; first = cc; others = refl }
read_behind e (Err fault) xs is = cc

begins : (b : ℕ) (bs : List ℕ) → is_space b ≡ false → (b == 123) ≡ false → (b == 34) ≡ false → begins_bare (b ∷ bs) ≡ true
begins b bs e f g = simp (e, f, g)

alone_of : (ts : List ℕ) → ends_at is_space ts → stands_alone ts ≡ true
alone_of [] h = refl
alone_of (b ∷ bs) h = h

nothing_dropped : (skip : ℕ) → drop {A = ℕ} skip [] ≡ []
nothing_dropped zero = refl
nothing_dropped (suc skip) = refl

no_list : (skip : ℕ) (xs : List (List ℕ)) → ◌≡◌ {A = Result (List (List ℕ)) ListFault} (Ok []) (Ok xs) → IsList (drop skip []) xs
no_list skip xs is = let same : ◌≡◌ {A = List (List ℕ)} [] xs = cc in subst (IsList (drop skip [])) same (subst (λ (t : List ℕ). IsList t []) (sym (nothing_dropped skip)) NoElement)

inside_is : (count size : ℕ) → ltb count size ≡ true → count < size
inside_is count size e = grind (arith, nat_tests)

-- the closing byte stands between what is read and what is left
whole_of : (count close : ℕ) (rest : List ℕ) → drop count rest ≡ close ∷ drop (count + 1) rest → take count rest ++ (close ∷ drop (count + 1) rest) ≡ rest
whole_of count close rest e = ap (λ t. take count rest ++ t) (sym e) ∙ take-append-drop count rest

abbrev Listed : ℕ → ℕ → List ℕ → List (List ℕ) → Type 0
Listed skip at text xs = each value_of (elements_from skip at text) ≡ Ok xs → IsList (drop skip text) xs

braces_listed : (b at : ℕ) (rest : List ℕ) (xs : List (List ℕ)) (inside alone : Bool) → (b == 123) ≡ true → let count = brace_len false 0 rest in
    ltb count (length rest) ≡ inside → stands_alone (drop (count + 1) rest) ≡ alone
    → ((skip : ℕ) (ys : List (List ℕ)) → Listed skip (at + 1) rest ys)
    → each value_of (found_first (cond inside (cond alone (Ok (record { element = record { raw = take count rest; start = at + 1; braced = true }; more = count + 1 })) (Err (Extra at))) (Err (OpenBrace at))) (λ more. elements_from more (at + 1) rest)) ≡ Ok xs
    → IsList (b ∷ rest) xs
braces_listed b at rest xs true true e f g more is =
    let count = brace_len false 0 rest in
    let el : ListElement = record { raw = take count rest; start = at + 1; braced = true } in
    let read = read_behind el (elements_from (count + 1) (at + 1) rest) xs is in
    let cut = brace_cut false 0 rest (inside_is count (length rest) f) in
    let tail = more (count + 1) read.more read.others in
    let here : IsList (123 ∷ (take count rest ++ (125 ∷ drop (count + 1) rest))) (take count rest ∷ read.more) = InBraces cut.0 g tail in
    subst (IsList (b ∷ rest)) read.first
    (subst (λ (t : List ℕ). IsList t (take count rest ∷ read.more)) (ap₂ (λ v t. v ∷ t) (sym (same_byte b 123 e)) (whole_of count 125 rest cut.1)) here)
braces_listed b at rest xs true false e f g more is = cc
braces_listed b at rest xs false alone e f g more is = cc

quote_there : (count : ℕ) (rest : List ℕ) → count < length rest → ends_at is_quote (drop count rest) → drop count rest ≡ 34 ∷ drop (count + 1) rest
quote_there count [] inside h = absurd (omega arith)
quote_there zero (b ∷ rest) inside h = ap (λ v. v ∷ rest) (same_byte b 34 h)
quote_there (suc count) (b ∷ rest) inside h = let s : suc count + 1 ≡ suc (count + 1) = omega arith in rw s (quote_there count rest (omega arith) h)

quotes_listed : (b at : ℕ) (rest : List ℕ) (xs : List (List ℕ)) (inside alone : Bool) → (b == 34) ≡ true → let count = free_len is_quote false rest in
    ltb count (length rest) ≡ inside → stands_alone (drop (count + 1) rest) ≡ alone
    → ((skip : ℕ) (ys : List (List ℕ)) → Listed skip (at + 1) rest ys) → FreeCut is_quote false rest
    → each value_of (found_first (cond inside (cond alone (Ok (record { element = record { raw = take count rest; start = at + 1; braced = false }; more = count + 1 })) (Err (Extra at))) (Err (OpenQuote at))) (λ more. elements_from more (at + 1) rest)) ≡ Ok xs
    → IsList (b ∷ rest) xs
quotes_listed b at rest xs true true e f g more (inl w) is =
    let count = free_len is_quote false rest in
    let el : ListElement = record { raw = take count rest; start = at + 1; braced = false } in
    let read = read_behind el (elements_from (count + 1) (at + 1) rest) xs is in
    let close = quote_there count rest (inside_is count (length rest) f) w.1 in
    let tail = more (count + 1) read.more read.others in
    let here : IsList (34 ∷ (take count rest ++ (34 ∷ drop (count + 1) rest))) (replaced (take count rest) ∷ read.more) = InQuotes w.0 g tail in
    subst (IsList (b ∷ rest)) read.first
    (subst (λ (t : List ℕ). IsList t (replaced (take count rest) ∷ read.more)) (ap₂ (λ v t. v ∷ t) (sym (same_byte b 34 e)) (whole_of count 34 rest close)) here)
quotes_listed b at rest xs true true e f g more (inr w) is = let inside = inside_is (free_len is_quote false rest) (length rest) f in absurd (omega (arith, w.3))
quotes_listed b at rest xs true false e f g more w is = cc
quotes_listed b at rest xs false alone e f g more w is = cc

-- the bytes of a bare element: free ones, or up to a last backslash alone
abbrev BareCut : ℕ → List ℕ → Type 0
BareCut b rest = let count = free_len is_space (b == 92) rest in
    (Free is_space (b ∷ take count rest) × ends_at is_space (drop count rest))
    ⊎ ((raw : List ℕ) × Free is_space raw × ((b ∷ rest) ≡ raw ++ (92 ∷ [])) × (count ≡ length rest))

bare_by : (b : ℕ) (rest : List ℕ) (slash : Bool) → is_space b ≡ false → (b == 92) ≡ slash → FreeCut is_space slash rest → let count = free_len is_space slash rest in
    (Free is_space (b ∷ take count rest) × ends_at is_space (drop count rest))
    ⊎ ((raw : List ℕ) × Free is_space raw × ((b ∷ rest) ≡ raw ++ (92 ∷ [])) × (count ≡ length rest))
bare_by b rest false space e (inl w) = inl (FreeByte space e w.0, w.1)
bare_by b rest false space e (inr w) = inr (b ∷ w.0, FreeByte space e w.1, ap (λ t. b ∷ t) w.2, w.3)
bare_by b rest true space e (inl w) = inl (subst (λ (v : ℕ). Free is_space (v ∷ take (free_len is_space true rest) rest)) (sym (same_byte b 92 e)) w.0, w.1)
bare_by b rest true space e (inr w) = inr (w.0, w.1, ap (λ v. v ∷ rest) (same_byte b 92 e) ∙ w.2, w.3)

bare_listed : (b at : ℕ) (rest : List ℕ) (xs : List (List ℕ)) → begins_bare (b ∷ take (free_len is_space (b == 92) rest) rest) ≡ true → begins_bare (b ∷ rest) ≡ true
    → ((skip : ℕ) (ys : List (List ℕ)) → Listed skip (at + 1) rest ys) → BareCut b rest
    → each value_of (with_first (bare at b rest).element (elements_from (free_len is_space (b == 92) rest) (at + 1) rest)) ≡ Ok xs → IsList (b ∷ rest) xs
bare_listed b at rest xs begin all more (inl w) is =
    let count = free_len is_space (b == 92) rest in
    let read = read_behind (bare at b rest).element (elements_from count (at + 1) rest) xs is in
    let tail = more count read.more read.others in
    let here : IsList ((b ∷ take count rest) ++ drop count rest) (replaced (b ∷ take count rest) ∷ read.more) = Bare begin w.0 (alone_of (drop count rest) w.1) tail in
    subst (IsList (b ∷ rest)) read.first (subst (λ (t : List ℕ). IsList t (replaced (b ∷ take count rest) ∷ read.more)) (ap (λ t. b ∷ t) (take-append-drop count rest)) here)
bare_listed b at rest xs begin all more (inr w) is =
    let count = free_len is_space (b == 92) rest in
    let read = read_behind (bare at b rest).element (elements_from count (at + 1) rest) xs is in
    let taken : take count rest ≡ rest = take_all count rest (omega (arith, w.3)) in
    let gone : drop count rest ≡ [] = drop_all count rest (omega (arith, w.3)) in
    let left : ◌≡◌ {A = Result (List (List ℕ)) ListFault} (Ok []) (Ok read.more) = sym (ap (λ t. each value_of (elements_from 0 (at + 1 + count) t)) gone) ∙ sym (ap (each value_of) (elements_skip count (at + 1) rest)) ∙ read.others in
    let none : ◌≡◌ {A = List (List ℕ)} [] read.more = cc in
    let here : IsList (w.0 ++ (92 ∷ [])) (replaced (w.0 ++ (92 ∷ [])) ∷ []) = BareEnd (ap begins_bare (sym w.2) ∙ all) w.1 in
    let same : replaced (w.0 ++ (92 ∷ [])) ∷ [] ≡ xs = ap₂ (λ (t : List ℕ) (ys : List (List ℕ)). replaced t ∷ ys) (sym w.2 ∙ ap (λ t. b ∷ t) (sym taken)) none ∙ read.first in
    subst (IsList (b ∷ rest)) same (subst (λ (t : List ℕ). IsList t (replaced (w.0 ++ (92 ∷ [])) ∷ [])) (sym w.2) here)

element_listed : (b at : ℕ) (rest : List ℕ) (xs : List (List ℕ)) (p q : Bool) → is_space b ≡ false → (b == 123) ≡ p → (b == 34) ≡ q
    → ((skip : ℕ) (ys : List (List ℕ)) → Listed skip (at + 1) rest ys)
    → each value_of (found_first (cond p (enclosed at (OpenBrace at) true (brace_len false 0 rest) rest) (cond q (enclosed at (OpenQuote at) false (free_len is_quote false rest) rest) (Ok (bare at b rest)))) (λ more. elements_from more (at + 1) rest)) ≡ Ok xs
    → IsList (b ∷ rest) xs
element_listed b at rest xs true q space e f more is = braces_listed b at rest xs _ _ e refl refl more is
element_listed b at rest xs false true space e f more is = quotes_listed b at rest xs _ _ f refl refl more (free_cut is_quote false rest) is
element_listed b at rest xs false false space e f more is =
    bare_listed b at rest xs (begins b (take (free_len is_space (b == 92) rest) rest) space e f) (begins b rest space e f) more (bare_by b rest (b == 92) space refl (free_cut is_space (b == 92) rest)) is

space_listed : (b at : ℕ) (rest : List ℕ) (xs : List (List ℕ)) (t : Bool) → is_space b ≡ t → ((skip : ℕ) (ys : List (List ℕ)) → Listed skip (at + 1) rest ys)
    → each value_of (cond t (elements_from 0 (at + 1) rest) (found_first (element at b rest) (λ more. elements_from more (at + 1) rest))) ≡ Ok xs → IsList (b ∷ rest) xs
space_listed b at rest xs true e more is = White e (more 0 xs is)
space_listed b at rest xs false e more is = element_listed b at rest xs (b == 123) (b == 34) e refl refl more is

-- what is read is a list
pub listed : (text : List ℕ) (skip at : ℕ) (xs : List (List ℕ)) → Listed skip at text xs
listed [] skip at xs is = no_list skip xs is
listed (b ∷ rest) (suc skip) at xs is = listed rest skip (at + 1) xs is
listed (b ∷ rest) zero at xs is = space_listed b at rest xs (is_space b) refl (λ skip ys. listed rest skip (at + 1) ys) is

-- a text reads as these values exactly where it is a list of them
pub exactly_lists : ReadsExactlyLists
exactly_lists text xs = (λ is. listed text 0 0 xs is, λ l. spelled_reads l 0)

no_other : (text : List ℕ) (fault : ListFault) → list_values text ≡ Err fault → (xs : List (List ℕ)) → ¬ IsList text xs
no_other text fault is xs l = let read = spelled_reads l 0 in cc

pub splits_list : (text : List ℕ) (r : Result (List (List ℕ)) ListFault) → Answers (list_values text) r → SplitsList text r
splits_list text (Ok xs) is = listed text 0 0 xs is
splits_list text (Err Memory) is = tt
splits_list text (Err (OpenBrace at)) is = no_other text (OpenBrace at) is
splits_list text (Err (OpenQuote at)) is = no_other text (OpenQuote at) is
splits_list text (Err (Extra at)) is = no_other text (Extra at) is
