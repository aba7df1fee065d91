-- A list of the grammar reads as its values.
use Rattle.std.proofs.Common.{◌≡◌, ℕ, ◌+◌, ◌-◌, Bool, true, false, not, ◌==◌, cond, List, [], ◌∷◌}
use Rattle.std.proofs.Common.{◌++◌, length, drop, Ok, sym, ap, ap₂, refl, ◌∙◌, arith, add-zero}
use Rattle.std.proofs.Common.{zero-add, append_assoc, append-nil, length-append}
use Rattle.std.proofs.lemmas.Bool.{false≢true, ne_eqb}
use Rattle.std.proofs.lemmas.List.{drop_at}
use Rattle.px_bytes.specs.White.{is_space}
use Rattle.tcl_lists.specs.Element.{Found, is_quote, takes_next, free_len, brace_len, value_of}
use Rattle.tcl_lists.specs.Element.{stands_alone, element}
use Rattle.tcl_lists.specs.Escape.{replaced}
use Rattle.tcl_lists.specs.Grammar.{is_plain, Balanced, Free, begins_bare, IsList}
use Rattle.tcl_lists.specs.Grammar.Balanced.{NoByte, Plain, Taken, Nested}
use Rattle.tcl_lists.specs.Grammar.Free.{FreeEnd, FreeByte, FreeTaken}
use Rattle.tcl_lists.specs.Grammar.IsList.{NoElement, White, InBraces, InQuotes, Bare, BareEnd}
use Rattle.tcl_lists.specs.Read.{found_first, each, elements_from}
use Rattle.tcl_lists.specs.declared.fault.ListFault.TheVariants.{OpenQuote}
use Rattle.tcl_lists.proofs.Again.{values, in_front, first_value, enclosed_reads, braced_reads}
use Rattle.tcl_lists.proofs.Again.{bare_reads}
use Rattle.tcl_lists.proofs.Specials.{and_left, and_right, not_true}
use Rattle.tcl_lists.proofs.Steps.{found_at_front}

plain_slash : (b : ℕ) → is_plain b ≡ true → (b == 92) ≡ false
plain_slash b h = not_true _ (and_left _ _ h)

plain_open : (b : ℕ) → is_plain b ≡ true → (b == 123) ≡ false
plain_open b h = not_true _ (and_left _ _ (and_right (not (b == 92)) _ h))

plain_close : (b : ℕ) → is_plain b ≡ true → (b == 125) ≡ false
plain_close b h = not_true _ (and_right (not (b == 123)) _ (and_right (not (b == 92)) _ h))

-- a byte that changes nothing
plain_byte : (b depth : ℕ) (zs : List ℕ) → is_plain b ≡ true → brace_len false depth (b ∷ zs) ≡ 1 + brace_len false depth zs
plain_byte b depth zs h = simp (plain_slash b h, plain_open b h, plain_close b h)

close_one : (depth : ℕ) (zs : List ℕ) → brace_len false (depth + 1) (125 ∷ zs) ≡ 1 + brace_len false depth zs
close_one depth zs =
    let deep : (depth + 1 == 0) ≡ false = ne_eqb (depth + 1) 0 (λ e. omega arith) in
    let less : depth + 1 - 1 ≡ depth = omega arith in
    ap (λ t. cond t 0 (1 + brace_len false (depth + 1 - 1) zs)) deep ∙ ap (λ d. 1 + brace_len false d zs) less

-- braces that match are passed, whatever depth they stand in
balanced_passed : {xs : List ℕ} → Balanced xs → (depth : ℕ) (zs : List ℕ) → brace_len false depth (xs ++ zs) ≡ length xs + brace_len false depth zs
balanced_passed NoByte depth zs = sym (zero-add (brace_len false depth zs))
balanced_passed (Plain {b = b} {xs = xs} h more) depth zs = plain_byte b depth (xs ++ zs) h ∙ ap (λ n. 1 + n) (balanced_passed more depth zs) ∙ omega arith
balanced_passed (Taken b {xs = xs} more) depth zs = ap (λ n. 1 + (1 + n)) (balanced_passed more depth zs) ∙ omega arith
balanced_passed (Nested {xs = xs} {ys = ys} inner more) depth zs =
    let same : (xs ++ (125 ∷ ys)) ++ zs ≡ xs ++ (125 ∷ (ys ++ zs)) = append_assoc xs (125 ∷ ys) zs in
    let closes : brace_len false (depth + 1) (125 ∷ (ys ++ zs)) ≡ 1 + brace_len false depth (ys ++ zs) = close_one depth (ys ++ zs) in
    ap (λ t. 1 + brace_len false (depth + 1) t) same ∙ ap (λ n. 1 + n) (balanced_passed inner (depth + 1) (125 ∷ (ys ++ zs)) ∙ ap (λ n. length xs + n) (closes ∙ ap (λ n. 1 + n) (balanced_passed more depth zs)))
    ∙ omega (arith, length-append xs (125 ∷ ys))

pub free_passed : (test : ℕ → Bool) → test 92 ≡ false → {xs : List ℕ} → Free test xs → (zs : List ℕ) → free_len test false (xs ++ zs) ≡ length xs + free_len test false zs
free_passed test slash FreeEnd zs = sym (zero-add (free_len test false zs))
free_passed test slash (FreeByte {b = b} {xs = xs} h other more) zs =
    ap₂ (λ p q. cond p 0 (1 + free_len test q (xs ++ zs))) h other ∙ ap (λ n. 1 + n) (free_passed test slash more zs) ∙ omega arith
free_passed test slash (FreeTaken b {xs = xs} more) zs =
    ap (λ p. cond p 0 (1 + (1 + free_len test false (xs ++ zs)))) slash ∙ ap (λ n. 1 + (1 + n)) (free_passed test slash more zs) ∙ omega arith

stops_there : (rest : List ℕ) → stands_alone rest ≡ true → free_len is_space false rest ≡ 0
stops_there [] alone = refl
stops_there (b ∷ rest) alone = ap (λ t. cond t 0 (1 + free_len is_space (takes_next false b) rest)) alone

-- an element in quotes
quoted_reads : (x rest : List ℕ) (at : ℕ) → free_len is_quote false (x ++ (34 ∷ rest)) ≡ length x → stands_alone rest ≡ true
    → values at (34 ∷ (x ++ (34 ∷ rest))) ≡ in_front (replaced x) (values (at + (length x + 2)) rest)
quoted_reads x rest at size alone =
    let whole = x ++ (34 ∷ rest) in
    let f : Found = record { element = record { raw = x; start = at + 1; braced = false }; more = length x + 1 } in
    let found : element at 34 whole ≡ Ok f = enclosed_reads at (OpenQuote at) false _ 34 x whole rest size refl alone in
    let tail : drop (length x + 1) whole ≡ rest = ap (λ t. drop (length x + 1) t) (sym (append_assoc x (34 ∷ []) rest)) ∙ drop_at (x ++ (34 ∷ [])) rest (length x + 1) (length-append x (34 ∷ [])) in
    let place : at + 1 + (length x + 1) ≡ at + (length x + 2) = omega arith in
    ap (each value_of) (found_at_front at 34 whole f refl found) ∙ first_value f.element (replaced x) _ refl
    ∙ ap₂ (λ n t. in_front (replaced x) (values n t)) place tail

bare_space : (b : ℕ) (bs : List ℕ) → begins_bare (b ∷ bs) ≡ true → is_space b ≡ false
bare_space b bs h = not_true _ (and_left _ _ h)

bare_brace : (b : ℕ) (bs : List ℕ) → begins_bare (b ∷ bs) ≡ true → (b == 123) ≡ false
bare_brace b bs h = not_true _ (and_left _ _ (and_right (not (is_space b)) _ h))

bare_quote : (b : ℕ) (bs : List ℕ) → begins_bare (b ∷ bs) ≡ true → (b == 34) ≡ false
bare_quote b bs h = not_true _ (and_right (not (b == 123)) _ (and_right (not (is_space b)) _ h))

bare_list : {raw : List ℕ} → Free is_space raw → begins_bare raw ≡ true → (rest : List ℕ) → stands_alone rest ≡ true → (at : ℕ) → values at (raw ++ rest) ≡ in_front (replaced raw) (values (at + length raw) rest)
bare_list FreeEnd h rest alone at = absurd (false≢true h)
bare_list (FreeByte {b = b} {xs = xs} other slash more) h rest alone at =
    bare_reads (replaced (b ∷ xs)) xs rest b at (bare_space b xs h) (bare_brace b xs h) (bare_quote b xs h)
    (ap (λ t. free_len is_space t (xs ++ rest)) slash ∙ free_passed is_space refl more rest ∙ ap (λ n. length xs + n) (stops_there rest alone) ∙ add-zero (length xs)) refl
bare_list (FreeTaken b {xs = xs} more) h rest alone at =
    bare_reads (replaced (92 ∷ (b ∷ xs))) (b ∷ xs) rest 92 at refl refl refl
    (ap (λ n. 1 + n) (free_passed is_space refl more rest ∙ ap (λ n. length xs + n) (stops_there rest alone)) ∙ omega arith) refl

-- a bare element of the text's end, with a backslash alone
last_size : {raw : List ℕ} → Free is_space raw → free_len is_space false ((raw ++ (92 ∷ [])) ++ []) ≡ length (raw ++ (92 ∷ []))
last_size {raw} more = ap (free_len is_space false) (append-nil (raw ++ (92 ∷ []))) ∙ free_passed is_space refl more (92 ∷ []) ∙ sym (length-append raw (92 ∷ []))

bare_last : {raw : List ℕ} → Free is_space raw → begins_bare (raw ++ (92 ∷ [])) ≡ true → (at : ℕ) → values at ((raw ++ (92 ∷ [])) ++ []) ≡ Ok (replaced (raw ++ (92 ∷ [])) ∷ [])
bare_last FreeEnd h at = bare_reads (92 ∷ []) [] [] 92 at refl refl refl refl refl
bare_last (FreeByte {b = b} {xs = xs} other slash more) h at =
    bare_reads (replaced (b ∷ (xs ++ (92 ∷ [])))) (xs ++ (92 ∷ [])) [] b at (bare_space b (xs ++ (92 ∷ [])) h) (bare_brace b (xs ++ (92 ∷ [])) h) (bare_quote b (xs ++ (92 ∷ [])) h)
    (ap (λ t. free_len is_space t ((xs ++ (92 ∷ [])) ++ [])) slash ∙ last_size more) refl
bare_last (FreeTaken b {xs = xs} more) h at =
    bare_reads (replaced (92 ∷ (b ∷ (xs ++ (92 ∷ []))))) (b ∷ (xs ++ (92 ∷ []))) [] 92 at refl refl refl
    (ap (λ n. 1 + n) (last_size more) ∙ omega arith) refl

-- a list of the grammar reads as its values
pub spelled_reads : {text : List ℕ} {xs : List (List ℕ)} → IsList text xs → (at : ℕ) → values at text ≡ Ok xs
spelled_reads NoElement at = refl
spelled_reads (White {b = b} {text = text} space more) at =
    ap (λ t. each value_of (cond t (elements_from 0 (at + 1) text) (found_first (element at b text) (λ n. elements_from n (at + 1) text)))) space ∙ spelled_reads more (at + 1)
spelled_reads (InBraces {raw = raw} {rest = rest} balanced alone more) at =
    braced_reads raw rest at (balanced_passed balanced 0 (125 ∷ rest) ∙ add-zero (length raw)) alone ∙ ap (in_front raw) (spelled_reads more (at + (length raw + 2)))
spelled_reads (InQuotes {raw = raw} {rest = rest} free alone more) at =
    quoted_reads raw rest at (free_passed is_quote refl free (34 ∷ rest) ∙ add-zero (length raw)) alone ∙ ap (in_front (replaced raw)) (spelled_reads more (at + (length raw + 2)))
spelled_reads (Bare {raw = raw} {rest = rest} begins free alone more) at =
    bare_list free begins rest alone at ∙ ap (in_front (replaced raw)) (spelled_reads more (at + length raw))
spelled_reads (BareEnd {raw = raw} begins free) at = ap (values at) (sym (append-nil (raw ++ (92 ∷ [])))) ∙ bare_last free begins at
