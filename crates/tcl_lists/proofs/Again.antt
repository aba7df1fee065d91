-- What is written is read again.
use Rattle.std.proofs.Common.{◌≡◌, ℕ, ◌+◌, ◌-◌, ◌<◌, Bool, true, false, ◌==◌, cond, List, [], ◌∷◌}
use Rattle.std.proofs.Common.{◌++◌, length, take, drop, map, Result, Ok, Err, sym, ap, ap₂, refl}
use Rattle.std.proofs.Common.{subst, ◌∙◌, arith, add-zero, append_assoc, append-nil, length-append}
use Rattle.std.specs.List.{list_any}
use Rattle.std.specs.Prelude.{codes}
use Rattle.std.proofs.lemmas.Bool.{false≢true, lt-ltb}
use Rattle.std.proofs.lemmas.Bool.Decides.{nat_tests, Decides-eqb}
use Rattle.std.proofs.lemmas.List.{take_at, drop_at}
use Rattle.px_bytes.specs.White.{is_space}
use Rattle.tcl_lists.specs.Element.{ListElement, Found, is_quote, takes_next, depth_behind}
use Rattle.tcl_lists.specs.Element.{free_len, brace_len, value_of, stands_alone, enclosed, bare}
use Rattle.tcl_lists.specs.Element.{element}
use Rattle.tcl_lists.specs.Escape.{escape, replaced_from, replaced}
use Rattle.tcl_lists.specs.Read.{with_first, each, elements_from, list_values}
use Rattle.tcl_lists.specs.Seen.{behind}
use Rattle.tcl_lists.specs.Write.{is_special, stands_bare, fits_braces, escape_letter, spelled_byte}
use Rattle.tcl_lists.specs.Write.{spelled_bytes, escaped, spelled, joined}
use Rattle.tcl_lists.specs.declared.escape.Escape.{Escape}
use Rattle.tcl_lists.specs.declared.fault.ListFault.{ListFault}
use Rattle.tcl_lists.specs.declared.fault.ListFault.TheVariants.{OpenBrace, OpenQuote, Extra}
use Rattle.tcl_lists.proofs.Specials.{or_left, or_right, and_left, not_true, escape_back, not_space}
use Rattle.tcl_lists.proofs.Specials.{not_backslash, not_quote, not_brace}
use Rattle.tcl_lists.proofs.Steps.{plain_kept, found_at_front}

-- the values from a place on
abbrev pub values : ℕ → List ℕ → Result (List (List ℕ)) ListFault
values at text = each value_of (elements_from 0 at text)

-- a value before others
abbrev pub in_front : List ℕ → Result (List (List ℕ)) ListFault → Result (List (List ℕ)) ListFault
in_front x (Ok xs) = Ok (x ∷ xs)
in_front x (Err fault) = Err fault

pub first_value : (e : ListElement) (x : List ℕ) (r : Result (List ListElement) ListFault) → value_of e ≡ x → each value_of (with_first e r) ≡ in_front x (each value_of r)
first_value e x (Ok es) is = ap (λ v. Ok (v ∷ map value_of es)) is
first_value e x (Err fault) is = refl

-- the text is an element of this value, whatever stands behind it
abbrev Front : List ℕ → List ℕ → Type 0
Front x text = (rest : List ℕ) → stands_alone rest ≡ true → (at : ℕ) → values at (text ++ rest) ≡ in_front x (values (at + length text) rest)

-- ENCLOSED

-- what stands before a closing byte that stands alone
pub enclosed_reads : (at : ℕ) (fault : ListFault) (in_braces : Bool) (count close : ℕ) (x whole rest : List ℕ) → count ≡ length x → whole ≡ x ++ (close ∷ rest) → stands_alone rest ≡ true
    → enclosed at fault in_braces count whole ≡ Ok (record { element = record { raw = x; start = at + 1; braced = in_braces }; more = length x + 1 })
enclosed_reads at fault in_braces count close x whole rest size is alone =
    let inside : length x < length (x ++ (close ∷ rest)) = omega (arith, length-append x (close ∷ rest)) in
    let tail : drop (length x + 1) (x ++ (close ∷ rest)) ≡ rest = ap (λ t. drop (length x + 1) t) (sym (append_assoc x (close ∷ []) rest)) ∙ drop_at (x ++ (close ∷ [])) rest (length x + 1) (length-append x (close ∷ [])) in
    let ends : stands_alone (drop (length x + 1) (x ++ (close ∷ rest))) ≡ true = ap stands_alone tail ∙ alone in
    let raw : take (length x) (x ++ (close ∷ rest)) ≡ x = take_at x (close ∷ rest) (length x) refl in
    ap₂ (λ n t. enclosed at fault in_braces n t) size is
    ∙ ap₂ (λ p q. cond p (cond q (Ok (record { element = record { raw = take (length x) (x ++ (close ∷ rest)); start = at + 1; braced = in_braces }; more = length x + 1 })) (Err (Extra at))) (Err fault)) (lt-ltb (length x) _ inside) ends
    ∙ ap (λ (t : List ℕ). Ok (record { element = record { raw = t; start = at + 1; braced = in_braces }; more = length x + 1 })) raw

-- an element in braces
pub braced_reads : (x rest : List ℕ) (at : ℕ) → brace_len false 0 (x ++ (125 ∷ rest)) ≡ length x → stands_alone rest ≡ true
    → values at (123 ∷ (x ++ (125 ∷ rest))) ≡ in_front x (values (at + (length x + 2)) rest)
braced_reads x rest at size alone =
    let whole = x ++ (125 ∷ rest) in
    let f : Found = record { element = record { raw = x; start = at + 1; braced = true }; more = length x + 1 } in
    let found : element at 123 whole ≡ Ok f = enclosed_reads at (OpenBrace at) true _ 125 x whole rest size refl alone in
    let tail : drop (length x + 1) whole ≡ rest = ap (λ t. drop (length x + 1) t) (sym (append_assoc x (125 ∷ []) rest)) ∙ drop_at (x ++ (125 ∷ [])) rest (length x + 1) (length-append x (125 ∷ [])) in
    let place : at + 1 + (length x + 1) ≡ at + (length x + 2) = omega arith in
    ap (each value_of) (found_at_front at 123 whole f refl found) ∙ first_value f.element x _ refl
    ∙ ap₂ (λ n t. in_front x (values n t)) place tail

brace_step : (depth b : ℕ) (xs rest : List ℕ) (close opens none : Bool) → (b == 92) ≡ false → (b == 125) ≡ close → (b == 123) ≡ opens → (depth == 0) ≡ none
    → fits_braces depth (b ∷ xs) ≡ true → ((d : ℕ) → fits_braces d xs ≡ true → brace_len false d (xs ++ rest) ≡ length xs) → brace_len false depth (b ∷ (xs ++ rest)) ≡ length (b ∷ xs)
brace_step depth b xs rest true true none slash e f g fits more = let never : ⊥ = grind (arith, nat_tests) in absurd never
brace_step depth b xs rest true false true slash e f g fits more = let never : false ≡ true = simp (slash, e, f, g) at fits in absurd (false≢true never)
brace_step depth b xs rest true false false slash e f g fits more = let next = more (depth - 1) (simp (slash, e, f, g) at fits) in simp (slash, e, f, g, next) (omega arith)
brace_step depth b xs rest false true none slash e f g fits more = let next = more (depth + 1) (simp (slash, e, f, g) at fits) in simp (slash, e, f, g, next) (omega arith)
brace_step depth b xs rest false false none slash e f g fits more = let next = more depth (simp (slash, e, f, g) at fits) in simp (slash, e, f, g, next) (omega arith)

no_slash : (depth b : ℕ) (xs : List ℕ) (t : Bool) → (b == 92) ≡ t → fits_braces depth (b ∷ xs) ≡ true → t ≡ false
no_slash depth b xs false e fits = refl
no_slash depth b xs true e fits = let never : false ≡ true = simp e at fits in absurd (false≢true never)

-- braces that match are read to the closing one
brace_whole : (depth : ℕ) (xs rest : List ℕ) → fits_braces depth xs ≡ true → brace_len false depth (xs ++ (125 ∷ rest)) ≡ length xs
brace_whole depth [] rest fits = ap (λ t. cond t 0 (1 + brace_len false (depth_behind false depth 125) rest)) fits
brace_whole depth (b ∷ xs) rest fits =
    brace_step depth b xs (125 ∷ rest) (b == 125) (b == 123) (depth == 0) (no_slash depth b xs (b == 92) refl fits) refl refl refl fits (λ d. brace_whole d xs rest)

front_braced : (x : List ℕ) → fits_braces 0 x ≡ true → Front x (123 ∷ (x ++ (125 ∷ [])))
front_braced x fits rest alone at =
    let same : (x ++ (125 ∷ [])) ++ rest ≡ x ++ (125 ∷ rest) = append_assoc x (125 ∷ []) rest in
    let place : at + (length x + 2) ≡ at + length (123 ∷ (x ++ (125 ∷ []))) = omega (arith, length-append x (125 ∷ [])) in
    ap (λ t. values at (123 ∷ t)) same ∙ braced_reads x rest at (brace_whole 0 x rest fits) alone ∙ ap (λ n. in_front x (values n rest)) place

-- BARE

free_stops : (rest : List ℕ) → stands_alone rest ≡ true → free_len is_space false rest ≡ 0
free_stops [] alone = refl
free_stops (b ∷ rest) alone = ap (λ t. cond t 0 (1 + free_len is_space (takes_next false b) rest)) alone

-- a bare element begins with neither white space nor a brace nor a quote
pub bare_reads : (x t rest : List ℕ) (b at : ℕ) → is_space b ≡ false → (b == 123) ≡ false → (b == 34) ≡ false
    → free_len is_space (b == 92) (t ++ rest) ≡ length t → replaced (b ∷ t) ≡ x → values at ((b ∷ t) ++ rest) ≡ in_front x (values (at + length (b ∷ t)) rest)
bare_reads x t rest b at space brace quote size is =
    let f : Found = record { element = record { raw = b ∷ t; start = at; braced = false }; more = length t } in
    let raw : take (length t) (t ++ rest) ≡ t = take_at t rest (length t) refl in
    let here : bare at b (t ++ rest) ≡ f = ap (λ (n : ℕ). let g : Found = record { element = record { raw = b ∷ take n (t ++ rest); start = at; braced = false }; more = n } in g) size
    ∙ ap (λ (s : List ℕ). let g : Found = record { element = record { raw = b ∷ s; start = at; braced = false }; more = length t } in g) raw in
    let found : element at b (t ++ rest) ≡ Ok f = ap₂ (λ p q. cond p (enclosed at (OpenBrace at) true (brace_len false 0 (t ++ rest)) (t ++ rest)) (cond q (enclosed at (OpenQuote at) false (free_len is_quote false (t ++ rest)) (t ++ rest)) (Ok (bare at b (t ++ rest))))) brace quote ∙ ap Ok here in
    let place : at + 1 + length t ≡ at + length (b ∷ t) = omega arith in
    ap (each value_of) (found_at_front at b (t ++ rest) f space found) ∙ first_value f.element x _ is
    ∙ ap₂ (λ n s. in_front x (values n s)) place (drop_at t rest (length t) refl)

front_bare : (x t : List ℕ) (b : ℕ) → is_space b ≡ false → (b == 123) ≡ false → (b == 34) ≡ false
    → ((rest : List ℕ) → stands_alone rest ≡ true → free_len is_space (b == 92) (t ++ rest) ≡ length t) → replaced (b ∷ t) ≡ x → Front x (b ∷ t)
front_bare x t b space brace quote size is rest alone at = bare_reads x t rest b at space brace quote (size rest alone) is

free_plain_step : (b : ℕ) (xs rest : List ℕ) → is_special b ≡ false → free_len is_space false (xs ++ rest) ≡ length xs → free_len is_space false (b ∷ (xs ++ rest)) ≡ length (b ∷ xs)
free_plain_step b xs rest plain more =
    ap₂ (λ p q. cond p 0 (1 + free_len is_space q (xs ++ rest))) (not_space b plain) (not_backslash b plain) ∙ ap (λ n. 1 + n) more ∙ omega arith

free_plain : (xs rest : List ℕ) → list_any is_special xs ≡ false → stands_alone rest ≡ true → free_len is_space false (xs ++ rest) ≡ length xs
free_plain [] rest plain alone = free_stops rest alone
free_plain (b ∷ xs) rest plain alone =
    free_plain_step b xs rest (or_left (is_special b) _ plain) (free_plain xs rest (or_right (is_special b) _ plain) alone)

replaced_plain : (xs : List ℕ) → list_any is_special xs ≡ false → replaced xs ≡ xs
replaced_plain [] plain = refl
replaced_plain (b ∷ xs) plain =
    plain_kept b xs (not_backslash b (or_left (is_special b) _ plain)) ∙ ap (λ t. b ∷ t) (replaced_plain xs (or_right (is_special b) _ plain))

front_plain : (b : ℕ) (bs : List ℕ) → list_any is_special (b ∷ bs) ≡ false → Front (b ∷ bs) (b ∷ bs)
front_plain b bs plain =
    let here = or_left (is_special b) _ plain in
    let more = or_right (is_special b) _ plain in
    front_bare (b ∷ bs) bs b (not_space b here) (not_brace b here) (not_quote b here)
    (λ rest alone. ap (λ t. free_len is_space t (bs ++ rest)) (not_backslash b here) ∙ free_plain bs rest more alone) (replaced_plain (b ∷ bs) plain)

-- ESCAPED

free_spelled_by : (b : ℕ) (t : Bool) (zs rest : List ℕ) → is_special b ≡ t → free_len is_space false (zs ++ rest) ≡ length zs
    → free_len is_space false ((cond t (92 ∷ (escape_letter b ∷ [])) (b ∷ []) ++ zs) ++ rest) ≡ length (cond t (92 ∷ (escape_letter b ∷ [])) (b ∷ []) ++ zs)
free_spelled_by b true zs rest e more = ap (λ n. 1 + (1 + n)) more ∙ omega arith
free_spelled_by b false zs rest e more = free_plain_step b zs rest e more

free_spelled : (xs rest : List ℕ) → stands_alone rest ≡ true → free_len is_space false (spelled_bytes xs ++ rest) ≡ length (spelled_bytes xs)
free_spelled [] rest alone = free_stops rest alone
free_spelled (b ∷ xs) rest alone = free_spelled_by b (is_special b) (spelled_bytes xs) rest refl (free_spelled xs rest alone)

-- a backslash and a byte that it takes alone
replaced_pair : (b c : ℕ) (zs : List ℕ) → escape (c ∷ zs) ≡ record { byte = b; taken = 1 } → replaced (92 ∷ (c ∷ zs)) ≡ b ∷ replaced zs
replaced_pair b c zs e = ap (λ (x : Escape). x.byte ∷ replaced_from x.taken (c ∷ zs)) e

replaced_spelled_by : (b : ℕ) (t : Bool) (zs : List ℕ) → is_special b ≡ t → replaced (cond t (92 ∷ (escape_letter b ∷ [])) (b ∷ []) ++ zs) ≡ b ∷ replaced zs
replaced_spelled_by b true zs e = replaced_pair b (escape_letter b) zs (escape_back zs b e)
replaced_spelled_by b false zs e = plain_kept b zs (not_backslash b e)

replaced_spelled : (xs : List ℕ) → replaced (spelled_bytes xs) ≡ xs
replaced_spelled [] = refl
replaced_spelled (b ∷ xs) = replaced_spelled_by b (is_special b) (spelled_bytes xs) refl ∙ ap (λ t. b ∷ t) (replaced_spelled xs)

front_pair : (b c : ℕ) (bs : List ℕ) → escape (c ∷ spelled_bytes bs) ≡ record { byte = b; taken = 1 } → Front (b ∷ bs) (92 ∷ (c ∷ spelled_bytes bs))
front_pair b c bs e =
    front_bare (b ∷ bs) (c ∷ spelled_bytes bs) 92 refl refl refl (λ rest alone. ap (λ n. 1 + n) (free_spelled bs rest alone) ∙ omega arith)
    (replaced_pair b c (spelled_bytes bs) e ∙ ap (λ t. b ∷ t) (replaced_spelled bs))

front_byte : (b : ℕ) (t : Bool) (bs : List ℕ) → is_special b ≡ t → Front (b ∷ bs) (cond t (92 ∷ (escape_letter b ∷ [])) (b ∷ []) ++ spelled_bytes bs)
front_byte b true bs e = front_pair b (escape_letter b) bs (escape_back (spelled_bytes bs) b e)
front_byte b false bs e =
    front_bare (b ∷ bs) (spelled_bytes bs) b (not_space b e) (not_brace b e) (not_quote b e)
    (λ rest alone. ap (λ t. free_len is_space t (spelled_bytes bs ++ rest)) (not_backslash b e) ∙ free_spelled bs rest alone)
    (plain_kept b (spelled_bytes bs) (not_backslash b e) ∙ ap (λ t. b ∷ t) (replaced_spelled bs))

front_hash : (b : ℕ) (bs : List ℕ) → (b == 35) ≡ true → Front (b ∷ bs) (92 ∷ (35 ∷ spelled_bytes bs))
front_hash b bs e = subst (λ (v : ℕ). Front (v ∷ bs) (92 ∷ (35 ∷ spelled_bytes bs))) (sym ((Decides-eqb b 35).0 e)) (front_pair 35 35 bs refl)

front_escaped : (b : ℕ) (bs : List ℕ) (t : Bool) → (b == 35) ≡ t → Front (b ∷ bs) (cond t (codes "\\#") (spelled_byte b) ++ spelled_bytes bs)
front_escaped b bs true e = front_hash b bs e
front_escaped b bs false e = front_byte b (is_special b) bs refl

-- ALL

front_by : (b : ℕ) (bs : List ℕ) (p q : Bool) → stands_bare (b ∷ bs) ≡ p → fits_braces 0 (b ∷ bs) ≡ q
    → Front (b ∷ bs) (cond p (b ∷ bs) (cond q (123 ∷ ((b ∷ bs) ++ (125 ∷ []))) (escaped (b ∷ bs))))
front_by b bs true q e f = front_plain b bs (not_true _ (and_left _ _ e))
front_by b bs false true e f = front_braced (b ∷ bs) f
front_by b bs false false e f = front_escaped b bs (b == 35) refl

front : (x : List ℕ) → Front x (spelled x)
front [] = front_braced [] refl
front (b ∷ bs) = front_by b bs _ _ refl refl

none_behind : (r : Result (List (List ℕ)) ListFault) → r ≡ behind [] r
none_behind (Ok xs) = refl
none_behind (Err fault) = refl

one_behind : (x : List ℕ) (r : Result (List (List ℕ)) ListFault) → in_front x r ≡ behind (x ∷ []) r
one_behind x (Ok xs) = refl
one_behind x (Err fault) = refl

more_behind : (x : List ℕ) (xs : List (List ℕ)) (r : Result (List (List ℕ)) ListFault) → in_front x (behind xs r) ≡ behind (x ∷ xs) r
more_behind x xs (Ok ys) = refl
more_behind x xs (Err fault) = refl

-- what is written reads as its elements, whatever stands behind it
pub written_reads : (xs : List (List ℕ)) (rest : List ℕ) (at : ℕ) → stands_alone rest ≡ true → values at (joined xs ++ rest) ≡ behind xs (values (at + length (joined xs)) rest)
written_reads [] rest at alone = ap (λ n. values n rest) (sym (add-zero at)) ∙ none_behind (values (at + 0) rest)
written_reads (x ∷ []) rest at alone = front x rest alone at ∙ one_behind x (values (at + length (spelled x)) rest)
written_reads (x ∷ (y ∷ ys)) rest at alone =
    let more = joined (y ∷ ys) in
    let n = at + length (spelled x) in
    let place : n + 1 + length more ≡ at + length (spelled x ++ (32 ∷ more)) = omega (arith, length-append (spelled x) (32 ∷ more)) in
    ap (values at) (append_assoc (spelled x) (32 ∷ more) rest) ∙ front x (32 ∷ (more ++ rest)) refl at
    ∙ ap (in_front x) (written_reads (y ∷ ys) rest (n + 1) alone ∙ ap (λ k. behind (y ∷ ys) (values k rest)) place)
    ∙ more_behind x (y ∷ ys) (values (at + length (spelled x ++ (32 ∷ more))) rest)

-- alone, and from any place on
pub written_alone : (xs : List (List ℕ)) (at : ℕ) → values at (joined xs) ≡ Ok xs
written_alone xs at = ap (values at) (sym (append-nil (joined xs))) ∙ written_reads xs [] at refl ∙ ap Ok (append-nil xs)

pub written_join : (xs ys : List (List ℕ)) → list_values (joined xs ++ (32 ∷ joined ys)) ≡ Ok (xs ++ ys)
written_join xs ys = written_reads xs (32 ∷ joined ys) 0 refl ∙ ap (behind xs) (written_alone ys (0 + length (joined xs) + 1))
