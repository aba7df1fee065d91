-- Elements behind a text, one by one and all at once.
use Rattle.std.proofs.Common.{◌≡◌, ℕ, List, [], ◌∷◌, ◌++◌, length, append_assoc, refl, sym, ◌∙◌, Bool, true, false, arith}
use Rattle.std.specs.Prelude.{codes, nat_eq, nat_lt, ◌==◌, if◌then◌else◌}
use Rattle.std.proofs.lemmas.Bool.Decides.{nat_tests}
use Rattle.std.proofs.lemmas.List.{append-nil}
use Rattle.tcl_lists.specs.Write.{spelled, spelled_bytes, escaped, joined, stands_bare, fits_braces, is_special, escape_letter}
use Rattle.tcl_var_commands.specs.Lappend.{elements_behind}

-- behind a text that isn't empty
pub behind_some : (b : ℕ) (bs : List ℕ) (x : List ℕ) (xs : List (List ℕ)) → elements_behind (b ∷ bs) (x ∷ xs) ≡ (b ∷ bs) ++ 32 ∷ joined (x ∷ xs)
behind_some b bs x [] = refl
behind_some b bs x (y ∷ ys) = behind_some b (bs ++ 32 ∷ spelled x) y ys ∙ append_assoc (b ∷ bs) (32 ∷ spelled x) (32 ∷ joined (y ∷ ys))

-- an element isn't empty as it is written
data IsSome : List ℕ → Type 0 where
  some : (b : ℕ) (bs : List ℕ) → IsSome (b ∷ bs)

escaped_some : (hash special : Bool) (b : ℕ) (rest : List ℕ) → IsSome ((if hash then codes "\\#" else (if special then 92 ∷ (escape_letter b ∷ []) else b ∷ [])) ++ rest)
escaped_some true special b rest = some 92 (35 ∷ rest)
escaped_some false true b rest = some 92 (escape_letter b ∷ rest)
escaped_some false false b rest = some b rest

spelled_by : (bare fits : Bool) (b : ℕ) (bs other : List ℕ) → IsSome other → IsSome (if bare then b ∷ bs else (if fits then 123 ∷ (b ∷ bs) ++ codes "}" else other))
spelled_by true fits b bs other h = some b bs
spelled_by false true b bs other h = some 123 ((b ∷ bs) ++ codes "}")
spelled_by false false b bs other h = h

spelled_some : (x : List ℕ) → IsSome (spelled x)
spelled_some [] = some 123 (codes "}")
spelled_some (b ∷ bs) = spelled_by (stands_bare (b ∷ bs)) (fits_braces 0 (b ∷ bs)) b bs (escaped (b ∷ bs)) (escaped_some (b == 35) (is_special b) b (spelled_bytes bs))

behind_first : (text : List ℕ) (y : List ℕ) (ys : List (List ℕ)) → IsSome text → elements_behind text (y ∷ ys) ≡ text ++ 32 ∷ joined (y ∷ ys)
behind_first [] y ys h = elim h [ ]
behind_first (b ∷ bs) y ys h = behind_some b bs y ys

-- behind the empty text
pub behind_none : (xs : List (List ℕ)) → elements_behind [] xs ≡ joined xs
behind_none [] = refl
behind_none (x ∷ []) = refl
behind_none (x ∷ y ∷ ys) = behind_first (spelled x) y ys (spelled_some x)

pub nothing_behind : (has : Bool) (old : List ℕ) (xs : List (List ℕ)) → has ≡ nat_lt 0 (length old) → has ≡ false → old ++ joined xs ≡ elements_behind old xs
nothing_behind has [] xs is none = sym (behind_none xs)
nothing_behind has (b ∷ bs) xs is none =
    let long : nat_lt 0 (length (b ∷ bs)) ≡ true = grind (arith, nat_tests) in
    let false_true : false ≡ true = sym none ∙ is ∙ long in cc

pub no_elements : (empty : Bool) (old : List ℕ) (xs : List (List ℕ)) → empty ≡ (length xs == 0) → empty ≡ true → old ++ joined xs ≡ elements_behind old xs
no_elements empty old [] test none = append-nil old
no_elements empty old (x ∷ xs) test none =
    let some : nat_eq (length (x ∷ xs)) 0 ≡ false = grind (arith, nat_tests) in
    let true_false : true ≡ false = sym none ∙ test ∙ some in cc

pub blank_behind : (has empty : Bool) (old : List ℕ) (xs : List (List ℕ)) → has ≡ nat_lt 0 (length old) → has ≡ true → empty ≡ (length xs == 0) → empty ≡ false → old ++ (32 ∷ joined xs) ≡ elements_behind old xs
blank_behind has empty [] xs is has_text test more =
    let true_false : true ≡ false = sym has_text ∙ is in cc
blank_behind has empty (b ∷ bs) [] is has_text test more =
    let false_true : false ≡ true = sym more ∙ test in cc
blank_behind has empty (b ∷ bs) (x ∷ xs) is has_text test more = sym (behind_some b bs x xs)
