-- Keys that are replaced, one after another.
use Rattle.std.proofs.Common.{◌≡◌, ℕ, zero, suc, ◌+◌, ◌*◌, ◌≤◌, ◌<◌, Bool, true, false, cond, List, [], ◌∷◌, ◌++◌}
use Rattle.std.proofs.Common.{length, drop, Option, Some, None, sym, ap, subst, refl, ◌∙◌, arith}
use Rattle.std.proofs.Common.{length-append}
use Rattle.tcl_strings.specs.Search.{begins_with, more_of}
use Rattle.tcl_strings.specs.Mapping.{first_pair, written_at, more_for, more_at, mapped}
use Rattle.tcl_strings.specs.FirstKeys.{keys_of, pair_in, first_number}
use Rattle.tcl_strings.proofs.Searches.{begins_within}

skipped : (pairs : List (List ℕ)) (skip : ℕ) (text : List ℕ) → mapped pairs skip text ≡ mapped pairs 0 (drop skip text)
skipped pairs zero text = refl
skipped pairs (suc skip) [] = refl
skipped pairs (suc skip) (c ∷ cs) = skipped pairs skip cs

-- what is written for the front, and what is behind it
pub one_step : (pairs : List (List ℕ)) (text : List ℕ) (n : ℕ) → 0 < length text → n ≡ more_at pairs text + 1 → mapped pairs 0 text ≡ written_at pairs text ++ mapped pairs 0 (drop n text)
one_step pairs [] n some e = absurd (omega arith)
one_step pairs (c ∷ cs) n some e =
    let size : suc (more_at pairs (c ∷ cs)) ≡ n = omega (arith, e) in
    ap (λ t. written_at pairs (c ∷ cs) ++ t) (skipped pairs (more_at pairs (c ∷ cs)) cs) ∙ ap (λ m. written_at pairs (c ∷ cs) ++ mapped pairs 0 (drop m (c ∷ cs))) size

-- a pair's key stands at the front
abbrev Stands : List ℕ → Option (List ℕ × List ℕ) → Type 0
Stands text None = Unit {0}
Stands text (Some pair) = begins_with pair.0 text ≡ true

stands_by : (key value text : List ℕ) (other : Option (List ℕ × List ℕ)) (t : Bool) → begins_with key text ≡ t → Stands text other → Stands text (cond t (Some (key, value)) other)
stands_by key value text other true e h = e
stands_by key value text other false e h = h

pub stands : (pairs : List (List ℕ)) (text : List ℕ) → Stands text (first_pair pairs text)
stands [] text = tt
stands (key ∷ []) text = tt
stands (key ∷ value ∷ more) text = stands_by key value text (first_pair more text) (begins_with key text) refl (stands more text)

more_by : (text : List ℕ) (pair : Option (List ℕ × List ℕ)) → 0 < length text → Stands text pair → more_for pair + 1 ≤ length text
more_by text None some h = omega arith
more_by text (Some ([], value)) some h = omega arith
more_by text (Some (k ∷ key, value)) some h = let fit = begins_within (k ∷ key) text h in omega (arith, fit.1)

pub more_within : (pairs : List (List ℕ)) (text : List ℕ) → 0 < length text → more_at pairs text + 1 ≤ length text
more_within pairs text some = more_by text (first_pair pairs text) some (stands pairs text)

length_by : (key : List ℕ) → 0 < length key → length key ≡ more_of key + 1
length_by [] some = absurd (omega arith)
length_by (k ∷ key) some = omega arith

module _ (pairs : List (List ℕ)) (text key value : List ℕ) (is : Some (key, value) ≡ first_pair pairs text) where
  key_stands : begins_with key text ≡ true
  key_stands = subst (Stands text) (sym is) (stands pairs text)

  pub key_taken : length key ≡ more_at pairs text + 1
  key_taken = length_by key (begins_within key text key_stands).0 ∙ ap (λ p. more_for p + 1) is

  pub key_within : length key ≤ length text
  key_within = (begins_within key text key_stands).1

pair_by : (here : Bool) (key value : List ℕ) (more : List (List ℕ)) (text : List ℕ) → pair_in (drop (2 * first_number (keys_of more) text) more) ≡ first_pair more text → pair_in (drop (2 * cond here 0 (suc (first_number (keys_of more) text))) (key ∷ value ∷ more)) ≡ cond here (Some (key, value)) (first_pair more text)
pair_by true key value more text e = refl
pair_by false key value more text e =
    let n = first_number (keys_of more) text in
    let two : 2 * suc n ≡ suc (suc (2 * n)) = omega arith in
    ap (λ m. pair_in (drop m (key ∷ value ∷ more))) two ∙ e

number_by : (here : Bool) (n size : ℕ) → 2 * n ≤ size → 2 * cond here 0 (suc n) ≤ suc (suc size)
number_by true n size h = omega arith
number_by false n size h = omega arith

-- the pair of the first key's number
pub pair_of : (pairs : List (List ℕ)) (text : List ℕ) → pair_in (drop (2 * first_number (keys_of pairs) text) pairs) ≡ first_pair pairs text
pair_of [] text = refl
pair_of (key ∷ []) text = refl
pair_of (key ∷ value ∷ more) text = pair_by (begins_with key text) key value more text (pair_of more text)

-- the number is within the list
pub number_within : (pairs : List (List ℕ)) (text : List ℕ) → 2 * first_number (keys_of pairs) text ≤ length pairs
number_within [] text = omega arith
number_within (key ∷ []) text = omega arith
number_within (key ∷ value ∷ more) text = number_by (begins_with key text) (first_number (keys_of more) text) (length more) (number_within more text)

module _ (pairs : List (List ℕ)) (rest w : List ℕ) (n : ℕ) (some : 0 < length rest) (taken : n ≡ more_at pairs rest + 1) (written : w ≡ written_at pairs rest) where
  pub step_is : mapped pairs 0 rest ≡ w ++ mapped pairs 0 (drop n rest)
  step_is = one_step pairs rest n some taken ∙ ap (λ t. t ++ mapped pairs 0 (drop n rest)) (sym written)

  pub step_size : length (mapped pairs 0 rest) ≡ length w + length (mapped pairs 0 (drop n rest))
  step_size = ap length step_is ∙ length-append w (mapped pairs 0 (drop n rest))
