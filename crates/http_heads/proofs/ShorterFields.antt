-- Fewer fields, and shorter values, have fewer bytes.
use Rattle.std.proofs.Common.{◌≡◌, ℕ, ◌+◌, ◌≤◌, Bool, true, false, not, cond, List, [], ◌∷◌, length, reverse, refl, arith}
use Rattle.std.specs.Prelude.{filter, sum_by}
use Rattle.std.proofs.lemmas.List.{length-reverse}
use Rattle.std.proofs.lemmas.List.Sums.{sum_by-cons}
use Rattle.httparse.specs.Grammar.{is_ows, skip_ows, trim_ows}
use Rattle.http_heads.specs.Fields.{Pair, is_named, line_length, without}
use Rattle.http_heads.specs.Passed.{first_alone}

filter_step : (b : Bool) (f : Pair) (fs gs : List Pair) → sum_by line_length gs ≤ sum_by line_length fs
    → sum_by line_length (cond b (f ∷ gs) gs) ≤ sum_by line_length (f ∷ fs)
filter_step true f fs gs h =
    omega (arith, h, sum_by-cons line_length f gs, sum_by-cons line_length f fs)
filter_step false f fs gs h =
    omega (arith, h, sum_by-cons line_length f fs)

pub shorter_filter : (test : Pair → Bool) (fs : List Pair) → sum_by line_length (filter test fs) ≤ sum_by line_length fs
shorter_filter test [] = omega arith
shorter_filter test (f ∷ fs) = filter_step (test f) f fs (filter test fs) (shorter_filter test fs)

first_step : (b : Bool) (f : Pair) (fs gs hs : List Pair) → sum_by line_length gs ≤ sum_by line_length fs
    → sum_by line_length hs ≤ sum_by line_length fs
    → sum_by line_length (cond b (f ∷ gs) (f ∷ hs)) ≤ sum_by line_length (f ∷ fs)
first_step true f fs gs hs h k =
    omega (arith, h, sum_by-cons line_length f gs, sum_by-cons line_length f fs)
first_step false f fs gs hs h k =
    omega (arith, k, sum_by-cons line_length f hs, sum_by-cons line_length f fs)

pub shorter_first : (name : List ℕ) (fs : List Pair) → sum_by line_length (first_alone name fs) ≤ sum_by line_length fs
shorter_first name [] = omega arith
shorter_first name (f ∷ fs) =
    first_step (is_named name f) f fs (without name fs) (first_alone name fs)
    (shorter_filter (λ g. not (is_named name g)) fs) (shorter_first name fs)

skip_step : (b : Bool) (x : ℕ) (xs : List ℕ) → length (skip_ows xs) ≤ length xs → length (cond b (skip_ows xs) (x ∷ xs)) ≤ length (x ∷ xs)
skip_step true x xs h = omega (arith, h)
skip_step false x xs h = omega arith

skip_shorter : (xs : List ℕ) → length (skip_ows xs) ≤ length xs
skip_shorter [] = omega arith
skip_shorter (x ∷ xs) = skip_step (is_ows x) x xs (skip_shorter xs)

pub trim_shorter : (v : List ℕ) → length (trim_ows v) ≤ length v
unfolding trim_ows
trim_shorter v =
    let front = skip_ows v in
    let back = skip_ows (reverse front) in
    omega (arith, skip_shorter v, length-reverse front, skip_shorter (reverse front), length-reverse back)
