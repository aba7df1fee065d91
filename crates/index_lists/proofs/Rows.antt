-- Worked rows, by computation.
use Rattle.std.proofs.Common.{◌≡◌, refl, ℕ, List, [], ◌∷◌, ◌++◌, true, false, Option, Some, None}
use Rattle.std.proofs.Common.{is_some, replicate, slice_set}
use Rattle.index_lists.specs.Least.{earlier}
use Rattle.index_lists.specs.Ring.{is_in, without}
use Rattle.index_lists.specs.Wheel.{due_of}

-- 0 at 5, 1 at 5, 2 at 9
three : List (Option ℕ)
three =
    slice_set (slice_set (slice_set ([] ++ replicate 3 None) 0 (Some 5)) 1 (Some 5)) 2 (Some 9)

all_put : three ≡ Some 5 ∷ Some 5 ∷ Some 9 ∷ []
unfolding three
all_put = refl

-- the deadline of 1 is taken away, and is no longer there
had : is_some (due_of three 1) ≡ true
unfolding three
had = refl

has_no_more : is_some (due_of (slice_set three 1 None) 1) ≡ false
unfolding three
has_no_more = refl

-- a number that isn't reserved has none
beyond : is_some (due_of three 3) ≡ false
unfolding three
beyond = refl

-- of 5, none and 9 the least is 5
least : earlier (earlier (Some 5) None) (Some 9) ≡ Some 5
least = refl

-- 0 and 2 are taken out at 9, and none is left
taken : slice_set (slice_set (slice_set three 1 None) 0 None) 2 None ≡ None ∷ None ∷ None ∷ []
unfolding three
taken = refl

-- 2, 0, 1 are pushed, and 0 is taken out
left : without 0 (2 ∷ 0 ∷ 1 ∷ []) ≡ 2 ∷ 1 ∷ []
left = refl

was_there : is_in (2 ∷ 0 ∷ 1 ∷ []) 0 ≡ true
was_there = refl
