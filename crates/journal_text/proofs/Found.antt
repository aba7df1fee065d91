-- What `find` finds passes its test.
use Rattle.std.proofs.Common.{◌≡◌, Bool, true, List, [], ◌∷◌, find, Some, arith}

pub found_passes : {X : Type 0} (p : X → Bool) (xs : List X) (x : X) → find p xs ≡ Some x → p x ≡ true
found_passes p [] x h = grind arith
found_passes p (y ∷ ys) x h = grind (arith, found_passes p ys x)

pub some_same : {X : Type 0} (x y : X) → Some x ≡ Some y → x ≡ y
some_same x y h = cc
