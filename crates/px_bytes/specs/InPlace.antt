-- What a text becomes that changes in its place.
use Rattle.std.specs.Prelude.{ℕ, ◌^◌, ℤ, pos, negsuc, ◌+ℤ◌, List, [], ◌∷◌, ◌++◌, Bool, nat_lt}
use Rattle.std.specs.Prelude.{Option, Some, None, if◌then◌else◌}
use Rattle.std.specs.Fmt.{signed_decimal}
use Rattle.px_bytes.specs.Whole.{whole}

-- from -2^63 to 2^63 - 1
abbrev pub is_in_range : ℤ → Bool
is_in_range (pos n) = nat_lt n (2 ^ 63)
is_in_range (negsuc n) = nat_lt n (2 ^ 63)

-- a number in decimal, where it is in range
abbrev pub in_decimal : ℤ → Option (List ℕ)
in_decimal n = if is_in_range n then Some (signed_decimal n) else None

abbrev pub sum_of : Option ℤ → ℤ → Option (List ℕ)
sum_of None more = None
sum_of (Some n) more = in_decimal (n +ℤ more)

-- the sum in decimal of a text that has to be a whole number and a number
abbrev pub with_sum : List ℕ → ℤ → Option (List ℕ)
with_sum text more = sum_of (whole text) more

-- the text with bytes behind it, and others between them where it isn't empty
abbrev pub behind : List ℕ → List ℕ → List ℕ → List ℕ
behind [] between more = more
behind (b ∷ bs) between more = (b ∷ bs) ++ (between ++ more)
