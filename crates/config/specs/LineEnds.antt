-- Line ends of a rule that stands in a file of its own. Tcl reads a script's file with CR LF as an end of a line too
-- (`fconfigure`, -translation auto); a carriage return that isn't followed by a line feed is a byte as any other here.
use Rattle.std.specs.Prelude.{ℕ, Bool, ◌&&◌, ◌==◌, List, [], ◌∷◌, get_or}
use Rattle.std.specs.Prelude.{if◌then◌else◌}

-- a carriage return right before a line feed
abbrev pub is_return : ℕ → List ℕ → Bool
is_return b bs = (b == 13) && (get_or bs 0 0 == 10)

-- a byte in front of others, unless it is such a carriage return
abbrev pub in_front : ℕ → List ℕ → List ℕ → List ℕ
in_front b bs made = if is_return b bs then made else (b ∷ made)

-- the bytes without those carriage returns
abbrev pub without_returns : List ℕ → List ℕ
without_returns [] = []
without_returns (b ∷ bs) = in_front b bs (without_returns bs)
