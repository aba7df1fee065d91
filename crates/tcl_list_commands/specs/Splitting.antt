-- Texts cut into lists: Tcl 8.4, split(n).
use Rattle.std.specs.Prelude.{ℕ, List, [], ◌∷◌, map, codes, Result, Err}
use Rattle.std.specs.List.{slice_split}
use Rattle.px_bytes.specs.ByteSet.{is_among}
use Rattle.px_bytes.specs.FaultText.{wrong_arity}
use Rattle.px_bytes.specs.declared.fault.TclFault.{TclFault}
use Rattle.tcl_lists.specs.Write.{joined}
use Rattle.px_bytes.specs.Limit.{limited}

abbrev pub alone : ℕ → List ℕ
alone byte = byte ∷ []

-- split(n): the pieces "consist of the characters from string that lie between instances of the
-- characters in splitChars"; where these are none, "each character of string becomes a separate
-- element". The empty text has no piece.
abbrev pub pieces_by : List ℕ → List ℕ → List (List ℕ)
pieces_by chars [] = []
pieces_by [] (b ∷ bs) = map alone (b ∷ bs)
pieces_by (c ∷ cs) (b ∷ bs) = slice_split (is_among (c ∷ cs)) (b ∷ bs)

-- blank, tab, newline, vertical tab, form feed, carriage return
abbrev pub white_space : List ℕ
white_space = 32 ∷ (9 ∷ (10 ∷ (11 ∷ (12 ∷ (13 ∷ [])))))

-- split(n): the characters default "to the standard white-space characters"
abbrev pub split_value : List (List ℕ) → Result (List ℕ) TclFault
split_value [] = Err (wrong_arity (codes "split"))
split_value (text ∷ []) = limited (joined (pieces_by white_space text))
split_value (text ∷ (chars ∷ [])) = limited (joined (pieces_by chars text))
split_value (text ∷ (chars ∷ (word ∷ words))) = Err (wrong_arity (codes "split"))
