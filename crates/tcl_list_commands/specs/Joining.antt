-- Texts joined by others: Tcl 8.4, concat(n), join(n).
use Rattle.std.specs.Prelude.{ℕ, List, [], ◌∷◌, length, map, filter, codes, Bool, nat_lt, Result, Err}
use Rattle.std.specs.List.{join_by}
use Rattle.px_bytes.specs.FaultText.{wrong_arity}
use Rattle.px_bytes.specs.Gives.{with_value}
use Rattle.px_bytes.specs.White.{trimmed}
use Rattle.px_bytes.specs.declared.fault.TclFault.{TclFault}
use Rattle.tcl_list_commands.specs.Reading.{elements_of}
use Rattle.px_bytes.specs.Limit.{limited}

-- the pieces with a text between each two
abbrev pub run_together : List ℕ → List (List ℕ) → List ℕ
run_together between pieces = join_by (λ piece. piece) between pieces

abbrev pub has_bytes : List ℕ → Bool
has_bytes text = nat_lt 0 (length text)

-- concat(n): white space before and behind each word is left out, and so is a word that is empty
-- then
abbrev pub trimmed_words : List (List ℕ) → List (List ℕ)
trimmed_words words = filter has_bytes (map trimmed words)

-- concat(n): it "joins each of its arguments together with spaces"
abbrev pub concat_value : List (List ℕ) → Result (List ℕ) TclFault
concat_value words = limited (run_together (codes " ") (trimmed_words words))

-- the elements of a list with a text between each two
abbrev pub joined_value : List ℕ → List ℕ → Result (List ℕ) TclFault
joined_value list between =
    with_value (elements_of (codes "join") list) (λ elements. limited (run_together between elements))

-- join(n): the text "defaults to a space character"
abbrev pub join_value : List (List ℕ) → Result (List ℕ) TclFault
join_value [] = Err (wrong_arity (codes "join"))
join_value (list ∷ []) = joined_value list (codes " ")
join_value (list ∷ (between ∷ [])) = joined_value list between
join_value (list ∷ (between ∷ (word ∷ words))) = Err (wrong_arity (codes "join"))
