-- The number of a list's elements: Tcl 8.4, llength(n).
use Rattle.std.specs.Prelude.{ℕ, List, [], ◌∷◌, length, codes, Result, Ok, Err}
use Rattle.std.specs.Fmt.{decimal}
use Rattle.px_bytes.specs.FaultText.{wrong_arity}
use Rattle.px_bytes.specs.Gives.{with_value}
use Rattle.px_bytes.specs.declared.fault.TclFault.{TclFault}
use Rattle.tcl_list_commands.specs.Reading.{elements_of}

-- llength(n): it "treats list as a list and returns a decimal string giving the number of elements
-- in it"
abbrev pub llength_value : List (List ℕ) → Result (List ℕ) TclFault
llength_value [] = Err (wrong_arity (codes "llength"))
llength_value (list ∷ []) =
    with_value (elements_of (codes "llength") list) (λ elements. Ok (decimal (length elements)))
llength_value (list ∷ (word ∷ words)) = Err (wrong_arity (codes "llength"))
