-- Numbers in variables: Tcl 8.4, incr(n).
use Rattle.std.specs.Prelude.{ℕ, ◌^◌, ℤ, pos, negsuc, ◌+ℤ◌, List, [], ◌∷◌, Bool, Option, codes}
use Rattle.std.specs.Prelude.{nat_lt, Result, Ok, Err, if◌then◌else◌}
use Rattle.std.specs.Fmt.{signed_decimal}
use Rattle.px_bytes.specs.FaultText.{out_of_range, wrong_arity}
use Rattle.px_bytes.specs.Gives.{with_value as with_result}
use Rattle.px_bytes.specs.WholeWord.{number_of}
use Rattle.px_bytes.specs.declared.fault.TclFault.{TclFault}
use Rattle.tcl_vars.specs.Names.{name_of}
use Rattle.tcl_vars.specs.Scopes.{Level, Scopes}
use Rattle.tcl_var_commands.specs.Changed.{Changed, changed_by, fails, then_changed}
use Rattle.tcl_var_commands.specs.Reading.{read_value}
use Rattle.tcl_var_commands.specs.Assigning.{assigned}

-- from -2^63 to 2^63 - 1
abbrev pub is_in_range : ℤ → Bool
is_in_range (pos n) = nat_lt n (2 ^ 63)
is_in_range (negsuc n) = nat_lt n (2 ^ 63)

-- a number in decimal, where it is in range
abbrev pub in_decimal : ℤ → Result (List ℕ) TclFault
in_decimal n = if is_in_range n then Ok (signed_decimal n) else Err out_of_range

-- the sum of two texts that have to be whole numbers, the first tried first
abbrev pub sum_text : List ℕ → List ℕ → Result (List ℕ) TclFault
sum_text text more =
    with_result (number_of text) (λ m. with_result (number_of more) (λ n. in_decimal (m +ℤ n)))

-- incr(n): "increments the value stored in the variable whose name is varName"; "the new value is
-- stored as a decimal string in variable varName and also returned as result"
abbrev pub incremented : Option Level → List ℕ → List ℕ → Scopes → Changed
incremented statics text more vars = let name = name_of text in
    let sum = with_result (read_value statics vars text name) (λ old. sum_text old more) in
    then_changed (changed_by sum vars) (λ value same. assigned statics name value same)

-- incr(n): the increment is 1 where none is given
abbrev pub incr_changed : Option Level → List (List ℕ) → Scopes → Changed
incr_changed statics (verb ∷ (text ∷ [])) vars = incremented statics text (codes "1") vars
incr_changed statics (verb ∷ (text ∷ (more ∷ []))) vars = incremented statics text more vars
incr_changed statics words vars = fails (wrong_arity (codes "incr")) vars
