-- The commands that hold bodies (Tcl 8.4, while(n), for(n), foreach(n), switch(n), catch(n)).
use Rattle.std.specs.Prelude.{ℕ, zero, suc, ◌+◌, ◌-◌, ◌*◌, ◌/◌, max, List, [], ◌∷◌, length, take, drop}
use Rattle.std.specs.Prelude.{codes, Bool, true, false, ◌||◌, not, Option, Some, None, Result, Ok, Err}
use Rattle.std.specs.Prelude.{if◌then◌else◌, slice_get, unwrap_or, option_map}
use Rattle.std.specs.Str.{bytes_eq}
use Rattle.px_bytes.specs.FaultText.{budget_spent, syntax_error}
use Rattle.px_bytes.specs.GlobTest.{matches}
use Rattle.px_bytes.specs.declared.fault.FaultKind.{FaultKind}
use Rattle.px_bytes.specs.declared.fault.FaultKind.TheVariants as kind
use Rattle.px_bytes.specs.declared.fault.TclFault.{TclFault}
use Rattle.tcl_lists.specs.Read.{list_values}
use Rattle.tcl_lists.specs.declared.fault.ListFault.{ListFault}
use Rattle.tcl_vars.specs.Names.{name_of}
use Rattle.tcl_vars.specs.Scopes.{Level, Scopes}
use Rattle.tcl_var_commands.specs.Assigning.{assigned, row_assigned}
use Rattle.tcl_var_commands.specs.Changed.{Changed, gives, in_turn, then_changed}
use Rattle.rule_model.specs.Outcome.{State, Outcome, Ends, Meaning, then_code, then_value, spend, changed}
use Rattle.rule_model.specs.declared.code.Code.{Code}
use Rattle.rule_model.specs.declared.code.Code.TheVariants.{Value, Raised, Return, Break, Continue}
use Rattle.rule_model.specs.Expressions.{then_truth}

-- nothing is done
abbrev pub nothing : {H : Type 0} → Meaning H
nothing path st = Ends (Value []) st

-- A loop's body ends: `continue` ends it early, and `break` ends the loop.
abbrev pub after_body : {H : Type 0} → (State H → Outcome H) → Code → State H → Outcome H
after_body go (Value v) st = go st
after_body go (Raised f) st = Ends (Raised f) st
after_body go (Return v) st = Ends (Return v) st
after_body go Break st = Ends (Value []) st
after_body go Continue st = go st

-- so does what comes after the body of a `for`, where `break` alone is taken (for(n))
abbrev pub after_next : {H : Type 0} → (State H → Outcome H) → Code → State H → Outcome H
after_next go (Value v) st = go st
after_next go (Raised f) st = Ends (Raised f) st
after_next go (Return v) st = Ends (Return v) st
after_next go Break st = Ends (Value []) st
after_next go Continue st = Ends Continue st

-- A loop after its condition, where so many turns may still be made: each takes a unit once the
-- condition holds, and then come the body, what follows each turn, and the condition again.
abbrev pub turn : {H : Type 0} → ℕ → (test body next : Meaning H) → List ℕ → Bool → State H
    → Outcome H
turn n test body next path false st = Ends (Value []) st
turn zero test body next path true st = Ends (Raised budget_spent) st
turn (suc n) test body next path true st =
    spend st (λ s.
    then_code (body path s) (after_body (λ b.
    then_code (next path b) (after_next (λ e.
    then_truth (test path e) (turn n test body next path))))))

-- a loop from its condition on; with as many turns as there is budget, or more, it never runs out of
-- them
abbrev pub turns : {H : Type 0} → ℕ → (test body next : Meaning H) → Meaning H
turns n test body next path st = then_truth (test path st) (turn n test body next path)

-- the variables that a `foreach` sets from a list
pub record Row : Type 0 where
  pub names : List (List ℕ)
  pub values : List (List ℕ)

abbrev pub row_of : Result (List (List ℕ)) ListFault → Result (List (List ℕ)) ListFault → Option Row
row_of (Ok (name ∷ names)) (Ok values) = Some (record { names = name ∷ names; values = values })
row_of (Ok []) values = None
row_of (Ok (name ∷ names)) (Err f) = None
row_of (Err f) values = None

abbrev pub with_row : Option Row → Option (List Row) → Option (List Row)
with_row (Some row) rows = option_map (λ rs. row ∷ rs) rows
with_row None rows = None

-- names and lists in turn; None where one is no list, or has no name
abbrev pub rows_of : List (List ℕ) → Option (List Row)
rows_of [] = Some []
rows_of (names ∷ []) = None
rows_of (names ∷ (list ∷ more)) =
    with_row (row_of (list_values names) (list_values list)) (rows_of more)

-- a list lasts for this many turns: "if there are more names than values, empty values are used"
abbrev pub row_turns : Row → ℕ
row_turns row = (length row.values + length row.names - 1) / length row.names

abbrev pub most_turns : List Row → ℕ
most_turns [] = 0
most_turns (row ∷ rows) = max (row_turns row) (most_turns rows)

-- what the turn of this number sets: the names of each row to its next values
abbrev pub row_turn : Option Level → ℕ → Row → Scopes → Changed
row_turn statics k row vars =
    row_assigned statics row.names (drop (k * length row.names) row.values) vars

abbrev pub turn_assigned : Option Level → ℕ → List Row → Scopes → Changed
turn_assigned statics k rows vars = in_turn (row_turn statics k) rows vars

-- so many turns, from the one of number k on
abbrev pub row_loop : {H : Type 0} → Option Level → List Row → Meaning H → ℕ → ℕ → Meaning H
row_loop statics rows body zero k path st = Ends (Value []) st
row_loop statics rows body (suc n) k path st =
    spend st (λ s.
    then_value (changed (turn_assigned statics k rows s.vars) s) (λ v t.
    then_code (body path t) (after_body (row_loop statics rows body n (k + 1) path))))

abbrev pub rows_command : {H : Type 0} → Option Level → Meaning H → Option (List Row) → Meaning H
rows_command statics body None path st = Ends (Raised (syntax_error (codes "foreach"))) st
rows_command statics body (Some rows) path st =
    row_loop statics rows body (most_turns rows) 0 path st

-- names and lists in turn (foreach(n))
abbrev pub each_rows : {H : Type 0} → Option Level → Meaning H → List (List ℕ) → Meaning H
each_rows statics body words = rows_command statics body (rows_of words)

-- how a `switch` compares: like `string match`, or byte by byte (switch(n)); None for an option that
-- it doesn't have
abbrev pub is_glob : Bool → List (List ℕ) → Option Bool
is_glob glob [] = Some glob
is_glob glob (option ∷ options) =
    if bytes_eq option (codes "-exact") then is_glob false options
    else (if bytes_eq option (codes "-glob") then is_glob true options
    else (if bytes_eq option (codes "--") then is_glob glob options else None))

-- "if the last pattern argument is default then it matches anything"
abbrev pub hits : Bool → (text pattern : List ℕ) → (more : List (List ℕ)) → Bool
hits glob text pattern [] =
    bytes_eq pattern (codes "default")
    || (if glob then matches pattern text else bytes_eq pattern text)
hits glob text pattern (p ∷ more) =
    if glob then matches pattern text else bytes_eq pattern text

-- the number of the first pattern that is hit
abbrev pub first_hit : Bool → List ℕ → List (List ℕ) → Option ℕ
first_hit glob text [] = None
first_hit glob text (pattern ∷ more) =
    if hits glob text pattern more then Some zero else option_map suc (first_hit glob text more)

-- the same, where the first so many words are the options and the text
abbrev pub hit_in : Bool → ℕ → List (List ℕ) → Option ℕ
hit_in glob front words =
    first_hit glob (unwrap_or (slice_get words (front - 1)) []) (drop front words)

abbrev pub hit_by : Option Bool → ℕ → List (List ℕ) → Result (Option ℕ) TclFault
hit_by (Some glob) front words = Ok (hit_in glob front words)
hit_by None front words = Err (syntax_error (codes "switch"))

-- the same, by how the options compare; a fault where an option is none
abbrev pub hit_of : ℕ → List (List ℕ) → Result (Option ℕ) TclFault
hit_of front words = hit_by (is_glob false (take (front - 1) words)) front words

-- a body of a `switch`; none where the next one is meant
abbrev pub unless : {A : Type 0} → Bool → A → Option A
unless true a = None
unless false a = Some a

-- the first body from here on
abbrev pub first_body : {H : Type 0} → List (Option (Meaning H)) → Meaning H
first_body [] = nothing
first_body (b ∷ bs) = unwrap_or b (first_body bs)

abbrev pub chosen : {H : Type 0} → Result (Option ℕ) TclFault → List (Option (Meaning H))
    → Meaning H
chosen (Ok (Some k)) bodies path st = first_body (drop k bodies) path st
chosen (Ok None) bodies path st = Ends (Value []) st
chosen (Err f) bodies path st = Ends (Raised f) st

-- options and the text, which are so many words, and then the patterns (switch(n))
abbrev pub chosen_of : {H : Type 0} → ℕ → List (Option (Meaning H)) → List (List ℕ) → Meaning H
chosen_of front bodies words = chosen (hit_of front words) bodies

-- catch(n): 0 where the script has a value, 1 where it raises a fault, 2 for `return`, 3 for
-- `break`, 4 for `continue`
abbrev pub code_number : Code → List ℕ
code_number (Value v) = codes "0"
code_number (Raised f) = codes "1"
code_number (Return v) = codes "2"
code_number Break = codes "3"
code_number Continue = codes "4"

-- what the variable of a `catch` gets
abbrev pub code_text : Code → List ℕ
code_text (Value v) = v
code_text (Raised f) = f.text
code_text (Return v) = v
code_text Break = []
code_text Continue = []

-- the fault of a missing unit goes through
abbrev pub is_budget : FaultKind → Bool
is_budget kind.Budget = true
is_budget other = false

abbrev pub is_caught : Code → Bool
is_caught (Raised f) = not (is_budget f.kind)
is_caught code = true

-- the number of a code, where the variable that is named got its text
abbrev pub number_changed : Option Level → List ℕ → Code → Scopes → Changed
number_changed statics name code vars =
    then_changed (assigned statics (name_of name) (code_text code) vars)
    (λ text after. gives (code_number code) after)

-- the number is the value, and the variable that is named, where one is, gets the text
abbrev pub caught_as : {H : Type 0} → Option Level → Option (List ℕ) → Code → State H → Outcome H
caught_as statics None code st = Ends (Value (code_number code)) st
caught_as statics (Some name) code st = changed (number_changed statics name code st.vars) st

abbrev pub caught : {H : Type 0} → Option Level → Option (List ℕ) → Code → State H → Outcome H
caught statics name code st =
    if is_caught code then caught_as statics name code st else Ends code st

-- the body, after the words: none, or the name of a variable
abbrev pub caught_in : {H : Type 0} → Option Level → Meaning H → List (List ℕ) → Meaning H
caught_in statics body words path st =
    then_code (body path st) (caught statics (slice_get words 0))
