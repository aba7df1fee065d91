-- What goes on and what stops, one step on variables after another.
use Rattle.std.proofs.Common.{◌≡◌, refl, sym, ap, ◌∙◌, ℕ, ◌+◌, ◌-◌, ◌<◌, ◌≤◌, List, [], ◌∷◌, length, get_or, take, drop, arith, Bool, true, false, Option}
use Rattle.std.specs.Prelude.{Result, Ok, Err, IsOk, IsErr, IsErrAnd, if◌then◌else◌, nat_lt}
use Rattle.std.specs.Bool.{OnTrue}
use Rattle.std.proofs.lemmas.List.{drop_more, take_all}
use Rattle.px_bytes.specs.declared.fault.Raise.{Raise}
use Rattle.px_bytes.specs.declared.fault.Raise.TheVariants.{Fault, Memory}
use Rattle.px_bytes.specs.declared.fault.TclFault.{TclFault}
use Rattle.px_bytes.specs.FaultText.{static_set, too_long}
use Rattle.tcl_vars.specs.Names.{Name}
use Rattle.tcl_vars.specs.Scopes.{Level, Scopes, vars_bytes, vars_limit, with_value}
use Rattle.tcl_var_commands.specs.Changed.{Changed, Changes, ChangesFor, Does, Stops, fails, gives, in_turn, then_by, then_changed}
use Rattle.tcl_var_commands.specs.Reading.{is_only_read}
use Rattle.tcl_var_commands.specs.Assigning.{assigned, assigned_in_room, behind_first, first_text, in_row}
use Rattle.tcl_var_commands.specs.Array.{in_pairs}

-- ---- one step of a row
goes_by : (value : Result (List ℕ) TclFault) (vars : Scopes) (k : Scopes → Changed) (new : Scopes) → IsOk value → new ≡ vars → then_by value vars (λ t v. k v) ≡ k new
goes_by (Ok t) vars k new ok is = ap k (sym is)
goes_by (Err f) vars k new ok is = cc

stops_by : (value : Result (List ℕ) TclFault) (vars : Scopes) (k : List ℕ → Scopes → Changed) (fault : TclFault) (new : Scopes) → value ≡ Err fault → new ≡ vars → Stops (then_by value vars k) (Fault fault) new
stops_by (Ok t) vars k fault new is same = cc
stops_by (Err f) vars k fault new is same = (is, same)

stops : (c : Changed) (k : List ℕ → Scopes → Changed) (raise : Raise) (new : Scopes) → Stops c raise new → Stops (then_changed c k) raise new
stops c k (Fault fault) new h = stops_by c.value c.vars k fault new h.0 h.1
stops c k Memory new h = tt

module _ {X : Type 0} (step : X → Scopes → Changed) (xs rest : List X) (x : X) (vars new : Scopes) (whole : Changed) (now : xs ≡ x ∷ rest) (all : in_turn step xs vars ≡ whole) where
  -- where it went well, the rest comes to what the row comes to
  pub turn_goes : IsOk (step x vars).value × (new ≡ (step x vars).vars) → in_turn step rest new ≡ whole
  turn_goes h = sym (goes_by (step x vars).value (step x vars).vars (in_turn step rest) new h.0 h.1) ∙ ap (λ row. in_turn step row vars) (sym now) ∙ all

  -- and its fault is that of the row
  pub turn_stops : (raise : Raise) → Stops (step x vars) raise new → Stops whole raise new
  turn_stops raise h = rw (← all, now) (stops (step x vars) (λ t after. in_turn step rest after) raise new h)

-- what is left of a list, from an item on
pub drop_read : {X : Type 0} (xs : List X) (i : ℕ) (x y : X) → i < length xs → x ≡ get_or xs i x → y ≡ x → drop i xs ≡ y ∷ drop (i + 1) xs
drop_read xs i x y inside is read = drop_more xs i x inside ∙ ap (λ z. z ∷ drop (i + 1) xs) (sym is ∙ sym read)

-- the first pair of a row, and of a list
pub row_read : (names behind : List (List ℕ)) (name : List ℕ) (values : List (List ℕ)) (value : List ℕ) (more : List (List ℕ)) → names ≡ name ∷ behind → value ≡ first_text values → more ≡ behind_first values → in_row names values ≡ (name, value) ∷ in_row behind more
row_read names behind name values value more now first rest = rw (now, first, rest) refl

pub pairs_read : (texts : List (List ℕ)) (x index y value : List ℕ) → 2 ≤ length texts → x ≡ get_or texts 0 x → y ≡ get_or texts 1 y → index ≡ x → value ≡ y → in_pairs texts ≡ (index, value) ∷ in_pairs (take (length texts - 2) (drop 2 texts))
pairs_read [] x index y value some first second read_first read_second = absurd (omega arith)
pairs_read (a ∷ []) x index y value some first second read_first read_second = absurd (omega arith)
pairs_read (a ∷ b ∷ texts) x index y value some first second read_first read_second =
    let all : take (length (a ∷ (b ∷ texts)) - 2) texts ≡ texts = take_all (length (a ∷ (b ∷ texts)) - 2) texts (omega arith) in
    rw (read_first, read_second, first, second, all) refl

-- ---- the residual of `?`
is_residual : {A : Type 0} (result : Result A Raise) (raise : Raise) → IsErr result × IsErrAnd result (λ r. r ≡ raise) → result ≡ Err raise
is_residual (Ok x) raise h = absurd h.1
is_residual (Err r) raise h = ap Err h.1

pub does_residual : {A : Type 0} (c : Changed) (result : Result A Raise) (raise : Raise) (new : Scopes) → Stops c raise new → IsErr result × IsErrAnd result (λ r. r ≡ raise) → Does c result new
does_residual c result raise new h is = rw (is_residual result raise is) h

pub changes_residual : (c : Changed) (result : Result (List ℕ) Raise) (raise : Raise) (new : Scopes) → Stops c raise new → IsErr result × IsErrAnd result (λ r. r ≡ raise) → Changes c result new
changes_residual c result raise new h is = rw (is_residual result raise is) h

pub wanted_residual : (wanted : Bool) (c : Changed) (result : Result (List ℕ) Raise) (raise : Raise) (new : Scopes) → Stops c raise new → IsErr result × IsErrAnd result (λ r. r ≡ raise) → ChangesFor wanted c result new
wanted_residual true c result raise new h is = rw (is_residual result raise is) h
wanted_residual false c result raise new h is = rw (is_residual result raise is) h

-- ---- the text that was set is the value
in_room_by : (over : Bool) (text : List ℕ) (vars after : Scopes) → IsOk (if over then fails too_long vars else gives text after).value → (if over then fails too_long vars else gives text after).value ≡ Ok text
in_room_by true text vars after ok = cc
in_room_by false text vars after ok = refl

assigned_by : (read : Bool) (room : Changed) (text : List ℕ) (vars : Scopes) → (IsOk room.value → room.value ≡ Ok text) → IsOk (if read then fails static_set vars else room).value → (if read then fails static_set vars else room).value ≡ Ok text
assigned_by true room text vars h ok = cc
assigned_by false room text vars h ok = h ok

assigned_text : (statics : Option Level) (name : Name) (text : List ℕ) (vars : Scopes) → IsOk (assigned statics name text vars).value → (assigned statics name text vars).value ≡ Ok text
assigned_text statics name text vars ok =
    let after = with_value name.name name.index text vars in
    assigned_by (is_only_read statics name.name) (assigned_in_room name text vars) text vars (in_room_by (nat_lt vars_limit (vars_bytes after)) text vars after) ok

-- it is told where it is wanted
pub told_for : (wanted : Bool) (statics : Option Level) (name : Name) (text told : List ℕ) (vars new : Scopes) → OnTrue wanted (told ≡ text) → IsOk (assigned statics name text vars).value × (new ≡ (assigned statics name text vars).vars)
    → ChangesFor wanted (assigned statics name text vars) (Ok told) new
told_for true statics name text told vars new is h = (assigned_text statics name text vars h.0 ∙ ap Ok (sym is), h.1)
told_for false statics name text told vars new is h = h
