-- What a command on variables gives, and the variables after it.
use Rattle.std.specs.Prelude.{◌≡◌, ℕ, List, [], ◌∷◌, Bool, true, false, Result, Ok, Err, IsOk}
use Rattle.px_bytes.specs.declared.fault.Raise.{Raise}
use Rattle.px_bytes.specs.declared.fault.Raise.TheVariants.{Fault, Memory}
use Rattle.px_bytes.specs.declared.fault.TclFault.{TclFault}
use Rattle.tcl_vars.specs.Scopes.{Scopes}

pub record Changed : Type 0 where
  pub value : Result (List ℕ) TclFault
  pub vars : Scopes

abbrev pub changed_by : Result (List ℕ) TclFault → Scopes → Changed
changed_by value vars = record { value = value; vars = vars }

abbrev pub gives : List ℕ → Scopes → Changed
gives text vars = changed_by (Ok text) vars

abbrev pub fails : TclFault → Scopes → Changed
fails fault vars = changed_by (Err fault) vars

-- goes on with the text and the variables; a fault stays
abbrev pub then_by : Result (List ℕ) TclFault → Scopes → (List ℕ → Scopes → Changed) → Changed
then_by (Ok text) vars go = go text vars
then_by (Err fault) vars go = fails fault vars

abbrev pub then_changed : Changed → (List ℕ → Scopes → Changed) → Changed
then_changed changed go = then_by changed.value changed.vars go

-- one step after another, up to the first fault
abbrev pub in_turn : {X : Type 0} → (X → Scopes → Changed) → List X → Scopes → Changed
in_turn step [] vars = gives [] vars
in_turn step (x ∷ xs) vars = then_changed (step x vars) (λ text after. in_turn step xs after)

-- memory was refused, and then P holds
abbrev pub IfMemory : Raise → Type 0 → Type 0
IfMemory (Fault fault) P = Unit {0}
IfMemory Memory P = P

-- the answer is this fault, and these are the variables after it; want of memory says nothing
abbrev pub Stops : Changed → Raise → Scopes → Type 0
Stops changed (Fault fault) new = (changed.value ≡ Err fault) × (new ≡ changed.vars)
Stops changed Memory new = Unit {0}

-- the answer is this value or fault
abbrev pub Changes : Changed → Result (List ℕ) Raise → Scopes → Type 0
Changes changed (Ok text) new = (changed.value ≡ Ok text) × (new ≡ changed.vars)
Changes changed (Err raise) new = Stops changed raise new

-- the same of an answer that leaves out the text
abbrev pub Does : {A : Type 0} → Changed → Result A Raise → Scopes → Type 0
Does changed (Ok _) new = IsOk changed.value × (new ≡ changed.vars)
Does changed (Err raise) new = Stops changed raise new

-- the text is told only where it is wanted
abbrev pub ChangesFor : Bool → Changed → Result (List ℕ) Raise → Scopes → Type 0
ChangesFor true changed result new = Changes changed result new
ChangesFor false changed result new = Does changed result new
