-- Calls on a net that a member, or each of several in order, makes.
use Rattle.std.specs.Prelude.{◌≡◌, List, ◌++◌}
use Rattle.px_outside.specs.Net.{Call, Chain}
use Rattle.pool_monitor.specs.Pump.{Each}

-- one of them makes some calls
pub record Steps {A S : Type 0} (did : S → Call → S → Type 0) (P : A → List Call → A → Type 0)
    (old new : S) (x x' : A) : Type 0 where
  pub calls : List Call
  pub chain : Chain did old calls new
  pub step : P x calls x'

-- each in order
pub record Goes {A S : Type 0} (did : S → Call → S → Type 0) (P : A → List Call → A → Type 0)
    (old new : S) (xs xs' : List A) : Type 0 where
  pub calls : List Call
  pub chain : Chain did old calls new
  pub each : Each P xs calls xs'

-- these calls were made, and this is left
pub record Ends {A S : Type 0} (did : S → Call → S → Type 0) (calls : List Call) (old new : S) (x x' : A)
    : Type 0 where
  pub chain : Chain did old calls new
  pub is : x' ≡ x

-- one of them gives some things behind those before
pub record Adds {A B : Type 0} (P : A → List B → A → Type 0) (out out' : List B) (x x' : A)
    : Type 0 where
  pub more : List B
  pub told : out' ≡ out ++ more
  pub step : P x more x'

-- each in order
pub record AddsEach {A B : Type 0} (P : A → List B → A → Type 0) (out out' : List B) (xs xs' : List A)
    : Type 0 where
  pub more : List B
  pub told : out' ≡ out ++ more
  pub each : Each P xs more xs'
