-- A host that keeps what bodies send.
use Rattle.std.specs.Prelude.{ℕ, List, [], ◌∷◌, ◌++◌, codes, Bool, ◌&&◌, ◌||◌, if◌then◌else◌}
use Rattle.std.specs.Str.{bytes_eq}
use Rattle.px_bytes.specs.FaultText.{no_command, wrong_arity}
use Rattle.rule_model.specs.Host.{Effect, HostStep, Gives, Faults, Asks}

-- `TCP::respond TEXT`
abbrev pub sends : List ℕ → List ℕ → HostStep (List ℕ)
sends sent text = Gives [] (sent ++ text) []

abbrev pub responds : List ℕ → List (List ℕ) → HostStep (List ℕ)
responds sent (text ∷ []) = sends sent text
responds sent words = Faults (wrong_arity (codes "TCP::respond")) sent []

-- `table` is a shared call, and so is `TCP::respond` where all are to be; there is no other command
abbrev pub commands : Bool → List ℕ → List (List ℕ) → HostStep (List ℕ)
commands all sent [] = Faults (no_command []) sent []
commands all sent (name ∷ words) =
    if bytes_eq name (codes "table") || (all && bytes_eq name (codes "TCP::respond"))
    then Asks (name ∷ words) sent
    else (if bytes_eq name (codes "TCP::respond") then responds sent words
    else Faults (no_command name) sent [])

-- nothing is said of effects
abbrev pub no_effect : List Effect → Type 0
no_effect effects = Unit {0}

abbrev pub always : {A : Type 0} → A → List Effect → A → Type 0
always a es b = Unit {0}

pub always_none : {A : Type 0} (a : A) → always a [] a
always_none a = tt

pub always_both : {A : Type 0} (a b c : A) (es fs : List Effect) → always a es b → always b fs c
    → always a (es ++ fs) c
always_both a b c es fs p q = tt
