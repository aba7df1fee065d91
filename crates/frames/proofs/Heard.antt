-- Values that are heard, or not.
use Rattle.std.proofs.Common.{◌≡◌, refl, ap, ℕ, List, [], ◌∷◌, map, Bool, true, false}
use Rattle.rule_model.specs.Outcome.{State, Outcome, Ends, Waits, then_value, heard, heard_code}
use Rattle.rule_model.specs.declared.code.Code.{Code}
use Rattle.rule_model.specs.declared.code.Code.TheVariants.{Value, Raised, Return, Break, Continue}

pub heard_true : {H : Type 0} (o : Outcome H) → heard true o ≡ o
heard_true (Ends c st) = refl
heard_true (Waits p call st) = refl

heard_code_twice : (w : Bool) (c : Code) → heard_code w (heard_code w c) ≡ heard_code w c
heard_code_twice true c = refl
heard_code_twice false (Value v) = refl
heard_code_twice false (Raised f) = refl
heard_code_twice false (Return v) = refl
heard_code_twice false Break = refl
heard_code_twice false Continue = refl

pub heard_twice : {H : Type 0} (w : Bool) (o : Outcome H) → heard w (heard w o) ≡ heard w o
heard_twice w (Ends c st) = ap (λ x. Ends x st) (heard_code_twice w c)
heard_twice w (Waits p call st) = refl

pub then_told : {H : Type 0} (o : Outcome H) → then_value o (λ v s. Ends (Value v) s) ≡ o
then_told (Ends (Value v) st) = refl
then_told (Ends (Raised f) st) = refl
then_told (Ends (Return v) st) = refl
then_told (Ends Break st) = refl
then_told (Ends Continue st) = refl
then_told (Waits p call st) = refl

-- a value that nothing takes needs not be heard
pub then_unheard : {H : Type 0} (o : Outcome H) (go : State H → Outcome H)
    → then_value (heard false o) (λ v s. go s) ≡ then_value o (λ v s. go s)
then_unheard (Ends (Value v) st) go = refl
then_unheard (Ends (Raised f) st) go = refl
then_unheard (Ends (Return v) st) go = refl
then_unheard (Ends Break st) go = refl
then_unheard (Ends Continue st) go = refl
then_unheard (Waits p call st) go = refl

pub map_same : (xs : List (List ℕ)) → map (λ t. t) xs ≡ xs
map_same [] = refl
map_same (x ∷ xs) = ap (λ l. x ∷ l) (map_same xs)
