-- Values and faults that are handed on.
use Rattle.std.proofs.Common.{◌≡◌, sym, subst}
use Rattle.std.specs.Prelude.{Result, Ok, Err}
use Rattle.std.specs.Result.{IsErr, IsErrAnd}
use Rattle.px_bytes.specs.declared.fault.Raise.{Raise}
use Rattle.px_bytes.specs.declared.fault.Raise.TheVariants.{Fault, Memory}
use Rattle.px_bytes.specs.declared.fault.TclFault.{TclFault}
use Rattle.px_bytes.specs.Gives.{Gives, with_value}

-- what is done with a value that was given
pub value_then : {A B : Type 0} (v : Result A TclFault) (f : A → Result B TclFault) (a : A) (r : Result B Raise) → Gives (Ok a) v → Gives r (f a) → Gives r (with_value v f)
value_then (Ok b) f a r given done = let same : b ≡ a = cc in subst (λ x. Gives r (f x)) (sym same) done
value_then (Err e) f a r given done = cc

fault_kept : {A B : Type 0} (v : Result A TclFault) (f : A → Result B TclFault) (e : Raise) → Gives {A = A} (Err e) v → Gives {A = B} (Err e) (with_value v f)
fault_kept v f Memory given = tt
fault_kept (Ok a) f (Fault p) given = cc
fault_kept (Err q) f (Fault p) given = cc

-- a fault that was given is handed on
pub fault_then : {A B : Type 0} (v : Result A TclFault) (f : A → Result B TclFault) (e : Raise) (r : Result B Raise) → IsErr r × IsErrAnd r (λ q. q ≡ e) → Gives {A = A} (Err e) v → Gives r (with_value v f)
fault_then v f e (Ok b) handed given = let no = handed.0 in cc
fault_then v f e (Err q) handed given = let same : q ≡ e = handed.1 in subst (λ x. Gives (Err x) (with_value v f)) (sym same) (fault_kept v f e given)
