-- What the exit of a `?` returns.
use Rattle.std.proofs.Common.{◌≡◌, sym, subst}
use Rattle.std.specs.Prelude.{Result, Ok, Err, IfErr, OnOk}
use Rattle.std.specs.Result.{IsErrAnd}
use Rattle.serve_loop.specs.declared.fault.ServeFault.{ServeFault}

pub at_fault : {A : Type 0} (P : ServeFault → Type 0) (r : Result A ServeFault) (why : ServeFault) → IsErrAnd r (λ x. x ≡ why) → P why → IfErr r P
at_fault P (Ok x) why e p = tt
at_fault P (Err x) why e p = subst P (sym e) p

-- what holds where all went well, and where it didn't
pub by_result : {A : Type 0} {Q : Type 0} {P : ServeFault → Type 0} {X : Type 0} (r : Result A ServeFault) → OnOk r Q → IfErr r P
    → (Q → X) → ((why : ServeFault) → P why → X) → X
by_result (Ok x) q p ok err = ok q
by_result (Err why) q p ok err = err why p
