-- Want of memory is no fault of what is outside.
use Rattle.std.proofs.Common.{◌≡◌, Bool, false, Option, Some, None, Result, Ok, Err, sym, ◌∙◌}
use Rattle.std.specs.Bool.{IsTrue}
use Rattle.std.specs.Result.{IsErrAnd, IsErrOf}
use Rattle.std.proofs.lemmas.Bool.{false≢true}
use Rattle.px_outside.specs.declared.failed.Failed.TheVariants as Failed

-- why nothing was read or written
abbrev pub Cause : Type 0
Cause = Failed.the_data

pub memory_is_no_fault : (T : Type 0) (r : Result T Cause) (P : Type 0) → IsErrAnd r (λ f. f ≡ Failed.Memory) → IsErrOf r Failed.Failed → P
memory_is_no_fault T (Ok x) P m e = cc
memory_is_no_fault T (Err f) P m e = cc

pub not_both : (b : Bool) (P : Type 0) → b ≡ false → IsTrue b → P
not_both b P low high = absurd (false≢true (sym low ∙ high))

pub not_none : {T : Type 0} (o : Option T) (x : T) (P : Type 0) → o ≡ Some x → o ≡ None → P
not_none o x P some none = cc
