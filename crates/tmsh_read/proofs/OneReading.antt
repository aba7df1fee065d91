-- Two readings of one text are one.
use Rattle.std.proofs.Common.{◌≡◌, ℕ, ◌+◌, List, drop, Result, Ok, Err, sym, ap, ap₂, subst, ◌∙◌}
use Rattle.toml.specs.Data.{Members}
use Rattle.tmsh_read.specs.Reading.{Means, Move, ends, stops, goes, Reads, ended, stopped, gone, answer, finished}
use Rattle.tmsh_read.specs.Sketch.{Sketch}
use Rattle.tmsh_read.specs.declared.gap.Gap.{Gap}
use Rattle.tmsh_read.specs.declared.gap.Gap.TheVariants.{Within}

same_goes : (a b : Sketch) (m n : ℕ) (move : Move) → move ≡ goes a m → move ≡ goes b n → (a ≡ b) × (m ≡ n)
same_goes a b m n move p q = (cc, cc)

module _ (gap : Gap) (s : Sketch) (at : ℕ) (bytes : List ℕ) where
  only_ended : (t : Sketch) (q : Result Sketch ℕ) → answer gap s bytes ≡ ends t → Reads gap s at bytes q → Ok t ≡ q
  only_ended t q e (ended _ _ _ _ u f) = cc
  only_ended t q e (stopped _ _ _ _ n f) = cc
  only_ended t q e (gone _ _ _ _ u n _ f _) = cc

  only_stopped : (n : ℕ) (q : Result Sketch ℕ) → answer gap s bytes ≡ stops n → Reads gap s at bytes q → Err (at + n) ≡ q
  only_stopped n q e (ended _ _ _ _ u f) = cc
  only_stopped n q e (stopped _ _ _ _ m f) = cc
  only_stopped n q e (gone _ _ _ _ u m _ f _) = cc

  only_gone : (t : Sketch) (n : ℕ) (q : Result Sketch ℕ) → answer gap s bytes ≡ goes t n → Reads gap s at bytes q → Reads Within t (at + n) (drop n bytes) q
  only_gone t n q e (ended _ _ _ _ u f) = cc
  only_gone t n q e (stopped _ _ _ _ m f) = cc
  only_gone t n q e (gone _ _ _ _ u m r f more) =
      let same = same_goes t u n m (answer gap s bytes) e f in
      let P : Sketch → ℕ → Type 0 = λ x k. Reads Within x (at + k) (drop k bytes) r in
      subst (λ x. P x n) (sym same.0) (subst (P u) (sym same.1) more)

pub one_reading : (gap : Gap) (s : Sketch) (at : ℕ) (bytes : List ℕ) (r q : Result Sketch ℕ) → Reads gap s at bytes r → Reads gap s at bytes q → r ≡ q
one_reading _ _ _ _ _ q (ended gap s at bytes t e) other = only_ended gap s at bytes t q e other
one_reading _ _ _ _ _ q (stopped gap s at bytes n e) other = only_stopped gap s at bytes n q e other
one_reading _ _ _ _ _ q (gone gap s at bytes t n r e more) other = one_reading _ _ _ _ r q more (only_gone gap s at bytes t n q e other)
