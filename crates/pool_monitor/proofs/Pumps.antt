-- A pump, by what its parts did.
use Rattle.std.proofs.Common.{◌≡◌, ℕ, List, refl, subst}
use Rattle.px_outside.specs.Net.{Call}
use Rattle.pool_monitor.specs.Pass.{AddsEach}
use Rattle.pool_monitor.specs.Pump.{IsMarked, Probed, Tells, watch}
use Rattle.pool_monitor.specs.declared.mark.Mark.{Mark}
use Rattle.pool_monitor.specs.declared.monitor.Monitor.{Monitor}
use Rattle.pool_monitor.specs.declared.probe.ProbedMember.{ProbedMember}

module _ {S : Type 0} (did : S → Call → S → Type 0) (moment : ℕ) (old new : S) (out out' : List Mark) where
  pub pumped_of : (ms ms' : List Monitor) (ps ps' qs qs' rs : List ProbedMember) → ms' ≡ ms → ps' ≡ ps → qs' ≡ qs
      → Probed did (watch ms' ps') moment old new (watch ms' qs) → AddsEach (IsMarked ms' moment) out out' qs' rs
      → Tells did (watch ms ps) moment old new (watch ms rs) out out'
  pumped_of ms ms' ps ps' qs qs' rs monitors members between probed marked =
      let probed_here = subst (λ xs. Probed did (watch xs ps') moment old new (watch xs qs)) monitors probed in
      let probed_now = subst (λ xs. Probed did (watch ms xs) moment old new (watch ms qs)) members probed_here in
      let marked_here = subst (λ xs. AddsEach (IsMarked xs moment) out out' qs' rs) monitors marked in
      let marked_now = subst (λ xs. AddsEach (IsMarked ms moment) out out' xs rs) between marked_here in
      record {
        marks = marked_now.more;
        pumped = record { between = watch ms qs; probed = probed_now; marked = marked_now.each; same = refl };
        told = marked_now.told;
      }
