-- What is known of the net of this system.
use Rattle.std.specs.Prelude.{◌≡◌, ℕ, ◌<◌, false}
use Rattle.px_real.specs.Links.{is_open}
use Rattle.px_real.specs.declared.mio_net.MioNet.{MioNet}

-- a number that was given to a link
abbrev pub Gave : {R : Type 0} → MioNet R → ℕ → Type 0
Gave net n = (0 < n) × (n < net.next)

-- a net that gave no link and never failed
pub record IsFresh {R : Type 0} (net : MioNet R) : Type 0 where
  pub none : (n : ℕ) → Gave net n → ⊥
  pub closed : (n : ℕ) → is_open net.links n ≡ false
  pub faults : net.faults ≡ 0
  pub lost : net.lost ≡ 0
