-- What stands outside of bodies.
use Rattle.std.proofs.Common.{◌≡◌, refl, ℕ, false}
use Rattle.conn.specs.Stages.{is_running}
use Rattle.conn.specs.declared.events.At.{At}
use Rattle.conn.specs.declared.stage.Stage.{Stage}
use Rattle.conn.specs.declared.stage.Stage.TheVariants as stage

pub not_running : (s : Stage) → ((at : At) (number : ℕ) → s ≡ stage.Running at number → ⊥) → is_running s ≡ false
not_running (stage.Running at number) h = absurd (h at number refl)
not_running other h = refl
