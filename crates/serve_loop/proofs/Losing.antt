-- A read whose event wasn't given.
use Rattle.std.proofs.Common.{◌≡◌, ℕ, ◌<◌, List, [], ◌∷◌, true, Option, Some, None, refl, sym}
use Rattle.px_outside.specs.declared.answers.ReadAnswer.{ReadAnswer}
use Rattle.px_outside.specs.Net.{Call, Read}
use Rattle.core_events.specs.declared.event.Event.{Event}
use Rattle.serve_loop.specs.declared.link_owner.LinkOwner.{LinkOwner}
use Rattle.serve_loop.specs.Links.{owner_in}
use Rattle.serve_loop.specs.declared.serving.Serving.{Serving}
use Rattle.serve_loop.specs.Asking.{IsWanted}
use Rattle.serve_loop.specs.Broken.{AreAsks, IsBroken}
use Rattle.serve_loop.specs.Events.{read_event}
use Rattle.core_events.specs.Face.{Face}
use Rattle.serve_loop.specs.Fresh.{GivesOnce, links_given}
use Rattle.serve_loop.proofs.Breaking.{broke_quiet, broke_ungiven}
use Rattle.serve_loop.proofs.Compose.{tells_nothing}

-- where it became none, nothing is lost
pub read_lost : {C S : Type 0} {face : Face C} {did : S → Call → S → Type 0} {gave : S → ℕ → Type 0} (x : Serving C) (n m : S) (row : LinkOwner)
    (link room : ℕ) (answer : ReadAnswer) (bytes : List ℕ) → did n (Read link room answer bytes) m
    → GivesOnce (gave n) (gave m) (links_given (Read link room answer bytes ∷ [])) → owner_in x.links link ≡ Some row → 0 < room
    → IsWanted face x.core row.conn row.side room → (o : Option Event) → read_event row.conn row.side answer bytes ≡ o
    → IsBroken face did gave AreAsks true x x n m
read_lost x n m row link room answer bytes d once owned some wanted None is =
    broke_quiet AreAsks true x n m (Read link room answer bytes) d once
    (record { row = row; owned = owned; wanted = wanted.wanted; wants = wanted.wants; some = some; within = wanted.within; becomes = sym is }) refl (tt, tt)
read_lost x n m row link room answer bytes d once owned some wanted (Some e) is =
    broke_ungiven AreAsks x x n m (Read link room answer bytes) e d once
    (record { row = row; owned = owned; wanted = wanted.wanted; wants = wanted.wants; some = some; within = wanted.within; becomes = sym is })
    refl (tells_nothing x.journal) (tt, tt)
