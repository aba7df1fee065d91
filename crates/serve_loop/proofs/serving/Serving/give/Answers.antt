use Rattle.std.proofs.Common.{[], true, subst, sym, refl, ◌∙◌}
use Rattle.std.proofs.lemmas.Result.{on_ok_weaker, IfErr-weaker}
use Rattle.journal_text.specs.Notes.{note_lines}
use Rattle.serve_loop.specs.declared.fault.ServeFault.TheVariants.{Memory as OutOfMemory}
use Rattle.serve_loop.specs.declared.journal.Journal.{Journal}
use Rattle.serve_loop.specs.Carrying.{CarriesSome, CarriedSome}
use Rattle.serve_loop.specs.Events.{Tells}
use Rattle.serve_loop.specs.Faults.{is_memory}
use Rattle.serve_loop.proofs.Compose.{tells_nothing}
use Rattle.serve_loop.proofs.Exits.{at_fault, by_result}
use Rattle.serve_loop.proofs.Fronts.{front_none, tells_whole}
use Rattle.serve_loop.proofs.Giving.{given_by, given_none, given_some, group_items, carried_up_to, carried_short, carried_whole}
use Rattle.serve_loop.proofs.serving.Serving.give.Goals as goal

pub returns-clause-gives : goal.returns-clause-gives
returns-clause-gives g c =
    let items = c.step.new.notes.items in
    let none = c.in_ok-reserve.ensures.same ∙ c.clear.ensures.items in
    let carries = rw c.as_slice.ensures at c.carry-carried.ensures.carries in
    let told = rw c.as_slice-2.ensures at c.in_ok-notes.ensures.ok in
    on_ok_weaker c.carry-carried.result (λ carried.
    given_by c.args.event c.args.self.now _ c.args.net.now c.carry-carried.new.net items c.step.result c.event-2.new.self c.step.ensures.taken
    (λ yes. group_items c.reserve.new.self.items items none (c.step.ensures.moved yes)) c.step.ensures.stands carried c.in_ok-event.ensures.ok told refl)
    carries

pub returns-in_err-reserve-clause-broke : goal.returns-in_err-reserve-clause-broke
returns-in_err-reserve-clause-broke g c =
    at_fault _ c.from_residual.result OutOfMemory c.from_residual.ensures.1 (given_none c.args.event c.args.self.now _ c.args.net.now refl refl)

pub returns-in_err-event-clause-broke : goal.returns-in_err-event-clause-broke
returns-in_err-event-clause-broke g c =
    at_fault _ c.from_residual-in_err-event.result OutOfMemory c.from_residual-in_err-event.ensures.1
    (given_none c.args.event c.args.self.now _ c.args.net.now refl c.in_err-event.ensures.err)

pub returns-in_err-notes-clause-broke : goal.returns-in_err-notes-clause-broke
returns-in_err-notes-clause-broke g c =
    let items = c.step.new.notes.items in
    let none = c.in_ok-reserve.ensures.same ∙ c.clear.ensures.items in
    let links = c.args.self.now.links in
    let after = c.carry-carried.new in
    let carries = rw c.as_slice.ensures at c.carry-carried.ensures.carries in
    let broke = rw c.as_slice.ensures at c.carry-carried.ensures.broke in
    let carried : CarriedSome g.N.Net.did g.N.Net.gave (CarriesSome true items links) c.args.net.now after.net
    = by_result c.carry-carried.result carries broke (λ p. carried_whole items links after.links c.args.net.now after.net p)
    (λ why p. carried_short (is_memory why) items links c.args.net.now after.net p) in
    let told = subst (λ (j : Journal). Tells c.event-2.new.self j []) (sym c.in_err-notes.ensures.err) (tells_nothing c.event-2.new.self) in
    at_fault _ c.from_residual-in_err-notes.result OutOfMemory c.from_residual-in_err-notes.ensures.1
    (given_some true c.args.event c.args.self.now _ c.args.net.now after.net items c.step.result c.event-2.new.self c.step.ensures.taken
    (λ yes. group_items c.reserve.new.self.items items none (c.step.ensures.moved yes)) c.step.ensures.stands carried c.in_ok-event.ensures.ok
    (record { text = []; told = told; front = front_none (note_lines items) }))

pub returns-clause-broke : goal.returns-clause-broke
returns-clause-broke g c =
    let items = c.step.new.notes.items in
    let none = c.in_ok-reserve.ensures.same ∙ c.clear.ensures.items in
    let broke = rw c.as_slice.ensures at c.carry-carried.ensures.broke in
    let told = rw c.as_slice-2.ensures at c.in_ok-notes.ensures.ok in
    IfErr-weaker c.carry-carried.result _ _ (λ why p.
    given_some (is_memory why) c.args.event c.args.self.now _ c.args.net.now c.carry-carried.new.net items c.step.result c.event-2.new.self
    c.step.ensures.taken (λ yes. group_items c.reserve.new.self.items items none (c.step.ensures.moved yes)) c.step.ensures.stands
    (carried_up_to (is_memory why) items c.args.self.now.links c.args.net.now c.carry-carried.new.net p) c.in_ok-event.ensures.ok
    (tells_whole (is_memory why) (note_lines items) told)) broke
