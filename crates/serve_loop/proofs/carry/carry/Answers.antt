use Rattle.std.proofs.Common.{arith, ◌≡◌, ◌+◌, ◌∷◌, drop, subst, sym}
use Rattle.core_events.specs.declared.note.Note.{Note}
use Rattle.serve_loop.specs.Faults.{is_memory}
use Rattle.serve_loop.proofs.Exits.{at_fault}
use Rattle.serve_loop.proofs.Carried.{carries_start, carries_next, carries_all, carries_broke}
use Rattle.serve_loop.proofs.Chains.{front_at, none_left}
use Rattle.serve_loop.proofs.carry.carry.Goals as goal

pub loop-note-init : goal.loop-note-init
loop-note-init g c =
    (carries_start c.args.notes.now c.args.links.now c.args.net.now, omega arith)

pub loop-note-preserved : goal.loop-note-preserved
loop-note-preserved g c =
    let notes = c.args.notes.now in
    let i = c.loop-note.note-index in
    let front = subst (λ (x : Note). drop i notes ≡ x ∷ drop (i + 1) notes) (sym c.note-item.is)
    (front_at notes i c.note-item.result c.loop-note-test.true) in (
      carries_next notes i (i + 1) _ c.args.links.now c.loop-note.links c.carry_one.new.links c.args.net.now c.loop-note.net c.carry_one.new.net front
          c.loop-note.invariant.0 (rw c.asked_for.ensures at c.in_ok-carry_one.ensures.carries),
      omega (arith, c.loop-note.invariant.1, c.carry_one.ensures.faults_never_fall),
    )

pub returns-clause-carries : goal.returns-clause-carries
returns-clause-carries g c =
    carries_all c.args.notes.now c.loop-note.note-index c.args.links.now c.loop-note.links c.args.net.now c.loop-note.net
    (none_left c.args.notes.now c.loop-note.note-index c.loop-note-test.false) c.loop-note.invariant.0

pub returns-in_err-carry_one-clause-broke : goal.returns-in_err-carry_one-clause-broke
returns-in_err-carry_one-clause-broke g c =
    let why = c.in_err-carry_one.field-0.0 in
    let notes = c.args.notes.now in
    let i = c.loop-note.note-index in
    let front = subst (λ (x : Note). drop i notes ≡ x ∷ drop (i + 1) notes) (sym c.note-item.is)
    (front_at notes i c.note-item.result c.loop-note-test.true) in
    at_fault _ c.from_residual.result why c.from_residual.ensures.1
    (carries_broke (is_memory why) notes i (i + 1) _ c.args.links.now c.loop-note.links c.args.net.now c.loop-note.net c.carry_one.new.net front
    c.loop-note.invariant.0 (rw c.asked_for.ensures at c.in_err-carry_one.ensures.broke))
