use Rattle.std.proofs.Common.{◌+◌, ◌∙◌, sym, ap, arith, drop}
use Rattle.proxy_core.specs.Asked.{due_until, least, lesser}
use Rattle.proxy_core.specs.declared.call.Asleep.{Asleep}
use Rattle.proxy_core.proofs.Due.{least_last, least_next}
use Rattle.proxy_core.proofs.call_queue.CallQueue.next_due.Goals as goal

pub loop-at-preserved : goal.loop-at-preserved
loop-at-preserved c =
    let due = λ (a : Asleep). due_until a.due in
    let asleep = c.args.self.now.asleep in
    let k = c.due_at.ensures in
    least_next due asleep c.loop-at.at k.0 c.loop-at.due k.1 c.loop-at.invariant
    ∙ ap (λ x. lesser (lesser c.loop-at.due x) (least due (drop (c.loop-at.at + 1) asleep))) (sym k.2)
    ∙ ap (λ x. lesser x (least due (drop (c.loop-at.at + 1) asleep))) (sym c.lesser-due.ensures)

pub returns : goal.returns
returns c = least_last (λ (a : Asleep). due_until a.due) c.args.self.now.asleep c.loop-at.at c.loop-at.due (omega (arith, c.sleeping-at-end.ensures)) c.loop-at.invariant
