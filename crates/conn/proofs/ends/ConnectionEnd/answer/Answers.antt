use Rattle.std.proofs.Common.{◌≡◌, ◌≤◌, Ok, Err, sym, subst, ◌∙◌, take, length, length-take-le}
use Rattle.http_heads.specs.Fronts.{head_part}
use Rattle.http_heads.specs.declared.front.HeadPart.TheVariants.{HeadOf}
use Rattle.http_messages.specs.Messages.{response_of}
use Rattle.conn_trace.proofs.Parts.{HeadIn, head_inside}
use Rattle.conn.proofs.Responding.{answer_here, told_failed, told_response}
use Rattle.conn.proofs.ends.ConnectionEnd.answer.Goals as goal

pub slice_bounds-response_of-end : goal.slice_bounds-response_of-end
slice_bounds-response_of-end c =
    let e = c.args.self.now in
    let n = c.in-HeadOf.n in
    let is : head_part e.unread e.ended ≡ HeadOf n = sym c.head.ensures.value ∙ c.in-HeadOf.is in
    let inside : n ≤ length e.unread = subst (HeadIn e.unread) is (head_inside e.unread e.ended) in
    sym (length-take-le n c.front.result.now (subst (λ u. n ≤ length u) (sym (c.front.ensures ∙ c.head.ensures.same)) inside))

pub returns-in-Ok-clause-ok : goal.returns-in-Ok-clause-ok
returns-in-Ok-clause-ok c =
    let e = c.args.self.now in
    let n = c.in-HeadOf.n in
    let is : head_part e.unread e.ended ≡ HeadOf n = sym c.head.ensures.value ∙ c.in-HeadOf.is in
    let told = told_response c.in-Ok.response (response_of c.args.came.now (take n e.unread)) (rw (c.front.ensures, c.head.ensures.same, c.as_ref.ensures.value) at c.in-Ok.ensures) in
    answer_here c.args.came.now e.unread n (head_part e.unread e.ended) (Ok c.in-Ok.response) is told

pub returns-in-Err-Fault-clause-ok : goal.returns-in-Err-Fault-clause-ok
returns-in-Err-Fault-clause-ok c =
    let e = c.args.self.now in
    let n = c.in-HeadOf.n in
    let is : head_part e.unread e.ended ≡ HeadOf n = sym c.head.ensures.value ∙ c.in-HeadOf.is in
    let told = told_failed c.in-Err-Fault.fault (response_of c.args.came.now (take n e.unread)) (rw (c.in-Err-Fault.field-0-is, c.front.ensures, c.head.ensures.same, c.as_ref.ensures.value) at c.in-Err-Fault.ensures) in
    answer_here c.args.came.now e.unread n (head_part e.unread e.ended) (Err c.in-Err-Fault.fault) is told
