use Rattle.std.proofs.Common.{◌∙◌, arith}
use Rattle.proxy.proofs.Stopping.{conns_next, conns_front, conns_part, on_err}
use Rattle.proxy.proofs.replay.Replay.finish.Goals as goal

pub loop-taken-preserved : goal.loop-taken-preserved
loop-taken-preserved g c =
    let s = c.args.self.now in
    let core = s.core in
    let all = s.taken.items in
    let i = c.loop-taken.taken-index in
    let t = c.taken-item.result in
    let last = c.args.last.now in
    let bytes = c.as_bytes-in-loop-taken.result.now in
    let text = c.as_bytes-in-loop-taken.ensures ∙ c.in_ok-conn_text.ensures in
    let w = c.in_ok-write_all.ensures.ok_writes_all in
    let h = rw c.deref-taken-items.ensures.value at c.loop-taken-test.true in
    let e = rw c.deref-taken-items.ensures.value at c.taken-item.is in
    record {
      whole = conns_next core all i t last bytes _ _ _ h e text w c.loop-taken.invariant.whole;
      front = conns_front core all i t last bytes _ _ _ h e text w c.loop-taken.invariant.front;
      faults = omega (arith, c.loop-taken.invariant.faults, c.in_ok-write_all.ensures.faults_never_fall);
    }

pub returns-in_err-write_all-clause-writes_front : goal.returns-in_err-write_all-clause-writes_front
returns-in_err-write_all-clause-writes_front g c =
    let s = c.args.self.now in
    let core = s.core in
    let all = s.taken.items in
    let last = c.args.last.now in
    let bytes = c.as_bytes-in-loop-taken.result.now in
    let text = c.as_bytes-in-loop-taken.ensures ∙ c.in_ok-conn_text.ensures in
    let h = rw c.deref-taken-items.ensures.value at c.loop-taken-test.true in
    let e = rw c.deref-taken-items.ensures.value at c.taken-item.is in
    on_err c.from_residual-in_err-write_all.result _
    (conns_part core all c.loop-taken.taken-index c.taken-item.result last bytes _ _ _ h e text c.loop-taken.invariant.front
    c.in_err-write_all.ensures.err_writes_prefix)
