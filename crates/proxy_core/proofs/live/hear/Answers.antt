use Rattle.std.proofs.Common.{sym, subst}
use Rattle.std.specs.Prelude.{OnOk}
use Rattle.proxy_core.specs.Live.{ConnHears}
use Rattle.core_events.specs.declared.input.Input.{Input}
use Rattle.proxy_core.proofs.Coming.{answer_heard, arrives, end_heard, reset_heard, took_heard}
use Rattle.proxy_core.proofs.live.hear.Goals as goal

pub returns-in-Bytes-clause-hears : goal.returns-in-Bytes-clause-hears
returns-in-Bytes-clause-hears c =
    let P : Input → Type 0 = λ i. OnOk c.arrive.result (ConnHears i c.args.conn.now c.arrive.new.self) in
    subst P (sym c.in-Bytes.is) (arrives c.in-Bytes.side c.in-Bytes.bytes c.arrive.result c.args.conn.now c.arrive.new.self (rw c.as_bytes.ensures at c.arrive.ensures.hears) (rw c.as_bytes.ensures at c.arrive.ensures.ends))

pub returns-in-Ends-clause-hears : goal.returns-in-Ends-clause-hears
returns-in-Ends-clause-hears c =
    let P : Input → Type 0 = λ i. ConnHears i c.args.conn.now c.end.new.self in
    subst P (sym c.in-Ends.is) (end_heard c.in-Ends.side c.args.conn.now c.end.new.self c.end.ensures.hears c.end.ensures.ends)

pub returns-in-Resets-clause-hears : goal.returns-in-Resets-clause-hears
returns-in-Resets-clause-hears c =
    let P : Input → Type 0 = λ i. ConnHears i c.args.conn.now c.reset.new.self in
    subst P (sym c.in-Resets.is) (reset_heard c.in-Resets.side c.args.conn.now c.reset.new.self c.reset.ensures.resets c.reset.ensures.ends)

pub returns-in-Takes-clause-hears : goal.returns-in-Takes-clause-hears
returns-in-Takes-clause-hears c =
    let P : Input → Type 0 = λ i. ConnHears i c.args.conn.now c.took.new.self in
    subst P (sym c.in-Takes.is) (took_heard c.in-Takes.side c.in-Takes.n c.args.conn.now c.took.new.self c.took.ensures.takes c.took.ensures.ends)

pub returns-in-Connects-clause-hears : goal.returns-in-Connects-clause-hears
returns-in-Connects-clause-hears c =
    let P : Input → Type 0 = λ i. ConnHears i c.args.conn.now c.connected.new.self in
    subst P (sym c.in-Connects.is) (answer_heard c.in-Connects.made c.args.conn.now c.connected.new.self c.connected.ensures.connects c.connected.ensures.ends)
