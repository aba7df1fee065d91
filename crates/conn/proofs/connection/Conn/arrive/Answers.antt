use Rattle.std.proofs.Common.{false, sym, ap, ◌∙◌, subst, Bool}
use Rattle.std.proofs.lemmas.Result.{on_ok_weaker}
use Rattle.conn_trace.specs.Further.{Coming}
use Rattle.conn.specs.Calls.{Hears, heard_ends}
use Rattle.conn.specs.declared.ends.Ends.{Ends}
use Rattle.conn.proofs.Arriving.{hears, with_ends}
use Rattle.conn.proofs.connection.Conn.arrive.Goals as goal

pub returns-then-has_finished-clause-hears : goal.returns-then-has_finished-clause-hears
returns-then-has_finished-clause-hears c =
    let old = c.args.self.now in
    let coming : Coming = record { bytes = c.args.bytes.now; ended = false } in
    let P : Ends → Type 0 = λ e. Hears c.args.side coming old (with_ends e old) in
    let E : Bool → Ends = λ b. heard_ends b c.args.side coming old.ends in
    subst P (ap E (sym c.has_finished.ensures ∙ c.if-has_finished.true)) (hears c.args.side coming old)

pub returns-clause-hears : goal.returns-clause-hears
returns-clause-hears c =
    let old = c.args.self.now in
    let coming : Coming = record { bytes = c.args.bytes.now; ended = false } in
    let P : Ends → Type 0 = λ e. Hears c.args.side coming old (with_ends e old) in
    let E : Bool → Ends = λ b. heard_ends b c.args.side coming old.ends in
    on_ok_weaker c.arrive.result (λ d. subst P (ap E (sym c.has_finished.ensures ∙ c.if-has_finished.false) ∙ sym d) (hears c.args.side coming old)) c.arrive.ensures.ok
