use Rattle.std.proofs.Common.{ℕ, List, sym, subst}
use Rattle.tcl_lists.specs.Read.{Answers, list_values}
use Rattle.tcl_lists.specs.Write.{joined}
use Rattle.journal_value.specs.Exact.{Exact}
use Rattle.journal_value.specs.Words.{IsCall}
use Rattle.journal_value.proofs.Exactly.{call_compared, no_list_result}
use Rattle.journal_value.proofs.texts.call_of.Goals as goal

pub returns-in_ok-same-in-Ok : goal.returns-in_ok-same-in-Ok
returns-in_ok-same-in-Ok c =
    let text = c.args.text.now in
    let read = rw c.as_bytes.ensures at c.in-Ok.ensures.value in
    subst (Exact (List (List ℕ)) (List ℕ) joined IsCall text) (sym c.then_some.ensures)
    (call_compared text c.in-Ok.call c.in_ok-same-in-Ok.same read c.in_ok-same-in-Ok.ensures)

pub returns-in-Err : goal.returns-in-Err
returns-in-Err c =
    let answers = subst (Answers (list_values c.args.text.now)) c.in-Err.is (rw c.as_bytes.ensures at c.split.ensures.value) in
    no_list_result c.args.text.now c.in-Err.fault c.no_call.result c.no_call.ensures.none c.no_call.ensures.found_memory answers
