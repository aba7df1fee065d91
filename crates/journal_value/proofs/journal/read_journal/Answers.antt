use Rattle.std.proofs.Common.{rules}
use Rattle.journal_value.proofs.journal.read_journal.Goals as goal

pub loop-journal-init : goal.loop-journal-init
loop-journal-init c = rw c.new-journal.ensures c.new-reader.ensures.begins

pub returns-in_err-line-clause-fault : goal.returns-in_err-line-clause-fault
returns-in_err-line-clause-fault c =
    let fault = c.in_err-line.ensures.fault c.args.text.now c.loop-journal.journal c.loop-journal.invariant in
    search (rules, fault)

pub loop-journal-preserved : goal.loop-journal-preserved
loop-journal-preserved c =
    let told = c.in_ok-line.ensures.told c.args.text.now c.loop-journal.journal c.loop-journal.invariant in
    rw c.in_ok-push.ensures.ok (rw c.in-Some.is at told)

pub returns-clause-journal : goal.returns-clause-journal
returns-clause-journal c =
    let told = c.in_ok-line.ensures.told c.args.text.now c.loop-journal.journal c.loop-journal.invariant in
    (rw c.in_default.is at told).0

pub returns-clause-only_journal : goal.returns-clause-only_journal
returns-clause-only_journal c =
    let told = c.in_ok-line.ensures.told c.args.text.now c.loop-journal.journal c.loop-journal.invariant in
    (rw c.in_default.is at told).1
