use Rattle.std.proofs.Common.{rules, ◌∷◌, ◌++◌, [], subst, sym}
use Rattle.std.specs.Prelude.{reverse}
use Rattle.std.proofs.lemmas.List.{reverse-append}
use Rattle.access_report.specs.Tallies.{Tallies}
use Rattle.access_report.proofs.report.tally_of.Goals as goal

pub loop-tally-init : goal.loop-tally-init
loop-tally-init c = ([], c.new-reader.ensures.begins, c.new-tally.ensures)

pub returns-in_err-line-clause-fault : goal.returns-in_err-line-clause-fault
returns-in_err-line-clause-fault c =
    let fault = c.in_err-line.ensures.fault c.args.text.now c.loop-tally.invariant.0 c.loop-tally.invariant.1 in
    search (rules, fault)

pub loop-tally-preserved : goal.loop-tally-preserved
loop-tally-preserved c =
    let past = c.loop-tally.invariant.0 in
    let last = c.in-Some.line ∷ [] in
    let told = c.in_ok-line.ensures.told c.args.text.now past c.loop-tally.invariant.1 in
    let counted = c.in_ok-count.ensures (reverse past) c.loop-tally.invariant.2 in
    (past ++ last, rw c.in-Some.is at told, subst (λ lines. Tallies lines c.count.new.tally) (sym (reverse-append past last)) counted)

pub returns-clause-tallies : goal.returns-clause-tallies
returns-clause-tallies c =
    let past = c.loop-tally.invariant.0 in
    let told = c.in_ok-line.ensures.told c.args.text.now past c.loop-tally.invariant.1 in
    record { told = past; journal = (rw c.in_default.is at told).0; tallies = c.loop-tally.invariant.2 }
