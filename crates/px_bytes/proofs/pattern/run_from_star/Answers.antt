use Rattle.std.proofs.Common.{arith}
use Rattle.std.proofs.lemmas.List.{nil_from_length}
use Rattle.px_bytes.specs.GlobRun.{starred}
use Rattle.px_bytes.proofs.Globs.{settles_here, settles_too, one_byte_further}
use Rattle.px_bytes.proofs.pattern.run_from_star.Goals as goal
use Rattle.px_bytes.proofs.pattern.run_from_star.Goals.{in-Fails, in_default-matches}

pub returns-in_default-clause-settles : goal.returns-in_default-clause-settles
returns-in_default-clause-settles c =
    settles_too (starred c.args.behind.now) c.loop-rest.rest.now c.args.text.now c.run_to_star-run.result c.loop-rest.invariant
    (settles_here _ _ c.run_to_star-run.result (λ f. nil_from_length c.loop-rest.rest.now (omega arith)) c.run_to_star-run.ensures)

pub returns-then-not-matches-clause-settles : goal.returns-then-not-matches-clause-settles
returns-then-not-matches-clause-settles c =
    settles_too (starred c.args.behind.now) c.loop-rest.rest.now c.args.text.now c.run_to_star-run.result c.loop-rest.invariant
    (settles_here _ _ c.run_to_star-run.result (λ f. elim c.match-matches.branch [ in-Fails w ↦ cc | in_default-matches w ↦ absurd (w.in_default-matches.not-Fails f) ]) c.run_to_star-run.ensures)

pub loop-rest-preserved : goal.loop-rest-preserved
loop-rest-preserved c =
    one_byte_further c.args.behind.now c.args.text.now c.loop-rest.rest.now c.in-len1-up.len_at_least
    (elim c.match-matches.branch [ in-Fails w ↦ w.in-Fails.ensures | in_default-matches w ↦ cc ]) c.loop-rest.invariant
