use Rattle.std.proofs.Common.{◌≡◌, ◌<◌, ◌∙◌, subst, sym}
use Rattle.test_names.proofs.NamedPools.{is_here, is_later}
use Rattle.test_names.proofs.named.pool_of.Goals as goal

pub returns-then-is_named : goal.returns-then-is_named
returns-then-is_named c =
    c.pool_in.ensures
    ∙ sym (is_here c.args.name.now c.args.pools.now c.loop-at.at _ (sym c.get-named.ensures) (sym c.if-is_named.ensures))
    ∙ c.loop-at.invariant

pub loop-at-preserved : goal.loop-at-preserved
loop-at-preserved c =
    is_later c.args.name.now c.args.pools.now c.loop-at.at _ (sym c.get-named.ensures)
    (subst (λ n. c.loop-at.at < n) c.len-at-end.ensures c.loop-at-test.true)
    (sym c.if-is_named.ensures)
    ∙ c.loop-at.invariant
