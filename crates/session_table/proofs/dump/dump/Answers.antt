use Rattle.std.proofs.Common.{◌≡◌, ◌∙◌, [], ap, sym}
use Rattle.std.specs.Map.Iter.{deref}
use Rattle.std.specs.Option.{option_copied}
use Rattle.std.proofs.lemmas.Map.Iter.{rest_all}
use Rattle.session_table.proofs.Dumps.{begins, goes_on, none_lost, rows_sorted, whole}
use Rattle.session_table.proofs.dump.dump.Goals as goal

pub loop-key-init : goal.loop-key-init
loop-key-init c = begins _ _ _ c.keys-key-items.ensures.sorted c.empty-text.ensures (c.into_iter-key-iterator.ensures.into_iter_gives ∙ c.keys-key-items.ensures.rest)

pub loop-key-preserved-in-Continue-1 : goal.loop-key-preserved-in-Continue-1
loop-key-preserved-in-Continue-1 c =
    let at = sym c.get.ensures ∙ ap option_copied c.in-Some-get.is in
    goes_on _ _ _ _ _ _ _ c.loop-key.invariant c.in-Some.ensures.steps at c.in_ok-push_row.ensures

pub loop-key-preserved : goal.loop-key-preserved
loop-key-preserved c =
    absurd (none_lost _ _ _ _ _ c.loop-key.invariant c.in-Some.ensures.steps (sym c.get.ensures ∙ ap option_copied c.in_default.is))

pub returns-clause-text : goal.returns-clause-text
returns-clause-text c =
    whole _ _ _ c.loop-key.invariant (rest_all deref _ _ _ c.in-None.is c.next.ensures.steps)

pub returns-clause-sorted : goal.returns-clause-sorted
returns-clause-sorted c = rows_sorted _ c.keys-key-items.ensures.sorted
