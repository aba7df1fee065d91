use Rattle.std.proofs.Common.{sym, ◌∙◌}
use Rattle.session_table.proofs.UnderKeys.{key_itself}
use Rattle.session_table.proofs.stored.insert.Goals as goal

pub insert-requires-clause-same : goal.insert-requires-clause-same
insert-requires-clause-same c =
    key_itself c.args.key.0.items c.args.key.1.items c.in_ok-again.again
    (sym (c.in_ok-again.ensures.subtable ∙ c.deref.ensures.value)) (sym (c.in_ok-again.ensures.key ∙ c.deref-2.ensures.value))
