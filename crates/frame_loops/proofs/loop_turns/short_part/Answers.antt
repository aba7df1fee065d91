use Rattle.std.proofs.Common.{arith, refl}
use Rattle.std.proofs.lemmas.Bool.{OnTrue_at, OnTrue_from}
use Rattle.frame_loops.proofs.ShortParts.{no_nodes, none_done, one_done, one_node}
use Rattle.frame_loops.proofs.loop_turns.short_part.Goals as goal

pub returns-in-empty-clause-done : goal.returns-in-empty-clause-done
returns-in-empty-clause-done g c = none_done (no_nodes _ _ c.commands.ensures c.in-empty.len_below)

pub returns-in-empty-clause-ticks : goal.returns-in-empty-clause-ticks
returns-in-empty-clause-ticks g c = rw (no_nodes _ _ c.commands.ensures c.in-empty.len_below) (omega arith)

pub returns-in-empty-clause-few : goal.returns-in-empty-clause-few
returns-in-empty-clause-few g c = rw (no_nodes _ _ c.commands.ensures c.in-empty.len_below) (omega arith)

pub returns-then-done-clause-done : goal.returns-then-done-clause-done
returns-then-done-clause-done g c =
    OnTrue_from c.command_at_once-done.result _ (λ done.
    one_done (one_node _ _ _ c.commands.ensures c.in-len1.len_at_least c.in-len1.len_below c.command-item.is)
    (OnTrue_at done c.command_at_once-done.ensures.done))

pub returns-then-done-clause-ticks : goal.returns-then-done-clause-ticks
returns-then-done-clause-ticks g c =
    OnTrue_from c.command_at_once-done.result _ (λ done.
    rw (one_node _ _ _ c.commands.ensures c.in-len1.len_at_least c.in-len1.len_below c.command-item.is) refl)

pub returns-then-done-clause-few : goal.returns-then-done-clause-few
returns-then-done-clause-few g c =
    OnTrue_from c.command_at_once-done.result _ (λ done.
    rw (one_node _ _ _ c.commands.ensures c.in-len1.len_at_least c.in-len1.len_below c.command-item.is) (omega arith))
