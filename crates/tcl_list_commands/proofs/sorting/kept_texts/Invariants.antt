use Rattle.std.proofs.Common.{◌≡◌, ◌++◌, length}
use Rattle.tcl_list_commands.specs.Items.{kept_items, texts_of}
use Rattle.tcl_list_commands.proofs.sorting.kept_texts.Given as goal

abbrev pub invariant-loop-rest : goal.invariant-loop-rest
invariant-loop-rest l = l.texts ++ texts_of (kept_items l.order l.rest) ≡ texts_of (kept_items l.order l.fn.items)

abbrev pub decreases-loop-rest : goal.decreases-loop-rest
decreases-loop-rest l = length l.rest
