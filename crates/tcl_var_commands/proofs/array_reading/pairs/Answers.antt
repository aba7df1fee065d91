use Rattle.std.proofs.Common.{◌∙◌}
use Rattle.tcl_var_commands.proofs.Entries.{no_gap, pair_more}
use Rattle.tcl_var_commands.proofs.array_reading.pairs.Goals.{in-Some+in_ok-copy-2+in_ok-push-2, in_default}
use Rattle.tcl_var_commands.proofs.array_reading.pairs.Goals as goal

pub loop-index-preserved : goal.loop-index-preserved
loop-index-preserved c =
    let names = c.in_ok-indexes.field-0 in
    let slice = c.as_slice-index-items.result.now in
    elim c.match-get.branch [
      | in-Some+in_ok-copy-2+in_ok-push-2 w ↦
          pair_more c.args.vars.now c.args.name.now names slice c.loop-index.index-index c.index-item.result c.as_bytes.result.now c.in_ok-indexes.ensures.indexes c.in_ok-indexes.ensures.sorted c.as_slice-index-items.ensures c.loop-index-test.true c.index-item.is c.as_bytes.ensures
          c.loop-index.pairs c.push.new.self c.match-get.pairs c.in_ok-copy.field-0 w.in-Some.value.now w.in_ok-copy-2.field-0 c.loop-index.invariant c.in_ok-copy.ensures c.in_ok-push.ensures.ok w.in-Some.ensures.value w.in_ok-copy-2.ensures (w.pairs-is ∙ w.in_ok-push-2.ensures.ok)
      | in_default w ↦
          absurd (no_gap c.args.vars.now c.args.name.now names slice c.loop-index.index-index c.index-item.result c.as_bytes.result.now c.in_ok-indexes.ensures.indexes c.in_ok-indexes.ensures.sorted c.as_slice-index-items.ensures c.loop-index-test.true c.index-item.is c.as_bytes.ensures w.in_default.ensures.value)
    ]
