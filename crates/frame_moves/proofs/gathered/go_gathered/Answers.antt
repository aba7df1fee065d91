use Rattle.std.proofs.Common.{refl, arith}
use Rattle.tcl_trees.specs.TreeView.{node_view}
use Rattle.frames.specs.Given.{setting_of}
use Rattle.frame_words.proofs.InBegins.{child_moved, stop_moved}
use Rattle.frame_words.proofs.InScripts.{back_owes}
use Rattle.frame_moves.proofs.gathered.go_gathered.Goals as goal

pub returns-in_ok-next-in-All-clause-did : goal.returns-in_ok-next-in-All-clause-did
returns-in_ok-next-in-All-clause-did g c =
    rw (c.in-All.is, ← c.into_texts-words.ensures) c.in_ok-next-in-All.ensures.did

pub returns-in-Ends-clause-did : goal.returns-in-Ends-clause-did
returns-in-Ends-clause-did g c =
    rw (c.in-Ends.is, c.stop.ensures)
    (stop_moved (setting_of g.H.Host.table c.args.context.now) c.args.room c.args.wanted
    (node_view c.args.node.now) _ _ c.in-Ends.code _ (λ p more cost acts. refl) (g.met.H.Host.made_none _))

pub returns-in-Ends-clause-owed : goal.returns-in-Ends-clause-owed
returns-in-Ends-clause-owed g c = let k = back_owes c.in-Ends.code in rw c.stop.ensures (omega (arith, k))

pub returns-in-Child-clause-did : goal.returns-in-Child-clause-did
returns-in-Child-clause-did g c =
    rw (c.in-Child.is, c.child.ensures)
    (child_moved (setting_of g.H.Host.table c.args.context.now) c.args.room c.args.wanted
    (node_view c.args.node.now) _ c.in-Child.word c.in-Child.part c.in-Child.values c.in-Child.text _
    (g.met.H.Host.made_none _))
