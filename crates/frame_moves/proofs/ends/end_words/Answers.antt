use Rattle.std.proofs.Common.{◌≡◌, ◌∙◌, ap, sym, length, false, rules, arith}
use Rattle.tcl_trees.specs.TreeView.{node_view}
use Rattle.tcl_trees.specs.declared.node.Node.{out-Node}
use Rattle.frame_words.specs.CallParts.{caller_view}
use Rattle.frame_words.specs.FirstWords.{has_words_in}
use Rattle.frame_words.proofs.FirstViews.{has_words_view}
use Rattle.frame_moves.proofs.InEnds.{catch_in_is, each_is, makes_still, switch_is, wordless}
use Rattle.frame_moves.proofs.ends.end_words.Goals as goal

pub returns-in_ok-next-in-Foreach-clause-did : goal.returns-in_ok-next-in-Foreach-clause-did
returns-in_ok-next-in-Foreach-clause-did g c =
    let ok = c.in-Foreach.all.ok.0 in
    let len = c.len-place.ensures in
    let place : c.len-place.result ≡ length c.in-Foreach.all.items = omega (arith, ok, len) in
    rw (ap node_view c.in-Foreach.is)
    (each_is (caller_view c.args.caller.now) c.in-Foreach.all c.in-Foreach.body c.len-place.result
    c.args.words.now _ _ _ _ _ _ _ _ place (rw c.deref.ensures at c.in_ok-next-in-Foreach.ensures))

pub returns-in_ok-next-in-Switch-clause-did : goal.returns-in_ok-next-in-Switch-clause-did
returns-in_ok-next-in-Switch-clause-did g c =
    let s = c.in-Switch in
    rw (ap node_view s.is)
    (switch_is (caller_view c.args.caller.now) s.front s.all s.bodies c.args.words.now _ _ _ _ _
    (rw (c.deref-in-Switch.ensures.value, c.deref-in-Switch-2.ensures.value, c.behind_name.ensures) at
    c.in_ok-next-in-Switch.ensures))

pub returns-in_ok-next-in-CatchIn-clause-did : goal.returns-in_ok-next-in-CatchIn-clause-did
returns-in_ok-next-in-CatchIn-clause-did g c =
    let n = c.in_ok-next-in-CatchIn.ensures in
    let body = c.deref-in-CatchIn.ensures in
    rw (ap node_view c.in-CatchIn.is)
    (catch_in_is (caller_view c.args.caller.now) c.in-CatchIn.body c.in-CatchIn.name c.args.words.now _ _ _ _
    _ _
    (rw body at n.next, rw body at n.vars))

pub returns-in_default-clause-did : goal.returns-in_default-clause-did
returns-in_default-clause-did g c =
    let n = c.args.node.now in
    let none : has_words_in (out-Node n) ≡ false = search rules in
    rw (c.stop.ensures, c.empty.ensures)
    (makes_still _ _ _ _ _
    (wordless (caller_view c.args.caller.now) (node_view n) c.args.words.now _ _
    (sym (has_words_view n) ∙ none)))
