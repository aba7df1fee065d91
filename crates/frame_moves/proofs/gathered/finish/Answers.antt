use Rattle.std.proofs.Common.{◌∙◌, sym, arith}
use Rattle.tcl_trees.specs.Procedures.{procs_view}
use Rattle.tcl_trees.specs.TreeView.{node_view}
use Rattle.frames.specs.Given.{setting_of}
use Rattle.frame_moves.proofs.EndMeans.{ends_moved, ends_owe}
use Rattle.frame_words.proofs.InBegins.{done_owes, done_ready, not_call, word_verb_moved}
use Rattle.frame_words.proofs.InCalls.{caller_at}
use Rattle.frame_moves.proofs.gathered.finish.Goals as goal

pub by_words-requires-clause-call : goal.by_words-requires-clause-call
by_words-requires-clause-call g c =
    (not_call (node_view c.args.node.now) c.in-Some.verb (sym c.in-Some.is ∙ c.word_verb.ensures)).0

pub by_words-requires-clause-read : goal.by_words-requires-clause-read
by_words-requires-clause-read g c =
    (not_call (node_view c.args.node.now) c.in-Some.verb (sym c.in-Some.is ∙ c.word_verb.ensures)).1

pub returns-in-Some-clause-did : goal.returns-in-Some-clause-did
returns-in-Some-clause-did g c =
    rw c.next_after.ensures
    (word_verb_moved (setting_of g.H.Host.table c.args.context.now) c.args.room c.args.wanted
    (node_view c.args.node.now) c.in-Some.verb c.args.words _ _ _ _ _ _ _ _
    (sym c.in-Some.is ∙ c.word_verb.ensures) c.in_ok-done-in-Some.ensures.did)

pub returns-in-Some-clause-ready : goal.returns-in-Some-clause-ready
returns-in-Some-clause-ready g c =
    rw c.next_after.ensures
    (done_ready (procs_view c.args.context.now.procs.now) (node_view c.args.node.now) _)

pub returns-in-Some-clause-owed : goal.returns-in-Some-clause-owed
returns-in-Some-clause-owed g c =
    let d = done_owes c.in_ok-done-in-Some.done in rw c.next_after.ensures (omega (arith, d))

pub returns-clause-did : goal.returns-clause-did
returns-clause-did g c =
    ends_moved (setting_of g.H.Host.table c.args.context.now) c.args.room c.args.wanted
    (node_view c.args.node.now) c.args.words _ _ _ _ _ (sym c.word_verb.ensures ∙ c.in-None.is)
    c.in_ok-next-in-None.ensures.did (g.met.H.Host.made_none _)

pub returns-clause-ready : goal.returns-clause-ready
returns-clause-ready g c =
    (ends_owe (caller_at (setting_of g.H.Host.table c.args.context.now) c.args.room c.args.wanted)
    (node_view c.args.node.now) c.args.words _ _ _ c.in_ok-next-in-None.ensures.did).ready

pub returns-clause-owed : goal.returns-clause-owed
returns-clause-owed g c =
    let o = (ends_owe (caller_at (setting_of g.H.Host.table c.args.context.now) c.args.room c.args.wanted)
    (node_view c.args.node.now) c.args.words _ _ _ c.in_ok-next-in-None.ensures.did).owed in
    omega (arith, o)
