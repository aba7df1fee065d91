use Rattle.std.proofs.Common.{arith}
use Rattle.std.specs.Prelude.{option_map}
use Rattle.tcl_trees.specs.TreeView.{node_view}
use Rattle.frames.specs.Frames.{inner_of}
use Rattle.frames.specs.Given.{setting_of}
use Rattle.tcl_trees.specs.Procedures.{procs_view}
use Rattle.frame_moves.specs.StillMoves.{still_goes}
use Rattle.frame_words.proofs.InBegins.{behind_moved, words_moved}
use Rattle.frame_moves.proofs.InKinds.{not_own, still_goes_on, still_goes_owes}
use Rattle.frames.proofs.InMoves.{comes_moved}
use Rattle.frame_words.proofs.ScriptMoves.{script_went}
use Rattle.frame_loops.proofs.LoopTurns.{next_went, turn_went}
use Rattle.frames.proofs.SoundMoves.{sound_moved}
use Rattle.frame_words.proofs.WordOwes.{behind_ready}
use Rattle.frame_moves.proofs.going_on.go_on.Goals as goal

pub returns-in_ok-gone-in-Value-clause-did : goal.returns-in_ok-gone-in-Value-clause-did
returns-in_ok-gone-in-Value-clause-did g c =
    let G = setting_of g.H.Host.table c.args.context.now in
    let t = node_view c.args.node.now in
    rw (c.in-Words.is, c.in-Value.is)
    (behind_moved G c.args.room c.args.wanted t c.in-Words.word c.in-Words.part c.in-Words.values c.in-Words.text c.in-Value.value c.args.vars.now _ _ _ _ _ _ _
    c.in_ok-words-in-Value.ensures.cost (rw c.in_ok-words-in-Value.ensures.words at c.in_ok-gone-in-Value.ensures.did))

pub returns-in_ok-gone-in-Value-clause-ready : goal.returns-in_ok-gone-in-Value-clause-ready
returns-in_ok-gone-in-Value-clause-ready g c =
    let G = setting_of g.H.Host.table c.args.context.now in
    let t = node_view c.args.node.now in
    let level = option_map (λ v. v.now.statics) c.args.context.now.statics in
    c.in_ok-gone-in-Value.ensures.ready (rw c.in_ok-words-in-Value.ensures.words
    (behind_ready level c.args.vars.now G (inner_of G c.args.room) t c.in-Words.word c.in-Words.part c.in-Words.values c.in-Words.text c.in-Value.value))

pub returns-in_ok-gone-in-Value-clause-owed : goal.returns-in_ok-gone-in-Value-clause-owed
returns-in_ok-gone-in-Value-clause-owed g c =
    let k = c.in_ok-words-in-Value.ensures.cost in
    let o = c.in_ok-gone-in-Value.ensures.owed in
    rw (c.in-Words.is, c.in-Value.is) (omega (arith, k, o))

pub returns-in_default-code : goal.returns-in_default-code
returns-in_default-code g c =
    let G = setting_of g.H.Host.table c.args.context.now in
    let t = node_view c.args.node.now in
    let n = c.stop.ensures in
    record {
      did = rw (c.in-Words.is, n) (words_moved G c.args.room c.args.wanted t c.in-Words.word c.in-Words.part c.in-Words.values c.in-Words.text c.args.code _ _
          c.in_default-code.not-Value (g.met.H.Host.made_none _));
      ready = rw n tt;
      owed = rw (c.in-Words.is, n) (omega arith);
      grows = omega arith;
      ticks = omega arith;
      few = omega arith;
    }

pub returns-in_ok-went-in-Script : goal.returns-in_ok-went-in-Script
returns-in_ok-went-in-Script g c =
    let G = setting_of g.H.Host.table c.args.context.now in
    let t = node_view c.args.node.now in
    let n = c.in_ok-went-in-Script.ensures in
    let m = script_went G c.args.room t c.in-Script.at c.in-Script.wanted c.args.wanted c.args.code c.args.vars.now c.args.budget.now _ _ _ n.goes n.stops in
    let l = m.leads in
    let o = m.is.bounded.owes in
    let paid = l.paid_is in
    let ticked = l.ticked_is in
    record {
      did = rw c.in-Script.is (sound_moved m (g.met.H.Host.made_none _));
      ready = rw l.next_is m.is.bounded.ready;
      owed = rw (c.in-Script.is, l.next_is) (omega (arith, o, paid, ticked));
      grows = omega (arith, paid);
      ticks = omega (arith, ticked);
      few = (let k = n.few in omega (arith, k));
    }

pub returns-in_ok-went-in_default : goal.returns-in_ok-went-in_default
returns-in_ok-went-in_default g c =
    let G = setting_of g.H.Host.table c.args.context.now in
    let t = node_view c.args.node.now in
    let level = option_map (λ v. v.now.statics) c.args.context.now.statics in
    let f = c.args.frame in
    let n = c.in_ok-went-in_default.ensures in
    let h = not_own f c.in_default.not-Words c.in_default.not-Script c.in_default.not-Turn c.in_default.not-Next in
    let o = still_goes_owes (procs_view c.args.context.now.procs.now) level c.args.vars.now t f c.args.code c.args.wanted c.args.budget.now h in
    let cost = n.cost in
    let ticks = n.ticks in
    record {
      did = comes_moved G c.args.room c.args.wanted t _ c.args.vars.now _ _ c.args.budget.now _ _ _
          (still_goes level c.args.vars.now t f c.args.code c.args.wanted c.args.budget.now) _ _
          (still_goes_on G c.args.room c.args.wanted t f c.args.code c.args.vars.now c.args.budget.now h) n.next n.vars n.budget cost
          (g.met.H.Host.made_none _);
      ready = rw n.next o.1;
      owed = (let k = o.0 in rw n.next (omega (arith, k, cost, ticks)));
      grows = omega (arith, cost);
      ticks = omega (arith, ticks);
      few = (let k = n.few in omega (arith, k));
    }

pub returns-in_ok-went-in-Turn : goal.returns-in_ok-went-in-Turn
returns-in_ok-went-in-Turn g c =
    let G = setting_of g.H.Host.table c.args.context.now in
    let t = node_view c.args.node.now in
    let n = c.in_ok-went-in-Turn.ensures in
    let m = turn_went G c.args.room c.args.wanted t c.in-Turn.left c.args.code c.args.vars.now c.args.budget.now _ _ _ _ c.loop_of-parts.ensures n.goes
    n.ends in
    let l = m.leads in
    let o = m.is.bounded.owes in
    let paid = l.paid_is in
    let ticked = l.ticked_is in
    record {
      did = rw c.in-Turn.is (sound_moved m (g.met.H.Host.made_none _));
      ready = rw l.next_is m.is.bounded.ready;
      owed = rw (c.in-Turn.is, l.next_is) (omega (arith, o, paid, ticked));
      grows = omega (arith, paid);
      ticks = omega (arith, ticked);
      few = n.few;
    }

pub returns-in_ok-went-in-Next : goal.returns-in_ok-went-in-Next
returns-in_ok-went-in-Next g c =
    let G = setting_of g.H.Host.table c.args.context.now in
    let t = node_view c.args.node.now in
    let n = c.in_ok-went-in-Next.ensures in
    let m = next_went G c.args.room c.args.wanted t c.in-Next.left c.args.code c.args.vars.now c.args.budget.now _ _ _ _ c.loop_of-parts-in-Next.ensures n.goes
    n.ends in
    let l = m.leads in
    let o = m.is.bounded.owes in
    let paid = l.paid_is in
    let ticked = l.ticked_is in
    record {
      did = rw c.in-Next.is (sound_moved m (g.met.H.Host.made_none _));
      ready = rw l.next_is m.is.bounded.ready;
      owed = rw (c.in-Next.is, l.next_is) (omega (arith, o, paid, ticked));
      grows = omega (arith, paid);
      ticks = omega (arith, ticked);
      few = n.few;
    }
