use Rattle.std.proofs.Common.{◌≡◌, refl, ◌∙◌, sym, [], arith, true, false}
use Rattle.std.specs.Prelude.{option_map}
use Rattle.tcl_trees.specs.Procedures.{procs_view}
use Rattle.tcl_trees.specs.TreeView.{node_view}
use Rattle.frames.specs.Children.{is_script}
use Rattle.frame_words.specs.FirstWords.{has_words}
use Rattle.frames.specs.Frames.{inner_of}
use Rattle.frames.specs.Given.{setting_of}
use Rattle.frames.specs.Owed.{is_flat}
use Rattle.frames.specs.Reads.{known}
use Rattle.frame_moves.specs.StillMoves.{still_begin}
use Rattle.frames.specs.Stills.{spent}
use Rattle.frame_words.proofs.InBegins.{first_moved, flat_moved}
use Rattle.frame_words.proofs.InFronts.{goes_first_owes, script_begins, script_some}
use Rattle.frame_moves.proofs.InKinds.{still_begins, still_begins_owes}
use Rattle.frames.proofs.InMoves.{comes_moved}
use Rattle.frame_words.proofs.WordOwes.{first_ready, first_some}
use Rattle.frame_moves.proofs.beginning.begin.Goals as goal

pub returns-then-is_leaf-clause-did : goal.returns-then-is_leaf-clause-did
returns-then-is_leaf-clause-did g c =
    let G = setting_of g.H.Host.table c.args.context.now in
    let t = node_view c.args.node.now in
    let flat : is_flat t ≡ true = sym c.is_leaf.ensures ∙ c.if-is_leaf.true in
    rw (c.stop.ensures, c.in_ok-code.ensures) (flat_moved G c.args.room c.args.wanted t c.args.vars.now _ _ _ _ flat (g.met.H.Host.made_none _))

pub returns-then-has_words-clause-did : goal.returns-then-has_words-clause-did
returns-then-has_words-clause-did g c =
    let G = setting_of g.H.Host.table c.args.context.now in
    let t = node_view c.args.node.now in
    let q : has_words t ≡ true = sym c.has_words.ensures ∙ c.if-has_words.true in
    first_moved G c.args.room c.args.wanted t c.args.vars.now _ _ _ _ _ _ _ q c.in_ok-words.ensures.cost
    (rw c.in_ok-words.ensures.words at c.in_ok-gone.ensures.did)

pub returns-then-has_words-clause-ready : goal.returns-then-has_words-clause-ready
returns-then-has_words-clause-ready g c =
    let G = setting_of g.H.Host.table c.args.context.now in
    let t = node_view c.args.node.now in
    let level = option_map (λ v. v.now.statics) c.args.context.now.statics in
    c.in_ok-gone.ensures.ready (rw c.in_ok-words.ensures.words (first_ready level c.args.vars.now G (inner_of G c.args.room) t))

pub returns-then-has_words-clause-owed : goal.returns-then-has_words-clause-owed
returns-then-has_words-clause-owed g c = λ f.
    let t = node_view c.args.node.now in
    let level = option_map (λ v. v.now.statics) c.args.context.now.statics in
    let q : has_words t ≡ true = sym c.has_words.ensures ∙ c.if-has_words.true in
    let one = first_some level c.args.vars.now t q f in
    let k = c.in_ok-words.ensures.cost in
    let o = c.in_ok-gone.ensures.owed in
    omega (arith, one, k, o)

pub returns-then-is_script : goal.returns-then-is_script
returns-then-is_script g c =
    let G = setting_of g.H.Host.table c.args.context.now in
    let t = node_view c.args.node.now in
    let level = option_map (λ v. v.now.statics) c.args.context.now.statics in
    let f : is_flat t ≡ false = sym c.is_leaf.ensures ∙ c.if-is_leaf.false in
    let s : is_script t ≡ true = sym c.is_script.ensures ∙ c.if-is_script.true in
    let m = rw c.empty-none.ensures at c.in_ok-went.ensures.did in
    let l = m.leads in
    let b = goes_first_owes (procs_view c.args.context.now.procs.now) level t [] c.args.wanted c.args.vars.now c.args.budget.now m.change m.is
    (script_some t s f) in
    let o = b.owes in
    let paid = l.paid_is in
    let ticked = l.ticked_is in
    record {
      did = comes_moved G c.args.room c.args.wanted t _ c.args.vars.now _ _ c.args.budget.now _ _ _ m.change _ _
          (script_begins G c.args.room t c.args.wanted c.args.vars.now c.args.budget.now m.change s m.is) l.next_is l.vars_are l.budget_is paid
          (g.met.H.Host.made_none _);
      ready = rw l.next_is b.ready;
      owed = λ e. rw l.next_is (omega (arith, o, paid, ticked));
      flat = λ e. absurd (let x : true ≡ false = sym e ∙ f in cc);
      grows = omega (arith, paid);
      ticks = omega (arith, ticked);
      few = (let k = c.in_ok-went.ensures.few in omega (arith, k));
    }

pub returns-clause-did : goal.returns-clause-did
returns-clause-did g c =
    let G = setting_of g.H.Host.table c.args.context.now in
    let t = node_view c.args.node.now in
    let f : is_flat t ≡ false = sym c.is_leaf.ensures ∙ c.if-is_leaf.false in
    let h : has_words t ≡ false = sym c.has_words.ensures ∙ c.if-has_words.false in
    let s : is_script t ≡ false = sym c.is_script.ensures ∙ c.if-is_script.false in
    let n = c.in_ok-began.ensures in
    comes_moved G c.args.room c.args.wanted t _ c.args.vars.now _ _ c.args.budget.now _ _ _
    (spent c.args.vars.now (still_begin (known G.statics c.args.vars.now) t c.args.wanted c.args.budget.now)) _ _
    (still_begins G c.args.room c.args.wanted t c.args.vars.now c.args.budget.now f h s) n.next refl n.budget n.cost (g.met.H.Host.made_none _)

pub returns-clause-ready : goal.returns-clause-ready
returns-clause-ready g c =
    let t = node_view c.args.node.now in
    let level = option_map (λ v. v.now.statics) c.args.context.now.statics in
    let f : is_flat t ≡ false = sym c.is_leaf.ensures ∙ c.if-is_leaf.false in
    let h : has_words t ≡ false = sym c.has_words.ensures ∙ c.if-has_words.false in
    let s : is_script t ≡ false = sym c.is_script.ensures ∙ c.if-is_script.false in
    rw c.in_ok-began.ensures.next ((still_begins_owes (procs_view c.args.context.now.procs.now) (known level c.args.vars.now) t c.args.wanted c.args.budget.now
    f h s).ready)

pub returns-clause-owed : goal.returns-clause-owed
returns-clause-owed g c = λ e.
    let t = node_view c.args.node.now in
    let level = option_map (λ v. v.now.statics) c.args.context.now.statics in
    let f : is_flat t ≡ false = sym c.is_leaf.ensures ∙ c.if-is_leaf.false in
    let h : has_words t ≡ false = sym c.has_words.ensures ∙ c.if-has_words.false in
    let s : is_script t ≡ false = sym c.is_script.ensures ∙ c.if-is_script.false in
    let o = (still_begins_owes (procs_view c.args.context.now.procs.now) (known level c.args.vars.now) t c.args.wanted c.args.budget.now f h s).owes in
    let k = c.in_ok-began.ensures.cost in
    let x = c.in_ok-began.ensures.ticks in
    rw c.in_ok-began.ensures.next (omega (arith, o, k, x))
