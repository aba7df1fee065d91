use Rattle.std.proofs.Common.{◌≡◌, refl, ◌∙◌, [], sym, None, append-nil, arith}
use Rattle.std.proofs.lemmas.List.{nil_from_length}
use Rattle.tcl_trees.specs.Procedures.{procs_view}
use Rattle.tcl_trees.specs.TreeView.{node_view}
use Rattle.frames.specs.Given.{setting_of}
use Rattle.frames.specs.declared.frame.Mode.TheVariants as mode
use Rattle.frame_machine.proofs.InSteps.{root_steps}
use Rattle.frame_machine.proofs.InWalks.{stay_back, stays}
use Rattle.frame_machine.proofs.step.Stepper.step_with.Goals as goal

pub begin_top-requires-clause-place : goal.begin_top-requires-clause-place
begin_top-requires-clause-place g c = rw (sym c.in-Begin.ensures.value) at c.requires.place

pub go_on_top-requires-clause-place : goal.go_on_top-requires-clause-place
go_on_top-requires-clause-place g c =
    let ps = procs_view c.args.context.now.procs.now in
    let t = node_view c.args.tree.now in
    stays ps t _ c.pop.new.self.items c.in-Some.frame _ c.in-Some.ensures.items (rw (sym c.in-Back.ensures.value) at c.requires.place)

pub returns-in-Begin-clause-did : goal.returns-in-Begin-clause-did
returns-in-Begin-clause-did g c = rw (sym c.in-Begin.ensures.value) c.begin_top.ensures.did

pub returns-in-Begin-clause-heavy : goal.returns-in-Begin-clause-heavy
returns-in-Begin-clause-heavy g c = rw (sym c.in-Begin.ensures.value) c.begin_top.ensures.heavy

pub returns-in-Begin-clause-owed : goal.returns-in-Begin-clause-owed
returns-in-Begin-clause-owed g c = rw (sym c.in-Begin.ensures.value) c.begin_top.ensures.owed

pub returns-in-Begin-clause-grown : goal.returns-in-Begin-clause-grown
returns-in-Begin-clause-grown g c = rw (sym c.in-Begin.ensures.value) c.begin_top.ensures.grown

pub returns-in-Some-clause-did : goal.returns-in-Some-clause-did
returns-in-Some-clause-did g c = rw (sym c.in-Back.ensures.value, c.in-Some.ensures.items) c.go_on_top.ensures.did

pub returns-in-Some-clause-heavy : goal.returns-in-Some-clause-heavy
returns-in-Some-clause-heavy g c = rw (sym c.in-Back.ensures.value, c.in-Some.ensures.items) c.go_on_top.ensures.heavy

pub returns-in-Some-clause-owed : goal.returns-in-Some-clause-owed
returns-in-Some-clause-owed g c = rw (sym c.in-Back.ensures.value, c.in-Some.ensures.items) c.go_on_top.ensures.owed

pub returns-in-Some-clause-grown : goal.returns-in-Some-clause-grown
returns-in-Some-clause-grown g c = rw (sym c.in-Back.ensures.value, stay_back _ _ _ c.in-Some.ensures.items) c.go_on_top.ensures.grown

pub returns-in-Back-clause-did : goal.returns-in-Back-clause-did
returns-in-Back-clause-did g c =
    let G = setting_of g.H.Host.table c.args.context.now in
    let t = node_view c.args.tree.now in
    let none : c.pop.new.self.items ≡ [] = nil_from_length c.pop.new.self.items (let e = c.in-None.ensures.cases in let k = c.pop.new.self.ok.0 in omega (arith, e.1, k)) in
    record {
      mode_before = mode.Back c.in-Back.code;
      steps = rw (sym c.in-Back.ensures.value) (root_steps G t _ _ (mode.Back c.in-Back.code) _ _ _ (sym (append-nil c.pop.new.self.items) ∙ sym c.in-None.ensures.items) refl (g.met.H.Host.made_none _));
      goes = λ e. cc e;
      mode_is = rw none c.replace.ensures.after;
      told = rw none refl;
    }

pub returns-in-Back-clause-grown : goal.returns-in-Back-clause-grown
returns-in-Back-clause-grown g c =
    let none : c.pop.new.self.items ≡ [] = nil_from_length c.pop.new.self.items (let e = c.in-None.ensures.cases in let k = c.pop.new.self.ok.0 in omega (arith, e.1, k)) in
    let all = c.in-None.ensures.items in
    rw (sym c.in-Back.ensures.value, all, none) (None, refl)
