use Rattle.std.proofs.Common.{flat_map, sym, ap, ◌∙◌}
use Rattle.rule_loader.specs.CommandNames.{name_faults}
use Rattle.rule_loader.specs.Faults.{after_faults}
use Rattle.rule_loader.specs.Loading.{examined_faults, flaw_faults}
use Rattle.rule_loader.proofs.Faults.{after_both}
use Rattle.rule_loader.proofs.told.Told.body.Goals as goal
use Rattle.tcl_trees.specs.Making.{Made}
use Rattle.tcl_trees.specs.Tree.{Tree}

pub returns-clause-tree : goal.returns-clause-tree
returns-clause-tree c = sym (ap (λ (r : Made Tree). r.0) c.in_ok-node.ensures)

pub returns-clause-told : goal.returns-clause-told
returns-clause-told c =
    let t = c.args.self.now in
    let event = c.args.event in
    let found = c.in_ok-node.findings in
    c.names.ensures
    ∙ ap (λ ns. after_faults (flat_map (name_faults event) ns) c.flaw.new.self) c.as_slice.ensures
    ∙ ap (after_faults (flat_map (name_faults event) found.names)) c.flaw.ensures
    ∙ sym (after_both (flaw_faults found.flaw) (flat_map (name_faults event) found.names) t)
    ∙ ap (λ r. after_faults (examined_faults event r) t) (sym c.in_ok-node.ensures)
