use Rattle.std.proofs.Common.{◌≡◌, refl, sym, ap, ◌∙◌, Some, ◌+◌, arith, rules, FitsSigned, to_z, of_z, w64}
use Rattle.std.proofs.lemmas.Int.{to_z-of_z}
use Rattle.tcl_trees.specs.Tree.{operands_of, row}
use Rattle.tcl_trees.specs.TreeView.{node_view, operands_view}
use Rattle.tcl_trees.specs.declared.node.Node.{fold-roll-Node}
use Rattle.tcl_trees.specs.declared.node.Node.TheVariants.{rolls-Row}
use Rattle.rule_nodes.proofs.WholeRows.{row_reads, none_join, more_joins}
use Rattle.rule_nodes.proofs.whole_rows.+whole.Goals as goal

pub joined-loop-joint-preserved : goal.joined-loop-joint-preserved
joined-loop-joint-preserved t c =
    let right : FitsSigned w64 c.in_ok-right.right = search rules in
    let value : FitsSigned w64 c.in_ok-left.left = search rules in
    let paid : c.pay.new.self.cost ≡ c.loop-joint.work.cost + 2 = omega arith in
    record {
      joins = λ n new h. c.loop-joint.invariant.joins n new
          (more_joins _ _ c.args.rest.now c.loop-joint.joint-index c.loop-joint-item.result c.in-Both.op (to_z w64 c.loop-joint.left-bits)
          (to_z w64 (of_z w64 c.in_ok-right.right)) c.in_ok-right.right (to_z w64 (of_z w64 c.in_ok-left.left)) c.in_ok-left.left n
          c.loop-joint.work.cost c.pay.new.self.cost c.whole_of.new.work.cost new c.loop-joint-test.true c.loop-joint-item.is c.in-Both.is paid
          (to_z-of_z _ _ right) (to_z-of_z _ _ value) value c.in_ok-right.ensures.reads c.in_ok-left.ensures h);
      fewer = omega arith;
    }

pub joined-returns-clause-joins : goal.joined-returns-clause-joins
joined-returns-clause-joins t c =
    let n = to_z w64 c.loop-joint.left-bits in
    λ left read. c.loop-joint.invariant.joins n c.loop-joint.work.cost
    (none_join _ _ c.args.rest.now c.loop-joint.joint-index n c.loop-joint.work.cost c.loop-joint-test.false) left (read
    ∙ ap Some (sym (to_z-of_z _ _ c.ranges.first)))

pub whole_of-returns-in_ok-left-in-Row-clause-reads : goal.whole_of-returns-in_ok-left-in-Row-clause-reads
whole_of-returns-in_ok-left-in-Row-clause-reads t c =
    let is : node_view c.args.node.now ≡ row (node_view c.in-Row.first.value) (operands_of (operands_view c.in-Row.rest.items)) =
    rw (c.in-Row.is, ← rolls-Row, fold-roll-Node) refl in
    let left : FitsSigned w64 c.in_ok-left-in-Row.left = search rules in
    row_reads _ _ (node_view c.args.node.now) (node_view c.in-Row.first.value) (operands_of (operands_view c.in-Row.rest.items))
    c.args.work.now.cost c.pay.new.self.cost c.whole_of.new.work.cost c.joined.new.work.cost c.in_ok-left-in-Row.left
    (to_z w64 (of_z w64 c.in_ok-left-in-Row.left)) c.joined.result is c.if-not-pay.ensures.paid (to_z-of_z _ _ left)
    (rw c.deref.ensures at c.in_ok-left-in-Row.ensures.reads) (rw c.deref-in-Row.ensures.value at c.joined.ensures.joins)
