use Rattle.std.proofs.Common.{◌≡◌, ◌<◌, ◌++◌, length, ap, ◌∙◌, arith}
use Rattle.std.proofs.lemmas.List.{take_all}
use Rattle.tcl_lists.specs.Read.{list_values}
use Rattle.tcl_lists.specs.Write.{joined, spelled}
use Rattle.tcl_lists.proofs.Again.{written_alone}
use Rattle.tcl_lists.proofs.Moves.{one_written}
use Rattle.tcl_lists.proofs.write.join_list.Goals as goal

pub loop-at-preserved : goal.loop-at-preserved
loop-at-preserved c =
    let item = rw c.as_slice-item-items.ensures at c.item-item.is in
    let inside : c.loop-at.at < length c.args.items.now = omega (arith, ap length c.as_slice-item-items.ensures) in
    one_written c.args.items.now c.loop-at.at c.loop-at.out c.push_blank.new.out c.push_element.new.out c.item-item.result inside item
    c.loop-at.invariant c.in_ok-push_blank.ensures (c.in_ok-push_element.ensures ∙ ap (λ t. c.push_blank.new.out ++ spelled t) c.as_bytes.ensures)

pub returns-clause-reads_back : goal.returns-clause-reads_back
returns-clause-reads_back c =
    let all : c.loop-at.out ≡ joined c.args.items.now = c.loop-at.invariant ∙ ap joined (take_all c.loop-at.at c.args.items.now (omega (arith, ap length c.as_slice-item-items.ensures))) in
    ap list_values all ∙ written_alone c.args.items.now 0
