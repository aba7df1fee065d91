use Rattle.px_bytes.specs.InPlace.{with_sum}
use Rattle.std.proofs.lemmas.Int.{to_z-of_z}
use Rattle.std.proofs.Common.{w64, ap, sym, ◌∙◌, arith}
use Rattle.std.specs.Map.{set_value}
use Rattle.std.proofs.lemmas.Map.Steps.{set_value_same}
use Rattle.tcl_vars.specs.Changed.{by_sum}
use Rattle.tcl_vars.proofs.InPlace.{changed_table}
use Rattle.tcl_vars.proofs.Named.{named, is_named}
use Rattle.tcl_vars.proofs.table.Table+Text.add_whole.Goals as goal

pub returns-clause-changed : goal.returns-clause-changed
returns-clause-changed c =
    let new = c.add_whole.new.self in
    let done = rw c.if-not-add_whole.false at c.add_whole.ensures.done in
    let before_is = c.len-before.ensures in
    let after_is = c.len-after.ensures in
    changed_table (λ k. k.items) (by_sum c.args.more) 22 c.args.name.now c.self.inside.tree.entries _ _ c.in_ok-text.text.now new _ _
    c.self.view_is c.self.invariant c.in_ok-text.ensures.value (c.get_mut.follows.holds new).0 (ap (with_sum c.in_ok-text.text.now) (sym (to_z-of_z w64 c.args.more c.ranges.more)) ∙ sym done) before_is after_is (omega (arith, after_is, rw c.if-not-add_whole.false at c.add_whole.ensures.short))

pub returns-then-not-add_whole-clause-unchanged : goal.returns-then-not-add_whole-clause-unchanged
returns-then-not-add_whole-clause-unchanged c =
    let es = c.self.inside.tree.entries in
    let here = is_named (λ k. k.items) c.args.name.now in
    let same = rw c.if-not-add_whole.true at c.add_whole.ensures.undone in
    ap (named (λ k. k.items)) ((c.get_mut.follows.holds c.add_whole.new.self).0 ∙ ap (λ t. set_value here es t) same ∙ set_value_same here es c.in_ok-text.text.now (sym c.in_ok-text.ensures.value))
    ∙ c.self.view_is
