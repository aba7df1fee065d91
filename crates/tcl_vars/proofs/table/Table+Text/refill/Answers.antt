use Rattle.std.proofs.Common.{Some, ap, sym, ◌∙◌, arith}
use Rattle.std.specs.Map.{set_value}
use Rattle.std.proofs.lemmas.Map.Steps.{set_value_same}
use Rattle.tcl_vars.specs.Changed.{to_bytes}
use Rattle.tcl_vars.proofs.InPlace.{changed_table}
use Rattle.tcl_vars.proofs.Named.{named, is_named}
use Rattle.tcl_vars.proofs.table.Table+Text.refill.Goals as goal

pub returns-clause-changed : goal.returns-clause-changed
returns-clause-changed c =
    let new = c.refill.new.self in
    let done = rw c.if-not-refill.false at c.refill.ensures.done in
    let before_is = c.len-before.ensures in
    let after_is = c.len-after.ensures in
    changed_table (λ k. k.items) (to_bytes c.args.bytes.now) 22 c.args.name.now c.self.inside.tree.entries _ _ c.in_ok-text.text.now new _ _
    c.self.view_is c.self.invariant c.in_ok-text.ensures.value (c.get_mut.follows.holds new).0 (ap Some (sym done)) before_is after_is (omega (arith, after_is, rw c.if-not-refill.false at c.refill.ensures.short))

pub returns-then-not-refill-clause-unchanged : goal.returns-then-not-refill-clause-unchanged
returns-then-not-refill-clause-unchanged c =
    let es = c.self.inside.tree.entries in
    let here = is_named (λ k. k.items) c.args.name.now in
    let same = rw c.if-not-refill.true at c.refill.ensures.undone in
    ap (named (λ k. k.items)) ((c.get_mut.follows.holds c.refill.new.self).0 ∙ ap (λ t. set_value here es t) same ∙ set_value_same here es c.in_ok-text.text.now (sym c.in_ok-text.ensures.value))
    ∙ c.self.view_is
