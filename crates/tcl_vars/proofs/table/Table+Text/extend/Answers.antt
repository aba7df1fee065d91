use Rattle.std.proofs.Common.{Some, ◌+◌, length, ap, sym, ◌∙◌, arith}
use Rattle.std.specs.Map.{set_value}
use Rattle.std.proofs.lemmas.Map.Steps.{set_value_same}
use Rattle.tcl_vars.specs.Changed.{by_bytes}
use Rattle.tcl_vars.proofs.InPlace.{changed_table, length-behind}
use Rattle.tcl_vars.proofs.Named.{named, is_named}
use Rattle.tcl_vars.proofs.table.Table+Text.extend.Goals as goal

pub returns-clause-changed : goal.returns-clause-changed
returns-clause-changed c =
    let new = c.extend.new.self in
    let done = rw c.if-not-extend.false at c.extend.ensures.done in
    let before_is = c.len-before.ensures in
    let after_is = c.len-after.ensures in
    changed_table (λ k. k.items) (by_bytes c.args.between.now c.args.more.now) (length c.args.between.now + length c.args.more.now) c.args.name.now c.self.inside.tree.entries _ _ c.in_ok-text.text.now new _ _
    c.self.view_is c.self.invariant c.in_ok-text.ensures.value (c.get_mut.follows.holds new).0 (ap Some (sym done)) before_is after_is (omega (arith, after_is, before_is, length-behind c.in_ok-text.text.now c.args.between.now c.args.more.now, ap length done))

pub returns-then-not-extend-clause-unchanged : goal.returns-then-not-extend-clause-unchanged
returns-then-not-extend-clause-unchanged c =
    let es = c.self.inside.tree.entries in
    let here = is_named (λ k. k.items) c.args.name.now in
    let same = rw c.if-not-extend.true at c.extend.ensures.undone in
    ap (named (λ k. k.items)) ((c.get_mut.follows.holds c.extend.new.self).0 ∙ ap (λ t. set_value here es t) same ∙ set_value_same here es c.in_ok-text.text.now (sym c.in_ok-text.ensures.value))
    ∙ c.self.view_is
