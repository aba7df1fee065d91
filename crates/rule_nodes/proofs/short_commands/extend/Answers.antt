use Rattle.std.proofs.Common.{◌≡◌}
use Rattle.std.proofs.lemmas.Bool.{OnTrue_at}
use Rattle.tcl_lists.specs.Write.{spelled}
use Rattle.rule_nodes.proofs.ShortVerbs.{appends_on, lists_on, is_there}
use Rattle.rule_nodes.proofs.short_commands.extend.Goals as goal
use Rattle.rule_nodes.proofs.short_commands.extend.Goals.{else-not-is_empty-via-then-not-is_empty+else-not-is_bare, else-not-is_empty-via-else-not-is_empty}

pub returns-clause-appends : goal.returns-clause-appends
returns-clause-appends c = λ e.
    appends_on c.extend.result c.args.name.now c.args.between.now c.args.more.now c.args.vars.now c.extend.new.self e c.extend.ensures.changed
    c.extend.ensures.own c.extend.ensures.room

pub returns-clause-lists : goal.returns-clause-lists
returns-clause-lists c = λ e.
    let bare : spelled c.args.more.now ≡ c.args.more.now = elim c.else-not-is_empty.branch [
      | else-not-is_empty-via-then-not-is_empty+else-not-is_bare w ↦ OnTrue_at w.if-not-is_bare.false w.is_bare.ensures
      | else-not-is_empty-via-else-not-is_empty w ↦ absurd (is_there c.args.between.now c.is_empty.result e c.is_empty.ensures w.if-not-is_empty.false)
    ] in
    lists_on c.extend.result c.args.name.now c.args.between.now c.args.more.now c.args.vars.now c.extend.new.self e bare c.extend.ensures.changed
    c.extend.ensures.own c.extend.ensures.room
