use Rattle.std.proofs.Common.{ℕ, ◌+◌, length, option_map, min, ap, ◌∙◌}
use Rattle.tcl_vars.specs.Scopes.{level_bytes}
use Rattle.tcl_vars.proofs.AppendedBytes.{bytes_appended-old, bytes_appended-new}
use Rattle.tcl_vars.proofs.level.Level.bytes_appended.Goals as goal
use Rattle.tcl_vars.proofs.level.Level.bytes_appended.Goals.{in-Some, in-None}

pub returns : goal.returns
returns c =
    let level = c.args.self.now in
    let name = c.args.name.now in
    let more = c.args.more.now in
    let index = option_map (λ i. i.now) c.args.index in
    let most : ℕ = 18446744073709551615 in
    let counted = c.self.invariant ∙ ap level_bytes c.self.view_is in
    elim c.match-get.branch [
      | in-Some w ↦
          c.saturating_add-2.ensures ∙ ap (λ n. min (n + length more) most) (w.before-is ∙ counted)
          ∙ bytes_appended-old level name index _ more most c.get.ensures.in_order w.in-Some.ensures.value
      | in-None w ↦
          let new = bytes_appended-new level name index more most c.get.ensures.in_order w.in-None.ensures.value in
          cc (counted, new)
    ]
