use Rattle.std.proofs.Common.{◌≡◌, ℕ, ◌+◌, ◌-◌, arith, length, option_map, min, ap, ◌∙◌}
use Rattle.tcl_vars.specs.Scopes.{level_bytes}
use Rattle.tcl_vars.proofs.LevelBytes.{old_value_fits, bytes_with-old, bytes_with-new}
use Rattle.tcl_vars.proofs.level.Level.bytes_with.Goals as goal
use Rattle.tcl_vars.proofs.level.Level.bytes_with.Goals.{in-Some, in-None}

pub overflow_sub-without : goal.overflow_sub-without
overflow_sub-without c =
    let counted = c.self.invariant ∙ ap level_bytes c.self.view_is in
    let fits = old_value_fits c.args.self.now c.args.name.now (option_map (λ i. i.now) c.args.index) c.in-Some.old.now c.get.ensures.in_order c.in-Some.ensures.value in
    omega (arith, counted, fits)

pub returns : goal.returns
returns c = λ text same.
    let level = c.args.self.now in
    let name = c.args.name.now in
    let index = option_map (λ i. i.now) c.args.index in
    let most : ℕ = 18446744073709551615 in
    let counted = c.self.invariant ∙ ap level_bytes c.self.view_is in
    elim c.match-get.branch [
      | in-Some w ↦
          let rest : c.match-get.without + c.args.text_len ≡ level_bytes level - length w.in-Some.old.now + length text = omega (arith, counted) in
          c.saturating_add-2.ensures ∙ ap (λ n. min n most) rest ∙ bytes_with-old level name index w.in-Some.old.now text most c.get.ensures.in_order w.in-Some.ensures.value
      | in-None w ↦
          let more = bytes_with-new level name index text most c.get.ensures.in_order w.in-None.ensures.value in
          cc (counted, more)
    ]
