use Rattle.std.proofs.Common.{◌≡◌, ◌+◌, ◌++◌, ap, append-nil, subst, sym, take, ◌∙◌}
use Rattle.std.specs.Prelude.{OnOk}
use Rattle.std.specs.List.{count_by}
use Rattle.test_plan.specs.Plan.{deed_moves, numbered_moves, sends}
use Rattle.test_plan.proofs.deeds.add_numbered.Goals as goal

pub returns-in_default : goal.returns-in_default
returns-in_default c =
    subst (λ d. c.args.moves.now ≡ c.args.moves.now ++ numbered_moves c.args.cut c.args.send c.args.step c.args.deeds.now c.args.at d)
    c.in_default.ensures (sym (append-nil c.args.moves.now))

pub returns : goal.returns
returns c =
    let same : c.in_ok-send.send ≡ c.args.send + count_by sends (take c.args.at c.args.deeds.now) =
    c.in_ok-send.ensures ∙ ap (λ n. c.args.send + n) (c.sends_in.ensures ∙ ap (count_by sends) c.before-2.ensures) in
    subst (λ d. OnOk c.add_deed.result (c.add_deed.new.moves
    ≡ c.args.moves.now ++ numbered_moves c.args.cut c.args.send c.args.step c.args.deeds.now c.args.at d))
    c.in-Some.ensures
    (subst (λ n. OnOk c.add_deed.result (c.add_deed.new.moves ≡ c.args.moves.now ++ deed_moves c.args.cut n c.args.step c.args.at c.in-Some.deed.now.deed))
    same c.add_deed.ensures)
