use Rattle.std.proofs.Common.{◌≡◌, ◌∙◌, ap, arith, length, map, refl, sym}
use Rattle.std.proofs.lemmas.List.{length-map}
use Rattle.table_mirror.specs.Entries.{entry_view}
use Rattle.table_mirror.proofs.Going.{no_parts, parts_cut, plan_comes}
use Rattle.table_mirror.proofs.follow.follow_plan.Goals as goal

pub returns-in-len1-up : goal.returns-in-len1-up
returns-in-len1-up c =
    let is = ap (map (λ line. line.now)) c.as_slice.ensures.value ∙ c.in_ok-lines.ensures in
    plan_comes c.run_lines.result c.args.limit (map entry_view c.args.entries.now) c.args.plan.now _ _ c.new-network.result
    (parts_cut c.as_slice.result.now _ c.args.plan.now c.in-len1-up.len_at_least is)
    (c.new-network.ensures _ (sym (length-map c.args.entries.now entry_view))) c.run_lines.ensures

pub returns : goal.returns
returns c =
    let is = ap (map (λ line. line.now)) c.as_slice.ensures.value ∙ c.in_ok-lines.ensures in
    absurd (no_parts c.as_slice.result.now c.args.plan.now c.in-empty.len_below is)
