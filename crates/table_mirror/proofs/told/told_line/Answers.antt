use Rattle.std.proofs.Common.{◌≡◌, ◌∙◌, Some, ap, map, sym}
use Rattle.std.specs.Option.{unwrap_or}
use Rattle.table_mirror.specs.Told.{number_told}
use Rattle.table_mirror.proofs.Telling.{line_found}
use Rattle.table_mirror.proofs.told.told_line.Goals as goal

pub returns : goal.returns
returns c = λ told j within.
    let same = c.number_told.ensures ∙ ap (λ ls. number_told (map (λ line. line.now) ls) c.args.place) c.deref.ensures.value ∙ ap (λ ls. number_told ls c.args.place) c.in_ok-lines.ensures in
    line_found c.args.record.now told c.args.place j within ∙ ap (λ o. Some (unwrap_or o 0)) (sym same) ∙ ap Some (sym c.unwrap_or.ensures)
