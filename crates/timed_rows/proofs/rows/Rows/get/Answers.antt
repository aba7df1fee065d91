use Rattle.std.proofs.Common.{ap, sym, ◌∙◌, option_map}
use Rattle.timed_rows.specs.Rows.{value_at}
use Rattle.timed_rows.proofs.Seen.{seen-value}
use Rattle.timed_rows.proofs.rows.Rows.get.Goals as goal

pub returns-in-Some : goal.returns-in-Some
returns-in-Some g c =
    ap (option_map (λ h. h.value)) c.in-Some.ensures.value
    ∙ sym (seen-value (g.K.Ord.cmp c.args.key.now) c.self.inside.entries.entries)
    ∙ ap (value_at (g.K.Ord.cmp c.args.key.now)) c.self.view_is

pub returns-in-None : goal.returns-in-None
returns-in-None g c =
    ap (option_map (λ h. h.value)) c.in-None.ensures.value
    ∙ sym (seen-value (g.K.Ord.cmp c.args.key.now) c.self.inside.entries.entries)
    ∙ ap (value_at (g.K.Ord.cmp c.args.key.now)) c.self.view_is
