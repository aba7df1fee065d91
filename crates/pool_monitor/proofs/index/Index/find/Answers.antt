use Rattle.std.proofs.Common.{ap, ◌∙◌}
use Rattle.config.specs.Texts.{place_of}
use Rattle.pool_monitor.proofs.Found.{found_seen}
use Rattle.pool_monitor.proofs.index.Index.find.Goals as goal

pub returns : goal.returns
returns c =
    c.copied.ensures ∙ c.get.ensures.value ∙ found_seen (λ k. k.items) c.args.text.now c.self.inside.tree.entries
    ∙ ap (λ t. place_of t c.args.text.now) c.self.view_is
