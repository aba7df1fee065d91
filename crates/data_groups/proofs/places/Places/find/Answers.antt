use Rattle.std.proofs.Common.{ap, ◌∙◌}
use Rattle.data_groups.specs.Index.{place_of}
use Rattle.data_groups.proofs.Found.{found_seen}
use Rattle.data_groups.proofs.places.Places.find.Goals as goal

pub returns : goal.returns
returns c =
    c.copied.ensures ∙ c.get.ensures.value ∙ found_seen (λ k. k.items) c.args.bytes.now c.self.inside.tree.entries
    ∙ ap (λ t. place_of t c.args.bytes.now) c.self.view_is
