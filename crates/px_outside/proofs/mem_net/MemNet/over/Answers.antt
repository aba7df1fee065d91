use Rattle.std.proofs.Common.{◌≡◌, ◌≤◌, length, ◌∙◌, sym, subst, ℕ}
use Rattle.px_outside.specs.MemLink.{over}
use Rattle.px_outside.specs.MemNet.{has_ended}
use Rattle.px_outside.proofs.MemReads.{over_within}
use Rattle.px_outside.proofs.mem_net.MemNet.over.Goals as goal

pub returns-clause-over : goal.returns-clause-over
returns-clause-over c = c.over_items.ensures ∙ c.left.ensures (has_ended c.args.self.now.links)

pub returns-clause-within : goal.returns-clause-within
returns-clause-within c =
    let same : c.over_items.result ≡ over (has_ended c.args.self.now.links) c.args.link.now.reads = c.over_items.ensures ∙ c.left.ensures (has_ended c.args.self.now.links) in
    subst (λ (n : ℕ). n ≤ length c.args.link.now.reads) (sym same) (over_within (has_ended c.args.self.now.links) c.args.link.now.reads)
