use Rattle.std.proofs.Common.{◌≡◌, None, Some, ap, sym, ◌∙◌, rules}
use Rattle.config.specs.Texts.{place_of, with_text}
use Rattle.pool_monitor.proofs.Found.{seen, seen_after}
use Rattle.pool_monitor.proofs.index.Index.add.Goals as goal

pub returns-in_ok-insert : goal.returns-in_ok-insert
returns-in_ok-insert c = λ asked.
    let gone : c.find.result ≡ None = search rules in
    let none = ap (λ q. place_of (seen (λ k. k.items) c.self.inside.tree.entries) q) (sym c.deref.ensures.value)
    ∙ ap (λ t. place_of t c.deref.result.now) c.self.view_is ∙ sym c.find.ensures ∙ gone in
    ap (λ es. place_of (seen (λ k. k.items) es) asked) c.in_ok-insert.ensures.entries
    ∙ seen_after (λ k. k.items) c.args.text c.args.at asked c.self.inside.tree.entries none
    ∙ ap (λ t. with_text t (Some c.args.text.items) c.args.at asked) c.self.view_is
