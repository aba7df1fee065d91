use Rattle.std.proofs.Common.{◌≡◌, None, ap, sym, ◌∙◌, rules}
use Rattle.data_groups.specs.Index.{place_of, with_place}
use Rattle.data_groups.proofs.Found.{seen, seen_after}
use Rattle.data_groups.proofs.places.Places.add.Goals as goal

pub returns-in_ok-insert : goal.returns-in_ok-insert
returns-in_ok-insert c = λ asked.
    let gone : c.find.result ≡ None = search rules in
    let none = ap (λ q. place_of (seen (λ k. k.items) c.self.inside.tree.entries) q) (sym c.deref.ensures.value)
    ∙ ap (λ t. place_of t c.deref.result.now) c.self.view_is ∙ sym c.find.ensures ∙ gone in
    ap (λ es. place_of (seen (λ k. k.items) es) asked) c.in_ok-insert.ensures.entries
    ∙ seen_after (λ k. k.items) c.args.bytes c.args.at asked c.self.inside.tree.entries none
    ∙ ap (λ t. with_place t c.args.bytes.items c.args.at asked) c.self.view_is
