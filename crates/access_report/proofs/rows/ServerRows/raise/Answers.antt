use Rattle.std.proofs.Common.{Some, cond, ap, ◌∙◌, sym}
use Rattle.std.specs.Map.{lookup}
use Rattle.std.specs.Str.{bytes_eq}
use Rattle.std.proofs.lemmas.Result.{on_ok_weaker}
use Rattle.access_report.proofs.Raised.{found_seen, raised_fresh, raised_there, seen, seen_after, seen_written}
use Rattle.access_report.specs.Raising.{raised}
use Rattle.access_report.proofs.rows.ServerRows.raise.Goals as goal

pub returns-in-Some : goal.returns-in-Some
returns-in-Some c = on_ok_weaker c.raise.result (λ sum asked.
    let name = c.args.name.now in
    let es = c.self.inside.tree.entries in
    let new = c.raise.new.self in
    let there = sym c.in-Some.ensures.value in
    let found = sym (found_seen (λ k. k.items) name es) ∙ there in
    ap (λ t. lookup (bytes_eq asked) (seen (λ k. k.items) t)) (c.get_mut.follows.holds new).0
    ∙ seen_written (λ k. k.items) name asked new es (rw there)
    ∙ raised_there (seen (λ k. k.items) es) name asked c.in-Some.counts.now new c.args.more found sum
    ∙ ap (λ rows. raised rows name c.args.more asked) c.self.view_is)
    c.raise.ensures

pub returns : goal.returns
returns c = λ asked.
    let name = c.args.name.now in
    let key = c.in_ok-from_slice.field-0 in
    let tree = c.get_mut.follows.lender-at-none in
    let gone = sym (found_seen (λ k. k.items) name c.self.inside.tree.entries) ∙ sym c.in_default.ensures.value in
    ap (λ es. lookup (bytes_eq asked) (seen (λ k. k.items) es)) c.in_ok-insert.ensures.entries
    ∙ seen_after (λ k. k.items) key c.args.more asked tree.entries
    ∙ ap (λ k. cond (bytes_eq asked k) (Some c.args.more) (lookup (bytes_eq asked) (seen (λ k. k.items) tree.entries))) c.in_ok-from_slice.ensures.items
    ∙ ap (λ t. cond (bytes_eq asked name) (Some c.args.more) (lookup (bytes_eq asked) (seen (λ k. k.items) t.entries))) c.get_mut.follows.holds-at-none
    ∙ raised_fresh (seen (λ k. k.items) c.self.inside.tree.entries) name asked c.args.more gone
    ∙ ap (λ rows. raised rows name c.args.more asked) c.self.view_is
