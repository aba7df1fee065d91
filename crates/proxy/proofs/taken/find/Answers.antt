use Rattle.std.proofs.Common.{rules, ◌∙◌}
use Rattle.std.proofs.lemmas.List.Sorted.{answers_always}
use Rattle.number_table.proofs.Numbers.{placed_by, searched}
use Rattle.proxy.proofs.taken.find.Goals as goal

pub returns-clause-place : goal.returns-clause-place
returns-clause-place c rising =
    let facts = c.binary_search_by_key.ensures in
    let by_key = facts.position (λ t. t.conn) (answers_always _ _ _ (λ f a r g called. search rules)) in
    c.ok.ensures.value ∙ searched (λ t. t.conn) c.args.conn c.args.all.now rising _ facts.bound by_key ∙ placed_by (λ t. t.conn) c.args.conn c.args.all.now
