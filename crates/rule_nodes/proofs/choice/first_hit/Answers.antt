use Rattle.std.proofs.Common.{◌≡◌, ap, sym, ◌∙◌, ◌-◌, suc, length, take, drop, arith, false}
use Rattle.rule_model.specs.Control.{first_hit}
use Rattle.rule_model.specs.Control.{hits}
use Rattle.rule_nodes.proofs.Hits.{hit_behind, one_more}
use Rattle.rule_nodes.proofs.choice.first_hit.Goals as goal

pub loop-rest-preserved : goal.loop-rest-preserved
loop-rest-preserved c =
    let rest = c.loop-rest.rest.now in
    let more = take (length rest - 1) (drop 1 rest) in
    let p = c.pattern-item.result in
    let at = c.loop-rest.at in
    let split = one_more rest p c.in-len1-up.len_at_least c.pattern-item.is in
    let few : length rest ≡ suc (length more) = ap length split in
    let miss : hits c.args.by_glob c.args.text.now p more ≡ false = sym (rw c.as_bytes.ensures at c.hits.ensures) ∙ c.if-hits.false in
    let count = c.loop-rest.invariant.count in
    record {
      hit = hit_behind at c.args.by_glob c.args.text.now p more (first_hit c.args.by_glob c.args.text.now c.args.patterns.now) miss (rw split at c.loop-rest.invariant.hit);
      count = omega (arith, few, count);
    }
