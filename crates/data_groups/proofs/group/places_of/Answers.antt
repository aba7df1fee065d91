use Rattle.std.proofs.Common.{sym, ap, ◌∙◌, arith, option_map}
use Rattle.data_groups.specs.Index.{key_bytes}
use Rattle.data_groups.proofs.Rows.{bad_here, found_more, good_more}
use Rattle.data_groups.proofs.group.places_of.Goals as goal

pub returns-in_default : goal.returns-in_default
returns-in_default c =
    let row = c.index-rows-at.result in
    let none = sym (ap (λ o. option_map (λ b. b.items) o) (sym c.in_default.is) ∙ c.in_ok-bytes.ensures ∙ ap (key_bytes c.args.kind) c.as_bytes.ensures) in
    bad_here c.args.kind c.args.rows.now c.loop-at.at row (omega arith) (sym c.index-rows-at.is) c.loop-at.invariant.1 none

pub loop-at-preserved : goal.loop-at-preserved
loop-at-preserved c =
    let row = c.index-rows-at.result in
    let some = sym (ap (λ o. option_map (λ b. b.items) o) (sym c.in-Some.is) ∙ c.in_ok-bytes.ensures ∙ ap (key_bytes c.args.kind) c.as_bytes.ensures) in (
      found_more c.args.kind c.args.rows.now c.loop-at.at row (omega arith) (sym c.index-rows-at.is) c.loop-at.places c.add.new.self c.in-Some.bytes.items some c.loop-at.invariant.0 c.in_ok-add.ensures,
      good_more c.args.kind c.args.rows.now c.loop-at.at row (omega arith) (sym c.index-rows-at.is) c.in-Some.bytes.items c.loop-at.invariant.1 some,
    )
