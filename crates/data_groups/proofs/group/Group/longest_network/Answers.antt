use Rattle.std.proofs.Common.{◌≡◌, ◌-◌, true, false, sym, ap, ◌∙◌, arith, rules}
use Rattle.std.specs.Prelude.{is_some}
use Rattle.data_groups.specs.Groups.{DataGroup}
use Rattle.data_groups.specs.Index.{place_of, prefix_bytes}
use Rattle.data_groups.specs.Networks.{first_of_bits, longest_below}
use Rattle.data_groups.proofs.Rows.{longest_here, longest_none, longest_shorter, prefix_equal}
use Rattle.data_groups.proofs.group.Group.longest_network.Goals as goal

pub returns-then-is_some : goal.returns-then-is_some
returns-then-is_some c =
    let g = c.self.inside in
    let bits = c.loop-bits.bits - 1 in
    let kind = ap (λ (d : DataGroup). d.kind) c.self.view_is ∙ c.requires in
    let found = c.find-found.ensures ∙ ap (place_of g.places) c.prefix_bytes.ensures
    ∙ prefix_equal g.kind g.rows g.places bits c.args.ip kind (omega arith) (c.self.invariant (prefix_bytes bits c.args.ip))
    ∙ ap (λ (d : DataGroup). first_of_bits bits c.args.ip d.rows) c.self.view_is in
    let some : is_some c.find-found.result ≡ true = search rules in
    longest_here c.args.ip c.args.self.now.rows c.find-found.result c.loop-bits.bits (omega arith) found some ∙ sym c.loop-bits.invariant

pub loop-bits-preserved : goal.loop-bits-preserved
loop-bits-preserved c =
    let g = c.self.inside in
    let bits = c.loop-bits.bits - 1 in
    let kind = ap (λ (d : DataGroup). d.kind) c.self.view_is ∙ c.requires in
    let found = c.find-found.ensures ∙ ap (place_of g.places) c.prefix_bytes.ensures
    ∙ prefix_equal g.kind g.rows g.places bits c.args.ip kind (omega arith) (c.self.invariant (prefix_bytes bits c.args.ip))
    ∙ ap (λ (d : DataGroup). first_of_bits bits c.args.ip d.rows) c.self.view_is in
    let none : is_some c.find-found.result ≡ false = search rules in
    c.loop-bits.invariant ∙ longest_shorter c.args.ip c.args.self.now.rows c.find-found.result c.loop-bits.bits (omega arith) found none

pub returns : goal.returns
returns c =
    let over : c.loop-bits.bits ≡ 0 = omega arith in
    sym (c.loop-bits.invariant ∙ ap (λ n. longest_below n c.args.ip c.args.self.now.rows) over ∙ longest_none c.args.ip c.args.self.now.rows)
