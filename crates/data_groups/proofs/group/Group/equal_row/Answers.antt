use Rattle.std.proofs.Common.{sym, ap, ◌∙◌, rules, to_z-of_z}
use Rattle.std.specs.Prelude.{FitsSigned}
use Rattle.std.specs.Int.{w64}
use Rattle.data_groups.specs.Groups.{DataGroup}
use Rattle.data_groups.specs.Index.{number_bytes, place_of}
use Rattle.data_groups.specs.Matches.{equal_row}
use Rattle.data_groups.proofs.Rows.{no_number, number_equal, text_equal}
use Rattle.data_groups.proofs.group.Group.equal_row.Goals as goal

pub returns-in-String : goal.returns-in-String
returns-in-String c =
    let g = c.self.inside in
    c.find.ensures ∙ text_equal g.kind g.rows g.places c.args.item.now c.in-String.is (c.self.invariant c.args.item.now)
    ∙ ap (λ (d : DataGroup). equal_row d.kind c.args.item.now d.rows) c.self.view_is

pub returns-in_err-read_whole-in-Integer : goal.returns-in_err-read_whole-in-Integer
returns-in_err-read_whole-in-Integer c =
    let g = c.self.inside in
    c.from_residual-in_err-read_whole-in-Integer.ensures ∙ no_number g.kind g.rows g.places c.args.item.now c.in-Integer.is (sym c.in_err-read_whole-in-Integer.ensures)
    ∙ ap (λ (d : DataGroup). equal_row d.kind c.args.item.now d.rows) c.self.view_is

pub returns-in_ok-read_whole-in-Integer : goal.returns-in_ok-read_whole-in-Integer
returns-in_ok-read_whole-in-Integer c =
    let g = c.self.inside in
    let n = c.in_ok-read_whole-in-Integer.field-0 in
    let fits : FitsSigned w64 n = search rules in
    c.find-in-Integer.ensures ∙ ap (place_of g.places) c.number_bytes.ensures
    ∙ ap (λ z. place_of g.places (number_bytes z)) (to_z-of_z fits)
    ∙ number_equal g.kind g.rows g.places c.args.item.now n c.in-Integer.is (sym c.in_ok-read_whole-in-Integer.ensures) fits (c.self.invariant (number_bytes n))
    ∙ ap (λ (d : DataGroup). equal_row d.kind c.args.item.now d.rows) c.self.view_is
