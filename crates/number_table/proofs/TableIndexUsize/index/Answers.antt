use Rattle.std.proofs.Common.{◌∙◌, arith, length, refl}
use Rattle.std.proofs.lemmas.Option.{slice_get_read}
use Rattle.number_table.proofs.Entries.{held_at, item_at}
use Rattle.number_table.proofs.Sounds.{entry_within}
use Rattle.number_table.proofs.TableIndexUsize.index.Goals as goal

pub index-requires : goal.index-requires
index-requires g c =
    let es = c.self.inside.entries.items in
    let z = c.self.invariant.0 in
    let w = entry_within c.args.at c.self.inside.values es z.held (rw (← c.self.view_is) at c.requires) in
    omega (arith, w, c.self.inside.entries.ok.0)

pub index-requires-2 : goal.index-requires-2
index-requires-2 g c =
    let es = c.self.inside.entries.items in
    let z = c.self.invariant.0 in
    let w = entry_within c.args.at c.self.inside.values es z.held (rw (← c.self.view_is) at c.requires) in
    held_at c.args.at c.self.inside.values es _ z.held (slice_get_read es (length es) c.args.at c.index.result.now refl w c.index.ensures)

pub returns : goal.returns
returns g c =
    let es = c.self.inside.entries.items in
    let z = c.self.invariant.0 in
    let w = entry_within c.args.at c.self.inside.values es z.held (rw (← c.self.view_is) at c.requires) in
    let h = slice_get_read es (length es) c.args.at c.index.result.now refl w c.index.ensures in
    rw (← c.self.view_is) (item_at c.args.at c.self.inside.values es _ z.held h ∙ c.index-2.ensures)
