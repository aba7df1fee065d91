use Rattle.std.proofs.Common.{◌∙◌, arith, length, refl}
use Rattle.std.proofs.lemmas.Option.{slice_get_read}
use Rattle.slab.specs.Slab.{with_value}
use Rattle.slab.proofs.SlabLemmas.{Updates-with_value}
use Rattle.number_table.proofs.Entries.{held_at, item_at, items_set}
use Rattle.number_table.proofs.Sounds.{entry_within, sound_write}
use Rattle.number_table.proofs.TableIndexMutUsize.index_mut.Goals as goal

pub index-requires : goal.index-requires
index-requires g c =
    let es = c.self.inside.entries.items in
    let z = c.self.invariant.0 in
    let w = entry_within c.args.at c.self.inside.values es z.held (rw (← c.self.view_is) at c.requires) in
    omega (arith, w, c.self.inside.entries.ok.0)

pub index_mut-requires : goal.index_mut-requires
index_mut-requires g c =
    let es = c.self.inside.entries.items in
    let z = c.self.invariant.0 in
    let w = entry_within c.args.at c.self.inside.values es z.held (rw (← c.self.view_is) at c.requires) in
    held_at c.args.at c.self.inside.values es _ z.held (slice_get_read es (length es) c.args.at c.index.result.now refl w c.index.ensures)

pub invariant_of-self-lent : goal.invariant_of-self-lent
invariant_of-self-lent g c v =
    let es = c.self.inside.entries.items in
    let z = c.self.invariant.0 in
    let w = entry_within c.args.at c.self.inside.values es z.held (rw (← c.self.view_is) at c.requires) in
    let h = held_at c.args.at c.self.inside.values es _ z.held (slice_get_read es (length es) c.args.at c.index.result.now refl w c.index.ensures) in
    (sound_write _ es _ _ v z h, c.self.invariant.1)

pub returns : goal.returns
returns g c =
    let es = c.self.inside.entries.items in
    let z = c.self.invariant.0 in
    let w = entry_within c.args.at c.self.inside.values es z.held (rw (← c.self.view_is) at c.requires) in
    let e = c.index.result.now in
    let s = c.self.inside.values in
    let h = slice_get_read es (length es) c.args.at e refl w c.index.ensures in
    let held = held_at c.args.at s es e z.held h in (
      (refl, λ v. rw (← c.self.view_is, items_set c.args.at s (with_value s e.key v) es e v (Updates-with_value s e.key v held) z.apart z.held h)),
      record { writes_back = tt; value = rw (← c.self.view_is) (item_at c.args.at s es e z.held h ∙ c.index_mut.ensures.value) },
    )
