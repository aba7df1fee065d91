use Rattle.std.proofs.Common.{◌≡◌, ◌∙◌, Some, inr, map, option_map, ap, refl, slice_get, sym}
use Rattle.std.proofs.lemmas.Option.{slice_get-map, slice_get_read}
use Rattle.table_mirror.specs.Entries.{entry_view}
use Rattle.table_mirror.proofs.Arriving.{differs_there, on_told, passed_by, was_taken}
use Rattle.table_mirror.proofs.network.Network.arrive.Goals as goal

pub returns-then-is_other : goal.returns-then-is_other
returns-then-is_other c = λ limit w s.
    let found = c.in-Some.ensures.lookup in
    let at = slice_get-map entry_view c.args.entries.now c.args.place ∙ ap (option_map entry_view) (slice_get_read c.args.entries.now _ c.args.place c.in-Some.entry.now refl found.3.0 found.1) in
    differs_there limit (map entry_view c.args.entries.now) c.args.place c.args.self.now w
    (record { sender = c.args.self.now.sender; standby = c.take.new.self; packets = c.args.self.now.packets }) (entry_view c.in-Some.entry.now) c.in_ok-taken.taken s at
    c.in_ok-taken.ensures.taken (sym c.is_other.ensures ∙ c.if-is_other.true)

pub returns : goal.returns
returns c =
    let found = c.in-Some.ensures.lookup in
    let at = slice_get-map entry_view c.args.entries.now c.args.place ∙ ap (option_map entry_view) (slice_get_read c.args.entries.now _ c.args.place c.in-Some.entry.now refl found.3.0 found.1) in
    on_told c.acknowledge-2.result _ _ c.acknowledge-2.ensures.stop c.acknowledge-2.ensures.told (λ told limit w s.
    was_taken limit (map entry_view c.args.entries.now) c.args.place c.args.self.now _ c.acknowledge-2.new.self w (entry_view c.in-Some.entry.now) c.in_ok-taken.taken
    s at c.in_ok-taken.ensures.taken c.in_ok-taken.ensures.standby (sym c.is_other.ensures ∙ c.if-is_other.false) refl refl told)
