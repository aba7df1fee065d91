use Rattle.std.proofs.Common.{◌≡◌, ◌+◌, suc, ◌<◌, ◌≤◌, Some, length, take, drop, min, arith, rules, refl, ap, sym, ◌∙◌, subst, add-one}
use Rattle.std.specs.List.{slice_get}
use Rattle.std.proofs.lemmas.Grind.{common_steps}
use Rattle.px_outside.proofs.MemReads.{reads_link, left_part, left_none, item_at}
use Rattle.px_outside.specs.MemLink.{cut_front, LinkInMemory}
use Rattle.px_outside.specs.declared.mem_script.MemRead.TheVariants as item
use Rattle.px_outside.proofs.mem_link.MemLink.read.Goals as goal

pub returns-then-room-left-clause-reads : goal.returns-then-room-left-clause-reads
returns-then-room-left-clause-reads c =
    let at = item_at c.self.inside.reads.items _ c.self.inside.read_at (item.Bytes c.in-Some-Bytes.text) _ c.deref.ensures.value c.in-Some-Bytes.ensures.lookup.3.0 c.in-Some-Bytes.ensures.lookup.3.1 c.in-Some-Bytes.field-0-is in
    let e : c.rest_of-left.result.now ≡ drop c.self.inside.done c.in-Some-Bytes.text = search rules in
    let some : 0 < length c.rest_of-left.result.now = grind (arith, common_steps) in
    let some' : 0 < length (drop c.self.inside.done c.in-Some-Bytes.text) = rw (← e) some in
    let count : c.put-n.result ≡ min (length c.args.room.now) (length (drop c.self.inside.done c.in-Some-Bytes.text)) = rw (← e) c.put-n.ensures.count in
    let bytes : take c.put-n.result c.put-n.new.room ≡ take (length c.args.room.now) (drop c.self.inside.done c.in-Some-Bytes.text) = rw (← e) c.put-n.ensures.bytes in
    let lt : length c.args.room.now < length (drop c.self.inside.done c.in-Some-Bytes.text) = rw (← e) (grind (arith, common_steps)) in
    reads_link _ _ c.self.inside.reads.items _ c.self.inside.read_at c.self.inside.done _ _ c.in-Some-Bytes.text _
    (ap (λ (l : LinkInMemory). l.reads) (sym c.self.view_is)) at some' count bytes
    (left_part c.self.inside.reads.items c.self.inside.read_at c.self.inside.done _ _ c.in-Some-Bytes.text at lt count)
    (ap (λ (l : LinkInMemory). record l { reads = cut_front (c.self.inside.done + c.put-n.result) (drop c.self.inside.read_at c.self.inside.reads.items) }) c.self.view_is)

pub returns-else-room-left-clause-reads : goal.returns-else-room-left-clause-reads
returns-else-room-left-clause-reads c =
    let at = item_at c.self.inside.reads.items _ c.self.inside.read_at (item.Bytes c.in-Some-Bytes.text) _ c.deref.ensures.value c.in-Some-Bytes.ensures.lookup.3.0 c.in-Some-Bytes.ensures.lookup.3.1 c.in-Some-Bytes.field-0-is in
    let e : c.rest_of-left.result.now ≡ drop c.self.inside.done c.in-Some-Bytes.text = search rules in
    let some : 0 < length c.rest_of-left.result.now = grind (arith, common_steps) in
    let some' : 0 < length (drop c.self.inside.done c.in-Some-Bytes.text) = rw (← e) some in
    let count : c.put-n.result ≡ min (length c.args.room.now) (length (drop c.self.inside.done c.in-Some-Bytes.text)) = rw (← e) c.put-n.ensures.count in
    let bytes : take c.put-n.result c.put-n.new.room ≡ take (length c.args.room.now) (drop c.self.inside.done c.in-Some-Bytes.text) = rw (← e) c.put-n.ensures.bytes in
    let le : length (drop c.self.inside.done c.in-Some-Bytes.text) ≤ length c.args.room.now = rw (← e) (grind (arith, common_steps)) in
    reads_link _ _ c.self.inside.reads.items _ c.self.inside.read_at c.self.inside.done _ _ c.in-Some-Bytes.text _
    (ap (λ (l : LinkInMemory). l.reads) (sym c.self.view_is)) at some' count bytes
    (left_none c.self.inside.reads.items c.self.inside.read_at (c.self.inside.read_at + 1) c.self.inside.done _ c.in-Some-Bytes.text (add-one c.self.inside.read_at) le)
    (ap (λ (l : LinkInMemory). record l { reads = cut_front 0 (drop (c.self.inside.read_at + 1) c.self.inside.reads.items) }) c.self.view_is)
