use Rattle.std.proofs.Common.{◌≡◌, ◌≤◌, ◌+◌, ◌*◌, length}
use Rattle.conn.proofs.Leading.{rank_of}
use Rattle.conn.proofs.Running.{RunsOn}
use Rattle.conn.proofs.connection.Conn.run.Given as goal

abbrev pub invariant-loop-moved : goal.invariant-loop-moved
invariant-loop-moved g l =
    RunsOn l.setup l.number l.initial.self l.self l.initial.notes.items l.notes.items l.spent
    × (l.given ≤ length l.notes.items)
    × (68 + l.given ≤ l.notes.spare + length l.notes.items)
    × (l._moved + rank_of l.self + 17 * l.given ≤ 17 * (l.spent + length l.notes.items) + 16)
    × (l.initial.steps + l.spent ≡ l.steps)
    × (l.spent ≤ 2000)
    × (length l.notes.items ≤ l.given + 64)
