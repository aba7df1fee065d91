use Rattle.std.proofs.Common.{◌≡◌, drop, map}
use Rattle.config.specs.KeyLines.{first_seen, line_from, path_view}
use Rattle.config.proofs.key_line.KeyPath.line_of.Given as goal

abbrev pub invariant-loop-line : goal.invariant-loop-line
invariant-loop-line l =
    (l.number ≡ l.line-index)
    × (line_from (path_view l.self) (first_seen (path_view l.self)) 0 (map (λ line. line.now) l.lines)
    ≡ line_from (path_view l.self) l.seen l.number (map (λ line. line.now) (drop l.line-index l.lines)))
