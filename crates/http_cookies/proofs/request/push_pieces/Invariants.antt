use Rattle.std.proofs.Common.{◌≡◌, ◌++◌, drop}
use Rattle.std.specs.Prelude.{map}
use Rattle.http_cookies.specs.Cookies.{cookies_of}
use Rattle.http_cookies.proofs.request.push_pieces.Given as goal

abbrev pub invariant-loop-piece : goal.invariant-loop-piece
invariant-loop-piece l = l.pairs ++ cookies_of (map (λ p. p.now) (drop l.piece-index l.pieces)) ≡ l.fn.pairs ++ cookies_of (map (λ p. p.now) l.pieces)
