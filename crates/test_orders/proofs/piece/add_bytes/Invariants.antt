use Rattle.std.proofs.Common.{◌≡◌, [], ◌∷◌, ◌++◌, drop, map}
use Rattle.test_orders.proofs.piece.add_bytes.Given as goal

abbrev pub invariant-loop-byte : goal.invariant-loop-byte
invariant-loop-byte l =
    l.pieces ++ map (λ byte. byte ∷ []) (drop l.byte-index l.fn.bytes) ≡ l.initial.pieces ++ map (λ byte. byte ∷ []) l.fn.bytes
