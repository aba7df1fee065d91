-- The bytes between operands, one at a time.
use Rattle.std.proofs.Common.{◌≡◌, ℕ, suc, ◌+◌, ◌-◌, ◌<◌, List, ap, arith}
use Rattle.tcl_trees.specs.Opened.{counted, turned}

pub counted_more : (text : List ℕ) (to at count : ℕ) → at < to
    → counted text (to - at) at count ≡ counted text (to - (at + 1)) (at + 1) (turned text at count)
counted_more text to at count h =
    let e : to - at ≡ suc (to - (at + 1)) = omega arith in
    ap (λ n. counted text n at count) e
