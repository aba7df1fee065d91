use Rattle.std.proofs.Common.{ℕ, ◌++◌, ◌∷◌, [], ap, ◌∙◌, arith}
use Rattle.std.proofs.lemmas.List.Sums.{prefix_len-le-length}
use Rattle.px_bytes.specs.ByteSet.{has_byte}
use Rattle.tcl_list_commands.proofs.Cuts.{last_piece, next_piece}
use Rattle.tcl_list_commands.proofs.splitting.pieces.Goals as goal

pub split_at-requires : goal.split_at-requires
split_at-requires c = omega (arith, prefix_len-le-length {X = ℕ})

pub returns-in_default : goal.returns-in_default
returns-in_default c =
    let back = rw c.piece_len.ensures at c.split_at.ensures.back in
    let front = rw c.piece_len.ensures at c.split_at.ensures.front in
    let pushed = c.in_ok-push.ensures.ok ∙ ap (λ t. c.loop-pieces.pieces ++ t ∷ []) (c.in_ok-new.ensures ∙ front) in
    last_piece (has_byte c.args.cuts.now) c.loop-pieces.rest.now c.split_at.result.1.now c.loop-pieces.pieces _ c.push.new.self back c.in_default.len_below pushed c.loop-pieces.invariant

pub loop-pieces-preserved : goal.loop-pieces-preserved
loop-pieces-preserved c =
    let back = rw c.piece_len.ensures at c.split_at.ensures.back in
    let front = rw c.piece_len.ensures at c.split_at.ensures.front in
    let pushed = c.in_ok-push.ensures.ok ∙ ap (λ t. c.loop-pieces.pieces ++ t ∷ []) (c.in_ok-new.ensures ∙ front) in
    next_piece (has_byte c.args.cuts.now) c.loop-pieces.rest.now c.split_at.result.1.now c.loop-pieces.pieces _ c.push.new.self back c.in-len1-up.len_at_least pushed c.loop-pieces.invariant
