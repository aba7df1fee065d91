-- What stands at the front of the rest of a body; where a head is due `http_heads` tells it.
use Rattle.std.specs.Prelude.{ℕ, zero, suc, ◌-◌, Bool, true, false}
use Rattle.http_frames.specs.declared.state.BodyState.{BodyState}
use Rattle.http_frames.specs.declared.state.BodyState.TheVariants as state

-- where the reader stands behind a byte
abbrev pub in_chunk : ℕ → BodyState
in_chunk zero = state.NextLine
in_chunk (suc n) = state.Chunk (suc n)

abbrev pub after_byte : BodyState → BodyState
after_byte (state.Left n) = state.Left (n - 1)
after_byte (state.Chunk n) = in_chunk (n - 1)
after_byte s = s

abbrev pub one_less : ℕ → ℕ
one_less zero = zero
one_less (suc n) = n

-- no byte of the body is left
abbrev pub is_at_end : BodyState → Bool
is_at_end (state.Left zero) = true
is_at_end s = false
