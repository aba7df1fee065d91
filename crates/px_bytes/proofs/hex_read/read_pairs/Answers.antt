use Rattle.std.proofs.Common.{◌≡◌, ℕ, ◌-◌, ◌≤◌, List, [], ◌∷◌, ◌++◌, length, get_or, take, drop}
use Rattle.std.proofs.Common.{Option, Some, None, option_map, ap, refl, ◌∙◌, arith, append_assoc}
use Rattle.std.proofs.lemmas.List.{take_rest}
use Rattle.px_bytes.specs.HexRead.{hex_byte, byte_before, hex_pairs}
use Rattle.px_bytes.proofs.hex_read.read_pairs.Goals as goal

moved : (out : List ℕ) (byte : ℕ) (more : Option (List ℕ)) → option_map (λ t. (out ++ byte ∷ []) ++ t) more ≡ option_map (λ t. out ++ t) (byte_before (Some byte) more)
moved out byte None = refl
moved out byte (Some more) = ap Some (append_assoc out (byte ∷ []) more)

-- a byte is read, and the rest is still to come
one_read : (out rest : List ℕ) (byte : ℕ) (all : Option (List ℕ)) → 2 ≤ length rest → Some byte ≡ hex_byte (get_or rest 0 0) (get_or rest 1 0)
    → option_map (λ t. out ++ t) (hex_pairs rest) ≡ all → option_map (λ t. (out ++ byte ∷ []) ++ t) (hex_pairs (take (length rest - 2) (drop 2 rest))) ≡ all
one_read out [] byte all some e same = absurd (omega arith)
one_read out (high ∷ []) byte all some e same = absurd (omega arith)
one_read out (high ∷ (low ∷ more)) byte all some e same =
    rw (take_rest (high ∷ (low ∷ more)) 2) (moved out byte (hex_pairs more) ∙ ap (λ b. option_map (λ t. out ++ t) (byte_before b (hex_pairs more))) e ∙ same)

pub loop-rest-preserved : goal.loop-rest-preserved
loop-rest-preserved c =
    rw c.in_ok-push.ensures.items (one_read c.loop-rest.out.items c.loop-rest.rest.now c.in-Some.byte _ c.in-len2-up.len_at_least c.in-Some.ensures c.loop-rest.invariant)
