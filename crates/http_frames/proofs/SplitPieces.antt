-- A piece that is read in two.
use Rattle.std.proofs.Common.{◌≡◌, ℕ, zero, suc, ◌+◌, ◌-◌, ◌<◌, Bool, true, false, ◌==◌, List, [], ◌∷◌, length, drop, min, refl, sym, ap, subst, ◌∙◌, arith}
use Rattle.std.proofs.lemmas.Bool.{cond-false, false≢true}
use Rattle.std.proofs.lemmas.Bool.Decides.{nat_tests}
use Rattle.std.proofs.lemmas.List.{length-drop}
use Rattle.http_frames.specs.States.{after_unit, chunk_left}
use Rattle.http_frames.specs.Units.{IsChunkUnit, IsUnit, left_unit, piece, to_end, waits}
use Rattle.http_frames.specs.declared.state.BodyState.{BodyState}
use Rattle.http_frames.specs.declared.state.BodyState.TheVariants as state
use Rattle.http_frames.specs.declared.unit.Unit.{Unit}
use Rattle.http_frames.specs.declared.unit.Unit.TheVariants.{Piece, Finished, NotYet}
use Rattle.http_frames.proofs.Taken.{first_other, is_piece, next_other, taken}

-- the second part, and where the reader stands behind it
pub record IsSplit (s : BodyState) (held : List ℕ) (ended : Bool) (n k : ℕ) : Type 0 where
  pub second : IsUnit (after_unit s (Piece n)) (drop n held) ended (Piece k)
  pub same : after_unit (after_unit s (Piece n)) (Piece k) ≡ after_unit s (Piece (n + k))

not_waits : (ended : Bool) → is_piece (waits ended) ≡ false
not_waits true = refl
not_waits false = refl

other_than : {A : Type 0} (n : ℕ) (u : Unit) → Piece n ≡ u → is_piece u ≡ false → A
other_than n u is other = absurd (false≢true (sym other ∙ sym (ap is_piece is)))

size_of_piece : (left : ℕ) (held : List ℕ) (ended : Bool) (n : ℕ) → Piece n ≡ piece left held ended → (n ≡ min left (length held)) × (0 < length held)
size_of_piece left [] ended n is = other_than n (waits ended) is (not_waits ended)
size_of_piece left (b ∷ held) ended n is = (ap taken is, omega arith)

some_piece : (left : ℕ) (held : List ℕ) (ended : Bool) → 0 < length held → piece left held ended ≡ Piece (min left (length held))
some_piece left [] ended some = absurd (omega (arith, some))
some_piece left (b ∷ held) ended some = refl

some_left : (left : ℕ) (held : List ℕ) (ended : Bool) → 0 < left → left_unit left held ended ≡ piece left held ended
some_left zero held ended some = absurd (omega (arith, some))
some_left (suc left) held ended some = refl

some_chunk : (left : ℕ) (held : List ℕ) (ended : Bool) (u : Unit) → 0 < left → u ≡ piece left held ended → IsChunkUnit left held ended u
some_chunk zero held ended u some is = absurd (omega (arith, some))
some_chunk (suc left) held ended u some is = is

rest_piece : (left : ℕ) (held : List ℕ) (ended : Bool) (n k : ℕ) → 0 < k → n + k ≡ min left (length held) → Piece k ≡ piece (left - n) (drop n held) ended
rest_piece left held ended n k some is =
    let rest = length-drop n held in
    ap Piece (omega (arith, is, rest)) ∙ sym (some_piece (left - n) (drop n held) ended (omega (arith, some, is, rest)))

not_zero : (left : ℕ) → 0 < left → (left == 0) ≡ false
not_zero left some = grind (arith, nat_tests)

whole_left : (left : ℕ) → 0 < left → chunk_left left ≡ state.Chunk left
whole_left left some = cond-false (left == 0) _ _ (not_zero left some)

split_chunk : (left : ℕ) (held : List ℕ) (ended : Bool) (n k : ℕ) → 0 < k → n + k ≡ min left (length held) → IsSplit (state.Chunk left) held ended n k
split_chunk left held ended n k some is =
    let there = whole_left (left - n) (omega (arith, some, is)) in
    record {
      second = subst (λ s. IsUnit s (drop n held) ended (Piece k)) (sym there) (some_chunk (left - n) (drop n held) ended (Piece k) (omega (arith, some, is)) (rest_piece left held ended n k some is));
      same = ap (λ s. after_unit s (Piece k)) there ∙ ap chunk_left (omega arith);
    }

split_left : (left : ℕ) (held : List ℕ) (ended : Bool) (n k : ℕ) → 0 < k → n + k ≡ min left (length held) → IsSplit (state.Left left) held ended n k
split_left left held ended n k some is = record {
  second = rest_piece left held ended n k some is ∙ sym (some_left (left - n) (drop n held) ended (omega (arith, some, is)));
  same = ap state.Left (omega arith);
}

all_behind : (rest : List ℕ) (ended : Bool) (k : ℕ) → 0 < k → k ≡ length rest → Piece k ≡ to_end rest ended
all_behind [] ended k some is = absurd (omega (arith, some, is))
all_behind (b ∷ rest) ended k some is = ap Piece is

split_end : (held : List ℕ) (ended : Bool) (n k : ℕ) → 0 < k → Piece (n + k) ≡ to_end held ended → IsSplit state.ToEnd held ended n k
split_end [] true n k some is = other_than (n + k) (Finished 0) is refl
split_end [] false n k some is = other_than (n + k) NotYet is refl
split_end (b ∷ held) ended n k some is = record { second = all_behind (drop n (b ∷ held)) ended k some (omega (arith, ap taken is, length-drop n (b ∷ held))); same = refl }

pub split : (s : BodyState) (held : List ℕ) (ended : Bool) (n k : ℕ) → 0 < k → IsUnit s held ended (Piece (n + k)) → IsSplit s held ended n k
split (state.Left zero) held ended n k some is = other_than (n + k) (Finished 0) is refl
split (state.Left (suc left)) held ended n k some is = split_left (suc left) held ended n k some (size_of_piece (suc left) held ended (n + k) is).0
split state.FirstLine held ended n k some is = other_than (n + k) (Piece (n + k)) refl (first_other held ended (Piece (n + k)) is)
split (state.Chunk zero) held ended n k some is = other_than (n + k) (Piece (n + k)) refl (next_other held ended (Piece (n + k)) is)
split (state.Chunk (suc left)) held ended n k some is = split_chunk (suc left) held ended n k some (size_of_piece (suc left) held ended (n + k) is).0
split state.NextLine held ended n k some is = other_than (n + k) (Piece (n + k)) refl (next_other held ended (Piece (n + k)) is)
split state.ToEnd held ended n k some is = split_end held ended n k some is
