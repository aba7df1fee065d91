-- The pieces of a text are that text.
use Rattle.std.proofs.Common.{◌≡◌, ℕ, ◌<◌, ◌==◌, true, false, cond, List, [], ◌∷◌, ◌++◌, length, map, take, drop}
use Rattle.std.proofs.Common.{inl, inr, refl, sym, ap, ap₂, ◌∙◌, append-nil, append_assoc, arith, take-append-drop}
use Rattle.std.specs.List.{concat}
use Rattle.test_orders.specs.Cuts.{at_place, pieces, unless_empty}
use Rattle.test_orders.specs.Laws.{Among, PiecesAreWhole}
use Rattle.test_orders.specs.declared.cut.Cut.{Cut}
use Rattle.test_orders.specs.declared.cut.Cut.TheVariants.{Whole, Bytes, At}
use Rattle.test_orders.proofs.Members.{among_either}

concat_both : (xs ys : List (List ℕ)) → concat (xs ++ ys) ≡ concat xs ++ concat ys
concat_both [] ys = refl
concat_both (x ∷ xs) ys = ap (λ l. x ++ l) (concat_both xs ys) ∙ sym (append_assoc x (concat xs) (concat ys))

whole : (bytes : List ℕ) → concat (unless_empty bytes) ≡ bytes
whole [] = refl
whole (b ∷ bs) = append-nil (b ∷ bs)

singly : (bytes : List ℕ) → concat (map (λ b. b ∷ []) bytes) ≡ bytes
singly [] = refl
singly (b ∷ bs) = ap (λ l. b ∷ l) (singly bs)

parted : (place : ℕ) (bytes : List ℕ) → concat (at_place place bytes) ≡ bytes
parted place bytes =
    concat_both (unless_empty (take place bytes)) (unless_empty (drop place bytes))
    ∙ ap₂ (λ x y. x ++ y) (whole (take place bytes)) (whole (drop place bytes)) ∙ take-append-drop place bytes

pub joined : (cut : Cut) (send : ℕ) (bytes : List ℕ) → concat (pieces cut send bytes) ≡ bytes
joined Whole send bytes = whole bytes
joined Bytes send bytes = singly bytes
joined (At number place) send bytes =
    elim (number == send) as (λ b. concat (cond b (at_place place bytes) (unless_empty bytes)) ≡ bytes) [ true ↦ parted place bytes | false ↦ whole bytes ]

some_whole : (bytes piece : List ℕ) → Among piece (unless_empty bytes) → 0 < length piece
some_whole [] piece a = absurd a
some_whole (b ∷ bs) piece (inr a) = absurd a
some_whole (b ∷ bs) piece (inl e) = omega (arith, ap length e)

some_singly : (bytes piece : List ℕ) → Among piece (map (λ b. b ∷ []) bytes) → 0 < length piece
some_singly [] piece a = absurd a
some_singly (b ∷ bs) piece (inl e) = omega (arith, ap length e)
some_singly (b ∷ bs) piece (inr a) = some_singly bs piece a

some_parted : (place : ℕ) (bytes piece : List ℕ) → Among piece (at_place place bytes) → 0 < length piece
some_parted place bytes piece a = elim (among_either piece (unless_empty (take place bytes)) (unless_empty (drop place bytes)) a) [
  | inl b ↦ some_whole (take place bytes) piece b
  | inr b ↦ some_whole (drop place bytes) piece b
]

pub some_each : (cut : Cut) (send : ℕ) (bytes piece : List ℕ) → Among piece (pieces cut send bytes) → 0 < length piece
some_each Whole send bytes piece a = some_whole bytes piece a
some_each Bytes send bytes piece a = some_singly bytes piece a
some_each (At number place) send bytes piece a =
    (elim (number == send) as (λ b. Among piece (cond b (at_place place bytes) (unless_empty bytes)) → 0 < length piece)
    [ true ↦ some_parted place bytes piece | false ↦ some_whole bytes piece ]) a

pub pieces_are_whole : PiecesAreWhole
pieces_are_whole cut send bytes = (joined cut send bytes, some_each cut send bytes)
