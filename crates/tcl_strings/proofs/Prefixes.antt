-- Texts that begin others.
use Rattle.std.proofs.Common.{◌≡◌, ℕ, ◌≤◌, ◌<◌, List, [], ◌∷◌, length, get_or, drop, refl, sym, ap, ◌∙◌, arith}
use Rattle.tcl_strings.specs.Automaton.{IsPrefix}

pub prefix_self : (v : List ℕ) → IsPrefix v v
prefix_self [] = tt
prefix_self (c ∷ v) = (refl, prefix_self v)

pub prefix_trans : (u v w : List ℕ) → IsPrefix u v → IsPrefix v w → IsPrefix u w
prefix_trans [] v w h g = tt
prefix_trans (a ∷ u) [] w h g = absurd h
prefix_trans (a ∷ u) (b ∷ v) [] h g = absurd g
prefix_trans (a ∷ u) (b ∷ v) (c ∷ w) h g = (h.0 ∙ g.0, prefix_trans u v w h.1 g.1)

-- of two texts with which a text begins, the shorter begins the longer
pub prefix_within : (u v w : List ℕ) → IsPrefix u w → IsPrefix v w → length u ≤ length v → IsPrefix u v
prefix_within [] v w h g le = tt
prefix_within (a ∷ u) [] w h g le = absurd (omega arith)
prefix_within (a ∷ u) (b ∷ v) [] h g le = absurd h
prefix_within (a ∷ u) (b ∷ v) (c ∷ w) h g le = (h.0 ∙ sym g.0, prefix_within u v w h.1 g.1 (omega arith))

pub prefix_whole : (u v : List ℕ) → IsPrefix u v → length v ≤ length u → u ≡ v
prefix_whole [] [] h le = refl
prefix_whole [] (c ∷ v) h le = absurd (omega arith)
prefix_whole (a ∷ u) [] h le = absurd h
prefix_whole (a ∷ u) (b ∷ v) h le = ap (λ x. x ∷ u) h.0 ∙ ap (λ t. b ∷ t) (prefix_whole u v h.1 (omega arith))

pub prefix_size : (u v : List ℕ) → IsPrefix u v → length u ≤ length v
prefix_size [] v h = omega arith
prefix_size (a ∷ u) [] h = absurd h
prefix_size (a ∷ u) (b ∷ v) h = let rest = prefix_size u v h.1 in omega arith

pub front_and_rest : (text : List ℕ) → 0 < length text → get_or text 0 0 ∷ drop 1 text ≡ text
front_and_rest [] some = absurd (omega arith)
front_and_rest (c ∷ cs) some = refl
