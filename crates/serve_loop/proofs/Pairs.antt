-- Pairs after pairs.
use Rattle.std.proofs.Common.{◌≡◌, ◌≤◌, ℕ, ◌+◌, List, [], true, false, refl, sym, subst, add-one}
use Rattle.std.proofs.lemmas.List.{append-nil}
use Rattle.px_outside.specs.Net.{Call}
use Rattle.serve_loop.specs.declared.polled.Polled.TheVariants as is
use Rattle.serve_loop.specs.declared.serving.Serving.{Serving}
use Rattle.core_events.specs.Face.{Face}
use Rattle.serve_loop.specs.Part.{Part}
use Rattle.serve_loop.specs.Running.{PairOnce, GavePairs, Ran}
use Rattle.serve_loop.proofs.Compose.{part_then, part_less, part_nothing}

pub pairs_none : {C S : Type 0} {face : Face C} {did : S → Call → S → Type 0} {gave : S → ℕ → Type 0} (writers : List ℕ)
    (x : Serving C) (n : S) → Part face did gave (GavePairs face 0 writers writers) x x n n
pairs_none {face = face} writers x n = part_nothing (GavePairs face 0 writers writers) x n (refl, (refl, refl))

pub pairs_next : {C S : Type 0} {face : Face C} {did : S → Call → S → Type 0} {gave : S → ℕ → Type 0} (often : ℕ)
    (before mid after : List ℕ) {x y z : Serving C} {n m k : S} → Part face did gave (GavePairs face often before mid) x y n m
    → Part face did gave (PairOnce face mid after is.Again) y z m k → Part face did gave (GavePairs face (often + 1) before after) x z n k
pairs_next {face = face} {did = did} {gave = gave} often before mid after {x} {y} {z} {n} {m} {k} p q =
    subst (λ t. Part face did gave (GavePairs face t before after) x z n k) (sym (add-one often))
    (part_less (λ a steps b r. (mid, r)) (part_then p (part_less (λ a steps b r. r) q)))

pub ran_over : {C S : Type 0} {face : Face C} {did : S → Call → S → Type 0} {gave : S → ℕ → Type 0} (often times : ℕ)
    (before mid after : List ℕ) {x y z : Serving C} {n m k : S} → often ≤ times → Part face did gave (GavePairs face often before mid) x y n m
    → Part face did gave (PairOnce face mid after is.Over) y z m k → Part face did gave (Ran face times false before after) x z n k
ran_over often times before mid after within p q =
    part_less (λ a steps b r. record { often = often; within = within; mid = mid; pairs = r }) (part_then p (part_less (λ a steps b r. r) q))

pub ran_all : {C S : Type 0} {face : Face C} {did : S → Call → S → Type 0} {gave : S → ℕ → Type 0} (often times : ℕ)
    (before after : List ℕ) {x y : Serving C} {n m : S} → often ≤ times → often ≡ times
    → Part face did gave (GavePairs face often before after) x y n m → Part face did gave (Ran face times true before after) x y n m
ran_all often times before after within all p =
    part_less (λ a steps b r. record {
      often = often;
      within = within;
      mid = after;
      pairs = (b, steps, [], sym (append-nil steps), r, (refl, record { none = refl; same = refl; because = all }));
    }) p

-- a pair that isn't given is none that stays
pub ran_never : {C S : Type 0} {face : Face C} {did : S → Call → S → Type 0} {gave : S → ℕ → Type 0} (times : ℕ)
    (before mid after : List ℕ) (often : ℕ) {x y z : Serving C} {n m k : S} → Part face did gave (GavePairs face often before mid) x y n m
    → Part face did gave (PairOnce face mid after is.Stays) y z m k → Part face did gave (Ran face times true before after) x z n k
ran_never {face = face} times before mid after often {x} {y} {z} p q = record {
  from = λ s.
      absurd ((q.from (p.from s).made.ready).made.leads);
}
