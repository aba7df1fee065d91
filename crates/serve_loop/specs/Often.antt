-- Something is tried until it gives no more, so often at most; and each of a list in order.
use Rattle.std.specs.Prelude.{◌≡◌, ◌⊎◌, ℕ, zero, suc, ◌≤◌, List, [], ◌∷◌, ◌++◌}
use Rattle.std.specs.Prelude.{Bool, true, false, Some, slice_get}
use Rattle.serve_loop.specs.declared.polled.Polled.{Polled}
use Rattle.serve_loop.specs.declared.polled.Polled.TheVariants as is
use Rattle.serve_loop.specs.Walk.{Around, Step, Then}

-- it isn't asked, for this reason
pub record NotAsked {C : Type 0} (why : Around C → Type 0) (a : Around C) (steps : List Step)
    (b : Around C) : Type 0 where
  pub none : steps ≡ []
  pub same : b ≡ a
  pub because : why a

-- so often it gave something
abbrev pub GaveOften : {C : Type 0} → (Polled → Around C → List Step → Around C → Type 0) → ℕ
    → Around C → List Step → Around C → Type 0
GaveOften Once zero a steps b = (steps ≡ []) × (b ≡ a)
GaveOften Once (suc n) a steps b = Then (GaveOften Once n) (Once is.Again) a steps b

-- And then it is tried no more: it stays for the next turn, also where it gave as often as it may;
-- or it gives no more.
abbrev pub TriedLast : {C : Type 0} → (Polled → Around C → List Step → Around C → Type 0)
    → (often times : ℕ) → (stays : Bool) → Around C → List Step → Around C → Type 0
TriedLast Once often times true a steps b =
    Once is.Stays a steps b ⊎ NotAsked (λ x. often ≡ times) a steps b
TriedLast Once often times false a steps b = Once is.Over a steps b

pub record Tried {C : Type 0} (Once : Polled → Around C → List Step → Around C → Type 0)
    (times : ℕ) (stays : Bool) (a : Around C) (steps : List Step) (b : Around C) : Type 0 where
  pub often : ℕ
  pub within : often ≤ times
  pub tries : Then (GaveOften Once often) (TriedLast Once often times stays) a steps b

-- what stays for the next turn
abbrev pub staying : Bool → ℕ → List ℕ
staying true n = n ∷ []
staying false n = []

-- each of the list in order, and those of it that stay
abbrev pub Each : {C : Type 0} → (ℕ → Bool → Around C → List Step → Around C → Type 0)
    → List ℕ → List ℕ → Around C → List Step → Around C → Type 0
Each At [] stay a steps b = (stay ≡ []) × (steps ≡ []) × (b ≡ a)
Each At (n ∷ order) stay a steps b = (stays : Bool) × (rest : List ℕ)
    × (stay ≡ staying stays n ++ rest) × Then (At n stays) (Each At order rest) a steps b

-- one of a list, kept where it stays
pub record OneOf (P : ℕ → Bool → Type 0) (order : List ℕ) (at : ℕ) (old new : List ℕ) : Type 0 where
  pub number : ℕ
  pub is : slice_get order at ≡ Some number
  pub stays : Bool
  pub kept : new ≡ old ++ staying stays number
  pub did : P number stays
