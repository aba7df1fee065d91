-- One more of several.
use Rattle.std.proofs.Common.{◌≡◌, ℕ, ◌+◌, ◌<◌, ◌≤◌, Bool, true, false, ◌&&◌, List, Option, take, get_or, length, refl, sym, subst}
use Rattle.std.specs.List.{All}
use Rattle.std.proofs.lemmas.List.{take_all}
use Rattle.std.proofs.lemmas.List.Elements.{All-more}
use Rattle.std.proofs.lemmas.Option.{slice_get_read}
use Rattle.tested_runs.specs.Runs.{Come, OneOf}

-- an item of a list, by its place
pub record At {A : Type 0} (xs : List A) (i : ℕ) (x : A) : Type 0 where
  pub within : i < length xs
  pub is : x ≡ get_or xs i x

pub at_of : (A : Type 0) (ys xs : List A) (i : ℕ) (x : A) → ys ≡ xs → i < length ys → x ≡ get_or ys i x → At xs i x
at_of A ys xs i x same within is = subst (λ (zs : List A). At zs i x) same (record { within = within; is = is })

pub end_of : (A : Type 0) (ys xs : List A) (i : ℕ) → ys ≡ xs → length ys ≤ i → length xs ≤ i
end_of A ys xs i same end = subst (λ (zs : List A). length zs ≤ i) same end

-- of the first items all pass, or of the whole list one fails
abbrev pub SoFar : {A : Type 0} → (P : Bool → A → Type 0) → Bool → List A → ℕ → Type 0
SoFar P true xs i = All (P true) (take i xs)
SoFar P false xs i = OneOf (P false) xs

pub fails_at : {A : Type 0} (P : Bool → A → Type 0) (xs : List A) (i : ℕ) (x : A) → At xs i x → P false x → Come P false xs
fails_at P xs i x at fails = record { at = i; item = x; there = slice_get_read xs (length xs) i x refl at.within at.is; has = fails }

pub passes_at : {A : Type 0} (P : Bool → A → Type 0) (xs : List A) (i : ℕ) (x : A) → At xs i x
    → All (P true) (take i xs) → P true x → All (P true) (take (i + 1) xs)
passes_at P xs i x at all passes = All-more (P true) xs i x at.within all (subst (P true) at.is passes)

pub next : {A : Type 0} (P : Bool → A → Type 0) (xs : List A) (i : ℕ) (x : A) (all passed : Bool) → At xs i x
    → SoFar P all xs i → P passed x → SoFar P (all && passed) xs (i + 1)
next P xs i x true true at far has = passes_at P xs i x at far has
next P xs i x true false at far has = fails_at P xs i x at has
next P xs i x false passed at far has = far

pub ends : {A : Type 0} (P : Bool → A → Type 0) (xs : List A) (i : ℕ) (all : Bool) → length xs ≤ i → SoFar P all xs i
    → Come P all xs
ends P xs i true end far = subst (All (P true)) (take_all i xs end) far
ends P xs i false end far = far

-- with what the files told by now
pub next_by : {A : Type 0} (P : (List ℕ → Option (List ℕ)) → Bool → A → Type 0) (told now : List ℕ → Option (List ℕ)) (xs : List A)
    (i : ℕ) (x : A) (all passed both : Bool) → told ≡ now → both ≡ all && passed → At xs i x → SoFar (P now) all xs i
    → P told passed x → SoFar (P now) both xs (i + 1)
next_by P told now xs i x all passed both same is at far has =
    subst (λ (b : Bool). SoFar (P now) b xs (i + 1)) (sym is)
    (next (P now) xs i x all passed at far (subst (λ (t : List ℕ → Option (List ℕ)). P t passed x) same has))

-- all so far have it, and one more, by what the files told at the start
pub all_next : (A : Type 0) (P : (List ℕ → Option (List ℕ)) → A → Type 0) (told now : List ℕ → Option (List ℕ)) (xs : List A) (i : ℕ)
    (x : A) → told ≡ now → At xs i x → All (P now) (take i xs) → P told x → All (P now) (take (i + 1) xs)
all_next A P told now xs i x same at all has =
    All-more (P now) xs i x at.within all
    (subst (P now) at.is (subst (λ (t : List ℕ → Option (List ℕ)). P t x) same has))

pub all_whole : (A : Type 0) (P : A → Type 0) (xs : List A) (i : ℕ) → length xs ≤ i → All P (take i xs) → All P xs
all_whole A P xs i end all = subst (All P) (take_all i xs end) all
