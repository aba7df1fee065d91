-- Whether one of the links may be asked.
use Rattle.std.proofs.Common.{◌≡◌, ℕ, List, [], ◌∷◌, drop, Bool, true, false, sym, subst, inl, inr}
use Rattle.core_events.specs.Face.{Face}
use Rattle.serve_loop.specs.Turn.{CanAsk, AnyAsks}
use Rattle.serve_loop.specs.Walk.{Around}

-- what holds of the rest, holds of all
abbrev pub AsksRest : {C : Type 0} → Face C → ℕ → Around C → List ℕ → ℕ → Type 0
AsksRest face conns a links i = (b : Bool) → AnyAsks face conns a (drop i links) b → AnyAsks face conns a links b

front_then : {C : Type 0} (face : Face C) (conns : ℕ) (a : Around C) (link : ℕ) (rest : List ℕ) → CanAsk face conns a link false
    → (b : Bool) → AnyAsks face conns a rest b → AnyAsks face conns a (link ∷ rest) b
front_then face conns a link rest nay true e = inr e
front_then face conns a link rest nay false e = (nay, e)

pub any_next : {C : Type 0} (face : Face C) (conns : ℕ) (a : Around C) (links : List ℕ) (i j link : ℕ) → drop i links ≡ link ∷ drop j links
    → CanAsk face conns a link false → AsksRest face conns a links i → AsksRest face conns a links j
any_next face conns a links i j link front nay rest b e =
    rest b (subst (λ (l : List ℕ). AnyAsks face conns a l b) (sym front) (front_then face conns a link (drop j links) nay b e))

pub any_found : {C : Type 0} (face : Face C) (conns : ℕ) (a : Around C) (links : List ℕ) (i j link : ℕ) → drop i links ≡ link ∷ drop j links
    → CanAsk face conns a link true → AsksRest face conns a links i → AnyAsks face conns a links true
any_found face conns a links i j link front yea rest =
    rest true (subst (λ (l : List ℕ). AnyAsks face conns a l true) (sym front) (inl yea))

pub any_none : {C : Type 0} (face : Face C) (conns : ℕ) (a : Around C) (links : List ℕ) (i : ℕ) → drop i links ≡ []
    → AsksRest face conns a links i → AnyAsks face conns a links false
any_none face conns a links i all rest = rest false (subst (λ (l : List ℕ). AnyAsks face conns a l false) (sym all) tt)
