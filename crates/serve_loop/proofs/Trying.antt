-- Things that are tried until they give no more, and each of a list.
use Rattle.std.proofs.Common.{◌≡◌, ℕ, zero, suc, ◌+◌, ◌≤◌, List, [], ◌∷◌, ◌++◌, drop, Bool, true, false, Some, refl, ap, sym, ◌∙◌, subst, append_assoc}
use Rattle.std.proofs.Common.{inl, inr, add-one}
use Rattle.std.specs.List.{slice_get}
use Rattle.std.proofs.lemmas.List.{append-nil}
use Rattle.px_outside.specs.Net.{Call}
use Rattle.serve_loop.specs.declared.polled.Polled.{Polled}
use Rattle.serve_loop.specs.declared.polled.Polled.TheVariants as is
use Rattle.serve_loop.specs.declared.serving.Serving.{Serving}
use Rattle.core_events.specs.Face.{Face}
use Rattle.serve_loop.specs.Often.{GaveOften, Tried, staying, Each, OneOf}
use Rattle.serve_loop.specs.Walk.{Around, Step, Then}
use Rattle.serve_loop.specs.Part.{Part}
use Rattle.serve_loop.proofs.Compose.{part_less, part_next, part_nothing}

pub often_none : {C S : Type 0} {face : Face C} {did : S → Call → S → Type 0} {gave : S → ℕ → Type 0}
    (Once : Polled → Around C → List Step → Around C → Type 0) (x : Serving C) (n : S) → Part face did gave (GaveOften Once 0) x x n n
often_none Once x n = part_nothing (GaveOften Once 0) x n (refl, refl)

pub often_next : {C S : Type 0} {face : Face C} {did : S → Call → S → Type 0} {gave : S → ℕ → Type 0}
    (Once : ℕ → Polled → Around C → List Step → Around C → Type 0) (often : ℕ) {x y z : Serving C} {n m k : S}
    → Part face did gave (GaveOften (Once x.conns) often) x y n m → Part face did gave (Once y.conns is.Again) y z m k
    → Part face did gave (GaveOften (Once x.conns) (often + 1)) x z n k
often_next {face = face} {did = did} {gave = gave} Once often {x} {y} {z} {n} {m} {k} p q =
    subst (λ t. Part face did gave (GaveOften (Once x.conns) t) x z n k) (sym (add-one often))
    (part_less (λ a steps b r. r) (part_next (λ conns. Once conns is.Again) p q))

pub tried_stays : {C S : Type 0} {face : Face C} {did : S → Call → S → Type 0} {gave : S → ℕ → Type 0}
    (Once : ℕ → Polled → Around C → List Step → Around C → Type 0) (often times : ℕ) {x y z : Serving C} {n m k : S} → often ≤ times
    → Part face did gave (GaveOften (Once x.conns) often) x y n m → Part face did gave (Once y.conns is.Stays) y z m k
    → Part face did gave (Tried (Once x.conns) times true) x z n k
tried_stays Once often times within p q =
    part_less (λ a steps b r. record { often = often; within = within; tries = (r.0, r.1, r.2, r.3, r.4, inl r.5) })
    (part_next (λ conns. Once conns is.Stays) p q)

pub tried_over : {C S : Type 0} {face : Face C} {did : S → Call → S → Type 0} {gave : S → ℕ → Type 0}
    (Once : ℕ → Polled → Around C → List Step → Around C → Type 0) (often times : ℕ) {x y z : Serving C} {n m k : S} → often ≤ times
    → Part face did gave (GaveOften (Once x.conns) often) x y n m → Part face did gave (Once y.conns is.Over) y z m k
    → Part face did gave (Tried (Once x.conns) times false) x z n k
tried_over Once often times within p q =
    part_less (λ a steps b r. record { often = often; within = within; tries = (r.0, r.1, r.2, r.3, r.4, r.5) })
    (part_next (λ conns. Once conns is.Over) p q)

pub tried_all : {C S : Type 0} {face : Face C} {did : S → Call → S → Type 0} {gave : S → ℕ → Type 0}
    (Once : ℕ → Polled → Around C → List Step → Around C → Type 0) (often times : ℕ) {x y : Serving C} {n m : S} → often ≤ times → often ≡ times
    → Part face did gave (GaveOften (Once x.conns) often) x y n m → Part face did gave (Tried (Once x.conns) times true) x y n m
tried_all Once often times within all p =
    part_less (λ a steps b r. record {
      often = often;
      within = within;
      tries = (b, steps, [], sym (append-nil steps), r, inr (record { none = refl; same = refl; because = all }));
    }) p

-- the first of a list
abbrev pub EachFirst : {C : Type 0} → (ℕ → Bool → Around C → List Step → Around C → Type 0)
    → List ℕ → ℕ → List ℕ → Around C → List Step → Around C → Type 0
EachFirst At order i stay a steps b = (done : List ℕ) × (order ≡ done ++ drop i order) × Each At done stay a steps b

pub each_none : {C S : Type 0} {face : Face C} {did : S → Call → S → Type 0} {gave : S → ℕ → Type 0}
    (At : ℕ → Bool → Around C → List Step → Around C → Type 0) (order : List ℕ) (x : Serving C) (n : S)
    → Part face did gave (EachFirst At order 0 []) x x n n
each_none At order x n = part_nothing (EachFirst At order 0 []) x n ([], refl, (refl, refl, refl))

each_append : {C : Type 0} (At : ℕ → Bool → Around C → List Step → Around C → Type 0) (xs ys stay more : List ℕ) (a : Around C) (l : List Step)
    (b : Around C) (k : List Step) (c : Around C) → Each At xs stay a l b → Each At ys more b k c → Each At (xs ++ ys) (stay ++ more) a (l ++ k) c
each_append At [] ys stay more a l b k c x y =
    subst (λ (s : List ℕ). Each At ys (s ++ more) a (l ++ k) c) (sym x.0)
    (subst (λ (t : List Step). Each At ys more a (t ++ k) c) (sym x.1) (subst (λ t. Each At ys more t k c) x.2 y))
each_append At (n ∷ xs) ys stay more a l b k c x y = (
  x.0,
  x.1 ++ more,
  ap (λ (s : List ℕ). s ++ more) x.2 ∙ append_assoc (staying x.0 n) x.1 more,
  (
    x.3.0,
    x.3.1,
    x.3.2 ++ k,
    ap (λ (s : List Step). s ++ k) x.3.3 ∙ append_assoc x.3.1 x.3.2 k,
    x.3.4,
    each_append At xs ys x.1 more x.3.0 x.3.2 b k c x.3.5 y,
  ),
)

each_one : {C : Type 0} (At : ℕ → Bool → Around C → List Step → Around C → Type 0) (number : ℕ) (stays : Bool) (a : Around C) (l : List Step) (b : Around C)
    → At number stays a l b → Each At (number ∷ []) (staying stays number) a l b
each_one At number stays a l b it =
    (stays, [], sym (append-nil (staying stays number)), (b, l, [], sym (append-nil l), it, (refl, refl, refl)))

each_then : {C : Type 0} (At : ℕ → Bool → Around C → List Step → Around C → Type 0) (order : List ℕ) (i j number : ℕ)
    (stay : List ℕ) (stays : Bool) → drop i order ≡ number ∷ drop j order → (a : Around C) (steps : List Step) (b : Around C)
    → Then (EachFirst At order i stay) (At number stays) a steps b → EachFirst At order j (stay ++ staying stays number) a steps b
each_then At order i j number stay stays front a steps b t = (
  t.4.0 ++ number ∷ [],
  t.4.1 ∙ ap (λ (l : List ℕ). t.4.0 ++ l) front ∙ sym (append_assoc t.4.0 (number ∷ []) (drop j order)),
  subst (λ (l : List Step). Each At (t.4.0 ++ number ∷ []) (stay ++ staying stays number) a l b) (sym t.3)
      (each_append At t.4.0 (number ∷ []) stay (staying stays number) a t.1 t.0 t.2 b t.4.2 (each_one At number stays t.0 t.2 b t.5)),
)

pub each_next : {C S : Type 0} {face : Face C} {did : S → Call → S → Type 0} {gave : S → ℕ → Type 0}
    (At : ℕ → ℕ → Bool → Around C → List Step → Around C → Type 0) (order : List ℕ) (i j number : ℕ) (stay : List ℕ) (stays : Bool)
    {x y z : Serving C} {n m k : S} → drop i order ≡ number ∷ drop j order
    → Part face did gave (EachFirst (At x.conns) order i stay) x y n m → Part face did gave (At y.conns number stays) y z m k
    → Part face did gave (EachFirst (At x.conns) order j (stay ++ staying stays number)) x z n k
each_next At order i j number stay stays {x} front p q =
    part_less (each_then (At x.conns) order i j number stay stays front) (part_next (λ conns. At conns number stays) p q)

each_done : {C : Type 0} (At : ℕ → Bool → Around C → List Step → Around C → Type 0) (order : List ℕ) (i : ℕ) (stay : List ℕ)
    → drop i order ≡ [] → (a : Around C) (steps : List Step) (b : Around C) → EachFirst At order i stay a steps b → Each At order stay a steps b
each_done At order i stay all a steps b it =
    subst (λ (l : List ℕ). Each At l stay a steps b) (sym (it.1 ∙ ap (λ (l : List ℕ). it.0 ++ l) all ∙ append-nil it.0)) it.2

pub each_all : {C S : Type 0} {face : Face C} {did : S → Call → S → Type 0} {gave : S → ℕ → Type 0}
    (At : ℕ → Bool → Around C → List Step → Around C → Type 0) (order : List ℕ) (i : ℕ) (stay : List ℕ) {x y : Serving C} {n m : S}
    → drop i order ≡ [] → Part face did gave (EachFirst At order i stay) x y n m → Part face did gave (Each At order stay) x y n m
each_all At order i stay all p = part_less (each_done At order i stay all) p

some_number : (j k : ℕ) → Some j ≡ Some k → j ≡ k
some_number j k e = cc

front_suc : (xs : List ℕ) (i x : ℕ) → slice_get xs i ≡ Some x → drop i xs ≡ x ∷ drop (suc i) xs
front_suc [] i x e = cc
front_suc (y ∷ ys) zero x e = ap (λ t. t ∷ ys) (some_number y x e)
front_suc (y ∷ ys) (suc i) x e = front_suc ys i x e

pub slice_front : (xs : List ℕ) (i x : ℕ) → slice_get xs i ≡ Some x → drop i xs ≡ x ∷ drop (i + 1) xs
slice_front xs i x e = front_suc xs i x e ∙ ap (λ k. x ∷ drop k xs) (sym (add-one i))

-- one more of a list
pub each_one_of : {C S : Type 0} {face : Face C} {did : S → Call → S → Type 0} {gave : S → ℕ → Type 0}
    (At : ℕ → ℕ → Bool → Around C → List Step → Around C → Type 0) (order : List ℕ) (i : ℕ) (before after : List ℕ) {x y z : Serving C} {n m k : S}
    → Part face did gave (EachFirst (At x.conns) order i before) x y n m
    → OneOf (λ number stays. Part face did gave (At y.conns number stays) y z m k) order i before after
    → Part face did gave (EachFirst (At x.conns) order (i + 1) after) x z n k
each_one_of {face = face} {did = did} {gave = gave} At order i before after {x} {y} {z} {n} {m} {k} p q =
    subst (λ (stay : List ℕ). Part face did gave (EachFirst (At x.conns) order (i + 1) stay) x z n k) (sym q.kept)
    (each_next At order i (i + 1) q.number before q.stays (slice_front order i q.number q.is) p q.did)
