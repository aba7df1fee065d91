-- The escape of a text, in runs of bytes that need none.
use Rattle.std.proofs.Common.{◌≡◌, ℕ, suc, ◌+◌, ◌-◌, ◌<◌, ◌≤◌, Bool, true, false, not, cond, List}
use Rattle.std.proofs.Common.{[], ◌∷◌, ◌++◌, length, get_or, take, drop, sym, ap, refl, ◌∙◌, arith}
use Rattle.std.proofs.Common.{append_assoc}
use Rattle.std.specs.List.{flat_map, position_or_len}
use Rattle.std.proofs.lemmas.List.{append-nil, length-drop, get_or-drop, nil_from_length, take_rest}
use Rattle.std.proofs.lemmas.List.Sums.{passes_at_first}
use Rattle.px_bytes.specs.Escapes.{needs_escape, digits_escape, escaped_byte, escaped}

run_step : (f : ℕ → List ℕ) (b : Bool) (x n : ℕ) (xs : List ℕ) → (b ≡ false → f x ≡ x ∷ []) → flat_map f xs ≡ take n xs ++ flat_map f (drop n xs) → flat_map f (x ∷ xs) ≡ take (cond (not b) (1 + n) 0) (x ∷ xs) ++ flat_map f (drop (cond (not b) (1 + n) 0) (x ∷ xs))
run_step f true x n xs plain ih = refl
run_step f false x n xs plain ih =
    let s : 1 + n ≡ suc n = omega arith in
    rw s (ap (λ a. a ++ flat_map f xs) (plain refl) ∙ ap (λ t. x ∷ t) ih)

plain_byte : (x : ℕ) → needs_escape x ≡ false → escaped_byte x ≡ x ∷ []
plain_byte x e = ap (λ b. cond b (digits_escape x) (x ∷ [])) e

escaped_run : (xs : List ℕ) → escaped xs ≡ take (position_or_len needs_escape xs) xs ++ escaped (drop (position_or_len needs_escape xs) xs)
escaped_run [] = refl
escaped_run (x ∷ xs) = run_step escaped_byte (needs_escape x) x (position_or_len needs_escape xs) xs (plain_byte x) (escaped_run xs)

-- nothing is left behind the plain bytes
pub escaped_end : (rest other : List ℕ) → other ≡ drop (position_or_len needs_escape rest) rest → length other < 1 → escaped rest ≡ take (position_or_len needs_escape rest) rest
escaped_end rest other back over =
    let none : drop (position_or_len needs_escape rest) rest ≡ [] = sym back ∙ nil_from_length other (omega arith) in
    escaped_run rest ∙ ap (λ t. take (position_or_len needs_escape rest) rest ++ escaped t) none ∙ append-nil _

stops_at : (rest after : List ℕ) (byte : ℕ) → drop (position_or_len needs_escape rest) rest ≡ byte ∷ after → needs_escape byte ≡ true
stops_at rest after byte split =
    let k = position_or_len needs_escape rest in
    let some : k < length rest = omega (arith, length-drop k rest, ap length split) in
    let here : get_or rest (k + 0) 0 ≡ byte = sym (get_or-drop k rest 0 0) ∙ ap (λ t. get_or t 0 0) split in
    let same : k + 0 ≡ k = omega arith in
    ap needs_escape (sym here ∙ ap (λ i. get_or rest i 0) same) ∙ passes_at_first needs_escape rest 0 some

turn : (rest after : List ℕ) (byte : ℕ) → byte ∷ after ≡ drop (position_or_len needs_escape rest) rest → escaped rest ≡ take (position_or_len needs_escape rest) rest ++ (digits_escape byte ++ escaped after)
turn rest after byte back =
    escaped_run rest ∙ ap (λ t. take (position_or_len needs_escape rest) rest ++ escaped t) (sym back) ∙ ap (λ b. take (position_or_len needs_escape rest) rest ++ (cond b (digits_escape byte) (byte ∷ []) ++ escaped after)) (stops_at rest after byte (sym back))

-- behind the plain bytes stands one that needs an escape
pub escaped_turn : (rest other : List ℕ) → other ≡ drop (position_or_len needs_escape rest) rest → 1 ≤ length other → escaped rest ≡ take (position_or_len needs_escape rest) rest ++ (digits_escape (get_or other 0 0) ++ escaped (take (length other - 1) (drop 1 other)))
escaped_turn rest [] back some = absurd (omega arith)
escaped_turn rest (byte ∷ after) back some = rw (take_rest (byte ∷ after) 1) (turn rest after byte back)

-- two pieces are added, and the tail is still to come
pub two_added : (out front middle tail whole once twice : List ℕ) → once ≡ out ++ front → twice ≡ once ++ middle → out ++ (front ++ (middle ++ tail)) ≡ whole → twice ++ tail ≡ whole
two_added out front middle tail whole once twice e f g =
    ap (λ t. t ++ tail) (f ∙ ap (λ t. t ++ middle) e) ∙ append_assoc (out ++ front) middle tail ∙ append_assoc out front (middle ++ tail) ∙ g
