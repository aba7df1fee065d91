-- The least moment at which a call wakes: over the calls that the code holds, and over the live connections.
use Rattle.std.proofs.Common.{◌≡◌, refl, sym, ap, ◌∙◌, ℕ, zero, suc, ◌+◌, ◌≤◌, min, List, [], ◌∷◌, ◌++◌, drop, length, Bool, true, false, not, ◌||◌, nat_eq, Option, Some, None, if◌then◌else◌, arith}
use Rattle.std.specs.List.{filter}
use Rattle.std.specs.Prelude.{slice_get}
use Rattle.record_model.specs.Past.{Past, shared}
use Rattle.run_config.specs.declared.config.Config.{Config}
use Rattle.std.proofs.lemmas.List.{drop_all}
use Rattle.proxy_core.specs.Asked.{due_of, due_until, least, lesser, next_due_of}
use Rattle.proxy_core.specs.Calls.{calls_of, is_any, sleepers_of, without_sleepers}
use Rattle.proxy_core.specs.Ready.{is_in}
use Rattle.proxy_core.specs.Represents.{AgreesAsleep, Represents, listed}
use Rattle.proxy_core.specs.Scheduler.{State, called_by, seen, with_asleep}
use Rattle.proxy_core.specs.declared.call.Asleep.{Asleep}
use Rattle.proxy_core.specs.declared.core_state.Core.{Core}
use Rattle.proxy_core.proofs.Counting.{sound_few}
use Rattle.proxy_core.proofs.Members.{eq_same, eq_self, eq_turned}
use Rattle.proxy_core.proofs.Sleepers.{forgotten, sleepers_without}

-- ---- the lesser of two

pub lesser_none : (x : Option ℕ) → lesser x None ≡ x
lesser_none None = refl
lesser_none (Some m) = refl

pub lesser_assoc : (x y z : Option ℕ) → lesser (lesser x y) z ≡ lesser x (lesser y z)
lesser_assoc None y z = refl
lesser_assoc (Some m) None z = refl
lesser_assoc (Some m) (Some n) None = refl
lesser_assoc (Some m) (Some n) (Some k) = let e : min (min m n) k ≡ min m (min n k) = omega arith in ap (λ x. Some x) e

lesser_turned : (x y : Option ℕ) → lesser x y ≡ lesser y x
lesser_turned None None = refl
lesser_turned None (Some n) = refl
lesser_turned (Some m) None = refl
lesser_turned (Some m) (Some n) = let e : min m n ≡ min n m = omega arith in ap (λ x. Some x) e

lesser_self : (x : Option ℕ) → lesser x x ≡ x
lesser_self None = refl
lesser_self (Some m) = let e : min m m ≡ m = omega arith in ap (λ x. Some x) e

-- the second goes to the front
lesser_front : (x y z : Option ℕ) → lesser x (lesser y z) ≡ lesser y (lesser x z)
lesser_front x y z = sym (lesser_assoc x y z) ∙ ap (λ w. lesser w z) (lesser_turned x y) ∙ lesser_assoc y x z

-- ---- the least of a list

-- in two parts
least_parted : {A : Type 0} (due : A → Option ℕ) (test : A → Bool) (xs : List A) → least due xs ≡ lesser (least due (filter test xs)) (least due (filter (λ x. not (test x)) xs))
least_parted due test [] = refl
least_parted {A} due test (x ∷ xs) = ap (lesser (due x)) (least_parted due test xs) ∙ by_test (test x)
  where
    some : Option ℕ
    some = least due (filter test xs)

    others : Option ℕ
    others = least due (filter (λ y. not (test y)) xs)

    by_test : (b : Bool) → lesser (due x) (lesser some others) ≡ lesser (least due (if b then x ∷ filter test xs else filter test xs)) (least due (if not b then x ∷ filter (λ y. not (test y)) xs else filter (λ y. not (test y)) xs))
    by_test true = sym (lesser_assoc (due x) some others)
    by_test false = lesser_front (due x) some others

least_listed : (o : Option Asleep) → least (λ (a : Asleep). due_until a.due) (listed o) ≡ due_of o
least_listed None = refl
least_listed (Some a) = lesser_none (due_until a.due)

-- without one that is counted before it is the same
least_without : (n : ℕ) (asleep : ℕ → Option Asleep) (live : List ℕ) → lesser (due_of (asleep n)) (least (λ c. due_of (with_asleep n None asleep c)) live) ≡ lesser (due_of (asleep n)) (least (λ c. due_of (asleep c)) live)
least_without n asleep [] = refl
least_without n asleep (c ∷ live) = by_test (nat_eq n c) refl (least_without n asleep live)
  where
    mine : Option ℕ
    mine = due_of (asleep n)

    rest : Option ℕ
    rest = least (λ q. due_of (asleep q)) live

    by_test : (b : Bool) → nat_eq n c ≡ b → lesser mine (least (λ q. due_of (with_asleep n None asleep q)) live) ≡ lesser mine rest
        → lesser mine (lesser (due_of (if b then None else asleep c)) (least (λ q. due_of (with_asleep n None asleep q)) live)) ≡ lesser mine (lesser (due_of (asleep c)) rest)
    by_test true e k = k ∙ ap (λ w. lesser w rest) (sym (lesser_self mine)) ∙ lesser_assoc mine mine rest ∙ ap (λ q. lesser mine (lesser (due_of (asleep q)) rest)) (eq_same n c e)
    by_test false e k = lesser_front mine (due_of (asleep c)) _ ∙ ap (lesser (due_of (asleep c))) k ∙ lesser_front (due_of (asleep c)) mine rest

-- whoever sleeps is among these
abbrev AllAmong : List ℕ → List Asleep → Type 0
AllAmong live held = (q : ℕ) → is_any (sleepers_of q held) ≡ true → is_in live q ≡ true

front_sleeps : (a : Asleep) (held : List Asleep) → is_any (sleepers_of a.conn (a ∷ held)) ≡ true
front_sleeps a held = ap (λ b. is_any (if b then a ∷ sleepers_of a.conn held else sleepers_of a.conn held)) (eq_self a.conn)

rest_among : (n : ℕ) (live : List ℕ) (asleep : ℕ → Option Asleep) (held : List Asleep) → AgreesAsleep asleep held → AllAmong (n ∷ live) held → AllAmong live (without_sleepers n held)
rest_among n live asleep held h among q there = by_test (nat_eq n q) refl
  where
    by_or : (b : Bool) → b ≡ false → (b || is_in live q) ≡ true → is_in live q ≡ true
    by_or true e k = cc
    by_or false e k = k

    by_test : (b : Bool) → nat_eq n q ≡ b → is_in live q ≡ true
    by_test true e =
        let none : sleepers_of q (without_sleepers n held) ≡ [] = forgotten n asleep held h q ∙ ap (λ b. listed (if b then None else asleep q)) e in
        absurd (let x : false ≡ true = sym (ap is_any none) ∙ there in cc)
    by_test false e = by_or (nat_eq q n) (eq_turned n q e) (among q (sym (ap is_any (sleepers_without n q held (eq_turned n q e))) ∙ there))

least_among : (live : List ℕ) (asleep : ℕ → Option Asleep) (held : List Asleep) → AgreesAsleep asleep held → AllAmong live held → least (λ (a : Asleep). due_until a.due) held ≡ least (λ c. due_of (asleep c)) live
least_among [] asleep [] h among = refl
least_among [] asleep (a ∷ held) h among = absurd (let x : false ≡ true = among a.conn (front_sleeps a held) in cc)
least_among (n ∷ live) asleep held h among =
    let due : Asleep → Option ℕ = λ a. due_until a.due in
    let rest = least_among live (with_asleep n None asleep) (without_sleepers n held) (forgotten n asleep held h) (rest_among n live asleep held h among) in
    least_parted due (λ a. nat_eq n a.conn) held ∙ ap (λ xs. lesser (least due xs) (least due (without_sleepers n held))) (h n) ∙ ap (λ x. lesser x (least due (without_sleepers n held))) (least_listed (asleep n))
    ∙ ap (lesser (due_of (asleep n))) rest ∙ least_without n asleep live

-- ---- of a core

listed_open : (calls : List (List (List ℕ))) (o : Option Asleep) → is_any (listed o) ≡ true → is_any (calls ++ called_by o) ≡ true
listed_open [] None e = cc
listed_open [] (Some a) e = refl
listed_open (call ∷ calls) o e = refl

pub next_due_same : (C : Config) (past : Past) (s : State) (core : Core) (o : Option ℕ) → o ≡ least (λ (a : Asleep). due_until a.due) core.queue.asleep → Represents C past s core → o ≡ next_due_of C past s
next_due_same C past s core o e r =
    e ∙ least_among (shared past).live s.asleep core.queue.asleep r.agrees.asleep
    (λ q there. (sound_few C q (seen past s q) (r.sound.each q)).1 (listed_open (calls_of q s.queue) (s.asleep q) (sym (ap is_any (r.agrees.asleep q)) ∙ there)))

-- ---- the loop

drop_first : {A : Type 0} (xs : List A) (n : ℕ) (x : A) → slice_get xs n ≡ Some x → drop n xs ≡ x ∷ drop (n + 1) xs
drop_first [] zero x e = absurd (cc)
drop_first [] (suc n) x e = absurd (cc)
drop_first (y ∷ xs) zero x e = let same : y ≡ x = cc in ap (λ z. z ∷ xs) same
drop_first (y ∷ xs) (suc n) x e =
    let more : suc n + 1 ≡ suc (n + 1) = omega arith in
    drop_first xs n x e ∙ ap (λ r. x ∷ r) (sym (ap (λ k. drop k (y ∷ xs)) more))

pub least_next : {A : Type 0} (due : A → Option ℕ) (xs : List A) (at : ℕ) (x : A) (found : Option ℕ) → slice_get xs at ≡ Some x → least due xs ≡ lesser found (least due (drop at xs)) → least due xs ≡ lesser (lesser found (due x)) (least due (drop (at + 1) xs))
least_next due xs at x found there e = e ∙ ap (λ l. lesser found (least due l)) (drop_first xs at x there) ∙ sym (lesser_assoc found (due x) (least due (drop (at + 1) xs)))

-- all were gone through
pub least_last : {A : Type 0} (due : A → Option ℕ) (xs : List A) (at : ℕ) (found : Option ℕ) → length xs ≤ at → least due xs ≡ lesser found (least due (drop at xs)) → found ≡ least due xs
least_last due xs at found over e = sym (e ∙ ap (λ l. lesser found (least due l)) (drop_all at xs over) ∙ lesser_none found)
