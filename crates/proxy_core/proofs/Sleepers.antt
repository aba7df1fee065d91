-- The calls that sleep: those that the code holds, and the one that the state has of each connection.
use Rattle.std.proofs.Common.{◌≡◌, refl, sym, ap, ◌∙◌, ℕ, List, [], ◌∷◌, ◌++◌, append-nil, map, Bool, true, false, not, nat_eq, Option, Some, None, if◌then◌else◌}
use Rattle.std.specs.List.{filter}
use Rattle.std.proofs.lemmas.List.Elements.{filter-append}
use Rattle.conn.specs.declared.turn.ConnTurn.{ConnTurn}
use Rattle.conn.specs.declared.turn.ConnTurn.TheVariants as turn
use Rattle.record_model.specs.Clock.{is_due}
use Rattle.proxy_core.specs.Calls.{as_asked, calls_of, falls_asleep, sleepers_behind, sleepers_of, sleeping_on, sleeps, without_sleepers, woken_calls}
use Rattle.proxy_core.specs.Moves.{asleep_behind, sleeps_on, wakes}
use Rattle.proxy_core.specs.Represents.{AgreesAsleep, listed}
use Rattle.proxy_core.specs.Scheduler.{State, called_by, open_calls, with_asleep}
use Rattle.proxy_core.specs.declared.call.Asked.{Asked}
use Rattle.proxy_core.specs.declared.call.Asleep.{Asleep}
use Rattle.proxy_core.proofs.Entries.{calls_joined}
use Rattle.proxy_core.proofs.Members.{eq_same, eq_self, eq_turned}

sleepers_without_self : (c : ℕ) (held : List Asleep) → sleepers_of c (without_sleepers c held) ≡ []
sleepers_without_self c [] = refl
sleepers_without_self c (a ∷ held) = by_test (nat_eq c a.conn) refl (sleepers_without_self c held)
  where
    by_test : (b : Bool) → nat_eq c a.conn ≡ b → sleepers_of c (without_sleepers c held) ≡ [] → sleepers_of c (if not b then a ∷ without_sleepers c held else without_sleepers c held) ≡ []
    by_test true e k = k
    by_test false e k = rw e k

pub sleepers_without : (c q : ℕ) (held : List Asleep) → nat_eq q c ≡ false → sleepers_of q (without_sleepers c held) ≡ sleepers_of q held
sleepers_without c q [] h = refl
sleepers_without c q (a ∷ held) h = by_test (nat_eq c a.conn) refl (sleepers_without c q held h)
  where
    by_test : (b : Bool) → nat_eq c a.conn ≡ b → sleepers_of q (without_sleepers c held) ≡ sleepers_of q held → sleepers_of q (if not b then a ∷ without_sleepers c held else without_sleepers c held) ≡ (if nat_eq q a.conn then a ∷ sleepers_of q held else sleepers_of q held)
    by_test true e k = k ∙ ap (λ b. if b then a ∷ sleepers_of q held else sleepers_of q held) (sym (ap (nat_eq q) (sym (eq_same c a.conn e)) ∙ h))
    by_test false e k = ap (λ r. if nat_eq q a.conn then a ∷ r else r) k

-- one that found no memory sleeps no more
pub forgotten : (c : ℕ) (asleep : ℕ → Option Asleep) (held : List Asleep) → AgreesAsleep asleep held → AgreesAsleep (with_asleep c None asleep) (without_sleepers c held)
forgotten c asleep held h q = by_test (nat_eq c q) refl
  where
    by_test : (b : Bool) → nat_eq c q ≡ b → sleepers_of q (without_sleepers c held) ≡ listed (if b then None else asleep q)
    by_test true e = ap (λ n. sleepers_of n (without_sleepers c held)) (sym (eq_same c q e)) ∙ sleepers_without_self c held
    by_test false e = sleepers_without c q held (eq_turned c q e) ∙ h q

-- nothing changes of one that stays
pub stays_asleep : (c : ℕ) (o : Option Asleep) (asleep : ℕ → Option Asleep) (held : List Asleep) → asleep c ≡ o → AgreesAsleep asleep held → AgreesAsleep (with_asleep c o asleep) held
stays_asleep c o asleep held is h q = by_test (nat_eq c q) refl
  where
    by_test : (b : Bool) → nat_eq c q ≡ b → sleepers_of q held ≡ listed (if b then o else asleep q)
    by_test true e = h q ∙ ap (λ n. listed (asleep n)) (sym (eq_same c q e)) ∙ ap listed is
    by_test false e = h q

-- a call falls asleep
pub falls : (c : ℕ) (a : Asleep) (asleep : ℕ → Option Asleep) (held : List Asleep) → a.conn ≡ c → asleep c ≡ None → AgreesAsleep asleep held → AgreesAsleep (with_asleep c (Some a) asleep) (held ++ a ∷ [])
falls c a asleep held of_c none h q = filter-append (λ x. nat_eq q x.conn) held (a ∷ []) ∙ by_test (nat_eq c q) refl
  where
    by_test : (b : Bool) → nat_eq c q ≡ b → sleepers_of q held ++ sleepers_of q (a ∷ []) ≡ listed (if b then Some a else asleep q)
    by_test true e =
        ap (λ x. x ++ sleepers_of q (a ∷ [])) (h q ∙ ap (λ n. listed (asleep n)) (sym (eq_same c q e)) ∙ ap listed none)
        ∙ ap (λ b. if b then a ∷ [] else []) (ap (λ n. nat_eq n a.conn) (sym (eq_same c q e)) ∙ ap (nat_eq c) of_c ∙ eq_self c)
    by_test false e =
        ap (λ b. sleepers_of q held ++ (if b then a ∷ [] else [])) (ap (nat_eq q) of_c ∙ eq_turned c q e) ∙ append-nil (sleepers_of q held) ∙ h q

-- behind a Run
pub asleep_ran : (t : ConnTurn) (c moment : ℕ) (asleep : ℕ → Option Asleep) (held : List Asleep) → asleep c ≡ None → AgreesAsleep asleep held
    → AgreesAsleep (with_asleep c (asleep_behind t c moment (asleep c)) asleep) (sleepers_behind t c moment held)
asleep_ran turn.More c moment asleep held none h = stays_asleep c (asleep c) asleep held refl h
asleep_ran turn.NotYet c moment asleep held none h = stays_asleep c (asleep c) asleep held refl h
asleep_ran turn.Over c moment asleep held none h = stays_asleep c (asleep c) asleep held refl h
asleep_ran (turn.Asks call) c moment asleep held none h = by_test (sleeps call)
  where
    by_test : (b : Bool) → AgreesAsleep (with_asleep c (if b then Some (falls_asleep c moment call) else asleep c) asleep) (if b then held ++ falls_asleep c moment call ∷ [] else held)
    by_test true = falls c (falls_asleep c moment call) asleep held refl none h
    by_test false = stays_asleep c (asleep c) asleep held refl h

-- ---- a Tick

filters_swap : {A : Type 0} (p r : A → Bool) (xs : List A) → filter p (filter r xs) ≡ filter r (filter p xs)
filters_swap p r [] = refl
filters_swap {A} p r (x ∷ xs) = by_tests (p x) (r x) refl refl (filters_swap p r xs)
  where
    by_tests : (b d : Bool) → p x ≡ b → r x ≡ d → filter p (filter r xs) ≡ filter r (filter p xs) → filter p (if d then x ∷ filter r xs else filter r xs) ≡ filter r (if b then x ∷ filter p xs else filter p xs)
    by_tests true true e f k = rw (e, f) (ap (λ ys. x ∷ ys) k)
    by_tests true false e f k = rw f k
    by_tests false true e f k = rw e k
    by_tests false false e f k = k

-- those that aren't due sleep on
pub asleep_ticked : (moment : ℕ) (asleep : ℕ → Option Asleep) (held : List Asleep) → AgreesAsleep asleep held → AgreesAsleep (λ c. sleeps_on moment (asleep c)) (sleeping_on moment held)
asleep_ticked moment asleep held h q =
    filters_swap (λ a. nat_eq q a.conn) (λ a. not (is_due moment a.due)) held ∙ ap (filter (λ a. not (is_due moment a.due))) (h q) ∙ one (asleep q)
  where
    by_due : (a : Asleep) (b : Bool) → (if not b then a ∷ [] else []) ≡ listed (if b then None else Some a)
    by_due a true = refl
    by_due a false = refl

    one : (o : Option Asleep) → filter (λ a. not (is_due moment a.due)) (listed o) ≡ listed (sleeps_on moment o)
    one None = refl
    one (Some a) = by_due a (is_due moment a.due)

calls_asked : (q : ℕ) (held : List Asleep) → calls_of q (map as_asked held) ≡ map (λ a. a.call) (sleepers_of q held)
calls_asked q [] = refl
calls_asked q (a ∷ held) = by_test (nat_eq q a.conn) (calls_asked q held)
  where
    by_test : (b : Bool) → calls_of q (map as_asked held) ≡ map (λ x. x.call) (sleepers_of q held)
        → (if b then a.call ∷ calls_of q (map as_asked held) else calls_of q (map as_asked held)) ≡ map (λ x. x.call) (if b then a ∷ sleepers_of q held else sleepers_of q held)
    by_test true k = ap (λ r. a.call ∷ r) k
    by_test false k = k

-- those that are due come to the queue
pub woken_asked : (moment : ℕ) (asleep : ℕ → Option Asleep) (held : List Asleep) → AgreesAsleep asleep held → (q : ℕ) → calls_of q (woken_calls moment held) ≡ called_by (wakes moment (asleep q))
woken_asked moment asleep held h q =
    calls_asked q (filter (λ a. is_due moment a.due) held)
    ∙ ap (map (λ a. a.call)) (filters_swap (λ a. nat_eq q a.conn) (λ a. is_due moment a.due) held ∙ ap (filter (λ a. is_due moment a.due)) (h q)) ∙ one (asleep q)
  where
    by_due : (a : Asleep) (b : Bool) → map (λ x. x.call) (if b then a ∷ [] else []) ≡ called_by (if b then Some a else None)
    by_due a true = refl
    by_due a false = refl

    one : (o : Option Asleep) → map (λ a. a.call) (filter (λ a. is_due moment a.due) (listed o)) ≡ called_by (wakes moment o)
    one None = refl
    one (Some a) = by_due a (is_due moment a.due)

-- all open calls that the code holds, in the queue and asleep
abbrev pub all_held : List Asked → List Asleep → List Asked
all_held queue held = queue ++ map as_asked held

listed_calls : (o : Option Asleep) → map (λ a. a.call) (listed o) ≡ called_by o
listed_calls None = refl
listed_calls (Some a) = refl

pub held_open : (s : State) (queue : List Asked) (held : List Asleep) → queue ≡ s.queue → AgreesAsleep s.asleep held → (q : ℕ) → calls_of q (all_held queue held) ≡ open_calls q s
held_open s queue held is h q =
    calls_joined q queue (map as_asked held) ∙ ap (λ x. calls_of q x ++ calls_of q (map as_asked held)) is
    ∙ ap (λ x. calls_of q s.queue ++ x) (calls_asked q held ∙ ap (map (λ a. a.call)) (h q) ∙ listed_calls (s.asleep q))
