-- The entries of a number in a ring that changed.
use Rattle.std.proofs.Common.{◌≡◌, refl, sym, ap, ◌∙◌, ℕ, Option, Some, None, List, [], ◌∷◌, ◌++◌, Bool, true, false, not, ◌||◌, nat_eq, if◌then◌else◌, append-nil}
use Rattle.std.proofs.lemmas.List.Elements.{filter-append}
use Rattle.conn.specs.declared.turn.ConnTurn.{ConnTurn}
use Rattle.conn.specs.declared.turn.ConnTurn.TheVariants as turn
use Rattle.proxy_core.specs.Calls.{calls_of, calls_with, falls_asleep, queue_behind, sleeps, without_calls, woken}
use Rattle.proxy_core.specs.Moves.{asleep_behind, ran}
use Rattle.conn_trace.specs.Item.{Item}
use Rattle.proxy_core.specs.Ready.{is_in, ring_behind, without, with_ready}
use Rattle.proxy_core.specs.declared.call.Asked.{Asked}
use Rattle.proxy_core.specs.declared.call.Asleep.{Asleep}
use Rattle.proxy_core.specs.Scheduler.{State, called_by, entries, open_calls, with_asleep}
use Rattle.proxy_core.proofs.Members.{eq_self, eq_same}

pub entries_pushed_self : (n : ℕ) (ns : List ℕ) → entries n (ns ++ n ∷ []) ≡ entries n ns ++ n ∷ []
entries_pushed_self n ns = filter-append (nat_eq n) ns (n ∷ []) ∙ rw (eq_self n) refl

pub entries_pushed : (n q : ℕ) (ns : List ℕ) → nat_eq q n ≡ false → entries q (ns ++ n ∷ []) ≡ entries q ns
entries_pushed n q ns h = filter-append (nat_eq q) ns (n ∷ []) ∙ rw h (append-nil (entries q ns))

pub entries_rest : (n q : ℕ) (rest : List ℕ) → nat_eq q n ≡ false → entries q rest ≡ entries q (n ∷ rest)
entries_rest n q rest h = rw h refl

-- one entry less
abbrev pub rest_of : List ℕ → List ℕ
rest_of [] = []
rest_of (n ∷ ns) = ns

pub entries_without_self : (n : ℕ) (ns : List ℕ) → entries n (without n ns) ≡ rest_of (entries n ns)
entries_without_self n [] = refl
entries_without_self n (m ∷ ns) = by_test (nat_eq n m) refl (entries_without_self n ns)
  where
    by_test : (b : Bool) → nat_eq n m ≡ b → entries n (without n ns) ≡ rest_of (entries n ns) → entries n (if b then ns else m ∷ without n ns) ≡ rest_of (if b then m ∷ entries n ns else entries n ns)
    by_test true e k = refl
    by_test false e k = rw e k

pub entries_without : (n q : ℕ) (ns : List ℕ) → nat_eq q n ≡ false → entries q (without n ns) ≡ entries q ns
entries_without n q [] h = refl
entries_without n q (m ∷ ns) h = by_test (nat_eq n m) refl (entries_without n q ns h)
  where
    by_test : (b : Bool) → nat_eq n m ≡ b → entries q (without n ns) ≡ entries q ns → entries q (if b then ns else m ∷ without n ns) ≡ entries q (m ∷ ns)
    by_test true e k = entries_rest m q ns (ap (nat_eq q) (sym (eq_same n m e)) ∙ h)
    by_test false e k = ap (λ r. if nat_eq q m then m ∷ r else r) k

abbrev pub any_of : List ℕ → Bool
any_of [] = false
any_of (n ∷ ns) = true

in_entries : (n : ℕ) (ns : List ℕ) → is_in ns n ≡ any_of (entries n ns)
in_entries n [] = refl
in_entries n (m ∷ ns) = by_test (nat_eq n m) (in_entries n ns)
  where
    by_test : (b : Bool) → is_in ns n ≡ any_of (entries n ns) → (b || is_in ns n) ≡ any_of (if b then m ∷ entries n ns else entries n ns)
    by_test true k = refl
    by_test false k = k

-- an entry, unless there is one
abbrev pub ready_of : ℕ → List ℕ → List ℕ
ready_of n [] = n ∷ []
ready_of n (m ∷ ms) = m ∷ ms

pub entries_ready_self : (n : ℕ) (ns : List ℕ) → entries n (with_ready ns n) ≡ ready_of n (entries n ns)
entries_ready_self n ns = ap (λ b. entries n (if b then ns else ns ++ n ∷ [])) (in_entries n ns) ∙ by_entries (entries n ns) refl
  where
    by_entries : (es : List ℕ) → entries n ns ≡ es → entries n (if any_of es then ns else ns ++ n ∷ []) ≡ ready_of n es
    by_entries [] e = entries_pushed_self n ns ∙ ap (λ r. r ++ n ∷ []) e
    by_entries (m ∷ ms) e = e

pub entries_ready : (n q : ℕ) (ns : List ℕ) → nat_eq q n ≡ false → entries q (with_ready ns n) ≡ entries q ns
entries_ready n q ns h = by_test (is_in ns n)
  where
    by_test : (b : Bool) → entries q (if b then ns else ns ++ n ∷ []) ≡ entries q ns
    by_test true = refl
    by_test false = entries_pushed n q ns h

-- where the front is put behind its Run
abbrev pub ready_behind : ConnTurn → ℕ → List ℕ
ready_behind turn.More n = n ∷ []
ready_behind other n = []

pub entries_behind_self : (t : ConnTurn) (n : ℕ) (ns : List ℕ) → entries n ns ≡ [] → entries n (ring_behind t n ns) ≡ ready_behind t n
entries_behind_self turn.More n ns e = entries_ready_self n ns ∙ ap (ready_of n) e
entries_behind_self (turn.Asks call) n ns e = e
entries_behind_self turn.NotYet n ns e = e
entries_behind_self turn.Over n ns e = e

pub entries_behind : (t : ConnTurn) (n q : ℕ) (ns : List ℕ) → nat_eq q n ≡ false → entries q (ring_behind t n ns) ≡ entries q ns
entries_behind turn.More n q ns h = entries_ready n q ns h
entries_behind (turn.Asks call) n q ns h = refl
entries_behind turn.NotYet n q ns h = refl
entries_behind turn.Over n q ns h = refl

-- the calls of a number in a queue that changed
pub calls_pushed : (n q : ℕ) (call : List (List ℕ)) (queue : List Asked) → nat_eq q n ≡ false → calls_of q (queue ++ record { conn = n; call = call } ∷ []) ≡ calls_of q queue
calls_pushed n q call [] h = rw h refl
calls_pushed n q call (a ∷ queue) h = ap (λ r. if nat_eq q a.conn then a.call ∷ r else r) (calls_pushed n q call queue h)

pub calls_pushed_self : (n : ℕ) (call : List (List ℕ)) (queue : List Asked) → calls_of n (queue ++ record { conn = n; call = call } ∷ []) ≡ calls_of n queue ++ call ∷ []
calls_pushed_self n call [] = rw (eq_self n) refl
calls_pushed_self n call (a ∷ queue) = by_test (nat_eq n a.conn) (calls_pushed_self n call queue)
  where
    by_test : (b : Bool) → calls_of n (queue ++ record { conn = n; call = call } ∷ []) ≡ calls_of n queue ++ call ∷ []
        → (if b then a.call ∷ calls_of n (queue ++ record { conn = n; call = call } ∷ []) else calls_of n (queue ++ record { conn = n; call = call } ∷ [])) ≡ (if b then a.call ∷ calls_of n queue else calls_of n queue) ++ call ∷ []
    by_test true k = ap (λ r. a.call ∷ r) k
    by_test false k = k

pub calls_joined : (q : ℕ) (some more : List Asked) → calls_of q (some ++ more) ≡ calls_of q some ++ calls_of q more
calls_joined q [] more = refl
calls_joined q (a ∷ some) more = by_test (nat_eq q a.conn) (calls_joined q some more)
  where
    by_test : (b : Bool) → calls_of q (some ++ more) ≡ calls_of q some ++ calls_of q more → (if b then a.call ∷ calls_of q (some ++ more) else calls_of q (some ++ more)) ≡ (if b then a.call ∷ calls_of q some else calls_of q some) ++ calls_of q more
    by_test true k = ap (λ r. a.call ∷ r) k
    by_test false k = k

pub calls_rest : (q : ℕ) (a : Asked) (rest : List Asked) → nat_eq q a.conn ≡ false → calls_of q rest ≡ calls_of q (a ∷ rest)
calls_rest q a rest h = rw h refl

pub calls_front : (a : Asked) (rest : List Asked) → calls_of a.conn (a ∷ rest) ≡ a.call ∷ calls_of a.conn rest
calls_front a rest = rw (eq_self a.conn) refl

pub calls_without : (n q : ℕ) (queue : List Asked) → nat_eq q n ≡ false → calls_of q (without_calls n queue) ≡ calls_of q queue
calls_without n q [] h = refl
calls_without n q (a ∷ queue) h = by_test (nat_eq n a.conn) refl (calls_without n q queue h)
  where
    by_test : (b : Bool) → nat_eq n a.conn ≡ b → calls_of q (without_calls n queue) ≡ calls_of q queue → calls_of q (if not b then a ∷ without_calls n queue else without_calls n queue) ≡ (if nat_eq q a.conn then a.call ∷ calls_of q queue else calls_of q queue)
    by_test true e k = k ∙ calls_rest q a queue (ap (nat_eq q) (sym (eq_same n a.conn e)) ∙ h)
    by_test false e k = ap (λ r. if nat_eq q a.conn then a.call ∷ r else r) k

pub calls_without_self : (n : ℕ) (queue : List Asked) → calls_of n (without_calls n queue) ≡ []
calls_without_self n [] = refl
calls_without_self n (a ∷ queue) = by_test (nat_eq n a.conn) refl (calls_without_self n queue)
  where
    by_test : (b : Bool) → nat_eq n a.conn ≡ b → calls_of n (without_calls n queue) ≡ [] → calls_of n (if not b then a ∷ without_calls n queue else without_calls n queue) ≡ []
    by_test true e k = k
    by_test false e k = rw e k

-- without any it is the same
pub none_without : (n : ℕ) (queue : List Asked) → calls_of n queue ≡ [] → without_calls n queue ≡ queue
none_without n [] h = refl
none_without n (a ∷ queue) h = by_test (nat_eq n a.conn) h (none_without n queue)
  where
    by_test : (b : Bool) → (if b then a.call ∷ calls_of n queue else calls_of n queue) ≡ [] → (calls_of n queue ≡ [] → without_calls n queue ≡ queue) → (if not b then a ∷ without_calls n queue else without_calls n queue) ≡ a ∷ queue
    by_test true k rest = cc
    by_test false k rest = ap (λ as'. a ∷ as') (rest k)

-- where a Run puts a call
calls_with_other : (n q : ℕ) (call : List (List ℕ)) (queue : List Asked) → nat_eq q n ≡ false → calls_of q (calls_with n call queue) ≡ calls_of q queue
calls_with_other n q call queue h = by_test (sleeps call)
  where
    by_test : (b : Bool) → calls_of q (if b then queue else queue ++ record { conn = n; call = call } ∷ []) ≡ calls_of q queue
    by_test true = refl
    by_test false = calls_pushed n q call queue h

pub calls_behind : (t : ConnTurn) (n q : ℕ) (queue : List Asked) → nat_eq q n ≡ false → calls_of q (queue_behind t n queue) ≡ calls_of q queue
calls_behind turn.More n q queue h = refl
calls_behind (turn.Asks call) n q queue h = calls_with_other n q call queue h
calls_behind turn.NotYet n q queue h = refl
calls_behind turn.Over n q queue h = refl

abbrev pub asked_behind : ConnTurn → List (List (List ℕ))
asked_behind (turn.Asks call) = call ∷ []
asked_behind other = []

-- a call that sleeps is no less open than one in the queue
none_open : (calls : List (List (List ℕ))) (o : Option Asleep) → calls ++ called_by o ≡ [] → (calls ≡ []) × (o ≡ None)
none_open [] None e = (refl, refl)
none_open [] (Some a) e = cc
none_open (call ∷ calls) o e = cc

pub open_none : (c : ℕ) (s : State) → open_calls c s ≡ [] → (calls_of c s.queue ≡ []) × (s.asleep c ≡ None)
open_none c s e = none_open (calls_of c s.queue) (s.asleep c) e

-- the open calls behind a Run, by its queue and its call that sleeps
abbrev pub open_with : ℕ → List Asked → Option Asleep → List (List (List ℕ))
open_with n queue o = calls_of n queue ++ called_by o

pub open_behind_self : (t : ConnTurn) (n moment : ℕ) (queue : List Asked) (o : Option Asleep) → open_with n queue o ≡ [] → open_with n (queue_behind t n queue) (asleep_behind t n moment o) ≡ asked_behind t
open_behind_self turn.More n moment queue o e = e
open_behind_self (turn.Asks call) n moment queue o e = by_test (sleeps call)
  where
    none : (calls_of n queue ≡ []) × (o ≡ None)
    none = none_open (calls_of n queue) o e

    by_test : (b : Bool) → open_with n (if b then queue else queue ++ record { conn = n; call = call } ∷ []) (if b then Some (falls_asleep n moment call) else o) ≡ call ∷ []
    by_test true = ap (λ x. x ++ call ∷ []) none.0
    by_test false = ap (λ x. x ++ called_by o) (calls_pushed_self n call queue ∙ ap (λ x. x ++ call ∷ []) none.0) ∙ ap (λ x. call ∷ called_by x) none.1
open_behind_self turn.NotYet n moment queue o e = e
open_behind_self turn.Over n moment queue o e = e

-- the front of the queue is open
pub open_front : (a : Asked) (rest : List Asked) (s : State) → s.queue ≡ a ∷ rest → open_calls a.conn s ≡ a.call ∷ open_with a.conn rest (s.asleep a.conn)
open_front a rest s e = ap (λ q. open_with a.conn q (s.asleep a.conn)) e ∙ ap (λ x. x ++ called_by (s.asleep a.conn)) (calls_front a rest)

-- another call that sleeps
pub asleep_other : (c q : ℕ) (o : Option Asleep) (asleep : ℕ → Option Asleep) → nat_eq c q ≡ false → with_asleep c o asleep q ≡ asleep q
asleep_other c q o asleep h = rw h refl

pub asleep_self : (c : ℕ) (o : Option Asleep) (asleep : ℕ → Option Asleep) → with_asleep c o asleep c ≡ o
asleep_self c o asleep = rw (eq_self c) refl

-- behind a Run that found none
pub ran_open : (t : ConnTurn) (c moment : ℕ) (ring : List ℕ) (more : List Item) (slices : ℕ) (s : State) → open_calls c s ≡ [] → open_calls c (ran c ring (queue_behind t c s.queue) (asleep_behind t c moment (s.asleep c)) more slices s) ≡ asked_behind t
ran_open t c moment ring more slices s none =
    ap (open_with c (queue_behind t c s.queue)) (asleep_self c (asleep_behind t c moment (s.asleep c)) s.asleep) ∙ open_behind_self t c moment s.queue (s.asleep c) none

pub ran_still : (c : ℕ) (ring : List ℕ) (more : List Item) (slices : ℕ) (s : State) → open_calls c (ran c ring s.queue (s.asleep c) more slices s) ≡ open_calls c s
ran_still c ring more slices s = ap (open_with c s.queue) (asleep_self c (s.asleep c) s.asleep)

-- one that found no memory has none open
pub lacked_open : (c : ℕ) (s : State) → open_with c (without_calls c s.queue) (with_asleep c None s.asleep c) ≡ []
lacked_open c s = ap (λ x. x ++ called_by (with_asleep c None s.asleep c)) (calls_without_self c s.queue) ∙ ap called_by (asleep_self c None s.asleep)

-- one that waits isn't woken
pub entries_woken : (waits : Bool) (n q : ℕ) (ring : List ℕ) → nat_eq q n ≡ false → entries q (woken waits n ring) ≡ entries q ring
entries_woken true n q ring h = refl
entries_woken false n q ring h = entries_ready n q ring h

abbrev pub woken_of : Bool → ℕ → List ℕ → List ℕ
woken_of waits n es = if waits then es else ready_of n es

pub entries_woken_self : (waits : Bool) (n : ℕ) (ring : List ℕ) → entries n (woken waits n ring) ≡ woken_of waits n (entries n ring)
entries_woken_self true n ring = refl
entries_woken_self false n ring = entries_ready_self n ring
