-- Unfoldings: they agree, and the trace is made of them.
use Rattle.std.proofs.Common.{◌≡◌, ◌⊎◌, inl, inr, refl, sym, ap, ◌∙◌, ℕ, zero, suc, ◌+◌, zero-add, append-nil}
use Rattle.std.proofs.Common.{List, [], ◌∷◌, ◌++◌, length, arith}
use Rattle.conn_trace.specs.Item.{Item}
use Rattle.conn_trace.specs.Setup.{Setup}
use Rattle.conn_trace.specs.State.{TraceState, Next, Does, Waits, Over}
use Rattle.conn_trace.specs.Trace.{next_item, Unfolds, trace_from, trace}
use Rattle.conn_trace.specs.Laws.{GoesOn, Stops}

-- one unfolding behind another
pub unfolds_on : (g : Setup) (l m n : TraceState) (some rest : List Item) → Unfolds g l some m → Unfolds g m rest n → Unfolds g l (some ++ rest) n
unfolds_on g l m n [] rest is more = rw is more
unfolds_on g l m n (i ∷ some) rest (mid, step, is) more = (mid, step, unfolds_on g mid m n some rest is more)

pub unfolds_one : (g : Setup) (l m : TraceState) (i : Item) → next_item g l ≡ Does i m → Unfolds g l (i ∷ []) m
unfolds_one g l m i step = (m, step, refl)

same_item : (i j : Item) (l m : TraceState) → Does i l ≡ Does j m → i ≡ j
same_item i j l m is = cc

same_place : (i j : Item) (l m : TraceState) → Does i l ≡ Does j m → l ≡ m
same_place i j l m is = cc

-- both go on behind an item
goes_on_behind : (g : Setup) (i j : Item) (some all : List Item) (m n : TraceState) → i ≡ j → GoesOn g some m all n → GoesOn g (i ∷ some) m (j ∷ all) n
goes_on_behind g i j some all m n is (rest, all_is, more) = (rest, rw is (ap (λ x. j ∷ x) all_is), more)

behind : (g : Setup) (i j : Item) (some others : List Item) (m n : TraceState) → i ≡ j
    → GoesOn g some m others n ⊎ GoesOn g others n some m → GoesOn g (i ∷ some) m (j ∷ others) n ⊎ GoesOn g (j ∷ others) n (i ∷ some) m
behind g i j some others m n is (inl on) = inl (goes_on_behind g i j some others m n is on)
behind g i j some others m n is (inr on) = inr (goes_on_behind g j i others some n m (sym is) on)

pub agree : (g : Setup) (l m n : TraceState) (some others : List Item) → Unfolds g l some m → Unfolds g l others n → GoesOn g some m others n ⊎ GoesOn g others n some m
agree g l m n [] others is all = inl (others, refl, rw (← is) all)
agree g l m n (i ∷ some) [] is all = inr (i ∷ some, refl, rw (← all) is)
agree g l m n (i ∷ some) (j ∷ others) (mid, step, is) (mid', step', all) =
    let both : Does i mid ≡ Does j mid' = sym step ∙ step' in
    behind g i j some others m n (same_item i j mid mid' both) (agree g mid m n some others is (rw (same_place i j mid mid' both) all))

-- the trace is an item, and then the trace from where it stands
pub trace_step : (n k : ℕ) (g : Setup) (l m : TraceState) (i : Item) → k ≡ suc n → next_item g l ≡ Does i m → trace k g l ≡ i ∷ trace n g m
trace_step n zero g l m i is step = absurd (omega arith)
trace_step n (suc k) g l m i is step =
    let e : k ≡ n = omega arith in
    ap (λ o. trace_from (suc k) g o) step ∙ ap (λ x. i ∷ trace_from x g (next_item g m)) e

pub trace_unfolds : (n : ℕ) (g : Setup) (l m : TraceState) (items : List Item) → Unfolds g l items m → trace (length items + n) g l ≡ items ++ trace n g m
trace_unfolds n g l m [] is = ap (λ k. trace k g l) (zero-add n) ∙ ap (trace n g) is
trace_unfolds n g l m (i ∷ items) (mid, step, rest) =
    trace_step (length items + n) (length (i ∷ items) + n) g l mid i (omega arith) step ∙ ap (λ r. i ∷ r) (trace_unfolds n g mid m items rest)

none_after : (n : ℕ) (g : Setup) (o : Next) → Stops o → trace_from n g o ≡ []
none_after zero g o stops = refl
none_after (suc n) g (Does i m) stops = absurd stops
none_after (suc n) g (Waits kind) stops = refl
none_after (suc n) g Over stops = refl

pub stopped_is_whole : (n : ℕ) (g : Setup) (l m : TraceState) (items : List Item) → Unfolds g l items m → Stops (next_item g m) → trace (length items + n) g l ≡ items
stopped_is_whole n g l m items is stops = trace_unfolds n g l m items is ∙ (ap (λ r. items ++ r) (none_after n g (next_item g m) stops) ∙ append-nil items)
