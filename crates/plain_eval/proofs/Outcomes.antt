-- What the caller is told is the evaluator's outcome.
use Rattle.plain_eval.proofs.Vocabulary
use Vocabulary.{Err, List, Ok, Result, [], ap, arith, drop, length, length-append, refl, sym, true}
use Vocabulary.{ℕ, ◌++◌, ◌-◌, ◌∙◌, ◌∷◌, ◌≡◌, ◌≤◌, IfOk, Memory, Tree, Scopes, eval, inner}
use Vocabulary.{inner_limit, Ends, Outcome, Waits, state, Setting, EndsAs, Ran, Stand, End}
use Rattle.rule_model.specs.Evaluator.{evaluate}
use Rattle.px_bytes.specs.declared.fault.Reply.{Reply}
use Rattle.rule_model.specs.Laws.{state_after}
use Rattle.rule_model.proofs.Facts.{acts_stay}
use Rattle.plain_eval.specs.Plain.{IsOutcome, IsTold}
use Rattle.plain_eval.specs.declared.plain.Plain.{Plain}
use Rattle.plain_eval.specs.declared.plain.Plain.TheVariants.{Done, Waits as WaitsFor}
use Rattle.plain_eval.specs.declared.run.End.TheVariants as end

behind_taken : {A : Type 0} (taken rest : List A) → rest ≡ drop (length taken) (taken ++ rest)
behind_taken [] rest = refl
behind_taken (x ∷ xs) rest = behind_taken xs rest

taken_is : {A : Type 0} (all taken rest : List A) (n : ℕ) → all ≡ taken ++ rest → n ≡ length all - length rest → (n ≤ length all) × (rest ≡ drop n all)
taken_is all taken rest n is count =
    let len = ap length is ∙ length-append taken rest in
    let e : n ≡ length taken = omega (arith, len, count) in
    (omega (arith, len, count), rw (e, is) (behind_taken taken rest))

told_is : {H : Type 0} (o : Outcome H) (e : End) (told : Result Plain Memory) (s : Stand H) (used : ℕ) (answers taken : List Reply) → EndsAs true o e s → IsTold e used told
    → answers ≡ taken ++ (state_after o).replies → used ≡ length answers - length s.replies → IfOk told (λ plain. IsOutcome o plain s.vars s.host answers)
told_is (Ends c st) (end.Done d) (Ok (Done code n)) s used answers taken m t grown count =
    let same : st.replies ≡ s.replies = ap (λ x. x.replies) m.1 in
    let there : n ≡ length answers - length st.replies = rw same (t.1 ∙ count) in
    let left = taken_is answers taken st.replies n grown there in
    (m.0 ∙ t.0, ap (λ x. x.vars) m.1, ap (λ x. x.host) m.1, left.0, left.1)
told_is (Waits p call st) (end.Waits asked) (Ok (WaitsFor c)) s used answers taken m t grown count = (sym m.0 ∙ t, ap (λ x. x.vars) m.1, ap (λ x. x.host) m.1)
told_is (Waits p call st) (end.Done d) told s used answers taken m t grown count = absurd m
told_is (Ends c st) (end.Waits asked) told s used answers taken m t grown count = absurd m
told_is o end.Memory (Err x) s used answers taken m t grown count = tt
told_is o e told s used answers taken m t grown count = absurd t

-- the evaluation of a body is that of its tree from the beginning
outcome_is : {H : Type 0} (g : Setting H) (tree : Tree) (begin : Scopes) (before : H) (budget : ℕ) (answers : List Reply) (e : End) (told : Result Plain Memory) (s : Stand H) (used : ℕ)
    → EndsAs true (eval g (inner g inner_limit inner_limit) tree [] (state begin before answers budget 0 [])) e s → IsTold e used told → used ≡ length answers - length s.replies
    → IfOk told (λ plain. IsOutcome (evaluate g tree begin before answers budget) plain s.vars s.host answers)
unfolding evaluate
outcome_is g tree begin before budget answers e told s used m t count =
    let grown = (acts_stay g inner_limit inner_limit tree [] (state begin before answers budget 0 [])).replies in
    told_is (eval g (inner g inner_limit inner_limit) tree [] (state begin before answers budget 0 [])) e told s used answers grown.0 m t grown.1 count

-- the same, where the code has the variables, the replies and their number by other names
pub outcome_of : {H : Type 0} (g : Setting H) (tree : Tree) (begin first : Scopes) (before : H) (budget : ℕ) (answers given : List Reply) (e : End) (told : Result Plain Memory) (s : Stand H) (used count : ℕ) → begin ≡ first → given ≡ answers
    → Ran true (eval g (inner g inner_limit inner_limit) tree) (record { vars = begin; host = before; replies = given; budget = budget }) e s → IsTold e used told → count ≡ length answers → used ≡ count - length s.replies
    → IfOk told (λ plain. IsOutcome (evaluate g tree first before answers budget) plain s.vars s.host answers)
outcome_of g tree begin first before budget answers given e told s used count a b ran t all left =
    let number : used ≡ length given - length s.replies = rw (all, sym b) at left in
    rw (sym a, sym b) (outcome_is g tree begin before budget given e told s used (ran.by [] 0 []) t number)
