-- One more of what a run does.
use Rattle.std.proofs.Common.{◌≡◌, ℕ, ◌+◌, ◌<◌, List, [], ◌∷◌, ◌++◌, take, drop, get_or, length, Result, Ok, Err, Option, Some, None, refl, ap, sym, ◌∙◌, subst, take-append-drop, append_assoc}
use Rattle.std.proofs.lemmas.List.{take_all, take_more}
use Rattle.std.specs.Prelude.{IfOk, ◌≤◌}
use Rattle.std.specs.List.{All}
use Rattle.core_events.specs.Face.{Face}
use Rattle.test_plan.specs.declared.plan.TestMove.{TestMove}
use Rattle.test_run.specs.Moves.{DoesMove, Follows, More, StopsAt, step_from, step_of}
use Rattle.test_run.specs.Stand.{Stand}
use Rattle.test_text.specs.declared.test_file.PlacedStep.{PlacedStep}

pub if_ok_then : {A E : Type 0} (r : Result A E) (P Q : A → Type 0) → ((x : A) → P x → Q x) → IfOk r P → IfOk r Q
if_ok_then (Ok x) P Q f h = f x h
if_ok_then (Err e) P Q f h = h

-- the items up to one more
pub up_to : {A : Type 0} (xs : List A) (i : ℕ) (x : A) → i < length xs → x ≡ get_or xs i x → take i xs ++ x ∷ [] ≡ take (i + 1) xs
up_to xs i x there is = sym (take_more xs i x there ∙ ap (λ y. take i xs ++ y ∷ []) (sym is))

pub made_more : {S : Type 0} (face : Face S) (steps : List PlacedStep) (moves : List TestMove) (i : ℕ) (one : TestMove) (a b c : Stand S)
    → i < length moves → one ≡ get_or moves i one → Follows face steps (take i moves) a b → DoesMove face steps one b c
    → Follows face steps (take (i + 1) moves) a c
made_more face steps moves i one a b c there is before does =
    subst (λ ms. Follows face steps ms a c) (up_to moves i one there is) (More (take i moves) one b before does)

-- the step of the moves up to one more
step_from_more : (n : ℕ) (moves : List TestMove) (one : TestMove) → step_from n (moves ++ one ∷ []) ≡ step_of one (step_from n moves)
step_from_more n [] one = refl
step_from_more n (x ∷ moves) one = step_from_more (step_of x n) moves one

pub step_more : (moves : List TestMove) (i : ℕ) (one : TestMove) (before step : ℕ) → i < length moves → one ≡ get_or moves i one
    → before ≡ step_from 0 (take i moves) → step ≡ step_of one before → step ≡ step_from 0 (take (i + 1) moves)
step_more moves i one before step there is was now =
    now ∙ ap (step_of one) was ∙ sym (step_from_more 0 (take i moves) one) ∙ ap (step_from 0) (up_to moves i one there is)

-- the moves before one, that one, and those behind it
parts : (moves : List TestMove) (i : ℕ) (one : TestMove) → i < length moves → one ≡ get_or moves i one
    → moves ≡ take i moves ++ one ∷ drop (i + 1) moves
parts moves i one there is =
    sym (take-append-drop (i + 1) moves) ∙ ap (λ l. l ++ drop (i + 1) moves) (sym (up_to moves i one there is))
    ∙ append_assoc (take i moves) (one ∷ []) (drop (i + 1) moves)

-- it ends at one of the moves
pub stops_at : {S : Type 0} (face : Face S) (steps : List PlacedStep) (moves : List TestMove) (i : ℕ) (one : TestMove) (Ends : TestMove → Stand S → Stand S → Type 0)
    (before step : ℕ) (a b c : Stand S) → i < length moves → one ≡ get_or moves i one → Follows face steps (take i moves) a b
    → before ≡ step_from 0 (take i moves) → step ≡ step_of one before → Ends one b c → StopsAt face steps moves Ends step a c
stops_at face steps moves i one Ends before step a b c there is follows was now ends = record {
  made = take i moves;
  one = one;
  later = drop (i + 1) moves;
  moves_are = parts moves i one there is;
  between = b;
  follows = follows;
  ends = ends;
  step_is = step_more moves i one before step there is was now ∙ sym (ap (step_from 0) (up_to moves i one there is));
}

pub none_of : {A : Type 0} (o : Option A) → ((x : A) → o ≡ Some x → ⊥) → o ≡ None
none_of None never = refl
none_of (Some x) never = absurd (never x refl)

-- all items were gone through
pub all_of : {A : Type 0} (P : A → Type 0) (xs ys : List A) (i : ℕ) → All P (take i xs) → length xs ≤ i → xs ≡ ys → All P ys
all_of P xs ys i all past same = subst (All P) (take_all i xs past ∙ same) all
