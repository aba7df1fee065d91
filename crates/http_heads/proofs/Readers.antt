-- A reader gives what the grammar has, and one part and then another.
use Rattle.std.proofs.Common.{◌≡◌, ℕ, ◌<◌, Bool, true, false, ◌==◌, cond, List, [], ◌∷◌, ◌++◌, length, refl, sym, ap, ap₂, subst, ◌∙◌, arith, Option, Some, None}
use Rattle.std.specs.Prelude.{is_some}
use Rattle.std.proofs.lemmas.Bool.{cond-true, eqb-true, false≢true}
use Rattle.std.proofs.lemmas.List.Elements.{All-cons, All-head, All-nil, All-tail}
use Rattle.httparse.specs.Grammar.{AllPass}
use Rattle.httparse.specs.Pieces.{Piece, Stops, Then, Word}
use Rattle.http_heads.specs.Readers.{Reader, and_then, both, past, run, stopped, with_first, word}

-- a reader gives a part that is there, and each that is there in full
pub record Reads {A : Type 0} (r : Reader A) (G H : Piece A) : Type 0 where
  pub sound : (text : List ℕ) (a : A) (rest : List ℕ) → r text ≡ Some (a, rest) → G a text rest
  pub whole : (a : A) (text rest : List ℕ) → H a text rest → r text ≡ Some (a, rest)

pub none_there : {A B : Type 0} (x : A) → None ≡ Some x → B
none_there x is = absurd (false≢true (ap is_some is))

abbrev or_else : {A : Type 0} → A → Option A → A
or_else d None = d
or_else d (Some x) = x

pub same_some : {A : Type 0} (x y : A) → Some x ≡ Some y → x ≡ y
same_some x y is = ap (or_else x) is

-- one part, and then another
module _ {A B : Type 0} (r : Reader A) (s : Reader B) (G G' : Piece A) (H H' : Piece B) (first : Reads r G G') (next : Reads s H H') where
  second : (text : List ℕ) (a : A) (middle : List ℕ) → G a text middle → (found : Option (B × List ℕ)) → s middle ≡ found
      → (ab : A × B) (rest : List ℕ) → with_first a found ≡ Some (ab, rest) → Then G H ab text rest
  second text a middle one None e ab rest is = none_there (ab, rest) is
  second text a middle one (Some f) e ab rest is =
      subst (λ (p : (A × B) × List ℕ). Then G H p.0 text p.1) (same_some ((a, f.0), f.1) (ab, rest) is) (middle, one, next.sound middle f.0 f.1 e)

  one_by : (text : List ℕ) (found : Option (A × List ℕ)) → r text ≡ found → (ab : A × B) (rest : List ℕ) → and_then found s ≡ Some (ab, rest) → Then G H ab text rest
  one_by text None e ab rest is = none_there (ab, rest) is
  one_by text (Some f) e ab rest is = second text f.0 f.1 (first.sound text f.0 f.1 e) (s f.1) refl ab rest is

  pub both_read : Reads (both r s) (Then G H) (Then G' H')
  both_read = record {
    sound = λ text ab rest is. one_by text (r text) refl ab rest is;
    whole = λ ab text rest is.
        ap (λ (found : Option (A × List ℕ)). and_then found s) (first.whole ab.0 text is.0 is.1)
        ∙ ap (with_first ab.0) (next.whole ab.1 is.0 rest is.2);
  }

-- runs
pub run_and_past : (test : ℕ → Bool) (text : List ℕ) → run test text ++ past test text ≡ text
run_and_past test [] = refl
run_and_past test (b ∷ text) = elim (test b) as (λ t. cond t (b ∷ run test text) [] ++ cond t (past test text) (b ∷ text) ≡ b ∷ text) [
  | true ↦ ap (λ xs. b ∷ xs) (run_and_past test text)
  | false ↦ refl
]

pub run_passes : (test : ℕ → Bool) (text : List ℕ) → AllPass test (run test text)
run_passes test [] = All-nil (λ b. test b ≡ true)
run_passes test (b ∷ text) = elim (test b) as (λ t. test b ≡ t → AllPass test (cond t (b ∷ run test text) [])) [
  | true ↦ λ h. All-cons (λ b. test b ≡ true) b (run test text) h (run_passes test text)
  | false ↦ λ h. All-nil (λ b. test b ≡ true)
] refl

-- what stops behind bytes that pass
pub record Parts (test : ℕ → Bool) (front rest : List ℕ) : Type 0 where
  pub front_is : run test (front ++ rest) ≡ front
  pub rest_is : past test (front ++ rest) ≡ rest

pub parts_of : (test : ℕ → Bool) (front rest : List ℕ) → AllPass test front → Stops test rest → Parts test front rest
parts_of test [] [] all stops = absurd stops
parts_of test [] (x ∷ rest) all stops = record {
  front_is = ap (λ t. cond t (x ∷ run test rest) []) stops;
  rest_is = ap (λ t. cond t (past test rest) (x ∷ rest)) stops;
}
parts_of test (b ∷ front) rest all stops =
    let passes = All-head (λ b. test b ≡ true) b front all in
    let more = parts_of test front rest (All-tail (λ b. test b ≡ true) b front all) stops in
    record {
      front_is = ap (λ t. cond t (b ∷ run test (front ++ rest)) []) passes ∙ ap (λ xs. b ∷ xs) more.front_is;
      rest_is = ap (λ t. cond t (past test (front ++ rest)) (b ∷ (front ++ rest))) passes ∙ more.rest_is;
    }

module _ (test : ℕ → Bool) (stop : ℕ) (same : (stop == stop) ≡ true) (stops : test stop ≡ false) where
  word_by : (text front rest : List ℕ) → run test text ≡ front → past test text ≡ rest → (w r : List ℕ) → stopped stop front rest ≡ Some (w, r) → Word test stop w text r
  word_by text [] rest f p w r is = none_there (w, r) is
  word_by text (b ∷ front) [] f p w r is = none_there (w, r) is
  word_by text (b ∷ front) (x ∷ rest) f p w r is =
      elim (x == stop) as (λ t. (x == stop) ≡ t → cond {A = Option (List ℕ × List ℕ)} t (Some (b ∷ front, rest)) None ≡ Some (w, r) → Word test stop w text r) [
        | true ↦ λ h i.
            let there : text ≡ (b ∷ front) ++ stop ∷ rest =
            sym (run_and_past test text) ∙ ap₂ (λ xs ys. xs ++ ys) f p ∙ ap (λ y. (b ∷ front) ++ y ∷ rest) (eqb-true x stop h) in
            subst (λ (q : List ℕ × List ℕ). Word test stop q.0 text q.1) (same_some (b ∷ front, rest) (w, r) i)
            (omega arith, subst (AllPass test) f (run_passes test text), there)
        | false ↦ λ h i. none_there (w, r) i
      ] refl is

  stopped_is : (w rest : List ℕ) → 0 < length w → stopped stop w (stop ∷ rest) ≡ Some (w, rest)
  stopped_is [] rest some = absurd (omega (arith, some))
  stopped_is (b ∷ w) rest some = cond-true (stop == stop) _ _ same

  pub word_read : Reads (word test stop) (Word test stop) (Word test stop)
  word_read = record {
    sound = λ text w rest is. word_by text (run test text) (past test text) refl refl w rest is;
    whole = λ w text rest is.
        let parts = parts_of test w (stop ∷ rest) is.1 stops in
        ap (word test stop) is.2 ∙ ap₂ (stopped stop) parts.front_is parts.rest_is ∙ stopped_is w rest is.0;
  }
