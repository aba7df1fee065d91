-- What the choice of a `switch` comes to, and what it owes.
use Rattle.std.proofs.Common.{◌≡◌, refl, ap, ◌∙◌, ℕ, zero, suc, ◌+◌, List, [], ◌∷◌, ◌++◌, drop, length, get_or, Bool, true, false, cond, Option, Some, None, Result, Ok, Err, arith, add-zero}
use Rattle.px_bytes.specs.declared.fault.TclFault.{TclFault}
use Rattle.tcl_trees.specs.Procedures.{Procedure}
use Rattle.tcl_trees.specs.Tree.{Tree, Trees}
use Rattle.tcl_trees.specs.Tree as tree
use Rattle.tcl_vars.specs.Scopes.{Scopes}
use Rattle.rule_model.specs.Children.{child, count, free, is_next}
use Rattle.rule_model.specs.Control.{chosen, first_body, hit_of, unless}
use Rattle.rule_model.specs.Evaluator.{bodies, eval}
use Rattle.rule_model.specs.Outcome.{Meaning}
use Rattle.rule_model.specs.declared.code.Code.TheVariants.{Value, Raised}
use Rattle.rule_model.specs.Setting.{Setting, Inner}
use Rattle.frame_loops.specs.Branches.{within}
use Rattle.frames.specs.Children.{all, child_at}
use Rattle.frames.specs.Frames.{inner_of, words_end}
use Rattle.frames.specs.Moves.{stop}
use Rattle.frames.specs.Owed.{is_flat}
use Rattle.frames.specs.Reads.{Known, known}
use Rattle.frames.specs.Stills.{moves, changes, Comes}
use Rattle.frame_loops.specs.Switches.{first_within, chosen_next, switch_next}
use Rattle.frames.specs.declared.frame.Room.{Room}
use Rattle.frames.specs.declared.next.Next.{Next}
use Rattle.frame_loops.proofs.InBranches.{within_is, within_owes}
use Rattle.frame_loops.proofs.InRows.{drop_next}
use Rattle.frames.proofs.InStills.{Bounded, comes_as, comes_at, stop_bounded}

-- the children behind others
here : (ys : List Tree) (at : ℕ) (y d : Tree) (more : List Tree) → drop at ys ≡ y ∷ more → get_or ys at d ≡ y
here [] zero y d more e = absurd (cc e)
here [] (suc at) y d more e = absurd (cc e)
here (x ∷ ys) zero y d more e = cc e
here (x ∷ ys) (suc at) y d more e = here ys at y d more e

behind_here : (xs ys : List Tree) (at : ℕ) (y d : Tree) (more : List Tree) → drop at ys ≡ y ∷ more
    → get_or (xs ++ ys) (length xs + at) d ≡ y
behind_here [] ys at y d more e = let z : 0 + at ≡ at = omega arith in rw z (here ys at y d more e)
behind_here (x ∷ xs) ys at y d more e = let n : suc (length xs) + at ≡ suc (length xs + at) = omega arith in
    rw n (behind_here xs ys at y d more e)

-- a `switch` has its bodies behind its words
body_here : (k : ℕ) (ts bs : Trees) (at : ℕ) (y : Tree) (more : List Tree) → drop at (all bs) ≡ y ∷ more
    → child_at (tree.switch k ts bs) (length (all ts) + at) ≡ y
body_here k ts bs at y more e = behind_here (all ts) (all bs) at y (tree.switch k ts bs) more e

pub count_is : (ts : Trees) → count ts ≡ length (all ts)
count_is tree.no_trees = refl
count_is (tree.and_tree t ts) = let e = count_is ts in omega (arith, e)

module _ {H : Type 0} where
  abbrev bodies_on : Setting H → Inner H → ℕ → List Tree → List (Option (Meaning H))
  bodies_on g i k [] = []
  bodies_on g i k (b ∷ bs) = unless (is_next b) (child free k b (eval g i b)) ∷ bodies_on g i (k + 1) bs

  bodies_all : (g : Setting H) (i : Inner H) (k : ℕ) (bs : Trees) → bodies g i k bs ≡ bodies_on g i k (all bs)
  bodies_all g i k tree.no_trees = refl
  bodies_all g i k (tree.and_tree b bs) =
      ap (λ l. unless (is_next b) (child free k b (eval g i b)) ∷ l) (bodies_all g i (k + 1) bs)

  drop_bodies : (g : Setting H) (i : Inner H) (n k : ℕ) (bs : List Tree)
      → drop n (bodies_on g i k bs) ≡ bodies_on g i (k + n) (drop n bs)
  drop_bodies g i zero k bs = rw (add-zero k) refl
  drop_bodies g i (suc n) k [] = refl
  drop_bodies g i (suc n) k (b ∷ bs) =
      let e : k + 1 + n ≡ k + suc n = omega arith in
      drop_bodies g i n (k + 1) bs ∙ ap (λ m. bodies_on g i m (drop n bs)) e

  one_is : {g : Setting H} {r : Room} {w : Bool} {t : Tree} {vars : Scopes} {budget : ℕ} (place : ℕ)
      (u : Tree) (more : List (Option (Meaning H))) (next : Next) (b : Bool) →
      Comes g r w t (first_body more) vars budget (changes budget vars next) → child_at t place ≡ u →
      Comes g r w t (first_body (unless b (child free place u (eval g (inner_of g r) u)) ∷ more)) vars budget
      (changes budget vars (cond b next (within (known g.statics vars) u place w)))
  one_is place u more next true h e = h
  one_is place u more next false h e =
      comes_as (λ path host replies cost acts. rw (add-zero cost) refl) (within_is u place (is_flat u) refl e)

  first_is : {g : Setting H} {r : Room} {w : Bool} {vars : Scopes} {budget : ℕ} (k : ℕ) (ts bs : Trees)
      (at : ℕ) (l : List Tree) → drop at (all bs) ≡ l →
      Comes g r w (tree.switch k ts bs) (first_body (bodies_on g (inner_of g r) (length (all ts) + at) l))
      vars budget (changes budget vars (first_within (known g.statics vars) (length (all ts) + at) l w))
  first_is k ts bs at [] e = comes_at (stop (Value [])) (λ path host more cost acts. refl)
  first_is {g = g} {r = r} {w = w} {vars = vars} {budget = budget} k ts bs at (u ∷ l) e =
      let n : length (all ts) + at + 1 ≡ length (all ts) + (at + 1) = omega arith in
      one_is (length (all ts) + at) u (bodies_on g (inner_of g r) (length (all ts) + at + 1) l)
      (first_within (known g.statics vars) (length (all ts) + at + 1) l w) (is_next u)
      (rw n (first_is k ts bs (at + 1) l (drop_next (all bs) at u l e))) (body_here k ts bs at u l e)

  hit_is : {g : Setting H} {r : Room} {w : Bool} {vars : Scopes} {budget : ℕ} (k : ℕ) (ts bs : Trees)
      (x : Result (Option ℕ) TclFault) →
      Comes g r w (tree.switch k ts bs) (chosen x (bodies g (inner_of g r) (count ts) bs)) vars budget
      (changes budget vars (chosen_next (known g.statics vars) (length (all ts)) (all bs) w x))
  hit_is {g = g} {r = r} k ts bs (Ok (Some n)) =
      comes_as (λ path host more cost acts. rw (
        count_is ts,
        bodies_all g (inner_of g r) (length (all ts)) bs,
        drop_bodies g (inner_of g r) n
            (length (all ts)) (all bs),
      ) refl)
      (first_is k ts bs n (drop n (all bs)) refl)
  hit_is k ts bs (Ok None) = comes_at (stop (Value [])) (λ path host more cost acts. refl)
  hit_is k ts bs (Err f) = comes_at (stop (Raised f)) (λ path host more cost acts. refl)

  -- by the values of all words, of which the first is the name
  pub switch_begins : {g : Setting H} {r : Room} {w : Bool} {vars : Scopes} {budget : ℕ} (front : ℕ)
      (ts bs : Trees) (words : List (List ℕ)) →
      Comes g r w (tree.switch front ts bs) (words_end g (inner_of g r) (tree.switch front ts bs) words) vars
      budget
      (changes budget vars (switch_next (known g.statics vars) (length (all ts)) front (all bs) w
      (drop 1 words)))
  switch_begins front ts bs words =
      comes_as (λ path host more cost acts. refl) (hit_is front ts bs (hit_of front (drop 1 words)))

-- what it owes
one_owes : {procedures : List Procedure} {t : Tree} (k : Known) (place : ℕ) (u : Tree) (w : Bool)
    (next : Next) (b : Bool) → Bounded procedures t 2 (moves next) → child_at t place ≡ u →
    Bounded procedures t 2 (moves (cond b next (within k u place w)))
one_owes k place u w next true h e = h
one_owes k place u w next false h e = within_owes k u place w (is_flat u) refl e

first_owes : {procedures : List Procedure} (k : Known) (front : ℕ) (ts bs : Trees) (w : Bool) (at : ℕ)
    (l : List Tree) → drop at (all bs) ≡ l
    → Bounded procedures (tree.switch front ts bs) 2 (moves (first_within k (length (all ts) + at) l w))
first_owes k front ts bs w at [] e = stop_bounded (Value [])
first_owes k front ts bs w at (u ∷ l) e =
    let n : length (all ts) + at + 1 ≡ length (all ts) + (at + 1) = omega arith in
    one_owes k (length (all ts) + at) u w (first_within k (length (all ts) + at + 1) l w) (is_next u)
    (rw n (first_owes k front ts bs w (at + 1) l (drop_next (all bs) at u l e)))
    (body_here front ts bs at u l e)

hit_owes : {procedures : List Procedure} (k : Known) (front : ℕ) (ts bs : Trees) (w : Bool)
    (x : Result (Option ℕ) TclFault)
    → Bounded procedures (tree.switch front ts bs) 2 (moves (chosen_next k (length (all ts)) (all bs) w x))
hit_owes k front ts bs w (Ok (Some n)) = first_owes k front ts bs w n (drop n (all bs)) refl
hit_owes k front ts bs w (Ok None) = stop_bounded (Value [])
hit_owes k front ts bs w (Err f) = stop_bounded (Raised f)

pub switch_begins_owes : {procedures : List Procedure} (k : Known) (front : ℕ) (ts bs : Trees) (w : Bool)
    (words : List (List ℕ)) →
    Bounded procedures (tree.switch front ts bs) 2
    (moves (switch_next k (length (all ts)) front (all bs) w words))
switch_begins_owes k front ts bs w words = hit_owes k front ts bs w (hit_of front words)
