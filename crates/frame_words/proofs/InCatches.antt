-- What the moves of `catch` come to, and what they owe.
use Rattle.std.proofs.Common.{◌≡◌, refl, ap, ℕ, ◌+◌, List, [], ◌∷◌, ◌++◌, drop, Bool, true, false, cond, Option, Some, None, arith, add-zero}
use Rattle.std.specs.Prelude.{slice_get}
use Rattle.tcl_trees.specs.Procedures.{Procedure}
use Rattle.tcl_trees.specs.Tree.{Tree}
use Rattle.tcl_trees.specs.Tree as tree
use Rattle.tcl_vars.specs.Scopes.{Level, Scopes}
use Rattle.rule_model.specs.Control.{caught, code_number, is_caught, number_changed}
use Rattle.rule_model.specs.Evaluator.{eval}
use Rattle.rule_model.specs.Outcome.{state, Ends, code_of, then_code}
use Rattle.rule_model.specs.declared.code.Code.{Code}
use Rattle.rule_model.specs.declared.code.Code.TheVariants.{Value}
use Rattle.rule_model.specs.Setting.{Setting}
use Rattle.frame_words.specs.Catches.{caught_code, caught_told, catch_move, caught_in_told, caught_by, catch_frame, catch_in_move}
use Rattle.frames.specs.Frames.{inner_of, words_end}
use Rattle.frames.specs.Leafs.{leaf_code}
use Rattle.frames.specs.Moves.{begins, goes_on, stop, child_under}
use Rattle.frames.specs.Owed.{is_flat, mode_owed}
use Rattle.frames.specs.Reads.{Known, known}
use Rattle.frames.specs.Stills.{moves, writes, still, written, Comes}
use Rattle.frames.specs.declared.frame.Frame.TheVariants as frame
use Rattle.frames.specs.declared.frame.Mode.TheVariants as mode
use Rattle.frames.specs.declared.frame.Room.{Room}
use Rattle.frames.proofs.Heard.{heard_true}
use Rattle.frames.proofs.LeafViews.{leaf_eval}
use Rattle.frames.proofs.InStills.{Bounded, back_owes, bounded_less, bounded_name, child_bounded, comes_as, comes_at, comes_paid, missing_bounded, stop_bounded}

second : (words : List (List ℕ)) → slice_get (drop 1 words) 0 ≡ slice_get words 1
second [] = refl
second (w ∷ words) = refl

module _ {H : Type 0} where
  caught_case : {g : Setting H} {r : Room} {w : Bool} {t : Tree} {vars : Scopes} {budget : ℕ} (code : Code)
      (b : Bool) → is_caught code ≡ b →
      Comes g r w t (λ path st. then_code (Ends code st) (caught g.statics None)) vars budget
      (still budget vars (caught_told code))
  caught_case code true e = comes_at (stop (caught_code code)) (λ path host more cost acts. rw e refl)
  caught_case code false e = comes_at (stop (caught_code code)) (λ path host more cost acts. rw e refl)

  pub caught_goes : {g : Setting H} {r : Room} {w : Bool} {t : Tree} {vars : Scopes} {budget : ℕ}
      (code : Code) →
      Comes g r w t (goes_on g r t frame.Caught code) vars budget (still budget vars (caught_told code))
  caught_goes code = comes_as (λ path host more cost acts. refl) (caught_case code (is_caught code) refl)

  catch_case : {g : Setting H} {r : Room} {w : Bool} {vars : Scopes} {budget : ℕ} (u : Tree) (b : Bool)
      → is_flat u ≡ b →
      Comes g r w (tree.catch u) (λ path st. then_code (eval g (inner_of g r) u (path ++ 0 ∷ []) st)
      (caught g.statics None)) vars budget
      (still budget vars (cond b (caught_told (leaf_code g.statics vars u))
      (moves (child_under frame.Caught))))
  catch_case {g = g} {r = r} {vars = vars} {budget = budget} u true e =
      comes_as (λ path host more cost acts. ap (λ o. then_code o (caught g.statics None))
      (leaf_eval g (inner_of g r) u (path ++ 0 ∷ []) (state vars host more budget cost acts) e))
      (caught_goes {t = tree.catch u} (leaf_code g.statics vars u))
  catch_case u false e = comes_at (child_under frame.Caught) (λ path host more cost acts. rw heard_true refl)

  pub catch_begins : {g : Setting H} {r : Room} {w : Bool} {vars : Scopes} {budget : ℕ} (u : Tree) →
      Comes g r w (tree.catch u) (begins g r (tree.catch u)) vars budget
      (still budget vars (catch_move (known g.statics vars) u))
  catch_begins u = comes_paid 1 0 (λ path host more cost acts. rw (add-zero (cost + 1)) refl)
      (catch_case u (is_flat u) refl)

  -- with the name of a variable
  caught_in_case : {g : Setting H} {r : Room} {w : Bool} {t : Tree} {vars : Scopes} {budget : ℕ}
      (name : List ℕ) (code : Code) (b : Bool) → is_caught code ≡ b →
      Comes g r w t (λ path st. then_code (Ends code st) (caught g.statics (Some name))) vars budget
      (written budget (caught_in_told g.statics name code vars))
  caught_in_case {w = w} name code true e =
      rw e (record { same = λ path host more cost acts. rw (add-zero cost) refl })
  caught_in_case {w = w} name code false e =
      rw e (record { same = λ path host more cost acts. rw (add-zero cost) refl })

  pub caught_in_goes : {g : Setting H} {r : Room} {w : Bool} {t : Tree} {vars : Scopes} {budget : ℕ}
      (name : List ℕ) (code : Code) →
      Comes g r w t (goes_on g r t (frame.CaughtIn name) code) vars budget
      (written budget (caught_in_told g.statics name code vars))
  caught_in_goes name code = comes_as (λ path host more cost acts. refl)
      (caught_in_case name code (is_caught code) refl)

  caught_by_is : {g : Setting H} {r : Room} {w : Bool} {t : Tree} {vars : Scopes} {budget : ℕ}
      (name : Option (List ℕ)) (code : Code) →
      Comes g r w t (λ path st. then_code (Ends code st) (caught g.statics name)) vars budget
      (written budget (caught_by g.statics name code vars))
  caught_by_is None code = comes_as (λ path host more cost acts. refl)
      (caught_case code (is_caught code) refl)
  caught_by_is (Some name) code = caught_in_case name code (is_caught code) refl

  catch_in_case : {g : Setting H} {r : Room} {w : Bool} {vars : Scopes} {budget : ℕ} (u v : Tree)
      (name : Option (List ℕ)) (b : Bool) → is_flat u ≡ b →
      Comes g r w (tree.catch_in u v)
      (λ path st. then_code (eval g (inner_of g r) u (path ++ 0 ∷ []) st) (caught g.statics name)) vars budget
      (written budget (cond b (caught_by g.statics name (leaf_code g.statics vars u) vars)
      (writes vars (child_under (catch_frame name)))))
  catch_in_case {g = g} {r = r} {vars = vars} {budget = budget} u v name true e =
      comes_as (λ path host more cost acts. ap (λ o. then_code o (caught g.statics name))
      (leaf_eval g (inner_of g r) u (path ++ 0 ∷ []) (state vars host more budget cost acts) e))
      (caught_by_is name (leaf_code g.statics vars u))
  catch_in_case u v None false e =
      comes_at (child_under frame.Caught) (λ path host more cost acts. rw heard_true refl)
  catch_in_case u v (Some name) false e =
      comes_at (child_under (frame.CaughtIn name)) (λ path host more cost acts. rw heard_true refl)

  -- behind its words, of which the second is the name
  pub catch_in_begins : {g : Setting H} {r : Room} {w : Bool} {vars : Scopes} {budget : ℕ} (u v : Tree)
      (words : List (List ℕ)) →
      Comes g r w (tree.catch_in u v) (words_end g (inner_of g r) (tree.catch_in u v) words) vars budget
      (written budget (catch_in_move g.statics u (slice_get words 1) vars))
  catch_in_begins u v words = comes_as (λ path host more cost acts. rw (second words, add-zero cost) refl)
      (catch_in_case u v (slice_get words 1) (is_flat u) refl)

-- what they owe
caught_owes : {procedures : List Procedure} {t : Tree} (code : Code) (b : Bool) → is_caught code ≡ b
    → Bounded procedures t (mode_owed (mode.Back code)) (caught_told code)
caught_owes code true e = rw e (stop_bounded (Value (code_number code)))
caught_owes code false e = rw e (missing_bounded code e)

pub caught_goes_owes : {procedures : List Procedure} {t : Tree} (code : Code)
    → Bounded procedures t (mode_owed (mode.Back code)) (caught_told code)
caught_goes_owes code = caught_owes code (is_caught code) refl

catch_owes : {procedures : List Procedure} (k : Known) (u : Tree) (b : Bool) → is_flat u ≡ b
    → Bounded procedures (tree.catch u) 2
    (cond b (caught_told (leaf_code k.statics k.vars u)) (moves (child_under frame.Caught)))
catch_owes k u true e = bounded_less (back_owes (leaf_code k.statics k.vars u))
    (caught_goes_owes (leaf_code k.statics k.vars u))
catch_owes k u false e = child_bounded frame.Caught refl e

pub catch_begins_owes : {procedures : List Procedure} (k : Known) (u : Tree)
    → Bounded procedures (tree.catch u) 0 (catch_move k u)
catch_begins_owes k u = bounded_name 1 (omega arith) (catch_owes k u (is_flat u) refl)

caught_in_owes : {procedures : List Procedure} {t : Tree} (statics : Option Level) (name : List ℕ)
    (code : Code) (vars : Scopes) (b : Bool) → is_caught code ≡ b
    → Bounded procedures t (mode_owed (mode.Back code)) (caught_in_told statics name code vars).move
caught_in_owes statics name code vars true e =
    rw e (stop_bounded (code_of (number_changed statics name code vars).value))
caught_in_owes statics name code vars false e = rw e (missing_bounded code e)

pub caught_in_goes_owes : {procedures : List Procedure} {t : Tree} (statics : Option Level) (name : List ℕ)
    (code : Code) (vars : Scopes) → Bounded procedures t (mode_owed (mode.Back code))
    (caught_in_told statics name code vars).move
caught_in_goes_owes statics name code vars = caught_in_owes statics name code vars (is_caught code) refl

caught_by_owes : {procedures : List Procedure} {t : Tree} (statics : Option Level) (name : Option (List ℕ))
    (code : Code) (vars : Scopes) → Bounded procedures t (mode_owed (mode.Back code))
    (caught_by statics name code vars).move
caught_by_owes statics None code vars = caught_goes_owes code
caught_by_owes statics (Some name) code vars = caught_in_goes_owes statics name code vars

catch_in_owes : {procedures : List Procedure} (statics : Option Level) (u v : Tree) (name : Option (List ℕ))
    (vars : Scopes) (b : Bool) → is_flat u ≡ b →
    Bounded procedures (tree.catch_in u v) 2
    (cond b (caught_by statics name (leaf_code statics vars u) vars)
    (writes vars (child_under (catch_frame name)))).move
catch_in_owes statics u v name vars true e =
    bounded_less (back_owes (leaf_code statics vars u))
    (caught_by_owes statics name (leaf_code statics vars u) vars)
catch_in_owes statics u v None vars false e = child_bounded frame.Caught refl e
catch_in_owes statics u v (Some name) vars false e = child_bounded (frame.CaughtIn name) refl e

pub catch_in_begins_owes : {procedures : List Procedure} (statics : Option Level) (u v : Tree)
    (name : Option (List ℕ)) (vars : Scopes)
    → Bounded procedures (tree.catch_in u v) 2 (catch_in_move statics u name vars).move
catch_in_begins_owes statics u v name vars = catch_in_owes statics u v name vars (is_flat u) refl
