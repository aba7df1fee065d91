-- What the moves of a call come to, and what they owe.
use Rattle.std.proofs.Common.{◌≡◌, refl, ap, ◌∙◌, sym, ℕ, suc, zero, ◌-◌, ◌<◌, List, [], ◌∷◌, map, length, Bool, true, false, cond, Option, Some, None, Result, Ok, Err, arith, rules, add-zero, append-nil, nat_eq}
use Rattle.std.specs.Prelude.{slice_get, unwrap_or}
use Rattle.std.specs.List.{find, position, position_or_len}
use Rattle.std.specs.Str.{bytes_eq}
use Rattle.std.proofs.lemmas.List.Folds.{find_at}
use Rattle.std.proofs.lemmas.Bool.{lt-ltb}
use Rattle.px_bytes.specs.declared.fault.TclFault.{TclFault}
use Rattle.tcl_trees.specs.Procedures.{Procedure, place_named, procedure_named, values_bound}
use Rattle.tcl_trees.specs.Tree.{Tree, Trees}
use Rattle.tcl_trees.specs.Tree as tree
use Rattle.tcl_trees.specs.declared.node.Verb.TheVariants as verb
use Rattle.tcl_vars.specs.Scopes.{Scopes, in_proc}
use Rattle.tcl_var_commands.specs.Assigning.{row_assigned}
use Rattle.rule_model.specs.Commands.{Bound, bound_by, bound_of, called, code_left, deeper, leave, too_deep, values_for}
use Rattle.rule_model.specs.Evaluator.{eval, inner, inner_expression, with_calls}
use Rattle.rule_model.specs.Outcome.{state, Outcome, Ends, Waits, code_of, heard, then_code, then_value}
use Rattle.rule_model.specs.declared.code.Code.{Code}
use Rattle.rule_model.specs.declared.code.Code.TheVariants.{Value, Raised, Return, Break, Continue}
use Rattle.rule_model.specs.Setting.{Setting}
use Rattle.frame_words.specs.Calls.{Caller, body_move, call_by, call_move, called_told, entered_by, place_in}
use Rattle.frames.specs.Frames.{body_of, inner_of, words_end}
use Rattle.frames.specs.Leafs.{leaf_code}
use Rattle.frames.specs.Moves.{goes_on, child_under}
use Rattle.frames.specs.Owed.{is_flat, mode_owed}
use Rattle.frames.specs.Stills.{writes, written, Comes}
use Rattle.frames.specs.declared.frame.Frame.TheVariants as frame
use Rattle.frames.specs.declared.frame.Mode.TheVariants as mode
use Rattle.frames.specs.declared.frame.Room.{Room}
use Rattle.frames.proofs.LeafViews.{leaf_eval}
use Rattle.frames.proofs.InStills.{Bounded, child_bounded, comes_as, comes_set, pass_bounded, stop_bounded}

-- the procedure that a call names, by its place
some_below : {A : Type 0} (xs : List A) (n : ℕ) (x : A) → slice_get xs n ≡ Some x → n < length xs
some_below [] n x e = absurd (cc e)
some_below (y ∷ xs) zero x e = omega arith
some_below (y ∷ xs) (suc n) x e = let k = some_below xs n x e in omega (arith, k)

found : (p : Procedure → Bool) (ps : List Procedure) (q : Procedure) → find p ps ≡ Some q
    → slice_get ps (unwrap_or (position p ps) 0) ≡ Some q
found p ps q e =
    let h : slice_get ps (position_or_len p ps) ≡ Some q = sym (find_at p ps) ∙ e in
    rw (lt-ltb (position_or_len p ps) (length ps) (some_below ps (position_or_len p ps) q h)) h

values_of : (q : Procedure) (x : Option (List (List ℕ))) (b : Bound) → values_for q x ≡ Ok b → b.procedure ≡ q
values_of q (Some values) b e = let k : record { procedure = q; values = values } ≡ b = cc e in
    sym (ap (λ c. c.procedure) k)
values_of q None b e = absurd (cc e)

bound_case : (ps : List Procedure) (name : List ℕ) (words : List (List ℕ)) (x : Option Procedure) (b : Bound)
    → procedure_named name ps ≡ x → bound_by name words x ≡ Ok b
    → slice_get ps (unwrap_or (place_named name ps) 0) ≡ Some b.procedure
bound_case ps name words (Some q) b f e = found (λ p. bytes_eq p.name name) ps q f
    ∙ ap (λ c. Some c) (sym (values_of q (values_bound q.parameters words) b e))
bound_case ps name words None b f e = absurd (cc e)

pub body_is : (ps : List Procedure) (words : List (List ℕ)) (b : Bound) → bound_of ps words ≡ Ok b
    → body_of ps (place_in ps words) ≡ b.procedure.body
body_is ps [] b e = absurd (cc e)
body_is ps (v ∷ []) b e = absurd (cc e)
body_is ps (v ∷ (name ∷ words)) b e = rw (bound_case ps name words (procedure_named name ps) b refl e) refl

positive : (n : ℕ) → nat_eq (suc n) 0 ≡ false
positive n = search rules

pred : (n : ℕ) → suc n - 1 ≡ n
pred n = omega arith

abbrev room_of : (calls expressions : ℕ) → Room
room_of n x = record { calls = n; expressions = x }

module _ {H : Type 0} where
  abbrev pub caller_at : Setting H → Room → Bool → Caller
  caller_at g r w = record { statics = g.statics; procedures = g.procedures; room = r; wanted = w }

  leave_heard : (w : Bool) (o : Outcome H)
      → heard w (then_code (heard w o) leave) ≡ heard w (then_code o leave)
  leave_heard true (Ends code st) = refl
  leave_heard false (Ends (Value v) st) = refl
  leave_heard false (Ends (Raised f) st) = refl
  leave_heard false (Ends (Return v) st) = refl
  leave_heard false (Ends Break st) = refl
  leave_heard false (Ends Continue st) = refl
  leave_heard w (Waits path call st) = refl

  -- a procedure's body ends
  left_is : {g : Setting H} {r : Room} {w : Bool} {t : Tree} {vars : Scopes} {budget : ℕ} (code : Code)
      → Comes g r w t (λ path st. leave code st) vars budget (written budget (called_told code vars))
  left_is code = record { same = λ path host more cost acts. rw (add-zero cost) refl }

  pub called_goes : {g : Setting H} {r : Room} {w : Bool} {t : Tree} {vars : Scopes} {budget : ℕ} (place : ℕ)
      (room : Room) (u : Bool) (code : Code) →
      Comes g r w t (goes_on g r t (frame.Called place room u) code) vars budget
      (written budget (called_told code vars))
  called_goes place room u code = comes_as (λ path host more cost acts. refl) (left_is code)

  -- it begins, where so many calls and expressions may nest
  body_case : {g : Setting H} {w : Bool} {t : Tree} {vars : Scopes} {budget : ℕ} (n x place : ℕ) (u : Tree)
      (b : Bool) → body_of g.procedures place ≡ u → is_flat u ≡ b →
      Comes g (room_of (suc n) x) w t
      (λ path st. then_code (eval g (with_calls g n (inner_expression g x)) u path st) leave) vars budget
      (written budget (cond b (called_told (leaf_code g.statics vars u) vars)
      (writes vars (child_under (frame.Called place (room_of n x) w)))))
  body_case {g = g} {vars = vars} {budget = budget} n x place u true h e =
      comes_as (λ path host more cost acts. ap (λ o. then_code o leave)
      (leaf_eval g (with_calls g n (inner_expression g x)) u path (state vars host more budget cost acts) e))
      (left_is (leaf_code g.statics vars u))
  body_case {g = g} {w = w} {vars = vars} {budget = budget} n x place u false h e = record {
    same = λ path host more cost acts. rw (add-zero cost, append-nil, h)
        (sym (leave_heard w (eval g (with_calls g n (inner_expression g x)) u path
        (state vars host more budget cost acts))));
  }

  body_begins : {g : Setting H} {w : Bool} {t : Tree} {vars : Scopes} {budget : ℕ} (n x place : ℕ) (u : Tree)
      → body_of g.procedures place ≡ u →
      Comes g (room_of n x) w t (λ path st. then_code (deeper (inner g x n).call u path st) leave) vars budget
      (written budget (body_move (caller_at g (room_of n x) w) place u vars))
  body_begins zero x place u h = comes_as (λ path host more cost acts. refl) (left_is (Raised too_deep))
  body_begins (suc n) x place u h =
      rw (positive n, pred n) (comes_as (λ path host more cost acts. refl)
      (body_case n x place u (is_flat u) h refl))

  entered_case : {g : Setting H} {w : Bool} {t : Tree} {vars : Scopes} {budget : ℕ} (n x place : ℕ) (u : Tree)
      (done : Result (List ℕ) TclFault) (after : Scopes) → body_of g.procedures place ≡ u →
      Comes g (room_of n x) w t (λ path st. then_code
      (then_value (Ends (code_of done) (record st { vars = after }))
      (λ v s. deeper (inner g x n).call u path s)) leave) vars budget
      (written budget (entered_by (caller_at g (room_of n x) w) place u done after))
  entered_case n x place u (Ok v) after h =
      comes_set after (λ path host more cost acts. refl) (body_begins n x place u h)
  entered_case n x place u (Err f) after h =
      comes_set {m' = λ path st. leave (Raised f) st} after (λ path host more cost acts. refl)
      (left_is (Raised f))

  call_case : {g : Setting H} {w : Bool} {t : Tree} {vars : Scopes} {budget : ℕ} (n x place : ℕ)
      (b : Result Bound TclFault) → ((c : Bound) → b ≡ Ok c → body_of g.procedures place ≡ c.procedure.body) →
      Comes g (room_of n x) w t (called g (inner g x n) b) vars budget
      (written budget (call_by (caller_at g (room_of n x) w) place b vars))
  call_case {g = g} {vars = vars} n x place (Ok c) h =
      let done = row_assigned g.statics (map (λ q. q.name) c.procedure.parameters) c.values (in_proc vars) in
      comes_as (λ path host more cost acts. refl)
      (entered_case n x place c.procedure.body done.value done.vars (h c refl))
  call_case n x place (Err f) h = record { same = λ path host more cost acts. rw (add-zero cost) refl }

  -- a call begins with its words
  pub call_begins : {g : Setting H} {r : Room} {w : Bool} {vars : Scopes} {budget : ℕ} (ts : Trees)
      (words : List (List ℕ)) →
      Comes g r w (tree.command verb.Call ts) (words_end g (inner_of g r) (tree.command verb.Call ts) words)
      vars budget (written budget (call_move (caller_at g r w) words vars))
  call_begins {g = g} {r = r} ts words =
      comes_as (λ path host more cost acts. refl)
      (call_case r.calls r.expressions (place_in g.procedures words) (bound_of g.procedures words)
      (λ c e. body_is g.procedures words c e))

-- what they owe
pub called_goes_owes : {procedures : List Procedure} {t : Tree} (code : Code) (vars : Scopes)
    → Bounded procedures t (mode_owed (mode.Back code)) (called_told code vars).move
called_goes_owes (Value v) vars = stop_bounded (Value v)
called_goes_owes (Raised f) vars = pass_bounded (Raised f)
called_goes_owes (Return v) vars = stop_bounded (Value v)
called_goes_owes Break vars = stop_bounded (code_left Break)
called_goes_owes Continue vars = stop_bounded (code_left Continue)

called_owes : {procedures : List Procedure} {t : Tree} (code : Code) (vars : Scopes)
    → Bounded procedures t 2 (called_told code vars).move
called_owes code vars = stop_bounded (code_left code)

body_owes : {procedures : List Procedure} {t : Tree} (c : Caller) (room : Room) (place : ℕ) (u : Tree)
    (vars : Scopes) (a b : Bool) → body_of procedures place ≡ u → is_flat u ≡ b →
    Bounded procedures t 2 (cond a (called_told (Raised too_deep) vars)
    (cond b (called_told (leaf_code c.statics vars u) vars)
    (writes vars (child_under (frame.Called place room c.wanted))))).move
body_owes c room place u vars true b h e = called_owes (Raised too_deep) vars
body_owes c room place u vars false true h e = called_owes (leaf_code c.statics vars u) vars
body_owes c room place u vars false false h e =
    child_bounded (frame.Called place room c.wanted) refl (ap is_flat h ∙ e)

entered_owes : {t : Tree} (c : Caller) (place : ℕ) (u : Tree) (x : Result (List ℕ) TclFault) (vars : Scopes)
    → body_of c.procedures place ≡ u → Bounded c.procedures t 2 (entered_by c place u x vars).move
entered_owes c place u (Ok v) vars h = body_owes c _ place u vars (nat_eq c.room.calls 0) (is_flat u) h refl
entered_owes c place u (Err f) vars h = called_owes (Raised f) vars

call_owes : {t : Tree} (c : Caller) (place : ℕ) (x : Result Bound TclFault) (vars : Scopes)
    → ((b : Bound) → x ≡ Ok b → body_of c.procedures place ≡ b.procedure.body)
    → Bounded c.procedures t 2 (call_by c place x vars).move
call_owes c place (Ok b) vars h =
    let done = row_assigned c.statics (map (λ q. q.name) b.procedure.parameters) b.values (in_proc vars) in
    entered_owes c place b.procedure.body done.value done.vars (h b refl)
call_owes c place (Err f) vars h = stop_bounded (Raised f)

pub call_begins_owes : {t : Tree} (c : Caller) (words : List (List ℕ)) (vars : Scopes)
    → Bounded c.procedures t 2 (call_move c words vars).move
call_begins_owes c words vars =
    call_owes c (place_in c.procedures words) (bound_of c.procedures words) vars
    (λ b e. body_is c.procedures words b e)
