-- What the moves of an expression that is read when it runs come to, and what they owe.
use Rattle.std.proofs.Common.{◌≡◌, refl, ap, ◌∙◌, ℕ, suc, zero, ◌+◌, ◌-◌, List, Bool, true, false, cond, Option, Some, None, Result, Ok, Err, arith, rules, add-zero, append-nil, nat_eq}
use Rattle.px_bytes.specs.declared.fault.TclFault.{TclFault}
use Rattle.tcl_trees.specs.Procedures.{Procedure}
use Rattle.tcl_trees.specs.Tree.{Tree, Trees}
use Rattle.tcl_trees.specs.Tree as tree
use Rattle.tcl_trees.specs.declared.node.Verb.TheVariants as verb
use Rattle.tcl_vars.specs.Scopes.{Scopes}
use Rattle.rule_model.specs.Children.{alone}
use Rattle.rule_model.specs.Commands.{deeper, expression_of, expression_read, too_deep}
use Rattle.rule_model.specs.Evaluator.{eval, inner, inner_expression, with_calls}
use Rattle.rule_model.specs.Expressions.{whole}
use Rattle.rule_model.specs.Outcome.{Meaning, state, Ends, paid}
use Rattle.rule_model.specs.declared.code.Code.{Code}
use Rattle.rule_model.specs.declared.code.Code.TheVariants.{Raised}
use Rattle.rule_model.specs.Setting.{Setting}
use Rattle.frames.specs.Frames.{inner_of, words_end}
use Rattle.frames.specs.Moves.{goes_on, stop}
use Rattle.frames.specs.Owed.{is_flat}
use Rattle.frame_moves.specs.Prefixes.{whole_told}
use Rattle.frame_loops.specs.Quick.{quick, quick_or}
use Rattle.frame_moves.specs.Reading.{room_below, IsRead, ReadsBy, ReadsIn, IsReading, read_cost, read_ticks, ReadsFrom, expression_cost, expression_ticks}
use Rattle.frames.specs.Reads.{Known, known}
use Rattle.frames.specs.Stills.{Change, Move, moves, move_after, change_after, still, Comes}
use Rattle.frames.specs.declared.frame.Frame.{Frame}
use Rattle.frames.specs.declared.frame.Frame.TheVariants as frame
use Rattle.frames.specs.declared.frame.Mode.{Mode}
use Rattle.frames.specs.declared.frame.Mode.TheVariants as mode
use Rattle.frames.specs.declared.frame.Room.{Room}
use Rattle.frames.specs.declared.next.Next.{Next}
use Rattle.frames.proofs.Heard.{heard_true}
use Rattle.frame_moves.proofs.InPrefixes.{whole_goes, whole_goes_owes}
use Rattle.frame_loops.proofs.InQuick.{quick_is, quick_free, quick_heavy, quick_ticks}
use Rattle.frames.proofs.InStills.{Bounded, back_owes, bounded_less, comes_as, comes_at, comes_paid, stop_bounded}

positive : (n : ℕ) → nat_eq (suc n) 0 ≡ false
positive n = search rules

pred : (n : ℕ) → suc n - 1 ≡ n
pred n = omega arith

-- what it leads to, with what was paid
abbrev pub reading : Next → (cost ticks : ℕ) → Move
reading next cost ticks = record { next = next; cost = cost; ticks = ticks }

counted_reading : (a cost ticks budget : ℕ) (vars : Scopes) (next : Next)
    → change_after a 0 (still budget vars (move_after cost ticks (moves next))) ≡ still budget vars (reading next (a + cost) ticks)
counted_reading a cost ticks budget vars next =
    let c : cost + 0 ≡ cost = omega arith in
    let s : 0 + (ticks + 0) ≡ ticks = omega arith in
    ap (λ n. still budget vars (reading next (a + n) (0 + (ticks + 0)))) c ∙ ap (λ n. still budget vars (reading next (a + cost) n)) s

abbrev room_of : (calls expressions : ℕ) → Room
room_of n x = record { calls = n; expressions = x }

module _ {H : Type 0} where
  comes_change : {g : Setting H} {r : Room} {w : Bool} {t : Tree} {m : Meaning H} {vars : Scopes} {budget : ℕ} (c c' : Change) → c ≡ c'
      → Comes g r w t m vars budget c → Comes g r w t m vars budget c'
  comes_change c c' e h = rw (← e) h

  deeper_is : (g : Setting H) (n x : ℕ) → (inner g (suc x) n).expression ≡ Some (eval g (with_calls g n (inner_expression g x)))
  deeper_is g zero x = refl
  deeper_is g (suc n) x = refl

  none_deeper : (g : Setting H) (n : ℕ) → (inner g 0 n).expression ≡ None
  none_deeper g zero = refl
  none_deeper g (suc n) = refl

  -- whole expressions keep what they come to
  pub read_goes : {g : Setting H} {r : Room} {w : Bool} {t : Tree} {vars : Scopes} {budget : ℕ} (expression : _) (room : Room) (code : Code) →
      Comes g r w t (goes_on g r t (frame.Read expression room) code) vars budget (still budget vars (whole_told code))
  read_goes expression room code = comes_as (λ path host more cost acts. refl) (whole_goes code)

  framed : {g : Setting H} {n x : ℕ} {w : Bool} {t : Tree} {vars : Scopes} {budget : ℕ} (u : Tree) (f : Option Frame) (m : Mode) → IsRead f u (room_below (room_of n (suc x))) → m ≡ mode.Begin →
      Comes g (room_of n (suc x)) w t (λ path st. whole (eval g (with_calls g n (inner_expression g x)) u path st)) vars budget (still budget vars (reading (record { frame = f; mode = m }) 0 0))
  framed {g = g} {n = n} {x = x} u (Some (frame.Read expression room)) m h e =
      rw (e, h.1, pred x) (comes_at (record { frame = Some (frame.Read expression (room_of n x)); mode = mode.Begin }) (λ path host more cost acts.
      rw (heard_true, append-nil, h.0) refl))
  framed u None m h e = absurd h
  framed u (Some (frame.Script at wanted)) m h e = absurd h
  framed u (Some (frame.Words word part values text)) m h e = absurd h
  framed u (Some (frame.Pieces part text)) m h e = absurd h
  framed u (Some (frame.Operand left)) m h e = absurd h
  framed u (Some (frame.Left at)) m h e = absurd h
  framed u (Some (frame.Right at joint left)) m h e = absurd h
  framed u (Some (frame.Condition at place)) m h e = absurd h
  framed u (Some (frame.Body place wanted)) m h e = absurd h
  framed u (Some frame.Start) m h e = absurd h
  framed u (Some (frame.Test left)) m h e = absurd h
  framed u (Some (frame.Turn left)) m h e = absurd h
  framed u (Some (frame.Next left)) m h e = absurd h
  framed u (Some (frame.Each place rows number left)) m h e = absurd h
  framed u (Some frame.Caught) m h e = absurd h
  framed u (Some (frame.CaughtIn name)) m h e = absurd h
  framed u (Some frame.Whole) m h e = absurd h
  framed u (Some (frame.Called procedure room wanted)) m h e = absurd h

  read_cases : {g : Setting H} {n x : ℕ} {w : Bool} {t : Tree} {vars : Scopes} {budget : ℕ} (u : Tree) (c : Option Code) (cost ticks : ℕ) (next : Next) → (c ≡ None → cost ≡ 0) → ReadsBy c (room_of n (suc x)) u next →
      Comes g (room_of n (suc x)) w t (λ path st. whole (quick_or c cost (eval g (with_calls g n (inner_expression g x)) u) path st)) vars budget (still budget vars (move_after cost ticks (moves next)))
  read_cases u (Some code) cost ticks next none h = rw h (comes_paid cost ticks (λ path host more paid acts. refl) (whole_goes code))
  read_cases {g = g} {n = n} {x = x} u None cost ticks next none h =
      comes_paid {m' = λ path st. whole (eval g (with_calls g n (inner_expression g x)) u path st)} cost ticks (λ path host more paid acts. rw (none refl, add-zero paid) refl)
      (framed u next.frame next.mode h.0 h.1)

  at_once : {g : Setting H} {n x : ℕ} {w : Bool} {t : Tree} {vars : Scopes} {budget : ℕ} (u : Tree) (next : Next) → IsReading (known g.statics vars) (room_of n (suc x)) u next →
      Comes g (room_of n (suc x)) w t (λ path st. whole (eval g (with_calls g n (inner_expression g x)) u path st)) vars budget (still budget vars (move_after (quick (known g.statics vars) u).cost (quick (known g.statics vars) u).ticks (moves next)))
  at_once {g = g} {n = n} {x = x} {vars = vars} {budget = budget} u next h =
      let k = known g.statics vars in
      comes_as (λ path host more cost acts. ap whole (quick_is g (with_calls g n (inner_expression g x)) u path (state vars host more budget cost acts)))
      (read_cases u (quick k u).value (quick k u).cost (quick k u).ticks next (quick_free k u) (rw (positive x) at h))

  -- an expression that was read, where so many calls and expressions may nest
  tree_reads : {g : Setting H} {w : Bool} {t : Tree} {vars : Scopes} {budget : ℕ} (n x : ℕ) (u : Tree) (next : Next) → IsReading (known g.statics vars) (room_of n x) u next →
      Comes g (room_of n x) w t (λ path st. whole (deeper (inner g x n).expression u path (paid (alone u) st))) vars budget
      (still budget vars (reading next (read_cost (known g.statics vars) (room_of n x) u) (read_ticks (known g.statics vars) (room_of n x) u)))
  tree_reads {g = g} n zero u next h =
      rw h (comes_paid {m' = λ path st. Ends (Raised too_deep) st} (alone u) 0 (λ path host more cost acts. rw (none_deeper g n) refl) (comes_at (stop (Raised too_deep)) (λ path host more cost acts. refl)))
  tree_reads {g = g} {vars = vars} {budget = budget} n (suc x) u next h =
      let q = quick (known g.statics vars) u in
      rw (positive x, deeper_is g n x) (comes_change _ _ (counted_reading (alone u) q.cost q.ticks budget vars next)
      (comes_paid (alone u) 0 (λ path host more cost acts. refl) (at_once {n = n} {x = x} u next h)))

  from_reads : {g : Setting H} {r : Room} {w : Bool} {t : Tree} {vars : Scopes} {budget : ℕ} (read : Result Tree TclFault) (next : Next) → ReadsFrom (known g.statics vars) r read next →
      Comes g r w t (expression_read (inner_of g r) read) vars budget (still budget vars (reading next (expression_cost (known g.statics vars) r read) (expression_ticks (known g.statics vars) r read)))
  from_reads {r = r} (Ok u) next h = comes_as (λ path host more cost acts. refl) (tree_reads r.calls r.expressions u next h)
  from_reads (Err f) next h = rw h (comes_at (stop (Raised f)) (λ path host more cost acts. refl))

  -- an `expr` with its words
  pub read_begins : {g : Setting H} {r : Room} {w : Bool} {vars : Scopes} {budget : ℕ} (ts : Trees) (words : List (List ℕ)) (next : Next) → ReadsFrom (known g.statics vars) r (expression_of words) next →
      Comes g r w (tree.command verb.ExprOfWords ts) (words_end g (inner_of g r) (tree.command verb.ExprOfWords ts) words) vars budget
      (still budget vars (reading next (expression_cost (known g.statics vars) r (expression_of words)) (expression_ticks (known g.statics vars) r (expression_of words))))
  read_begins ts words next h = comes_as (λ path host more cost acts. refl) (from_reads (expression_of words) next h)

-- what they owe
frame_owes : {procedures : List Procedure} {t : Tree} (u : Tree) (r : Room) (f : Option Frame) (m : Mode) → is_flat u ≡ false → IsRead f u r → m ≡ mode.Begin → Bounded procedures t 2 (moves (record { frame = f; mode = m }))
frame_owes u r (Some (frame.Read expression room)) m heavy h e = rw e (record { owes = omega arith; ready = ap is_flat h.0 ∙ heavy })
frame_owes u r None m heavy h e = absurd h
frame_owes u r (Some (frame.Script at wanted)) m heavy h e = absurd h
frame_owes u r (Some (frame.Words word part values text)) m heavy h e = absurd h
frame_owes u r (Some (frame.Pieces part text)) m heavy h e = absurd h
frame_owes u r (Some (frame.Operand left)) m heavy h e = absurd h
frame_owes u r (Some (frame.Left at)) m heavy h e = absurd h
frame_owes u r (Some (frame.Right at joint left)) m heavy h e = absurd h
frame_owes u r (Some (frame.Condition at place)) m heavy h e = absurd h
frame_owes u r (Some (frame.Body place wanted)) m heavy h e = absurd h
frame_owes u r (Some frame.Start) m heavy h e = absurd h
frame_owes u r (Some (frame.Test left)) m heavy h e = absurd h
frame_owes u r (Some (frame.Turn left)) m heavy h e = absurd h
frame_owes u r (Some (frame.Next left)) m heavy h e = absurd h
frame_owes u r (Some (frame.Each place rows number left)) m heavy h e = absurd h
frame_owes u r (Some frame.Caught) m heavy h e = absurd h
frame_owes u r (Some (frame.CaughtIn name)) m heavy h e = absurd h
frame_owes u r (Some frame.Whole) m heavy h e = absurd h
frame_owes u r (Some (frame.Called procedure room wanted)) m heavy h e = absurd h

by_owes : {procedures : List Procedure} {t : Tree} (u : Tree) (r : Room) (x : Option Code) (next : Next) → (x ≡ None → is_flat u ≡ false) → ReadsBy x r u next → Bounded procedures t 2 (moves next)
by_owes u r (Some code) next heavy h = rw h (bounded_less (back_owes code) (whole_goes_owes code))
by_owes u r None next heavy h = frame_owes u (room_below r) next.frame next.mode (heavy refl) h.0 h.1

reads_owe : {procedures : List Procedure} {t : Tree} (k : Known) (r : Room) (u : Tree) (next : Next) (full : Bool) → ReadsIn full k r u next →
    Bounded procedures t 2 (reading next (alone u + cond full 0 (quick k u).cost) (cond full 0 (quick k u).ticks))
reads_owe k r u next true h = rw h (let b = back_owes (Raised too_deep) in record { owes = omega (arith, b); ready = tt })
reads_owe {procedures = procedures} {t = t} k r u next false h =
    let b = by_owes {procedures = procedures} {t = t} u r (quick k u).value next (quick_heavy k u) h in
    record { owes = let n = b.owes in let few = quick_ticks k u in omega (arith, n, few); ready = b.ready }

pub read_begins_owes : {procedures : List Procedure} {t : Tree} (k : Known) (r : Room) (read : Result Tree TclFault) (next : Next) → ReadsFrom k r read next →
    Bounded procedures t 2 (reading next (expression_cost k r read) (expression_ticks k r read))
read_begins_owes k r (Ok u) next h = reads_owe k r u next (nat_eq r.expressions 0) h
read_begins_owes k r (Err f) next h = rw h (stop_bounded (Raised f))
