-- Loops.
use Rattle.plain_eval.proofs.Vocabulary
use Vocabulary.{Bool, Err, List, None, Ok, Option, Result, Some, [], arith, codes, false, refl, suc}
use Vocabulary.{true, zero, ℕ, ◌+◌, ◌-◌, ◌<◌, ◌∷◌, ◌≡◌, ◌≤◌, Raise, TclFault, each, trees_of}
use Vocabulary.{node_view, nodes_view, Node, Does, Level, Scopes, alone, child, count, free, one}
use Vocabulary.{Row, after_body, after_next, each_rows, most_turns, row_loop, rows_command}
use Vocabulary.{list_rows, turn, turn_assigned, HostStep, Act, Ends, Meaning, Outcome, State}
use Vocabulary.{then_code, Code, Raised, Value, body_goes, next_goes, if_some, Spends, after_end}
use Vocabulary.{ended, going, kept, loop_end, body_of, loop_tree, meaning_of, test_of, turns_of}
use Vocabulary.{words_of, EndsAs, Gave, GoesOn, Ran, Stand, Went, from, setting_of, stand, End}
use Vocabulary.{Halted, Context, Run}
use Rattle.rule_nodes.specs.declared.goes.Goes.{Goes}
use Rattle.plain_eval.specs.declared.loops.Loop.{Loop}
use Rattle.rule_nodes.specs.declared.goes.Goes.TheVariants as goes
use Rattle.plain_eval.specs.declared.run.End.TheVariants as end
use Rattle.plain_eval.proofs.InWords.{child_ran}
use Rattle.plain_eval.proofs.Steps.{at_stand, change_goes, changing, code_goes_unheard, code_waits}
use Rattle.plain_eval.proofs.Steps.{goes_by, goes_then, paid_gave, spend_gave, value_goes}
use Rattle.plain_eval.proofs.Steps.{went_then, with_vars}

-- what a loop does after a code, by whether it goes on
abbrev by_goes : {H : Type 0} → Goes → (State H → Outcome H) → Code → State H → Outcome H
by_goes goes.On go code st = go st
by_goes goes.Over go code st = Ends (Value []) st
by_goes goes.Ends go code st = Ends code st

module _ {H : Type 0} where
  pub body_by : (go : State H → Outcome H) (c : Code) (st : State H) → after_body go c st ≡ by_goes (body_goes c) go c st
  body_by go (Value v) st = refl
  body_by go other st = refl

  pub next_by : (go : State H → Outcome H) (c : Code) (st : State H) → after_next go c st ≡ by_goes (next_goes c) go c st
  next_by go (Value v) st = refl
  next_by go other st = refl

  -- what isn't heard, and what a loop does after its end
  module _ (after : (State H → Outcome H) → Code → State H → Outcome H) (of : Code → Goes)
      (by : (go : State H → Outcome H) (c : Code) (st : State H) → after go c st ≡ by_goes (of c) go c st)
      (deaf : (go : State H → Outcome H) (v : List ℕ) (st : State H) → after go (Value v) st ≡ after go (Value []) st) where
    abbrev pub looped : Meaning H → (Unit {0} → Meaning H) → Meaning H
    looped m go path st = then_code (m path st) (after (go tt path))

    unheard : {m : Meaning H} {b mid : Stand H} {w : Bool} {e : End} {last : Stand H} (go : Unit {0} → Meaning H) (d : Code) → Ran false m b (end.Done d) mid
        → ((path : List ℕ) (c : ℕ) (a : List Act) → EndsAs w (by_goes (of d) (go tt path) d (from mid c a)) e last) → Ran w (looped m go) b e last
    unheard {m = m} {b = b} {mid = mid} {w = w} {e = e} {last = last} go d ran h = record {
      by = λ path cost acts. code_goes_unheard (m path (from b cost acts)) (after (go tt path)) d mid w e last (deaf (go tt path)) (ran.by path cost acts)
          (λ c a. rw (by (go tt path) d (from mid c a)) (h path c a));
    }

    looped_at : {m : Meaning H} {b mid : Stand H} (d : Code) (g : Goes) → of d ≡ g → Ran false m b (end.Done d) mid → Gave (looped m) b (going g) (loop_end g (end.Done d)) mid
    looped_at d goes.On is ran = record { went = λ w go. record { closes = λ e last r. unheard go d ran (λ path c a. rw is (r.by path c a)) } }
    looped_at {mid = mid} d goes.Over is ran = record { went = λ w go. unheard go d ran (λ path c a. rw is (at_stand w (Value []) mid c a)) }
    looped_at {mid = mid} d goes.Ends is ran = record { went = λ w go. unheard go d ran (λ path c a. rw is (at_stand w d mid c a)) }

    pub looped_gave : {m : Meaning H} {b mid : Stand H} (e : End) → Ran false m b e mid → Gave (looped m) b (going (after_end of e)) (loop_end (after_end of e) e) mid
    looped_gave (end.Done d) ran = looped_at d (of d) refl ran
    looped_gave {m = m} {b = b} {mid = mid} (end.Waits call) ran =
        record { went = λ w go. record { by = λ path cost acts. code_waits false w (m path (from b cost acts)) (after (go tt path)) call mid (ran.by path cost acts) } }
    looped_gave end.Memory ran = record { went = λ w go. record { by = λ path cost acts. tt } }

module _ {E H : Type 0} (table : E → H → List (List ℕ) → HostStep H) (context : Context E) where
  -- ---- turns
  module _ (parts : Loop) where
    abbrev next_at : Meaning H
    next_at = child free 2 (node_view parts.next.now) (meaning_of table context (node_view parts.next.now))

    -- what a turn does behind its body, behind its unit, and behind the condition
    abbrev pub behind_body : ℕ → Unit {0} → Meaning H
    behind_body n u path b = then_code (next_at path b) (after_next (turns_of table context parts n path))

    abbrev pub behind_unit : ℕ → Meaning H
    behind_unit n = body_of table context 3 parts.body.now (behind_body n)

    abbrev pub turn_at : ℕ → Bool → Meaning H
    turn_at n holds path st = turn n
        (child alone 1 (node_view parts.test.now) (meaning_of table context (node_view parts.test.now)))
        (child free 3 (node_view parts.body.now) (meaning_of table context (node_view parts.body.now))) next_at path holds st

    -- the condition holds, and the turn's unit is paid, or there is none
    pub turn_paid : {b : Stand H} {e : End} (n : ℕ) (old new : Run) (host : H) (r : Result (Unit {0}) Halted) → Gave (test_of table context alone 1 parts.test.now) b (Ok true) e (stand old host) → Spends old r new
        → Went true (turns_of table context parts (suc n)) b r new.end (λ u. behind_unit n) (stand new host)
    turn_paid n old new host r test s =
        went_then r (λ u. behind_unit n) new.end (stand new host) (test.went true (turn_at (suc n))) ((spend_gave old new host r s).went true (λ u. behind_unit n))

    -- and what comes behind its body
    pub turn_ends : {b mid last : Stand H} (n : ℕ) (e : End) → GoesOn true (turns_of table context parts (suc n)) b (behind_body n tt) mid → Ran false (meaning_of table context (node_view parts.next.now)) mid e last
        → Went true (turns_of table context parts (suc n)) b (going (after_end next_goes e)) (loop_end (after_end next_goes e) e) (λ on. turns_of table context parts n) last
    turn_ends {last = last} n e goes ran = went_then (going (after_end next_goes e)) (λ on. turns_of table context parts n) (loop_end (after_end next_goes e) e) last goes
        ((looped_gave after_next next_goes next_by (λ go v st. refl) e (child_ran _ _ free 2 (node_view parts.next.now) ran)).went true (λ on. turns_of table context parts n))

    -- what starts a loop
    pub loop_starts : {b mid : Stand H} (start : Node) (e : End) (u : Unit {0}) → Ok u ≡ ended e → Ran false (meaning_of table context (node_view start)) b e mid
        → GoesOn true (meaning_of table context (loop_tree start parts)) b (turns_of table context parts mid.budget) mid
    loop_starts {mid = mid} start e u value ran = goes_by (λ end last r path cost acts.
        value_goes false _ _ e u mid true end last value ((child_ran _ _ free 0 (node_view start) ran).by path (cost + 1) acts) (λ v c a same. r.by path c a))

  -- ---- the turns of a `foreach`
  module _ (ws : List Node) (n : Node) where
    abbrev statics : Option Level
    statics = (setting_of table context).statics

    abbrev pub each_body : Meaning H
    each_body = child free (count (trees_of (nodes_view ws))) (node_view n) (meaning_of table context (node_view n))

    -- so many turns from this one on
    abbrev pub rows_left : List Row → (more k : ℕ) → Meaning H
    rows_left rows more k = row_loop statics rows each_body more k

    -- all of them, where the words are names and lists
    abbrev pub rows_read : Result (List Row) TclFault → Meaning H
    rows_read (Ok rows) path st = rows_left rows (most_turns rows) 0 path st
    rows_read (Err f) path st = Ends (Raised f) st

    rows_are : {s : Stand H} (o : Option (List Row)) → GoesOn true (rows_command statics each_body o) s (rows_read (if_some o)) s
    rows_are (Some rows) = goes_by (λ e last r path cost acts. r.by path cost acts)
    rows_are None = goes_by (λ e last r path cost acts. r.by path cost acts)

    pub each_goes : {b mid : Stand H} {e : End} (lists : List (List ℕ)) → Gave (words_of table context (codes "foreach" ∷ []) 0 one ws) b (Ok lists) e mid
        → GoesOn true (meaning_of table context (each (trees_of (nodes_view ws)) (node_view n))) b (rows_read (if_some (list_rows lists))) mid
    each_goes lists gave = goes_then ((paid_gave 1 (Ok lists) gave).went true (each_rows statics each_body)) (rows_are (list_rows lists))

    abbrev pub row_in : List Row → (more k : ℕ) → Unit {0} → Meaning H
    row_in rows more k u = changing (turn_assigned statics k rows) (body_of table context (count (trees_of (nodes_view ws))) n (λ on. rows_left rows more (k + 1)))

    -- a turn whose unit is paid and whose variables are set, and its body
    pub row_went : {out : Stand H} {e : End} (rows : List Row) (more k : ℕ) (old new : Run) (host : H) (vars : Scopes) (q : Result (Unit {0}) Raise) (u x : Unit {0}) (r : Result (Unit {0}) Halted) → Spends old (Ok x) new → Ok u ≡ kept q → Does (turn_assigned statics k rows new.vars) q vars
        → Gave (body_of table context (count (trees_of (nodes_view ws))) n) (with_vars vars (stand new host)) r e out → Went true (rows_left rows (suc more) k) (stand old host) r e (λ on. rows_left rows more (k + 1)) out
    row_went {out = out} {e = e} rows more k old new host vars q u x r s set did body = went_then r (λ on. rows_left rows more (k + 1)) e out
        (goes_then ((spend_gave old new host (Ok x) s).went true (row_in rows more k)) (change_goes (turn_assigned statics k rows) q u (body_of table context (count (trees_of (nodes_view ws))) n (λ on. rows_left rows more (k + 1))) set did))
        (body.went true (λ on. rows_left rows more (k + 1)))

-- a turn less is left
pub one_less : (most k : ℕ) → k < most → most - k ≡ suc (most - (k + 1))
one_less most k there = omega arith

pub all_left : (most : ℕ) → most - 0 ≡ most
all_left most = omega arith

pub none_left : (most k : ℕ) → most ≤ k → most - k ≡ zero
none_left most k over = omega arith
