-- What the words of a node lead to comes to what the evaluator does with them, and what it owes.
use Rattle.std.proofs.Common.{◌≡◌, refl, subst, ℕ, ◌+◌, ◌*◌, ◌≤◌, List, [], ◌∷◌, ◌++◌, length, get_or, drop, Bool, Option, Some, None, arith}
use Rattle.std.specs.Prelude.{slice_get}
use Rattle.tcl_trees.specs.Procedures.{Procedure}
use Rattle.tcl_trees.specs.Tree.{Tree, Trees}
use Rattle.tcl_trees.specs.Tree as tree
use Rattle.tcl_trees.specs.declared.node.Verb.{Verb}
use Rattle.tcl_trees.specs.declared.node.Verb.TheVariants as verb
use Rattle.tcl_vars.specs.Scopes.{Level, Scopes}
use Rattle.rule_model.specs.Children.{child, count, free}
use Rattle.rule_model.specs.Commands.{expression_of}
use Rattle.rule_model.specs.Control.{Row, most_turns, rows_command, rows_of}
use Rattle.rule_model.specs.Evaluator.{eval}
use Rattle.rule_model.specs.Host.{Effect}
use Rattle.rule_model.specs.Outcome.{Ends}
use Rattle.rule_model.specs.Setting.{Setting}
use Rattle.rule_model.specs.declared.code.Code.TheVariants.{Value, Raised}
use Rattle.rule_nodes.specs.Rows.{rows_view}
use Rattle.frame_words.specs.Calls.{Caller}
use Rattle.frames.specs.Children.{all, child_at}
use Rattle.frame_moves.specs.Ends.{EachEnds, EndsAs, VerbEnds}
use Rattle.frame_words.specs.FirstWords.{word_verb}
use Rattle.frames.specs.Frames.{inner_of, words_end}
use Rattle.frames.specs.Moves.{Moved, Ready, due, now, stop}
use Rattle.frames.specs.Reads.{known}
use Rattle.frames.specs.Stills.{Change, Comes, Makes, Tally, changes}
use Rattle.frame_moves.specs.Turns.{each_move}
use Rattle.frames.specs.declared.frame.Room.{Room}
use Rattle.frames.specs.declared.next.Next.{Next}
use Rattle.frame_words.proofs.InCalls.{call_begins, call_begins_owes, caller_at}
use Rattle.frame_words.proofs.InCatches.{catch_in_begins, catch_in_begins_owes}
use Rattle.frames.proofs.InMoves.{comes_moved}
use Rattle.frame_moves.proofs.InReading.{read_begins, read_begins_owes}
use Rattle.frames.proofs.InStills.{Bounded, comes_as, comes_at, stop_bounded}
use Rattle.frame_loops.proofs.InSwitches.{count_is, switch_begins, switch_begins_owes}
use Rattle.frame_moves.proofs.InTurns.{turn_is, turn_owes}

-- the body of a `foreach` stands behind its words
at_end : (xs : List Tree) (y d : Tree) → get_or (xs ++ y ∷ []) (length xs) d ≡ y
at_end [] y d = refl
at_end (x ∷ xs) y d = at_end xs y d

body_at : (ts : Trees) (b : Tree) → child_at (tree.each ts b) (length (all ts)) ≡ b
body_at ts b = at_end (all ts) b (tree.each ts b)

module _ {H : Type 0} where
  rows_come : {g : Setting H} {r : Room} {w : Bool} {vars : Scopes} {budget : ℕ} (ts : Trees) (b : Tree)
      (o : Option (List Row)) (c : Change) → EachEnds g.statics (length (all ts)) b o vars budget c
      → Comes g r w (tree.each ts b)
      (rows_command g.statics (child free (count ts) b (eval g (inner_of g r) b)) o) vars budget c
  rows_come ts b None c h = rw h (comes_at (stop (Raised _)) (λ path host more cost acts. refl))
  rows_come {g = g} {r = r} {w = w} {vars = vars} {budget = budget} ts b (Some rs) c h =
      let t = tree.each ts b in
      let place = length (all ts) in
      rw (h.2, count_is ts)
      (subst (λ (l : List Row). Comes g r w t
      (rows_command g.statics (child free place b (eval g (inner_of g r) b)) (Some l)) vars budget
      (each_move (record { statics = g.statics; place = place; body = b; rows = h.0 }) 0 (most_turns l)
      budget vars)) h.1
      (rw (body_at ts b) at
      (turn_is {g = g} {r = r} {w = w} {t = t} {vars = vars} place h.0 0 (most_turns (rows_view h.0))
      budget)))

  verb_comes : {g : Setting H} {r : Room} {w : Bool} {vars : Scopes} {budget : ℕ} (v : Verb) (ts : Trees)
      (words : List (List ℕ)) (c : Change) → word_verb (tree.command v ts) ≡ None
      → VerbEnds (caller_at g r w) v words vars budget c
      → Comes g r w (tree.command v ts) (words_end g (inner_of g r) (tree.command v ts) words) vars budget c
  verb_comes verb.Call ts words c e h = rw h (call_begins ts words)
  verb_comes verb.ExprOfWords ts words c e h = rw h.2 (read_begins ts words h.0 h.1)
  verb_comes other ts words c e h = absurd (cc e)

  nothing_comes : {g : Setting H} {r : Room} {w : Bool} {t : Tree} {vars : Scopes} {budget : ℕ} (c : Change)
      → c ≡ changes budget vars (stop (Value []))
      → Comes g r w t (λ path st. Ends (Value []) st) vars budget c
  nothing_comes c h = rw h (comes_at (stop (Value [])) (λ path host more cost acts. refl))

  ends_come : {g : Setting H} {r : Room} {w : Bool} {vars : Scopes} {budget : ℕ} (t : Tree)
      (words : List (List ℕ)) (c : Change) → word_verb t ≡ None
      → EndsAs (caller_at g r w) t words vars budget c
      → Comes g r w t (words_end g (inner_of g r) t words) vars budget c
  ends_come (tree.command v ts) words c e h = verb_comes v ts words c e h
  ends_come (tree.each ts b) words c e h =
      comes_as (λ path host more cost acts. refl) (rows_come ts b (rows_of (drop 1 words)) c h)
  ends_come (tree.switch k ts bs) words c e h = rw h (switch_begins k ts bs words)
  ends_come (tree.catch_in b n) words c e h = rw h (catch_in_begins b n words)
  ends_come other words c e h = nothing_comes c h

  -- the words of a node that is no command by its words alone
  pub ends_moved : (g : Setting H) (r : Room) (w : Bool) (t : Tree) (words : List (List ℕ)) (h : H)
      (old : Tally) (next : Next) (new : Tally) (made : List Effect → Type 0) → word_verb t ≡ None
      → Makes (EndsAs (caller_at g r w) t words old.vars old.budget) old next new → made []
      → Moved g r w t (words_end g (inner_of g r) t words) (now old.vars h old.budget old.paid)
      (now new.vars h new.budget new.paid) next made
  ends_moved g r w t words h old next new made e m none =
      comes_moved g r w t (words_end g (inner_of g r) t words) old.vars new.vars h old.budget new.budget
      old.paid new.paid m.change next made
      (ends_come t words m.change e m.is) m.leads.next_is m.leads.vars_are m.leads.budget_is m.leads.paid_is
      none

-- what they owe
rows_owe : {procedures : List Procedure} (statics : Option Level) (ts : Trees) (b : Tree)
    (o : Option (List Row)) (vars : Scopes) (budget : ℕ) (c : Change)
    → EachEnds statics (length (all ts)) b o vars budget c → Bounded procedures (tree.each ts b) 2 c.move
rows_owe statics ts b None vars budget c h = rw h (stop_bounded (Raised _))
rows_owe {procedures = procedures} statics ts b (Some rs) vars budget c h =
    let t = tree.each ts b in
    let place = length (all ts) in
    rw h.2 (rw (body_at ts b) at
    (turn_owes {procedures = procedures} {t = t} statics place h.0 0 (most_turns rs) budget vars))

nothing_owes : {procedures : List Procedure} {t : Tree} {vars : Scopes} {budget : ℕ} {c : Change}
    → c ≡ changes budget vars (stop (Value [])) → Bounded procedures t 2 c.move
nothing_owes h = rw h (stop_bounded (Value []))

verb_owes : {t : Tree} (c : Caller) (v : Verb) (words : List (List ℕ)) (vars : Scopes) (budget : ℕ)
    (change : Change) → VerbEnds c v words vars budget change → Bounded c.procedures t 2 change.move
verb_owes c verb.Call words vars budget change h = rw h (call_begins_owes c words vars)
verb_owes c verb.ExprOfWords words vars budget change h =
    rw h.2 (read_begins_owes (known c.statics vars) c.room (expression_of words) h.0 h.1)
verb_owes c other words vars budget change h = nothing_owes h

end_owes : (c : Caller) (t : Tree) (words : List (List ℕ)) (vars : Scopes) (budget : ℕ) (change : Change)
    → EndsAs c t words vars budget change → Bounded c.procedures t 2 change.move
end_owes c (tree.command v ts) words vars budget change h = verb_owes c v words vars budget change h
end_owes c (tree.each ts b) words vars budget change h =
    rows_owe c.statics ts b (rows_of (drop 1 words)) vars budget change h
end_owes c (tree.switch k ts bs) words vars budget change h =
    rw h (switch_begins_owes (known c.statics vars) k ts bs c.wanted (drop 1 words))
end_owes c (tree.catch_in b n) words vars budget change h =
    rw h (catch_in_begins_owes c.statics b n (slice_get words 1) vars)
end_owes c other words vars budget change h = nothing_owes h

-- what a move of such a change owes, and that its counters only grow
pub record Owes (procedures : List Procedure) (t : Tree) (old : Tally) (next : Next) (new : Tally) : Type
    0 where
  pub ready : Ready procedures t next
  pub owed : new.ticked + due next + 3 * old.paid ≤ old.ticked + 2 + 3 * new.paid
  pub grows : old.paid ≤ new.paid
  pub ticks : old.ticked ≤ new.ticked

pub ends_owe : (c : Caller) (t : Tree) (words : List (List ℕ)) (old : Tally) (next : Next) (new : Tally)
    → Makes (EndsAs c t words old.vars old.budget) old next new → Owes c.procedures t old next new
ends_owe c t words old next new m =
    let b = end_owes c t words old.vars old.budget m.change m.is in
    let o = b.owes in let p = m.leads.paid_is in let k = m.leads.ticked_is in
    record {
      ready = rw m.leads.next_is b.ready;
      owed = rw m.leads.next_is (omega (arith, o, p, k));
      grows = omega (arith, p);
      ticks = omega (arith, k);
    }
