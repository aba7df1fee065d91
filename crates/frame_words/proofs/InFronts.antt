-- What a script's move comes to and owes, where its first commands are done at once.
use Rattle.std.proofs.Common.{◌≡◌, refl, ap, ◌∙◌, sym, ℕ, zero, suc, ◌+◌, ◌-◌, ◌<◌, ◌≤◌, List, [], ◌∷◌, length, drop, Bool}
use Rattle.std.proofs.Common.{true, false, Option, Some, nat_le, add-zero, add_assoc, arith}
use Rattle.std.proofs.lemmas.Bool.Decides.{nat_tests}
use Rattle.std.proofs.lemmas.List.{drop-drop}
use Rattle.px_bytes.specs.declared.fault.Reply.{Reply}
use Rattle.tcl_trees.specs.Procedures.{Procedure}
use Rattle.tcl_trees.specs.Tree.{Tree, no_trees, and_tree}
use Rattle.tcl_trees.specs.Tree as tree
use Rattle.tcl_vars.specs.Scopes.{Level, Scopes}
use Rattle.rule_model.specs.Children.{child, free}
use Rattle.rule_model.specs.Evaluator.{eval}
use Rattle.rule_model.specs.Outcome.{Act, State, state, Ends, Meaning, heard}
use Rattle.rule_model.specs.Setting.{Setting, Inner}
use Rattle.rule_model.specs.Words.{commands}
use Rattle.rule_model.specs.declared.code.Code.{Code}
use Rattle.rule_model.specs.declared.code.Code.TheVariants.{Value, Raised, Return, Break, Continue}
use Rattle.rule_nodes.specs.Short.{Purse, purse, short_front}
use Rattle.rule_nodes.proofs.ShortEvals.{state_of}
use Rattle.rule_nodes.proofs.ShortFronts.{Goes, IsFront, front_is, row}
use Rattle.frame_words.specs.Scripts.{GoesFrom, from_command, is_value, script_then, unheard}
use Rattle.frames.specs.Children.{is_script}
use Rattle.frames.specs.Children.{commands_of}
use Rattle.frames.specs.Frames.{commands_in, inner_of}
use Rattle.frames.specs.Moves.{begins, goes_on, stop}
use Rattle.frames.specs.Owed.{is_flat}
use Rattle.frames.specs.Stills.{Change, Comes, change_after, changes}
use Rattle.frames.specs.declared.frame.Frame.{Frame}
use Rattle.frames.specs.declared.frame.Frame.TheVariants as frame
use Rattle.frames.specs.declared.frame.Room.{Room}
use Rattle.frame_words.proofs.InScripts.{commands_left, none_left, script_begins_owes, script_comes, script_owes, script_ready, script_ticks, some_left}
use Rattle.frames.proofs.InStills.{Bounded}
use Rattle.frames.proofs.ShortCosts.{front_costs}
use Rattle.frame_words.proofs.WordMeans.{each}

module _ {H : Type 0} (g : Setting H) (r : Room) where
  abbrev i : Inner H
  i = inner_of g r

  row_each : (host : H) (more : List Reply) (before : ℕ) (acts : List Act) (k : ℕ) (ts : List Tree) → row host more before acts g i k ts ≡ each g i free k ts
  row_each host more before acts k [] = refl
  row_each host more before acts k (t ∷ ts) = ap (λ l. child free k t (eval g i t) ∷ l) (row_each host more before acts (k + 1) ts)

  row_left : (host : H) (more : List Reply) (before : ℕ) (acts : List Act) (t : Tree) (at : ℕ)
      → row host more before acts g i at (drop at (commands_of t)) ≡ drop at (commands_in g i t)
  row_left host more before acts t at = row_each host more before acts at (drop at (commands_of t)) ∙ sym (commands_left g r t at)

  row_behind : (host : H) (more : List Reply) (before : ℕ) (acts : List Act) (t : Tree) (at n : ℕ)
      → row host more before acts g i (at + n) (drop n (drop at (commands_of t))) ≡ drop (at + n) (commands_in g i t)
  row_behind host more before acts t at n =
      ap (λ l. row host more before acts g i (at + n) l) (drop-drop n at (commands_of t)) ∙ row_left host more before acts t (at + n)

  front_as : (host : H) (more : List Reply) (before : ℕ) (acts : List Act) (x : Option Purse) (q : Purse) (ms ms' ns ns' : List (Meaning H))
      (last path : List ℕ) (s s' : State H) → x ≡ Some q → ms ≡ ms' → ns ≡ ns' → s ≡ s' → IsFront host more before acts g i x ns path (commands ms last path s)
      → Goes host more before acts g i ns' path q (commands ms' last path s')
  front_as host more before acts x q ms ms' ns ns' last path s s' e f h k w = rw (← f, ← h, ← k) (rw e at w)

  -- behind the front come the other commands
  front_from : (host : H) (more : List Reply) (cost : ℕ) (acts : List Act) (t : Tree) (at n : ℕ) (last path : List ℕ) (vars : Scopes) (budget : ℕ) (q : Purse)
      → short_front g.statics n (drop at (commands_of t)) (purse vars budget 0) ≡ Some q
      → Goes host more cost acts g i (drop (at + n) (commands_in g i t)) path q
      (commands (drop at (commands_in g i t)) last path (state vars host more budget cost acts))
  front_from host more cost acts t at n last path vars budget q e =
      let u : state_of host more cost acts (purse vars budget 0) ≡ state vars host more budget cost acts = rw (add-zero cost) refl in
      front_as host more cost acts _ q _ _ _ _ last path _ _ e (row_left host more cost acts t at) (row_behind host more cost acts t at n) u
      (front_is host more cost acts g i n at (drop at (commands_of t)) last path (purse vars budget 0))

  -- which value is behind the last command done is told by nothing
  unheard_by : (t : Tree) (at : ℕ) (w b : Bool) (v v' path : List ℕ) (st : State H) → nat_le (length (commands_of t)) at ≡ b → 0 < at
      → at ≤ unheard (length (commands_of t)) w
      → heard w (commands (drop at (commands_in g i t)) v path st) ≡ heard w (commands (drop at (commands_in g i t)) v' path st)
  unheard_by t at w false v v' path st e some h =
      let more : at < length (commands_of t) = grind (arith, nat_tests) in
      rw (some_left g r t at more) refl
  unheard_by t at false true v v' path st e some h =
      let over : length (commands_of t) ≤ at = grind (arith, nat_tests) in
      rw (none_left g r t at over) refl
  unheard_by t at true true v v' path st e some h =
      let over : length (commands_of t) ≤ at = grind (arith, nat_tests) in
      absurd (omega (arith, over, some, h))

  -- another value under what is heard, and where something is paid before
  comes_heard : {w : Bool} {t : Tree} {m m' : Meaning H} {vars : Scopes} {budget : ℕ} {c : Change} (after : Scopes) (rest k n : ℕ)
      → ((path : List ℕ) (host : H) (more : List Reply) (cost : ℕ) (acts : List Act)
      → heard w (m path (state vars host more budget cost acts)) ≡ heard w (m' path (state after host more rest (cost + k) acts)))
      → Comes g r w t m' after rest c → Comes g r w t m vars budget (change_after k n c)
  comes_heard {c = c} after rest k n e q = record {
    same = λ path host more cost acts. rw (← add_assoc cost k c.move.cost) (e path host more cost acts ∙ q.same path host more (cost + k) acts);
  }

  back_again : (at : ℕ) → 0 < at → at - 1 + 1 ≡ at
  back_again at h = omega (arith, h)

  rests_comes : (t : Tree) (at : ℕ) (last : List ℕ) (w : Bool) (vars : Scopes) (budget : ℕ) → 0 < at → at ≤ unheard (length (commands_of t)) w
      → Comes g r w t (from_command g i t at last) vars budget (script_then g.statics vars t at last w budget true)
  rests_comes t at last w vars budget some h = record {
    same = λ path host more cost acts. rw (add-zero, back_again at some)
        (unheard_by t at w (nat_le (length (commands_of t)) at) last [] path (state vars host more budget cost acts) refl some h);
  }

  then_comes : (t : Tree) (at : ℕ) (last : List ℕ) (w rests : Bool) (vars : Scopes) (budget : ℕ) → 0 < at → at ≤ unheard (length (commands_of t)) w
      → Comes g r w t (from_command g i t at last) vars budget (script_then g.statics vars t at last w budget rests)
  then_comes t at last w true vars budget some h = rests_comes t at last w vars budget some h
  then_comes t at last w false vars budget some h = record { same = (script_comes g r t at last w vars budget).same }

  front_comes : (t : Tree) (at : ℕ) (last : List ℕ) (w rests : Bool) (vars : Scopes) (budget done : ℕ) (left : Purse)
      → short_front g.statics done (drop at (commands_of t)) (purse vars budget 0) ≡ Some left → 0 < done → at + done ≤ unheard (length (commands_of t)) w
      → Comes g r w t (from_command g i t at last) vars budget
      (change_after left.cost done (script_then g.statics left.vars t (at + done) last w left.budget rests))
  front_comes t at last w rests vars budget done left e some h =
      let far : 0 < at + done = omega (arith, some) in
      comes_heard left.vars left.budget left.cost done
      (λ path host more cost acts.
      let f = front_from host more cost acts t at done last path vars budget left e in
      ap (heard w) f.goes ∙ unheard_by t (at + done) w (nat_le (length (commands_of t)) (at + done)) f.value last path
      (state_of host more cost acts left) refl far h) (then_comes t (at + done) last w rests left.vars left.budget far h)

  none_comes : (t : Tree) (at at' : ℕ) (last : List ℕ) (w : Bool) (vars : Scopes) (budget : ℕ) → at' ≡ at
      → Comes g r w t (from_command g i t at last) vars budget (change_after 0 0 (script_then g.statics vars t at' last w budget false))
  none_comes t at at' last w vars budget e =
      rw e (comes_heard {m' = from_command g i t at last} {c = script_then g.statics vars t at last w budget false} vars budget 0 0
      (λ path host more cost acts. rw (add-zero cost) refl) (record { same = (script_comes g r t at last w vars budget).same }))

  by_front : (t : Tree) (at : ℕ) (last : List ℕ) (w rests : Bool) (vars : Scopes) (budget done : ℕ) (left : Purse)
      → short_front g.statics done (drop at (commands_of t)) (purse vars budget 0) ≡ Some left → (0 < done → at + done ≤ unheard (length (commands_of t)) w)
      → (rests ≡ true → 2 ≤ done)
      → Comes g r w t (from_command g i t at last) vars budget
      (change_after left.cost done (script_then g.statics left.vars t (at + done) last w left.budget rests))
  by_front t at last w true vars budget zero left e h k = absurd (let two = k refl in omega (arith, two))
  by_front t at last w false vars budget zero left e h k =
      let d : purse vars budget 0 ≡ left = cc in
      rw (← d) (none_comes t at (at + 0) last w vars budget (add-zero at))
  by_front t at last w rests vars budget (suc n) left e h k =
      let some : 0 < suc n = omega arith in
      front_comes t at last w rests vars budget (suc n) left e some (h some)

  pub goes_from_comes : (t : Tree) (at : ℕ) (last : List ℕ) (w : Bool) (vars : Scopes) (budget : ℕ) (c : Change)
      → GoesFrom g.statics t at last w vars budget c → Comes g r w t (from_command g i t at last) vars budget c
  goes_from_comes t at last w vars budget c x =
      rw x.change_is (by_front t at last w x.rests vars budget x.done x.left x.does x.goes_unheard x.rests_behind)

-- what it owes
module _ (procedures : List Procedure) (statics : Option Level) (vars : Scopes) (t : Tree) (at : ℕ) (last : List ℕ) (w : Bool) (budget : ℕ) where
  rest_owes : (done cost : ℕ) (rests : Bool) → done ≤ cost → (rests ≡ true → 2 ≤ done)
      → Bounded procedures t 2 (change_after cost done (script_then statics vars t at last w budget rests)).move
  rest_owes done cost true d h = record { owes = let k = h refl in omega (arith, d, k); ready = tt }
  rest_owes done cost false d h = record {
    owes = let o = script_owes statics vars t at last w budget in
        let z = script_ticks statics vars t at last w budget in omega (arith, o, z, d);
    ready = script_ready statics vars t at last w budget procedures;
  }

  -- where something was done, its units pay for the end too
  begun_owes : (done cost : ℕ) (rests : Bool) → done ≤ cost → 0 < done → (rests ≡ true → 2 ≤ done)
      → Bounded procedures t 0 (change_after cost done (script_then statics vars t at last w budget rests)).move
  begun_owes done cost true d some h = record { owes = let k = h refl in omega (arith, d, k); ready = tt }
  begun_owes done cost false d some h = record {
    owes = let o = script_owes statics vars t at last w budget in
        let z = script_ticks statics vars t at last w budget in omega (arith, o, z, d, some);
    ready = script_ready statics vars t at last w budget procedures;
  }

  first_owes : (cost : ℕ) → at < length (commands_of t)
      → Bounded procedures t 0 (change_after cost 0 (script_then statics vars t at last w budget false)).move
  first_owes cost h = record {
    owes = let o = script_begins_owes statics vars t at last w budget h in
        let z = script_ticks statics vars t at last w budget in omega (arith, o, z);
    ready = script_ready statics vars t at last w budget procedures;
  }

pub goes_from_owes : (procedures : List Procedure) (statics : Option Level) (t : Tree) (at : ℕ) (last : List ℕ) (w : Bool) (vars : Scopes) (budget : ℕ)
    (c : Change) → GoesFrom statics t at last w vars budget c → Bounded procedures t 2 c.move
goes_from_owes procedures statics t at last w vars budget c x =
    let k = front_costs statics x.done (drop at (commands_of t)) (purse vars budget 0) x.left x.does in
    rw x.change_is (rest_owes procedures statics x.left.vars t (at + x.done) last w x.left.budget x.done x.left.cost x.rests (omega (arith, k)) x.rests_behind)

begins_by : (procedures : List Procedure) (statics : Option Level) (t : Tree) (last : List ℕ) (w rests : Bool) (vars : Scopes) (budget done cost : ℕ)
    → done ≤ cost → (rests ≡ true → 2 ≤ done) → 0 < length (commands_of t)
    → Bounded procedures t 0 (change_after cost done (script_then statics vars t (0 + done) last w budget rests)).move
begins_by procedures statics t last w true vars budget zero cost d h some = absurd (let two = h refl in omega (arith, two))
begins_by procedures statics t last w false vars budget zero cost d h some = first_owes procedures statics vars t 0 last w budget cost some
begins_by procedures statics t last w rests vars budget (suc n) cost d h some =
    begun_owes procedures statics vars t (0 + suc n) last w budget (suc n) cost rests d (omega arith) h

pub goes_first_owes : (procedures : List Procedure) (statics : Option Level) (t : Tree) (last : List ℕ) (w : Bool) (vars : Scopes) (budget : ℕ) (c : Change)
    → GoesFrom statics t 0 last w vars budget c → 0 < length (commands_of t) → Bounded procedures t 0 c.move
goes_first_owes procedures statics t last w vars budget c x some =
    let k = front_costs statics x.done (drop 0 (commands_of t)) (purse vars budget 0) x.left x.does in
    rw x.change_is (begins_by procedures statics t last w x.rests x.left.vars x.left.budget x.done x.left.cost (omega (arith, k)) x.rests_behind some)

module _ {H : Type 0} (g : Setting H) (r : Room) where
  -- how a script begins, and goes on behind a command
  pub script_begins : (t : Tree) (w : Bool) (vars : Scopes) (budget : ℕ) (c : Change) → is_script t ≡ true → GoesFrom g.statics t 0 [] w vars budget c
      → Comes g r w t (begins g r t) vars budget c
  script_begins (tree.script ts) w vars budget c e x =
      record { same = λ path host more cost acts. (goes_from_comes g r (tree.script ts) 0 [] w vars budget c x).same path host more cost acts }
  script_begins other w vars budget c e x = absurd (cc e)

  pub script_goes : (t : Tree) (at : ℕ) (v w : Bool) (value : List ℕ) (vars : Scopes) (budget : ℕ) (c : Change)
      → GoesFrom g.statics t (at + 1) value w vars budget c → Comes g r w t (goes_on g r t (frame.Script at v) (Value value)) vars budget c
  script_goes t at v w value vars budget c x =
      record { same = λ path host more cost acts. (goes_from_comes g r t (at + 1) value w vars budget c x).same path host more cost acts }

  stops : (t : Tree) (f : Frame) (c : Code) (w : Bool) (vars : Scopes) (budget : ℕ) → ((p : List ℕ) (st : State H) → goes_on g r t f c p st ≡ Ends c st)
      → Comes g r w t (goes_on g r t f c) vars budget (changes budget vars (stop c))
  stops t f c w vars budget e = record { same = λ p host more cost acts. rw (e p (state vars host more budget cost acts), add-zero) refl }

  pub script_stops : (t : Tree) (at : ℕ) (v w : Bool) (c : Code) (vars : Scopes) (budget : ℕ) → is_value c ≡ false
      → Comes g r w t (goes_on g r t (frame.Script at v) c) vars budget (changes budget vars (stop c))
  script_stops t at v w (Value x) vars budget e = absurd (cc e)
  script_stops t at v w (Raised f) vars budget e = stops t (frame.Script at v) (Raised f) w vars budget (λ p st. refl)
  script_stops t at v w (Return x) vars budget e = stops t (frame.Script at v) (Return x) w vars budget (λ p st. refl)
  script_stops t at v w Break vars budget e = stops t (frame.Script at v) Break w vars budget (λ p st. refl)
  script_stops t at v w Continue vars budget e = stops t (frame.Script at v) Continue w vars budget (λ p st. refl)

pub script_some : (t : Tree) → is_script t ≡ true → is_flat t ≡ false → 0 < length (commands_of t)
script_some (tree.script no_trees) e f = absurd (cc f)
script_some (tree.script (and_tree t ts)) e f = omega arith
script_some other e f = absurd (cc e)
