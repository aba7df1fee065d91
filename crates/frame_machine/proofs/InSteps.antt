-- A move of the node above all frames is a step of the machine.
use Rattle.std.proofs.Common.{◌≡◌, refl, ap, ◌∙◌, sym, ℕ, ◌+◌, ◌-◌, ◌*◌, ◌≤◌, List, [], ◌∷◌, ◌++◌, Bool, true, false, Option, Some, None, add-zero, append-nil, append_assoc, arith, cond}
use Rattle.std.specs.Prelude.{sum_by}
use Rattle.std.proofs.lemmas.List.Sums.{sum_by-append}
use Rattle.px_bytes.specs.declared.fault.Reply.{Reply}
use Rattle.tcl_trees.specs.Procedures.{Procedure}
use Rattle.tcl_trees.specs.Tree.{Tree}
use Rattle.tcl_vars.specs.Scopes.{Scopes}
use Rattle.rule_model.specs.Control.{is_caught}
use Rattle.rule_model.specs.Host.{Effect}
use Rattle.rule_model.specs.Outcome.{Act, State, state, Outcome, heard, heard_code}
use Rattle.rule_model.specs.Setting.{Setting}
use Rattle.rule_model.specs.declared.code.Code.{Code}
use Rattle.rule_model.specs.declared.code.Code.TheVariants.{Value, Raised, Return, Break, Continue}
use Rattle.frames.specs.Frames.{apply, unwind, inside, wants, places, room_in, inner_of, full_room, meaning, path_of, room_above, tree_above, comes_to}
use Rattle.frames.specs.Moves.{Moved, Now, Ready, ReadyBy, begins, due, frame_owed, goes_on, list_of, now, state_at}
use Rattle.frames.specs.Owed.{Heavy, is_flat, mode_owed, owed, owed_by, weight}
use Rattle.frame_machine.specs.Places.{wants_above}
use Rattle.frame_machine.specs.Steps.{StepsTo, told_mode, told_turn}
use Rattle.frames.specs.Went.{Went, TurnIs, comes_by}
use Rattle.frames.specs.declared.frame.Frame.{Frame}
use Rattle.frames.specs.declared.frame.Mode.{Mode}
use Rattle.frames.specs.declared.frame.Mode.TheVariants as mode
use Rattle.frames.specs.declared.frame.Room.{Room}
use Rattle.frames.specs.declared.frame.Standing.{Standing}
use Rattle.frames.specs.declared.next.Next.{Next}
use Rattle.frames.specs.declared.turn.Turn.{Turn}
use Rattle.frames.proofs.Heard.{heard_true}

module _ {H : Type 0} (g : Setting H) where
  unwind_both : (r : Room) (t : Tree) (p : List ℕ) (fs gs : List Frame) (m : Mode) (st : State H)
      → meaning g r t (fs ++ gs) m p st ≡ unwind g r t p fs (meaning g (room_above r fs) (tree_above g.procedures t fs) gs m (p ++ path_of fs) st)
  unwind_both r t p [] gs m st = rw append-nil refl
  unwind_both r t p (f ∷ fs) gs m st =
      rw (← append_assoc p (places f) (path_of (fs ++ gs)), ← append_assoc p (places f) (path_of fs))
      (ap (λ o. apply g (inner_of g r) t p f (heard (wants f) o)) (unwind_both (room_in r f) (inside g.procedures t f) (p ++ places f) fs gs m st))

  heard_on : (r : Room) (w : Bool) (t : Tree) (p : List ℕ) (fs : List Frame) (a b : Outcome H) → heard (wants_above w fs) a ≡ heard (wants_above w fs) b → heard w (unwind g r t p fs a) ≡ heard w (unwind g r t p fs b)
  heard_on r w t p [] a b e = e
  heard_on r w t p (f ∷ fs) a b e = ap (λ o. heard w (apply g (inner_of g r) t p f o)) (heard_on (room_in r f) (wants f) (inside g.procedures t f) (p ++ places f) fs a b e)

  unwound : (r : Room) (t : Tree) (p : List ℕ) (fs : List Frame) (a b : Outcome H) → heard (wants_above true fs) a ≡ heard (wants_above true fs) b → unwind g r t p fs a ≡ unwind g r t p fs b
  unwound r t p fs a b e = sym (heard_true (unwind g r t p fs a)) ∙ heard_on r true t p fs a b e ∙ heard_true (unwind g r t p fs b)

  pub begin_steps : (t : Tree) (fs fs' : List Frame) (m' : Mode) (old new : Now H) (next : Next) (made : List Effect → Type 0) → fs' ≡ fs ++ list_of next.frame → m' ≡ next.mode
      → Moved g (room_above full_room fs) (wants_above true fs) (tree_above g.procedures t fs) (begins g (room_above full_room fs) (tree_above g.procedures t fs)) old new next made
      → StepsTo g t fs mode.Begin fs' m' old new made
  begin_steps t fs fs' m' old new next made e f q = record {
    acts = q.acts;
    same = λ more cost before. rw (e, f)
        (unwound full_room t [] fs (begins g (room_above full_room fs) (tree_above g.procedures t fs) (path_of fs) (state_at old more cost before)) _ (q.same (path_of fs) more cost before)
        ∙ sym (unwind_both full_room t [] fs (list_of next.frame) next.mode (state_at new more cost (before ++ q.acts))));
    by = q.by;
    called = q.called;
    once = q.once;
  }

  pub back_steps : (t : Tree) (fs all fs' : List Frame) (top : Frame) (c : Code) (m' : Mode) (old new : Now H) (next : Next) (made : List Effect → Type 0) → all ≡ fs ++ top ∷ [] → fs' ≡ fs ++ list_of next.frame → m' ≡ next.mode
      → Moved g (room_above full_room fs) (wants_above true fs) (tree_above g.procedures t fs) (goes_on g (room_above full_room fs) (tree_above g.procedures t fs) top (heard_code (wants top) c)) old new next made
      → StepsTo g t all (mode.Back c) fs' m' old new made
  back_steps t fs all fs' top c m' old new next made d e f q = record {
    acts = q.acts;
    same = λ more cost before. rw (d, e, f)
        (unwind_both full_room t [] fs (top ∷ []) (mode.Back c) (state_at old more cost before)
        ∙ unwound full_room t [] fs (goes_on g (room_above full_room fs) (tree_above g.procedures t fs) top (heard_code (wants top) c) (path_of fs) (state_at old more cost before)) _ (q.same (path_of fs) more cost before)
        ∙ sym (unwind_both full_room t [] fs (list_of next.frame) next.mode (state_at new more cost (before ++ q.acts))));
    by = q.by;
    called = q.called;
    once = q.once;
  }

  pub root_steps : (t : Tree) (fs fs' : List Frame) (m m' : Mode) (old : Now H) (made : List Effect → Type 0) → fs' ≡ fs → m' ≡ m → made [] → StepsTo g t fs m fs' m' old old made
  root_steps t fs fs' m m' old made e f q = record { acts = []; same = λ more cost before. rw (e, f, append-nil) refl; by = q; called = None; once = (refl, refl) }

  stands_same : (t : Tree) (m : Standing) (fs : List Frame) (md : Mode) (vars : Scopes) (h : H) (more : List Reply) (cost : ℕ) (acts : List Act) → m.frames.items ≡ fs → m.mode ≡ md
      → meaning g full_room t fs md [] (state vars h more m.budget cost acts) ≡ comes_to g t m vars h more cost acts
  stands_same t m fs md vars h more cost acts e f =
      sym (ap {B = Outcome H} (λ l. meaning g full_room t l m.mode [] (state vars h more m.budget cost acts)) e ∙ ap {B = Outcome H} (λ x. meaning g full_room t fs x [] (state vars h more m.budget cost acts)) f)

  told_same : (t : Tree) (m : Standing) (fs : List Frame) (md : Mode) (vars : Scopes) (h : H) (more : List Reply) (cost : ℕ) (acts : List Act) → m.frames.items ≡ fs → m.mode ≡ told_mode fs md
      → meaning g full_room t fs md [] (state vars h more m.budget cost acts) ≡ comes_by (told_turn fs md) g t m vars h more cost acts
  told_same t m [] (mode.Back c) vars h more cost acts e f = refl
  told_same t m [] mode.Begin vars h more cost acts e f = stands_same t m [] mode.Begin vars h more cost acts e f
  told_same t m [] (mode.Asked call) vars h more cost acts e f = stands_same t m [] (mode.Asked call) vars h more cost acts e f
  told_same t m [] mode.Over vars h more cost acts e f = stands_same t m [] mode.Over vars h more cost acts e f
  told_same t m (x ∷ fs) mode.Begin vars h more cost acts e f = stands_same t m (x ∷ fs) mode.Begin vars h more cost acts e f
  told_same t m (x ∷ fs) (mode.Back c) vars h more cost acts e f = stands_same t m (x ∷ fs) (mode.Back c) vars h more cost acts e f
  told_same t m (x ∷ fs) (mode.Asked call) vars h more cost acts e f = stands_same t m (x ∷ fs) (mode.Asked call) vars h more cost acts e f
  told_same t m (x ∷ fs) mode.Over vars h more cost acts e f = stands_same t m (x ∷ fs) mode.Over vars h more cost acts e f

told_is : (m : Standing) (fs : List Frame) (md : Mode) → (md ≡ mode.Over → ⊥) → m.mode ≡ told_mode fs md → TurnIs (told_turn fs md) m
told_is m [] (mode.Back c) h f = f
told_is m [] mode.Begin h f = rw f tt
told_is m [] (mode.Asked call) h f = f
told_is m [] mode.Over h f = absurd (h refl)
told_is m (x ∷ fs) mode.Begin h f = rw f tt
told_is m (x ∷ fs) (mode.Back c) h f = rw f tt
told_is m (x ∷ fs) (mode.Asked call) h f = f
told_is m (x ∷ fs) mode.Over h f = absurd (h refl)

-- what is owed once the end is told
told_owes : (fs : List Frame) (md : Mode) → owed_by fs (told_mode fs md) ≤ sum_by weight fs + mode_owed md
told_owes [] (mode.Back c) = omega arith
told_owes [] mode.Begin = omega arith
told_owes [] (mode.Asked call) = omega arith
told_owes [] mode.Over = omega arith
told_owes (x ∷ fs) mode.Begin = omega arith
told_owes (x ∷ fs) (mode.Back c) = omega arith
told_owes (x ∷ fs) (mode.Asked call) = omega arith
told_owes (x ∷ fs) mode.Over = omega arith

-- the turn that is told, with what it comes to
pub went : {H : Type 0} (g : Setting H) (t : Tree) (old new : Standing) (fs : List Frame) (md : Mode) (said : Turn) (vars vars' : Scopes) (h h' : H) (a b s s' : ℕ) (made : List Effect → Type 0) → a ≡ 0
    → (md ≡ mode.Over → ⊥) → new.frames.items ≡ fs → new.mode ≡ told_mode fs md → said ≡ told_turn fs md
    → StepsTo g t old.frames.items old.mode fs md (now vars h old.budget a) (now vars' h' new.budget b) made
    → (Heavy g.procedures t old.frames.items old.mode → Heavy g.procedures t new.frames.items new.mode)
    → (Heavy g.procedures t old.frames.items old.mode → s' + owed new + 3 * a ≤ s + owed old + 3 * b) → s ≤ s'
    → Went g t (record { machine = old; vars = vars; host = h }) (record { machine = new; vars = vars'; host = h' }) said made (s' - s)
went g t old new fs md said vars vars' h h' a b s s' made z goes e f n q heavy paid grows = record {
  spent = b;
  acts = q.acts;
  same = λ more cost before. rw n (rw (z, add-zero) at (q.same more cost before) ∙ told_same g t new fs md vars' h' more (cost + b) (before ++ q.acts) e f);
  turn_is = rw n (told_is new fs md goes f);
  by = q.by;
  called = q.called;
  once = q.once;
  stays_heavy = heavy;
  paid = λ w. let k = paid w in omega (arith, k, z, grows);
}

weights_both : (fs gs : List Frame) → sum_by weight (fs ++ gs) ≡ sum_by weight fs + sum_by weight gs
weights_both fs gs = sum_by-append weight fs gs

weights_of : (o : Option Frame) → sum_by weight (list_of o) ≡ frame_owed o
weights_of None = refl
weights_of (Some f) = omega arith

-- what is owed where a node stands
stood : (fs fs' : List Frame) (next : Next) → fs' ≡ fs ++ list_of next.frame → owed_by fs' (told_mode fs' next.mode) ≤ sum_by weight fs + due next
stood fs fs' next e =
    let k = weights_both fs (list_of next.frame) in
    let l = weights_of next.frame in
    let o = told_owes fs' next.mode in
    let s = ap {B = ℕ} (λ l. sum_by weight l) e in
    omega (arith, k, l, o, s)

begin_one : (fs : List Frame) → owed_by fs mode.Begin ≡ sum_by weight fs + 1
begin_one [] = refl
begin_one (f ∷ fs) = refl

back_all : (fs : List Frame) (top : Frame) (c : Code) → owed_by (fs ++ top ∷ []) (mode.Back c) ≡ sum_by weight fs + weight top + mode_owed (mode.Back c)
back_all [] top c = omega arith
back_all (f ∷ fs) top c = let k = weights_both (f ∷ fs) (top ∷ []) in let l = weights_of (Some top) in omega (arith, k, l)

begin_busy : (fs fs' : List Frame) (next : Next) (s s1 s2 a b : ℕ) → fs' ≡ fs ++ list_of next.frame → s1 ≡ s + 1 → s2 + due next + 3 * a ≤ s1 + 3 * b
    → s2 + owed_by fs' (told_mode fs' next.mode) + 3 * a ≤ s + owed_by fs mode.Begin + 3 * b
begin_busy fs fs' next s s1 s2 a b e d k = let l = stood fs fs' next e in let o = begin_one fs in omega (arith, k, l, d, o)

-- a flat root ends at once
root_flat : (fs' : List Frame) (next : Next) (c : Code) (s s1 s2 a b : ℕ) → fs' ≡ list_of next.frame → s1 ≡ s + 1 → s2 ≡ s1 → next ≡ record { frame = None; mode = mode.Back c } → a ≤ b
    → s2 + owed_by fs' (told_mode fs' next.mode) + 3 * a ≤ s + owed_by [] mode.Begin + 3 * b
root_flat fs' next c s s1 s2 a b e d u n m = rw (e, n) (omega (arith, u, d, m))

root_owes : (fs' : List Frame) (next : Next) (c : Code) (s s1 s2 a b : ℕ) (flat x : Bool) → flat ≡ x → fs' ≡ list_of next.frame → s1 ≡ s + 1 → (flat ≡ false → s2 + due next + 3 * a ≤ s1 + 3 * b)
    → (flat ≡ true → (s2 ≡ s1) × (next ≡ record { frame = None; mode = mode.Back c })) → a ≤ b → s2 + owed_by fs' (told_mode fs' next.mode) + 3 * a ≤ s + owed_by [] mode.Begin + 3 * b
root_owes fs' next c s s1 s2 a b flat false q e d h k m = begin_busy [] fs' next s s1 s2 a b e d (h q)
root_owes fs' next c s s1 s2 a b flat true q e d h k m = root_flat fs' next c s s1 s2 a b e d (k q).0 (k q).1 m

pub begin_owes : (ps : List Procedure) (t : Tree) (fs fs' : List Frame) (next : Next) (c : Code) (s s1 s2 a b : ℕ) → fs' ≡ fs ++ list_of next.frame → s1 ≡ s + 1
    → (is_flat (tree_above ps t fs) ≡ false → s2 + due next + 3 * a ≤ s1 + 3 * b) → (is_flat (tree_above ps t fs) ≡ true → (s2 ≡ s1) × (next ≡ record { frame = None; mode = mode.Back c })) → a ≤ b
    → Heavy ps t fs mode.Begin → s2 + owed_by fs' (told_mode fs' next.mode) + 3 * a ≤ s + owed_by fs mode.Begin + 3 * b
begin_owes ps t [] fs' next c s s1 s2 a b e d h k m w = root_owes fs' next c s s1 s2 a b (is_flat t) (is_flat t) refl e d h k m
begin_owes ps t (f ∷ fs) fs' next c s s1 s2 a b e d h k m w = begin_busy (f ∷ fs) fs' next s s1 s2 a b e d (h w)

caught_heard : (w : Bool) (c : Code) → is_caught (heard_code w c) ≡ is_caught c
caught_heard true c = refl
caught_heard false (Value v) = refl
caught_heard false (Raised f) = refl
caught_heard false (Return v) = refl
caught_heard false Break = refl
caught_heard false Continue = refl

pub back_owes : (fs all fs' : List Frame) (top : Frame) (c : Code) (next : Next) (s s1 s2 a b : ℕ) → all ≡ fs ++ top ∷ [] → fs' ≡ fs ++ list_of next.frame → s1 ≡ s + 1
    → s2 + 1 + due next + 3 * a ≤ s1 + (weight top + mode_owed (mode.Back (heard_code (wants top) c))) + 3 * b
    → s2 + owed_by fs' (told_mode fs' next.mode) + 3 * a ≤ s + owed_by all (mode.Back c) + 3 * b
back_owes fs all fs' top c next s s1 s2 a b d e f h =
    let l = stood fs fs' next e in
    let x = back_all fs top c in
    let y = ap {B = ℕ} (λ l. owed_by l (mode.Back c)) d in
    let z = ap {B = ℕ} (λ b. cond b 2 0) (caught_heard (wants top) c) in
    omega (arith, h, l, x, y, z, f)

above_one : (ps : List Procedure) (t : Tree) (fs : List Frame) (f : Frame) → tree_above ps t (fs ++ f ∷ []) ≡ inside ps (tree_above ps t fs) f
above_one ps t [] f = refl
above_one ps t (x ∷ fs) f = above_one ps (inside ps t x) fs f

heavy_child : (ps : List Procedure) (t : Tree) (fs : List Frame) (f : Frame) → is_flat (inside ps (tree_above ps t fs) f) ≡ false → Heavy ps t (fs ++ f ∷ []) mode.Begin
heavy_child ps t [] f h = h
heavy_child ps t (x ∷ fs) f h = ap is_flat (above_one ps (inside ps t x) fs f) ∙ h

light : (ps : List Procedure) (t : Tree) (fs : List Frame) (m : Mode) → (m ≡ mode.Begin → ⊥) → Heavy ps t fs (told_mode fs m)
light ps t [] mode.Begin h = absurd (h refl)
light ps t [] (mode.Back c) h = tt
light ps t [] (mode.Asked call) h = tt
light ps t [] mode.Over h = tt
light ps t (f ∷ fs) mode.Begin h = absurd (h refl)
light ps t (f ∷ fs) (mode.Back c) h = tt
light ps t (f ∷ fs) (mode.Asked call) h = tt
light ps t (f ∷ fs) mode.Over h = tt

told_begin : (fs : List Frame) → told_mode fs mode.Begin ≡ mode.Begin
told_begin [] = refl
told_begin (f ∷ fs) = refl

heavy_by : (ps : List Procedure) (t : Tree) (fs fs' : List Frame) (o : Option Frame) (m : Mode) → fs' ≡ fs ++ list_of o → ReadyBy ps (tree_above ps t fs) o m → Heavy ps t fs' (told_mode fs' m)
heavy_by ps t fs fs' (Some f) mode.Begin e q = rw (e, told_begin (fs ++ f ∷ [])) (heavy_child ps t fs f q)
heavy_by ps t fs fs' None mode.Begin e q = absurd q
heavy_by ps t fs fs' o (mode.Back c) e q = light ps t fs' (mode.Back c) (λ e. cc e)
heavy_by ps t fs fs' o (mode.Asked call) e q = light ps t fs' (mode.Asked call) (λ e. cc e)
heavy_by ps t fs fs' o mode.Over e q = light ps t fs' mode.Over (λ e. cc e)

pub heavy_next : (ps : List Procedure) (t : Tree) (fs fs' : List Frame) (next : Next) → fs' ≡ fs ++ list_of next.frame → Ready ps (tree_above ps t fs) next → Heavy ps t fs' (told_mode fs' next.mode)
heavy_next ps t fs fs' next e q = heavy_by ps t fs fs' next.frame next.mode e q

goes_by : (ps : List Procedure) (t : Tree) (o : Option Frame) (m : Mode) → ReadyBy ps t o m → m ≡ mode.Over → ⊥
goes_by ps t o mode.Begin q e = cc e
goes_by ps t o (mode.Back c) q e = cc e
goes_by ps t o (mode.Asked call) q e = cc e
goes_by ps t (Some f) mode.Over q e = q
goes_by ps t None mode.Over q e = q

pub next_goes : (ps : List Procedure) (t : Tree) (next : Next) → Ready ps t next → next.mode ≡ mode.Over → ⊥
next_goes ps t next q e = goes_by ps t next.frame next.mode q e
