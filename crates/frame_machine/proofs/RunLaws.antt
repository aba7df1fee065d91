-- Where whole runs stand.
use Rattle.std.proofs.Common.{◌≡◌, refl, sym, ap, subst, ◌∙◌, ℕ, ◌+◌, ◌*◌, ◌≤◌, List, [], ◌∷◌, ◌++◌, Bool, true, false, arith, append_assoc, append-nil, if◌then◌else◌}
use Rattle.px_bytes.specs.declared.fault.Reply.{Reply}
use Rattle.tcl_trees.specs.Procedures.{Procedure}
use Rattle.tcl_trees.specs.Tree.{Tree}
use Rattle.tcl_vars.specs.Scopes.{Scopes}
use Rattle.rule_model.specs.Control.{is_caught}
use Rattle.rule_model.specs.Evaluator.{evaluate}
use Rattle.rule_model.specs.Outcome.{Act, Called, State, state, Outcome, Waits, heard, reply_code}
use Rattle.rule_model.specs.Setting.{Setting, Inner}
use Rattle.rule_model.specs.declared.code.Code.{Code}
use Rattle.frames.specs.Frames.{apply, unwind, inside, wants, places, room_in, inner_of, full_room, meaning, comes_to, path_of}
use Rattle.frames.specs.Owed.{owed, owed_by, mode_owed, Heavy}
use Rattle.frame_machine.specs.Runs.{Reached, Link, Steps, Replies, Stepped, Replied, Linked, Starts, Runs, StandsFor, EqualsEvaluator}
use Rattle.frames.specs.Went.{TurnIs, comes_by}
use Rattle.frames.specs.declared.frame.Frame.{Frame}
use Rattle.frames.specs.declared.frame.Frame.TheVariants as frame
use Rattle.frames.specs.declared.frame.Mode.{Mode}
use Rattle.frames.specs.declared.frame.Mode.TheVariants as mode
use Rattle.frames.specs.declared.frame.Standing.{Standing}
use Rattle.frames.specs.declared.turn.Turn.{Turn}

-- a wait goes through every frame
frame_waits : {H : Type 0} (g : Setting H) (i : Inner H) (t : Tree) (p : List ℕ) (f : Frame) (path : List ℕ) (call : List (List ℕ)) (st : State H) → apply g i t p f (Waits path call st) ≡ Waits path call st
frame_waits g i t p (frame.Script at wanted) path call st = refl
frame_waits g i t p (frame.Words word part done text) path call st = refl
frame_waits g i t p (frame.Pieces part text) path call st = refl
frame_waits g i t p (frame.Operand left) path call st = refl
frame_waits g i t p (frame.Left at) path call st = refl
frame_waits g i t p (frame.Right at joint left) path call st = refl
frame_waits g i t p (frame.Condition at place) path call st = refl
frame_waits g i t p (frame.Body place wanted) path call st = refl
frame_waits g i t p frame.Start path call st = refl
frame_waits g i t p (frame.Test left) path call st = refl
frame_waits g i t p (frame.Turn left) path call st = refl
frame_waits g i t p (frame.Next left) path call st = refl
frame_waits g i t p (frame.Each place rows number left) path call st = refl
frame_waits g i t p frame.Caught path call st = refl
frame_waits g i t p (frame.CaughtIn name) path call st = refl
frame_waits g i t p frame.Whole path call st = refl
frame_waits g i t p (frame.Called procedure room wanted) path call st = refl
frame_waits g i t p (frame.Read expression room) path call st = refl

unwind_waits : {H : Type 0} (g : Setting H) (r : _) (t : Tree) (p : List ℕ) (fs : List Frame) (path : List ℕ) (call : List (List ℕ)) (st : State H) → unwind g r t p fs (Waits path call st) ≡ Waits path call st
unwind_waits g r t p [] path call st = refl
unwind_waits g r t p (f ∷ fs) path call st =
    ap (λ o. apply g (inner_of g r) t p f (heard (wants f) o)) (unwind_waits g (room_in r f) (inside g.procedures t f) (p ++ places f) fs path call st)
    ∙ frame_waits g (inner_of g r) t p f path call st

-- what holds all along a run
pub record Along {H : Type 0} (g : Setting H) (tree : Tree) (budget : ℕ) (vars : Scopes) (host : H) (r : Reached H) : Type 0 where
  pub stands_for : StandsFor g tree budget vars host r
  pub turn_is : TurnIs r.said r.place.machine
  pub heavy : Heavy g.procedures tree r.place.machine.frames.items r.place.machine.mode
  pub bound : r.ticks + owed r.place.machine ≤ 3 * r.cost + 1

light : (ps : List Procedure) (t : Tree) (fs : List Frame) (code : Code) → Heavy ps t fs (mode.Back code)
light ps t [] code = tt
light ps t (f ∷ fs) code = tt

back_owes : (code : Code) → mode_owed (mode.Back code) ≤ 2
back_owes code = by_test (is_caught code)
  where
    by_test : (b : Bool) → (if b then 2 else 0) ≤ 2
    by_test true = omega arith
    by_test false = omega arith

-- so a reply owes no more than the call that waited
reply_owes : (fs : List Frame) (call : List (List ℕ)) (code : Code) → owed_by fs (mode.Back code) ≤ owed_by fs (mode.Asked call)
reply_owes [] call code = omega arith
reply_owes (f ∷ fs) call code = let k = back_owes code in omega (arith, k)

first : {H : Type 0} (g : Setting H) (tree : Tree) (budget : ℕ) (vars : Scopes) (host : H) (more : List Reply) (m : Standing) → m.frames.items ≡ [] → m.mode ≡ mode.Begin → m.budget ≡ budget
    → evaluate g tree vars host more budget ≡ comes_to g tree m vars host more 0 []
unfolding evaluate
first {H = H} g tree budget vars host more m frames begins units =
    let F : List Frame → Mode → ℕ → Outcome H = λ fs md b. meaning g full_room tree fs md [] (state vars host more b 0 []) in
    sym (ap (λ fs. F fs m.mode m.budget) frames ∙ ap (λ md. F [] md m.budget) begins ∙ ap (λ b. F [] mode.Begin b) units)

at_start : {H : Type 0} (g : Setting H) (tree : Tree) (budget : ℕ) (vars : Scopes) (host : H) (r : Reached H) → Starts budget vars host r → Along g tree budget vars host r
at_start g tree budget vars host r s =
    let m = r.place.machine in
    let P : List Frame → Type 0 = λ fs. Heavy g.procedures tree fs m.mode in
    let Q : Turn → Type 0 = λ t. TurnIs t m in
    record {
      stands_for = λ more.
          (let R : Turn → Type 0 = λ t. evaluate g tree vars host more budget ≡ comes_by t g tree m r.place.vars r.place.host more r.cost r.acts in
          ap (λ rs. evaluate g tree vars host (rs ++ more) budget) s.replies
          ∙ subst R (sym s.said)
          (first g tree budget vars host more m s.frames s.mode_is s.budget_is
          ∙ ap (λ c. comes_to g tree m vars host more c []) (sym s.cost)
          ∙ ap (λ a. comes_to g tree m vars host more r.cost a) (sym s.acts)
          ∙ ap (λ v. comes_to g tree m v host more r.cost r.acts) (sym s.vars_are)
          ∙ ap (λ h. comes_to g tree m r.place.vars h more r.cost r.acts) (sym s.host_is)));
      turn_is = subst Q (sym s.said) (rw s.mode_is tt);
      heavy = subst P (sym s.frames) tt;
      bound =
          (let o : owed m ≡ 1 = ap (λ fs. owed_by fs m.mode) s.frames ∙ ap (λ md. owed_by [] md) s.mode_is in
          let t = s.ticks in let c = s.cost in omega (arith, o, t, c));
    }

asks_in : {H : Type 0} (g : Setting H) (tree : Tree) (m : Standing) (v : Scopes) (h : H) (call : List (List ℕ)) (reply : Reply) (more : List Reply) (cost : ℕ) (acts : List Act) → m.mode ≡ mode.Asked call
    → comes_to g tree m v h (reply ∷ more) cost acts ≡ comes_to g tree (record m { mode = mode.Back (reply_code reply) }) v h more cost (acts ++ Called (path_of m.frames.items) call ∷ [])
asks_in g tree m v h call reply more cost acts e = rw e refl

waits_in : {H : Type 0} (g : Setting H) (tree : Tree) (m : Standing) (v : Scopes) (h : H) (call : List (List ℕ)) (cost : ℕ) (acts : List Act) → m.mode ≡ mode.Asked call
    → comes_to g tree m v h [] cost acts ≡ Waits (path_of m.frames.items) call (state v h [] m.budget cost (acts ++ Called (path_of m.frames.items) call ∷ []))
waits_in g tree m v h call cost acts e = rw e (unwind_waits g full_room tree [] m.frames.items (path_of m.frames.items) call (state v h [] m.budget cost (acts ++ Called (path_of m.frames.items) call ∷ [])))

stepped : {H : Type 0} (g : Setting H) (tree : Tree) (budget : ℕ) (vars : Scopes) (host : H) (ticks : ℕ) (old new : Reached H) → Along g tree budget vars host old → Stepped g tree ticks old new → Along g tree budget vars host new
stepped g tree budget vars host ticks old new a s =
    let w = s.went in
    let paid = w.paid a.heavy in
    let P : Turn → Type 0 = λ t. (more : List Reply) → evaluate g tree vars host (old.replies ++ more) budget ≡ comes_by t g tree old.place.machine old.place.vars old.place.host more old.cost old.acts in
    let before = subst P s.goes_on a.stands_for in
    record {
      stands_for = λ more. rw (s.replies, s.cost, s.acts) (before more ∙ w.same more old.cost old.acts);
      turn_is = w.turn_is;
      heavy = w.stays_heavy a.heavy;
      bound = (let c = s.cost in let t = s.ticks_are in let b = a.bound in omega (arith, c, t, b, paid));
    }

replied : {H : Type 0} (g : Setting H) (tree : Tree) (budget : ℕ) (vars : Scopes) (host : H) (reply : Reply) (old new : Reached H) → Along g tree budget vars host old → Replied reply old new → Along g tree budget vars host new
replied g tree budget vars host reply old new a s =
    let k = s.resumed in
    let P : Turn → Type 0 = λ t. (more : List Reply) → evaluate g tree vars host (old.replies ++ more) budget ≡ comes_by t g tree old.place.machine old.place.vars old.place.host more old.cost old.acts in
    let before = subst P s.waits a.stands_for in
    let M = old.place.machine in
    record {
      stands_for = λ more. rw (s.said, s.replies, s.cost, s.acts, k.machine, k.vars, k.host)
          (ap (λ rs. evaluate g tree vars host rs budget) (append_assoc old.replies (reply ∷ []) more)
          ∙ before (reply ∷ more) ∙ asks_in g tree M old.place.vars old.place.host s.call reply more old.cost old.acts k.asked);
      turn_is = rw (s.said, k.machine) tt;
      heavy = rw k.machine (light g.procedures tree M.frames.items (reply_code reply));
      bound =
          (let owes : owed new.place.machine ≡ owed_by M.frames.items (mode.Back (reply_code reply)) = ap owed k.machine in
          let owed_before : owed M ≡ owed_by M.frames.items (mode.Asked s.call) = ap (λ m. owed_by M.frames.items m) k.asked in
          let less = reply_owes M.frames.items s.call (reply_code reply) in
          let c = s.cost in let t = s.ticks in let b = a.bound in omega (arith, c, t, b, owes, owed_before, less));
    }

linked : {H : Type 0} (g : Setting H) (tree : Tree) (budget : ℕ) (vars : Scopes) (host : H) (link : Link) (old new : Reached H) → Along g tree budget vars host old → Linked g tree link old new → Along g tree budget vars host new
linked g tree budget vars host (Steps ticks) old new a l = stepped g tree budget vars host ticks old new a l
linked g tree budget vars host (Replies reply) old new a l = replied g tree budget vars host reply old new a l

pub along : {H : Type 0} (g : Setting H) (tree : Tree) (budget : ℕ) (vars : Scopes) (host : H) (links : List Link) (r : Reached H) → Runs g tree budget vars host links r → Along g tree budget vars host r
along g tree budget vars host [] r k = at_start g tree budget vars host r k
along g tree budget vars host (link ∷ links) r (before, runs, last) = linked g tree budget vars host link before r (along g tree budget vars host links before runs) last

pub equals_evaluator : {H : Type 0} (g : Setting H) (tree : Tree) (budget : ℕ) (vars : Scopes) (host : H) (links : List Link) (r : Reached H) → Runs g tree budget vars host links r → EqualsEvaluator g tree budget vars host r
equals_evaluator g tree budget vars host links r k =
    let a = along g tree budget vars host links r k in
    record {
      stands_for = a.stands_for;
      asks = λ call e.
          (let P : Turn → Type 0 = λ t. evaluate g tree vars host (r.replies ++ []) budget ≡ comes_by t g tree r.place.machine r.place.vars r.place.host [] r.cost r.acts in
          let Q : Turn → Type 0 = λ t. TurnIs t r.place.machine in
          ap (λ rs. evaluate g tree vars host rs budget) (sym (append-nil r.replies)) ∙ subst P e (a.stands_for [])
          ∙ waits_in g tree r.place.machine r.place.vars r.place.host call r.cost r.acts (subst Q e a.turn_is));
      done = λ code more e.
          (let P : Turn → Type 0 = λ t. evaluate g tree vars host (r.replies ++ more) budget ≡ comes_by t g tree r.place.machine r.place.vars r.place.host more r.cost r.acts in
          subst P e (a.stands_for more));
    }

pub ticks_bounded : {H : Type 0} (g : Setting H) (tree : Tree) (budget : ℕ) (vars : Scopes) (host : H) (links : List Link) (r : Reached H) → Runs g tree budget vars host links r → r.ticks ≤ 3 * r.cost + 1
ticks_bounded g tree budget vars host links r k = let b = (along g tree budget vars host links r k).bound in omega (arith, b)
