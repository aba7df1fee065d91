-- Frames that ask wait.
use Rattle.std.proofs.Common.{◌≡◌, refl, ap, ◌∙◌, ℕ, List, [], ◌∷◌, ◌++◌}
use Rattle.tcl_trees.specs.Tree.{Tree}
use Rattle.tcl_vars.specs.Scopes.{Scopes}
use Rattle.rule_model.specs.Outcome.{Act, Called, State, state, Waits, heard}
use Rattle.rule_model.specs.Setting.{Setting, Inner}
use Rattle.frames.specs.Frames.{apply, unwind, inside, wants, places, room_in, inner_of, full_room, comes_to, path_of}
use Rattle.frames.specs.declared.frame.Frame.{Frame}
use Rattle.frames.specs.declared.frame.Frame.TheVariants as frame
use Rattle.frames.specs.declared.frame.Mode.TheVariants as mode
use Rattle.frames.specs.declared.frame.Room.{Room}
use Rattle.frames.specs.declared.frame.Standing.{Standing}

-- a wait goes through every frame
frame_waits : {H : Type 0} (g : Setting H) (i : Inner H) (t : Tree) (p : List ℕ) (f : Frame) (path : List ℕ) (call : List (List ℕ)) (st : State H) → apply g i t p f (Waits path call st) ≡ Waits path call st
frame_waits g i t p (frame.Script at wanted) path call st = refl
frame_waits g i t p (frame.Words word part done text) path call st = refl
frame_waits g i t p (frame.Pieces part text) path call st = refl
frame_waits g i t p (frame.Operand left) path call st = refl
frame_waits g i t p (frame.Left at) path call st = refl
frame_waits g i t p (frame.Right at joint left) path call st = refl
frame_waits g i t p (frame.Condition at place) path call st = refl
frame_waits g i t p (frame.Body place wanted) path call st = refl
frame_waits g i t p frame.Start path call st = refl
frame_waits g i t p (frame.Test left) path call st = refl
frame_waits g i t p (frame.Turn left) path call st = refl
frame_waits g i t p (frame.Next left) path call st = refl
frame_waits g i t p (frame.Each place rows number left) path call st = refl
frame_waits g i t p frame.Caught path call st = refl
frame_waits g i t p (frame.CaughtIn name) path call st = refl
frame_waits g i t p frame.Whole path call st = refl
frame_waits g i t p (frame.Called procedure room wanted) path call st = refl
frame_waits g i t p (frame.Read expression room) path call st = refl

unwind_waits : {H : Type 0} (g : Setting H) (r : Room) (t : Tree) (p : List ℕ) (fs : List Frame) (path : List ℕ) (call : List (List ℕ)) (st : State H) → unwind g r t p fs (Waits path call st) ≡ Waits path call st
unwind_waits g r t p [] path call st = refl
unwind_waits g r t p (f ∷ fs) path call st =
    ap (λ o. apply g (inner_of g r) t p f (heard (wants f) o)) (unwind_waits g (room_in r f) (inside g.procedures t f) (p ++ places f) fs path call st)
    ∙ frame_waits g (inner_of g r) t p f path call st

pub asking_waits : {H : Type 0} (g : Setting H) (tree : Tree) (m : Standing) (v : Scopes) (h : H) (call : List (List ℕ)) (cost : ℕ) (acts : List Act) → m.mode ≡ mode.Asked call
    → comes_to g tree m v h [] cost acts ≡ Waits (path_of m.frames.items) call (state v h [] m.budget cost (acts ++ Called (path_of m.frames.items) call ∷ []))
asking_waits g tree m v h call cost acts e = rw e (unwind_waits g full_room tree [] m.frames.items (path_of m.frames.items) call (state v h [] m.budget cost (acts ++ Called (path_of m.frames.items) call ∷ [])))
