-- The moves that ask no host, by kinds.
use Rattle.std.proofs.Common.{◌≡◌, refl, ℕ, ◌+◌, ◌*◌, ◌≤◌, List, Bool, false, Option, arith}
use Rattle.tcl_trees.specs.Procedures.{Procedure}
use Rattle.tcl_trees.specs.Tree.{Tree}
use Rattle.tcl_trees.specs.Tree as tree
use Rattle.tcl_vars.specs.Scopes.{Level, Scopes}
use Rattle.rule_model.specs.Setting.{Setting}
use Rattle.rule_model.specs.declared.code.Code.{Code}
use Rattle.rule_model.specs.declared.code.Code.TheVariants.{Value, Raised, Return, Break, Continue}
use Rattle.frames.specs.Children.{is_script}
use Rattle.frame_words.specs.FirstWords.{has_words}
use Rattle.frames.specs.Moves.{Ready, begins, due, goes_on, stop}
use Rattle.frames.specs.Owed.{is_flat, mode_owed, weight}
use Rattle.frames.specs.Reads.{Known, known}
use Rattle.frame_moves.specs.StillMoves.{still_begin, still_goes}
use Rattle.frames.specs.Stills.{Comes, Move, spent}
use Rattle.frame_words.specs.WordMoves.{pieces_begin, pieces_goes}
use Rattle.frames.specs.declared.frame.Frame.{Frame}
use Rattle.frames.specs.declared.frame.Frame.TheVariants as frame
use Rattle.frames.specs.declared.frame.Mode.TheVariants as mode
use Rattle.frames.specs.declared.frame.Room.{Room}
use Rattle.frame_loops.proofs.InBranches.{choice_begins, choice_begins_owes, condition_goes, condition_goes_owes, if_begins, if_begins_owes}
use Rattle.frame_words.proofs.InCalls.{called_goes, called_goes_owes}
use Rattle.frame_words.proofs.InCatches.{catch_begins, catch_begins_owes, caught_goes, caught_goes_owes, caught_in_goes, caught_in_goes_owes}
use Rattle.frame_loops.proofs.InLoops.{loop_is, loop_owes, start_goes_is, start_goes_owes, test_goes, test_goes_owes}
use Rattle.frame_words.proofs.InPieces.{HasPieces, element_begins, pieces_begin_owes, pieces_begin_ready}
use Rattle.frame_words.proofs.InPieces.{pieces_go_owes, pieces_go_ready, pieces_goes_on, word_begins}
use Rattle.frame_moves.proofs.InPrefixes.{expr_begins, expr_begins_owes, operand_goes, operand_goes_owes}
use Rattle.frame_moves.proofs.InPrefixes.{prefixed_begins, prefixed_begins_owes, whole_goes, whole_goes_owes}
use Rattle.frame_moves.proofs.InReading.{read_goes}
use Rattle.frame_loops.proofs.InRows.{left_goes, left_goes_owes, right_goes, right_goes_owes, row_begins, row_begins_owes}
use Rattle.frames.proofs.InStills.{Bounded, comes_at, pass_bounded}
use Rattle.frame_moves.proofs.InTurns.{each_goes, each_goes_owes}

pub still_begins : {H : Type 0} (g : Setting H) (r : Room) (w : Bool) (t : Tree) (vars : Scopes) (budget : ℕ)
    → is_flat t ≡ false → has_words t ≡ false → is_script t ≡ false
    → Comes g r w t (begins g r t) vars budget (spent vars (still_begin (known g.statics vars) t w budget))
still_begins g r w (tree.plain x) vars budget f h s = absurd (cc f)
still_begins g r w (tree.variable name) vars budget f h s = absurd (cc f)
still_begins g r w (tree.element name ts) vars budget f h s = element_begins g r name ts w vars budget
still_begins g r w (tree.word ts) vars budget f h s = word_begins g r ts w vars budget
still_begins g r w (tree.script ts) vars budget f h s = absurd (cc s)
still_begins g r w (tree.command v ts) vars budget f h s = absurd (cc h)
still_begins g r w (tree.expr u) vars budget f h s = expr_begins u
still_begins g r w (tree.branches vs last) vars budget f h s = if_begins vs last
still_begins g r w (tree.choice vs last) vars budget f h s = choice_begins vs last
still_begins g r w (tree.loop a x n b) vars budget f h s = loop_is a x n b budget
still_begins g r w (tree.each ts b) vars budget f h s = absurd (cc h)
still_begins g r w (tree.switch k ts bs) vars budget f h s = absurd (cc h)
still_begins g r w (tree.catch u) vars budget f h s = catch_begins u
still_begins g r w (tree.catch_in b n) vars budget f h s = absurd (cc h)
still_begins g r w tree.next_body vars budget f h s = absurd (cc f)
still_begins g r w (tree.prefixed ops u) vars budget f h s = prefixed_begins ops u
still_begins g r w (tree.row u us) vars budget f h s = row_begins u us

pieces_bounded : (procedures : List Procedure) (k : Known) (t : Tree) → HasPieces t → is_flat t ≡ false
    → Bounded procedures t 0 (pieces_begin k.statics k.vars t)
pieces_bounded procedures k t p f = record {
  owes = let o = pieces_begin_owes k.statics k.vars t p f in omega (arith, o);
  ready = pieces_begin_ready k.statics k.vars t procedures p;
}

pub still_begins_owes : (procedures : List Procedure) (k : Known) (t : Tree) (w : Bool) (budget : ℕ)
    → is_flat t ≡ false → has_words t ≡ false → is_script t ≡ false → Bounded procedures t 0 (still_begin k t w budget).move
still_begins_owes procedures k (tree.plain x) w budget f h s = absurd (cc f)
still_begins_owes procedures k (tree.variable name) w budget f h s = absurd (cc f)
still_begins_owes procedures k (tree.element name ts) w budget f h s = pieces_bounded procedures k (tree.element name ts) tt f
still_begins_owes procedures k (tree.word ts) w budget f h s = pieces_bounded procedures k (tree.word ts) tt f
still_begins_owes procedures k (tree.script ts) w budget f h s = absurd (cc s)
still_begins_owes procedures k (tree.command v ts) w budget f h s = absurd (cc h)
still_begins_owes procedures k (tree.expr u) w budget f h s = expr_begins_owes k u
still_begins_owes procedures k (tree.branches vs last) w budget f h s = if_begins_owes k w vs last
still_begins_owes procedures k (tree.choice vs last) w budget f h s = choice_begins_owes k w vs last
still_begins_owes procedures k (tree.loop a x n b) w budget f h s = loop_owes k budget
still_begins_owes procedures k (tree.each ts b) w budget f h s = absurd (cc h)
still_begins_owes procedures k (tree.switch m ts bs) w budget f h s = absurd (cc h)
still_begins_owes procedures k (tree.catch u) w budget f h s = catch_begins_owes k u
still_begins_owes procedures k (tree.catch_in b n) w budget f h s = absurd (cc h)
still_begins_owes procedures k tree.next_body w budget f h s = absurd (cc f)
still_begins_owes procedures k (tree.prefixed ops u) w budget f h s = prefixed_begins_owes k ops u
still_begins_owes procedures k (tree.row u us) w budget f h s = row_begins_owes k u us

by_bound : (procedures : List Procedure) (t : Tree) {n : ℕ} {m : Move} → Bounded procedures t n m
    → (1 + m.ticks + due m.next ≤ 1 + n + 3 * m.cost) × Ready procedures t m.next
by_bound procedures t b = (let o = b.owes in omega (arith, o), b.ready)

pieces_still : (statics : Option Level) (vars : Scopes) (t : Tree) (j : ℕ) (text : List ℕ) (c : Code) → (pieces_goes statics vars t j text c).ticks ≡ 0
pieces_still statics vars t j text (Value v) = refl
pieces_still statics vars t j text (Raised f) = refl
pieces_still statics vars t j text (Return v) = refl
pieces_still statics vars t j text Break = refl
pieces_still statics vars t j text Continue = refl

-- the frames at which a node goes on in ways of their own: words, a script, and a loop behind its body
-- and behind what comes after a turn
abbrev pub IsOwn : Frame → Type 0
IsOwn (frame.Words k j done text) = Unit {0}
IsOwn (frame.Script at w) = Unit {0}
IsOwn (frame.Turn left) = Unit {0}
IsOwn (frame.Next left) = Unit {0}
IsOwn f = ⊥

pub not_own : (f : Frame) → ((k j : ℕ) (done : List (List ℕ)) (text : List ℕ) → f ≡ frame.Words k j done text → ⊥)
    → ((at : ℕ) (w : Bool) → f ≡ frame.Script at w → ⊥) → ((left : ℕ) → f ≡ frame.Turn left → ⊥)
    → ((left : ℕ) → f ≡ frame.Next left → ⊥) → IsOwn f → ⊥
not_own (frame.Words k j done text) a b d h e = a k j done text refl
not_own (frame.Script at w) a b d h e = b at w refl
not_own (frame.Turn left) a b d h e = d left refl
not_own (frame.Next left) a b d h e = h left refl
not_own f a b d h e = e

pub still_goes_on : {H : Type 0} (g : Setting H) (r : Room) (w : Bool) (t : Tree) (f : Frame) (c : Code) (vars : Scopes) (budget : ℕ) → (IsOwn f → ⊥)
    → Comes g r w t (goes_on g r t f c) vars budget (still_goes g.statics vars t f c w budget)
still_goes_on g r w t (frame.Script at v) c vars budget h = absurd (h tt)
still_goes_on g r w t (frame.Words k j done text) c vars budget h = absurd (h tt)
still_goes_on g r w t (frame.Pieces j text) c vars budget h = pieces_goes_on g r t j text w c vars budget
still_goes_on g r w t (frame.Operand left) c vars budget h = operand_goes left c
still_goes_on g r w t (frame.Left at) c vars budget h = left_goes at c
still_goes_on g r w t (frame.Right at joint left) c vars budget h = right_goes at joint left c
still_goes_on g r w t (frame.Condition at place) c vars budget h = condition_goes at place c
still_goes_on g r w t (frame.Body place v) c vars budget h = comes_at (stop c) (λ path host more cost acts. refl)
still_goes_on g r w t frame.Start c vars budget h = start_goes_is budget c
still_goes_on g r w t (frame.Test left) c vars budget h = test_goes left budget c
still_goes_on g r w t (frame.Turn left) c vars budget h = absurd (h tt)
still_goes_on g r w t (frame.Next left) c vars budget h = absurd (h tt)
still_goes_on g r w t (frame.Each place rows number left) c vars budget h = each_goes place rows number left budget c
still_goes_on g r w t frame.Caught c vars budget h = caught_goes c
still_goes_on g r w t (frame.CaughtIn name) c vars budget h = caught_in_goes name c
still_goes_on g r w t frame.Whole c vars budget h = whole_goes c
still_goes_on g r w t (frame.Called n x v) c vars budget h = called_goes n x v c
still_goes_on g r w t (frame.Read e x) c vars budget h = read_goes e x c

pub still_goes_owes : (procedures : List Procedure) (statics : Option Level) (vars : Scopes) (t : Tree) (f : Frame) (c : Code) (w : Bool) (budget : ℕ)
    → (IsOwn f → ⊥) → let m = (still_goes statics vars t f c w budget).move in
    (1 + m.ticks + due m.next ≤ weight f + mode_owed (mode.Back c) + 3 * m.cost) × Ready procedures t m.next
still_goes_owes procedures statics vars t (frame.Script at v) c w budget h = absurd (h tt)
still_goes_owes procedures statics vars t (frame.Words k j done text) c w budget h = absurd (h tt)
still_goes_owes procedures statics vars t (frame.Pieces j text) c w budget h =
    let o = pieces_go_owes statics vars t j text c in
    let z = pieces_still statics vars t j text c in
    (omega (arith, o, z), pieces_go_ready statics vars t procedures j text c)
still_goes_owes procedures statics vars t (frame.Operand left) c w budget h = by_bound procedures t (operand_goes_owes left c)
still_goes_owes procedures statics vars t (frame.Left at) c w budget h = by_bound procedures t (left_goes_owes (known statics vars) at c)
still_goes_owes procedures statics vars t (frame.Right at joint left) c w budget h =
    let b = right_goes_owes {procedures = procedures} {t = t} (known statics vars) at joint left c in
    let o = b.owes in
    (omega (arith, o), b.ready)
still_goes_owes procedures statics vars t (frame.Condition at place) c w budget h = by_bound procedures t (condition_goes_owes (known statics vars) w at c)
still_goes_owes procedures statics vars t (frame.Body place v) c w budget h = by_bound procedures t (pass_bounded c)
still_goes_owes procedures statics vars t frame.Start c w budget h = by_bound procedures t (start_goes_owes (known statics vars) budget c)
still_goes_owes procedures statics vars t (frame.Test left) c w budget h = by_bound procedures t (test_goes_owes (known statics vars) left budget c)
still_goes_owes procedures statics vars t (frame.Turn left) c w budget h = absurd (h tt)
still_goes_owes procedures statics vars t (frame.Next left) c w budget h = absurd (h tt)
still_goes_owes procedures statics vars t (frame.Each place rows number left) c w budget h =
    by_bound procedures t (each_goes_owes statics place rows number left budget c vars)
still_goes_owes procedures statics vars t frame.Caught c w budget h = by_bound procedures t (caught_goes_owes c)
still_goes_owes procedures statics vars t (frame.CaughtIn name) c w budget h = by_bound procedures t (caught_in_goes_owes statics name c vars)
still_goes_owes procedures statics vars t frame.Whole c w budget h = by_bound procedures t (whole_goes_owes c)
still_goes_owes procedures statics vars t (frame.Called n x v) c w budget h = by_bound procedures t (called_goes_owes c vars)
still_goes_owes procedures statics vars t (frame.Read e x) c w budget h = by_bound procedures t (whole_goes_owes c)
