-- Moves from moves.
use Rattle.std.proofs.Common.{◌≡◌, refl, ap, ◌∙◌, ℕ, ◌+◌, List, [], Bool, None, append-nil, add_assoc}
use Rattle.px_bytes.specs.declared.fault.Reply.{Reply}
use Rattle.tcl_trees.specs.Tree.{Tree}
use Rattle.tcl_vars.specs.Scopes.{Scopes}
use Rattle.rule_model.specs.Host.{Effect}
use Rattle.rule_model.specs.Outcome.{Act, Meaning, heard, state}
use Rattle.rule_model.specs.Setting.{Setting}
use Rattle.frames.specs.Moves.{Moved, Now, now}
use Rattle.frames.specs.Stills.{Change, Comes}
use Rattle.frames.specs.declared.next.Next.{Next}
use Rattle.frames.specs.declared.frame.Room.{Room}

-- a move without the host
pub comes_moved : {H : Type 0} (g : Setting H) (r : Room) (w : Bool) (t : Tree) (whole : Meaning H)
    (vars vars' : Scopes) (h : H) (budget budget' a b : ℕ) (c : Change) (next : Next)
    (made : List Effect → Type 0)
    → Comes g r w t whole vars budget c → next ≡ c.move.next → vars' ≡ c.vars → budget' ≡ c.budget
    → b ≡ a + c.move.cost → made []
    → Moved g r w t whole (now vars h budget a) (now vars' h budget' b) next made
comes_moved g r w t whole vars vars' h budget budget' a b c next made k n v u paid m = record {
  acts = [];
  same = λ p more cost before. rw (n, v, u, append-nil, paid, ← add_assoc cost a c.move.cost)
      (k.same p h more (cost + a) before);
  by = m;
  called = None;
  once = (refl, refl);
}

-- what is paid before a move
pub moved_after : {H : Type 0} (g : Setting H) (r : Room) (w : Bool) (t : Tree) (whole mid : Meaning H)
    (vars : Scopes) (h : H) (budget a a' n : ℕ) (new : Now H) (next : Next) (made : List Effect → Type 0)
    → ((p : List ℕ) (more : List Reply) (cost : ℕ) (acts : List Act)
    → whole p (state vars h more budget cost acts) ≡ mid p (state vars h more budget (cost + n) acts))
    → a' ≡ a + n → Moved g r w t mid (now vars h budget a') new next made
    → Moved g r w t whole (now vars h budget a) new next made
moved_after g r w t whole mid vars h budget a a' n new next made e paid q = record {
  acts = q.acts;
  same = λ p more cost before. ap (heard w) (e p more (cost + a) before)
      ∙ rw (add_assoc cost a n, ← paid) (q.same p more cost before);
  by = q.by;
  called = q.called;
  once = q.once;
}
