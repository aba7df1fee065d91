-- Moves that come to what they should, and owe no more than so much.
use Rattle.std.proofs.Common.{ℕ, List, [], Bool}
use Rattle.tcl_trees.specs.Procedures.{Procedure}
use Rattle.tcl_trees.specs.Tree.{Tree}
use Rattle.tcl_vars.specs.Scopes.{Scopes}
use Rattle.rule_model.specs.Host.{Effect}
use Rattle.rule_model.specs.Outcome.{Meaning}
use Rattle.rule_model.specs.Setting.{Setting}
use Rattle.frames.specs.Moves.{Moved, now}
use Rattle.frames.specs.Stills.{Change, Comes, Makes, tally}
use Rattle.frames.specs.declared.frame.Room.{Room}
use Rattle.frames.specs.declared.next.Next.{Next}
use Rattle.frames.proofs.InMoves.{comes_moved}
use Rattle.frames.proofs.InStills.{Bounded}

pub record Sound {H : Type 0} (g : Setting H) (r : Room) (w : Bool) (procedures : List Procedure) (t : Tree) (whole : Meaning H) (n : ℕ) (vars : Scopes)
    (budget : ℕ) (c : Change) : Type 0 where
  pub comes : Comes g r w t whole vars budget c
  pub bounded : Bounded procedures t n c.move

-- such a move, which asks no host
pub sound_moved : {H : Type 0} {g : Setting H} {r : Room} {w : Bool} {procedures : List Procedure} {t : Tree} {whole : Meaning H} {n : ℕ} {vars vars' : Scopes}
    {budget paid ticked budget' paid' ticked' : ℕ} {next : Next} {h : H} {made : List Effect → Type 0}
    → Makes (Sound g r w procedures t whole n vars budget) (tally vars budget paid ticked) next (tally vars' budget' paid' ticked') → made []
    → Moved g r w t whole (now vars h budget paid) (now vars' h budget' paid') next made
sound_moved m none =
    let l = m.leads in
    comes_moved _ _ _ _ _ _ _ _ _ _ _ _ m.change _ _ m.is.comes l.next_is l.vars_are l.budget_is l.paid_is none
