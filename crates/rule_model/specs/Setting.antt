-- What stays over an evaluation.
use Rattle.std.specs.Prelude.{ℕ, List, Option}
use Rattle.tcl_vars.specs.Scopes.{Level}
use Rattle.tcl_trees.specs.Procedures.{Procedure}
use Rattle.tcl_trees.specs.Tree.{Tree}
use Rattle.rule_model.specs.Host.{HostStep}
use Rattle.rule_model.specs.Outcome.{Meaning}

-- The static variables, where they are only read (None: they are those of the state, as in
-- RULE_INIT), the host commands, which say `no_command` to a name that they don't have, and the
-- rule's procedures.
pub record Setting (H : Type 0) : Type 0 where
  pub statics : Option Level
  pub table : H → List (List ℕ) → HostStep H
  pub procedures : List Procedure

-- What the trees do that aren't part of the tree: a procedure's body, and an expression that is
-- read when it runs. None where as many as may stand inside one another do so.
pub record Inner (H : Type 0) : Type 0 where
  pub call : Option (Tree → Meaning H)
  pub expression : Option (Tree → Meaning H)
