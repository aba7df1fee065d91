-- What a connection needs of the configuration and of its accept, and the line that a fault of its
-- bodies logs.
use Rattle.std.specs.Prelude.{ℕ, List, ◌++◌, codes, Bool}
use Rattle.px_bytes.specs.declared.addr.Addr.{Addr}
use Rattle.tcl_trees.specs.Procedures.{Procedure}
use Rattle.tcl_trees.specs.Tree.{Tree}
use Rattle.tcl_vars.specs.Scopes.{Level}
use Rattle.event_order.specs.Event.{event_text}
use Rattle.event_order.specs.declared.event.EventName.{EventName}
use Rattle.irule_net.specs.declared.groups.Groups.{Groups}
use Rattle.conn_trace.specs.Http.{Heads}

-- a body that a rule has for an event, with the rule's name and procedures
pub record Handler : Type 0 where
  pub rule : List ℕ
  pub procedures : List Procedure
  pub body : Tree

-- What a connection runs on: the name of its virtual server, its port, its default pool (empty
-- where it has none) and whether it speaks HTTP; the address of its client; how many units each
-- body may spend, and the static variables that RULE_INIT left; the data groups and pools that
-- rules name; how heads are read and written; and the bodies of each event in their order.
pub record Setup : Type 0 where
  pub name : List ℕ
  pub port : ℕ
  pub pool : List ℕ
  pub http : Bool
  pub from : Addr
  pub budget : ℕ
  pub statics : Level
  pub groups : Groups
  pub heads : Heads
  pub handlers : EventName → List Handler

-- the line that an uncaught fault logs: the rule, the event and the fault's text
abbrev pub uncaught_line : List ℕ → EventName → List ℕ → List ℕ
uncaught_line rule event text =
    codes "TCL error: " ++ rule ++ codes " <" ++ event_text event ++ codes "> - " ++ text
