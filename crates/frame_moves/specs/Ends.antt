-- What a node does with all its words, where that asks no host.
use Rattle.std.specs.Prelude.{◌≡◌, ℕ, List, [], codes, drop, length, Vec, Option, Some, None}
use Rattle.std.specs.Prelude.{slice_get}
use Rattle.std.specs.declared.alloc.Global.{Global}
use Rattle.px_bytes.specs.FaultText.{syntax_error}
use Rattle.tcl_trees.specs.Tree.{Tree}
use Rattle.tcl_trees.specs.Tree as tree
use Rattle.tcl_trees.specs.declared.node.Verb.{Verb}
use Rattle.tcl_trees.specs.declared.node.Verb.TheVariants as verb
use Rattle.tcl_vars.specs.Scopes.{Level, Scopes}
use Rattle.rule_model.specs.Commands.{expression_of}
use Rattle.rule_model.specs.Control.{Row, most_turns, rows_of}
use Rattle.rule_model.specs.declared.code.Code.TheVariants.{Value, Raised}
use Rattle.rule_nodes.specs.Rows.{rows_view}
use Rattle.rule_nodes.specs.declared.rows.Row as code
use Rattle.frame_words.specs.Calls.{Caller, call_move}
use Rattle.frame_words.specs.Catches.{catch_in_move}
use Rattle.frames.specs.Children.{all}
use Rattle.frames.specs.Moves.{stop}
use Rattle.frame_moves.specs.Reading.{ReadsFrom, expression_cost, expression_ticks}
use Rattle.frames.specs.Reads.{known}
use Rattle.frames.specs.Stills.{Change, changes, still, written}
use Rattle.frame_loops.specs.Switches.{switch_next}
use Rattle.frame_moves.specs.Turns.{each_move}
use Rattle.frames.specs.declared.next.Next.{Next}

-- a `foreach` with its rows, where they are some; its body is the child of this number, and a frame
-- owns the rows
abbrev pub EachEnds : Option Level → (place : ℕ) → (body : Tree) → Option (List Row) → Scopes
    → (budget : ℕ) → Change → Type 0
EachEnds statics place body None vars budget c =
    c ≡ changes budget vars (stop (Raised (syntax_error (codes "foreach"))))
EachEnds statics place body (Some rs) vars budget c =
    (rows : Vec code.Row Global) × (rows_view rows ≡ rs)
    × (c ≡ each_move (record { statics = statics; place = place; body = body; rows = rows }) 0
    (most_turns rs) budget vars)

-- a command that isn't done by its words alone; an expression that was read is known by its tree
abbrev pub VerbEnds : Caller → Verb → (words : List (List ℕ)) → Scopes → (budget : ℕ) → Change
    → Type 0
VerbEnds c verb.Call words vars budget change = change ≡ written budget (call_move c words vars)
VerbEnds c verb.ExprOfWords words vars budget change =
    let k = known c.statics vars in
    let read = expression_of words in
    (next : Next) × ReadsFrom k c.room read next
    × (change ≡ still budget vars (record {
      next = next;
      cost = expression_cost k c.room read;
      ticks = expression_ticks k c.room read;
    }))
VerbEnds c v words vars budget change = change ≡ changes budget vars (stop (Value []))

-- what the words lead to, of which the first is the name
abbrev pub EndsAs : Caller → Tree → (words : List (List ℕ)) → Scopes → (budget : ℕ) → Change
    → Type 0
EndsAs c (tree.command v ts) words vars budget change = VerbEnds c v words vars budget change
EndsAs c (tree.each ts body) words vars budget change =
    EachEnds c.statics (length (all ts)) body (rows_of (drop 1 words)) vars budget change
EndsAs c (tree.switch front ts bodies) words vars budget change =
    let k = known c.statics vars in
    change ≡ changes budget vars
    (switch_next k (length (all ts)) front (all bodies) c.wanted (drop 1 words))
EndsAs c (tree.catch_in body name) words vars budget change =
    change ≡ written budget (catch_in_move c.statics body (slice_get words 1) vars)
EndsAs c t words vars budget change = change ≡ changes budget vars (stop (Value []))
