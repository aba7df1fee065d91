-- The moves of an expression that is read when it runs (Tcl 8.4, expr(n)).
use Rattle.std.specs.Prelude.{◌≡◌, ℕ, ◌+◌, ◌-◌, nat_eq, Option, Some, None, Result, Ok, Err}
use Rattle.std.specs.Prelude.{Bool, true, false, if◌then◌else◌, option_map}
use Rattle.px_bytes.specs.declared.fault.TclFault.{TclFault}
use Rattle.tcl_trees.specs.Tree.{Tree}
use Rattle.tcl_trees.specs.TreeView.{node_view}
use Rattle.rule_model.specs.Children.{alone}
use Rattle.rule_model.specs.Commands.{too_deep}
use Rattle.rule_model.specs.declared.code.Code.{Code}
use Rattle.rule_model.specs.declared.code.Code.TheVariants.{Raised}
use Rattle.frames.specs.Moves.{stop}
use Rattle.frame_moves.specs.Prefixes.{whole_next}
use Rattle.frame_loops.specs.Quick.{quick}
use Rattle.frames.specs.Reads.{Known}
use Rattle.frames.specs.declared.frame.Frame.{Frame}
use Rattle.frames.specs.declared.frame.Frame.TheVariants as frame
use Rattle.frames.specs.declared.frame.Mode.TheVariants as mode
use Rattle.frames.specs.declared.frame.Room.{Room}
use Rattle.frames.specs.declared.next.Next.{Next}

-- what may still nest inside an expression
abbrev pub room_below : Room → Room
room_below r = record { calls = r.calls; expressions = r.expressions - 1 }

-- A frame owns the expression that it reads.
abbrev pub IsRead : Option Frame → Tree → Room → Type 0
IsRead (Some (frame.Read expression room)) t r = (node_view expression.value ≡ t) × (room ≡ r)
IsRead f t r = ⊥

abbrev pub StandsIn : Room → Tree → Next → Type 0
StandsIn r t next = IsRead next.frame t (room_below r) × (next.mode ≡ mode.Begin)

abbrev pub ReadsBy : Option Code → Room → Tree → Next → Type 0
ReadsBy (Some code) r t next = next ≡ whole_next code
ReadsBy None r t next = StandsIn r t next

-- where an expression that was read stands, and what it pays and ticks
abbrev pub ReadsIn : (full : Bool) → Known → Room → Tree → Next → Type 0
ReadsIn true k r t next = next ≡ stop (Raised too_deep)
ReadsIn false k r t next = ReadsBy (quick k t).value r t next

abbrev pub IsReading : Known → Room → Tree → Next → Type 0
IsReading k r t next = ReadsIn (nat_eq r.expressions 0) k r t next

-- what it comes to in the move that reads it, where it does
abbrev pub read_by : (full : Bool) → Known → Room → Tree → Option Next
read_by true k r t = Some (stop (Raised too_deep))
read_by false k r t = option_map whole_next (quick k t).value

abbrev pub read_next : Known → Room → Tree → Option Next
read_next k r t = read_by (nat_eq r.expressions 0) k r t

abbrev pub read_cost : Known → Room → Tree → ℕ
read_cost k r t = alone t + (if nat_eq r.expressions 0 then 0 else (quick k t).cost)

abbrev pub read_ticks : Known → Room → Tree → ℕ
read_ticks k r t = if nat_eq r.expressions 0 then 0 else (quick k t).ticks

-- the same by what was read
abbrev pub ReadsFrom : Known → Room → Result Tree TclFault → Next → Type 0
ReadsFrom k r (Ok t) next = IsReading k r t next
ReadsFrom k r (Err f) next = next ≡ stop (Raised f)

abbrev pub expression_cost : Known → Room → Result Tree TclFault → ℕ
expression_cost k r (Ok t) = read_cost k r t
expression_cost k r (Err f) = 0

abbrev pub expression_ticks : Known → Room → Result Tree TclFault → ℕ
expression_ticks k r (Ok t) = read_ticks k r t
expression_ticks k r (Err f) = 0
