-- Units of a body that are dropped, by the trace.
use Rattle.std.specs.Prelude.{◌≡◌, ◌≤◌, ℕ, List, map, length, drop, Bool, None}
use Rattle.px_bytes.specs.declared.addr.Side.TheVariants.{Client}
use Rattle.http_frames.specs.NextUnit.{unit_of}
use Rattle.http_frames.specs.declared.state.BodyState.{BodyState}
use Rattle.http_frames.specs.declared.unit.Unit.{Unit as BodyUnit}
use Rattle.http_frames.specs.declared.unit.Unit.TheVariants as unit
use Rattle.conn_trace.specs.Item.{Item, Read}
use Rattle.conn_trace.specs.Setup.{Setup}
use Rattle.conn_trace.specs.State.{TraceState, read_side}
use Rattle.conn_trace.specs.Trace.{Unfolds}
use Rattle.conn_trace.specs.Units.{dropping}

-- so many bytes of the client are read, one item each
abbrev pub reads : List ℕ → List Item
reads amounts = map (λ n. Read Client n) amounts

-- the reader goes from one place to another over the first n bytes of what came
pub record Drops (from : BodyState) (unread : List ℕ) (ended : Bool) (to : BodyState) (n : ℕ)
    : Type 0 where
  pub within : n ≤ length unread
  pub items : (g : Setup) (l : TraceState) → l.client.unread ≡ unread → l.client.ended ≡ ended
      → l.answers.cut ≡ None
      → (amounts : List ℕ) × Unfolds g (dropping from l.sent l) (reads amounts)
      (dropping to l.sent (read_side Client n l))

-- it is no unit that is dropped with others
abbrev pub IsStop : BodyUnit → Type 0
IsStop (unit.Piece taken) = ⊥
IsStop (unit.ChunkLine line size) = ⊥
IsStop (unit.Finished size) = Unit {0}
IsStop unit.NotYet = Unit {0}
IsStop (unit.Fault f) = Unit {0}

-- so its first units were dropped, and this is left
pub record DropsSome (from : BodyState) (old : List ℕ) (ended : Bool) (to : BodyState)
    (left : List ℕ) : Type 0 where
  pub size : ℕ
  pub drops : Drops from old ended to size
  pub rest : left ≡ drop size old

-- all that came whole, and this stands in front of what is left
abbrev pub DropsUnits : BodyState → List ℕ → Bool → BodyState → BodyUnit → List ℕ → Type 0
DropsUnits from old ended to next left =
    DropsSome from old ended to left × (next ≡ unit_of to left ended) × IsStop next
