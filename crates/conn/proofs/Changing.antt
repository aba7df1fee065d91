-- Where a connection goes doesn't depend on the stage where it stood.
use Rattle.std.proofs.Common.{ℕ, length, Bool, true, false, nat_lt}
use Rattle.std.specs.Bool.{MatchBool}
use Rattle.px_bytes.specs.declared.fault.FaultKind.{FaultKind}
use Rattle.conn.specs.Acts.{BehindFault}
use Rattle.conn.specs.Changes.{GoesTo, Leaves, NextBody, StartsBody}
use Rattle.conn.specs.Events.{is_closing}
use Rattle.conn.specs.Setups.{places_at}
use Rattle.conn.specs.declared.connection.Conn.{Conn}
use Rattle.conn.specs.declared.events.At.{At}
use Rattle.conn.specs.declared.events.At.TheVariants as event
use Rattle.conn.specs.declared.setup.Setup.{Setup}
use Rattle.conn.specs.declared.stage.Finish.TheVariants as finish
use Rattle.conn.specs.declared.stage.Stage.{Stage}
use Rattle.conn.specs.declared.stage.Stage.TheVariants as stage

module _ (s : Setup) (from : Stage) (old new : Conn) where
  abbrev mid : Conn
  mid = record old { stage = from }

  goes : (to : Stage) → GoesTo to mid new → GoesTo to old new
  goes to k = record { there = k.there; vars = k.vars; host = k.host; ends = k.ends }

  starts : (at : At) (n : ℕ) → StartsBody s at n mid new → StartsBody s at n old new
  starts at n k = record { there = k.there; fresh = k.fresh; vars = k.vars; host = k.host; ends = k.ends }

  leaves : (at : At) → Leaves s at mid new → Leaves s at old new
  leaves event.Accepted k = goes _ k
  leaves event.ClientData k = goes _ k
  leaves event.Selected k = goes _ k
  leaves event.Failed k = goes _ k
  leaves event.Connected k = goes _ k
  leaves event.Request k = goes _ k
  leaves event.RequestData k = goes _ k
  leaves event.Response k = goes _ k
  leaves event.ResponseData k = goes _ k
  leaves event.Leaving k = goes _ k
  leaves event.ServerData k = goes _ k
  leaves event.ServerClosed k = record { mid = k.mid; begins = record { vars = k.begins.vars; host = k.begins.host; ends = k.begins.ends }; goes = k.goes }
  leaves event.Closed k = goes _ k

  next : (at : At) (n : ℕ) → NextBody s at n mid new → NextBody s at n old new
  next at n k = by_test (nat_lt n (length (places_at s at))) k
    where
      by_test : (b : Bool) → MatchBool b (StartsBody s at n mid new) (Leaves s at mid new) → MatchBool b (StartsBody s at n old new) (Leaves s at old new)
      by_test true k = starts at n k
      by_test false k = leaves at k

  pub behind_fault : (at : At) (n : ℕ) (kind : FaultKind) → BehindFault s at n kind mid new → BehindFault s at n kind old new
  behind_fault at n kind k = by_test (is_closing at) k
    where
      by_test : (b : Bool) → MatchBool b (NextBody s at n mid new) (GoesTo (stage.Finishing (finish.Fault kind)) mid new) → MatchBool b (NextBody s at n old new) (GoesTo (stage.Finishing (finish.Fault kind)) old new)
      by_test true k = next at n k
      by_test false k = goes (stage.Finishing (finish.Fault kind)) k
