-- Each call keeps that the trace goes on by the connection's own fields.
use Rattle.std.proofs.Common.{◌≡◌, refl, subst, ℕ, zero, suc, ◌+◌, List, [], ◌∷◌, ◌++◌, Option, Some, None, option_map, unwrap_or, arith}
use Rattle.std.specs.Prelude.{slice_get}
use Rattle.px_bytes.specs.declared.addr.Side.{Side}
use Rattle.px_bytes.specs.declared.addr.Side.TheVariants.{Client, Server}
use Rattle.conn_trace.specs.Further.{longer}
use Rattle.conn_trace.specs.Gates.{Counts, taken_of, Met}
use Rattle.conn_trace.specs.HeardLaws.{taken_by_items}
use Rattle.conn_trace.specs.Item.{Item}
use Rattle.conn_trace.specs.Laws.{AtLeast, TakesMore}
use Rattle.conn_trace.specs.Setup.{Setup}
use Rattle.conn_trace.specs.State.{TraceState}
use Rattle.core_events.specs.declared.note.Note.{Note}
use Rattle.conn_trace.proofs.Furthering.{further_keeps, replies_keep}
use Rattle.conn_trace.proofs.Given.{sent_counted}
use Rattle.conn_trace.proofs.Querying.{met_joins}
use Rattle.conn_trace.proofs.Taking.{met_more}
use Rattle.conn_trace.proofs.Unfolding.{unfolds_on}
use Rattle.conn.specs.Calls.{more_at_last, took_more, Takes}
use Rattle.conn.specs.Continues.{Continues, CallsContinue}
use Rattle.conn.specs.Holds.{Around}
use Rattle.conn.specs.Runs.{GoesOnWith}
use Rattle.conn.specs.declared.connection.Conn.{Conn}
use Rattle.conn.specs.declared.turn.ConnTurn.{ConnTurn}
use Rattle.conn.proofs.Joining.{cut_meets}

more_client : (n : ℕ) (taken : Option ℕ) → AtLeast taken (option_map (λ k. k + n) taken)
more_client n None = tt
more_client n (Some k) = omega arith

same_taken : (taken : Option ℕ) → AtLeast taken taken
same_taken None = tt
same_taken (Some k) = omega arith

more_servers : (n : ℕ) (ts : List (Option ℕ)) (k : ℕ) → AtLeast (unwrap_or (slice_get ts k) (Some 0)) (unwrap_or (slice_get (more_at_last n ts) k) (Some 0))
more_servers n [] k = same_taken (unwrap_or (slice_get [] k) (Some 0))
more_servers n (t ∷ []) zero = more_client n t
more_servers n (t ∷ []) (suc k) = same_taken (unwrap_or (slice_get [] k) (Some 0))
more_servers n (t ∷ (u ∷ more)) zero = same_taken t
more_servers n (t ∷ (u ∷ more)) (suc k) = more_servers n (u ∷ more) k

more_taken : (n : ℕ) (ts : List (Option ℕ)) (k : ℕ) → AtLeast (taken_of ts k) (taken_of (more_at_last n ts) k)
more_taken n ts zero = same_taken (Some 0)
more_taken n ts (suc k) = more_servers n ts k

takes_more : (side : Side) (n : ℕ) (a : Around) → TakesMore a.took (took_more side n a).took
takes_more Client n a = record { client = more_client n a.took.client; servers = λ k. same_taken (taken_of a.took.servers k) }
takes_more Server n a = record { client = same_taken a.took.client; servers = more_taken n a.took.servers }

takes_on : (g : Setup) (a : Around) (l : TraceState) (given : List Item) (at : TraceState) (side : Side) (n : ℕ) (old new : Conn) → Takes side n old new → Continues g a l given at old → Continues g (took_more side n a) l given at new
takes_on g a l given at side n old new takes k = record {
  passed = k.passed;
  met = met_more l.sent a.took (took_more side n a).took given (takes_more side n a) k.met;
  holds = takes g a at k.holds;
}

-- what a Run gave stands behind what was given before
runs_on : (g : Setup) (a : Around) (l : TraceState) (given : List Item) (at : TraceState) (c : ℕ) (old new : Conn) (group : List Note) (t : ConnTurn) (steps : ℕ) → l.answers.cut ≡ None
    → (r : GoesOnWith g a at c old new group t steps) → Continues g a l given at old → Continues g a (longer (taken_by_items a.took r.more) l) (given ++ r.more) r.at new
runs_on g a l given at c old new group t steps none r k =
    let p = r.items.passes in
    let f = taken_by_items a.took r.more in
    let M : Counts → Type 0 = λ s. Met s a.took r.more in
    record {
      passed = unfolds_on g (longer f l) (longer f at) r.at given r.more (further_keeps g l at f given none (cut_meets a.took l.sent given r.more k.met) k.passed) p.passed;
      met = met_joins l.sent a.took given r.more k.met (subst M (sent_counted g l at given k.passed) p.met);
      holds = r.holds;
    }

pub calls : CallsContinue
calls = record {
  begins = λ g c h. record { passed = refl; met = tt; holds = h };
  takes = takes_on;
  replies = λ g a l given at reply old new hears k. record { passed = replies_keep g l at (reply ∷ []) given k.passed; met = k.met; holds = (hears g a at k.holds).0 };
  runs = runs_on;
}
