-- Where a trace ends: once it has finished, or where everything was taken.
use Rattle.std.proofs.Common.{◌≡◌, refl, sym, subst, ◌∙◌, ℕ, List, Bool, true, false, true≢false, Option, Some, None}
use Rattle.std.specs.Prelude.{slice_get}
use Rattle.px_bytes.specs.declared.addr.Side.TheVariants.{Client, Server}
use Rattle.rule_model.specs.Outcome.{Act, Outcome, Ends, Waits as Stops}
use Rattle.rule_model.specs.Laws.{state_after}
use Rattle.event_order.specs.declared.event.EventName.{EventName}
use Rattle.conn_trace.specs.Bodies.{act_item, run_body, ended_next, act_next}
use Rattle.conn_trace.specs.Gates.{Counts, TakenCounts, to_take, may_give}
use Rattle.conn_trace.specs.Host.{HostState}
use Rattle.conn_trace.specs.Item.{BeforeBodies, Item, Opened, Logged, Ran}
use Rattle.conn_trace.specs.Phases.{Orderly, OrderlyIn}
use Rattle.conn_trace.specs.Setup.{Handler, Setup}
use Rattle.conn_trace.specs.State.{Gated, Running, Failing, Phase, AtHead, Continuing, Gathering, AtReuse, GivingUp, Retiring, Heading, Forwarding, Dropping, AtResponse, InEvent, Choosing, Selecting, Connecting, Answering, Releasing, Relaying, Collecting, Finishing, Draining, Link, TraceState, Next, Does, Waits, Over, link_of}
use Rattle.conn_trace.specs.Trace.{phase_next, counted, next_item, GivesNoMore}
use Rattle.conn_trace.proofs.Longer.{plain_next}
use Rattle.conn_trace.proofs.Taking.{taken_all_opens}
use Rattle.conn.specs.Settling.{is_over}
use Rattle.conn.proofs.Settling.{is_last, phase_goes}

-- a trace that has finished, and of which all is taken, is at its end where no more may be given
gives_on : (sent : Counts) (took : TakenCounts) (i : Item) → to_take sent took Client ≡ 0 → to_take sent took Server ≡ 0 → may_give i sent took ≡ false → ⊥
gives_on sent took i c s k = let t = taken_all_opens i sent took c s in let e : true ≡ false = sym t ∙ k in cc

act_goes_on : (g : Setup) (e : EventName) (b : Handler) (bs : List Handler) (n : ℕ) (l : TraceState) (a : Option Act) (o : Outcome HostState) (sent : Counts) (took : TakenCounts) → to_take sent took Client ≡ 0 → to_take sent took Server ≡ 0
    → GivesNoMore false sent took (counted sent (act_next e b bs n l a (ended_next g e b bs l o))) → ⊥
act_goes_on g e b bs n l (Some a) o sent took c s k = gives_on sent took (act_item l.sent.number a) c s k
act_goes_on g e b bs n l None (Ends code st) sent took c s k = gives_on sent took (Ran e st.cost) c s k
act_goes_on g e b bs n l None (Stops path call st) sent took c s k = cc

pub finished_is_over : (g : Setup) (p : Phase) (l : TraceState) (took : TakenCounts) → OrderlyIn p true (link_of l.server) → to_take l.sent took Client ≡ 0 → to_take l.sent took Server ≡ 0
    → GivesNoMore false l.sent took (counted l.sent (phase_next g p l)) → counted l.sent (phase_next g p l) ≡ Over
finished_is_over g (InEvent e (Gated b bs)) l took o c s k = absurd (gives_on l.sent took (Opened BeforeBodies) c s k)
finished_is_over g (InEvent e (Running b bs n)) l took o c s k = absurd (act_goes_on g e b bs n l (slice_get (state_after (run_body g b l)).acts n) (run_body g b l) l.sent took c s k)
finished_is_over g (InEvent e (Failing kind line bs)) l took o c s k = absurd (gives_on l.sent took (Logged line) c s k)
finished_is_over g AtHead l took o c s k = let e : true ≡ false = o in cc
finished_is_over g Continuing l took o c s k = let e : true ≡ false = o in cc
finished_is_over g (Gathering side wanted r) l took o c s k = let e : true ≡ false = o.0 in cc
finished_is_over g AtReuse l took o c s k = let e : true ≡ false = o.0 in cc
finished_is_over g (GivingUp b) l took o c s k = let e : true ≡ false = o.0 in cc
finished_is_over g (Retiring b) l took o c s k = let e : true ≡ false = o.0 in cc
finished_is_over g (Heading side) l took o c s k = let e : true ≡ false = o.0 in cc
finished_is_over g (Forwarding side r standing) l took o c s k = let e : true ≡ false = o.0 in cc
finished_is_over g (Dropping r) l took o c s k = let e : true ≡ false = o in cc
finished_is_over g AtResponse l took o c s k = let e : true ≡ false = o.0 in cc
finished_is_over g Choosing l took o c s k = let e : true ≡ false = o.0 in cc
finished_is_over g (Selecting call) l took o c s k = let e : true ≡ false = o.0 in cc
finished_is_over g (Connecting a) l took o c s k = let e : true ≡ false = o.0 in cc
finished_is_over g (Answering a) l took o c s k = let e : true ≡ false = o.0 in cc
finished_is_over g Releasing l took o c s k = let e : true ≡ false = o.0 in cc
finished_is_over g Relaying l took o c s k = let e : true ≡ false = o.0 in cc
finished_is_over g Collecting l took o c s k = let e : true ≡ false = o.0 in cc
finished_is_over g (Finishing r) l took o c s k = let e : true ≡ false = o in cc
finished_is_over g Draining l took o c s k = refl

pub finished_ends : (g : Setup) (l : TraceState) (took : TakenCounts) → l.answers.cut ≡ None → Orderly l → l.finished ≡ true → to_take l.sent took Client ≡ 0 → to_take l.sent took Server ≡ 0
    → GivesNoMore false l.sent took (next_item g l) → next_item g l ≡ Over
finished_ends g l took none o f c s k =
    let P : Bool → Type 0 = λ b. OrderlyIn l.phase b (link_of l.server) in
    let Q : Next → Type 0 = λ n. GivesNoMore false l.sent took n in
    plain_next g l none ∙ finished_is_over g l.phase l took (subst P f o) c s (subst Q (plain_next g l none) k)

-- and a trace that is over has finished: only its last phase has no next item and no wait
last_finished : (p : Phase) (finished : Bool) (link : Link) → is_last p ≡ true → OrderlyIn p finished link → finished ≡ true
last_finished Draining finished link e o = o
last_finished p finished link e o = absurd (true≢false (sym e))

counted_over : (sent : Counts) (o : Next) → counted sent o ≡ Over → is_over o ≡ true
counted_over sent (Does i m) e = absurd (cc)
counted_over sent (Waits w) e = absurd (cc)
counted_over sent Over e = refl

pub over_finished : (g : Setup) (p : Phase) (l : TraceState) → OrderlyIn p l.finished (link_of l.server) → counted l.sent (phase_next g p l) ≡ Over → l.finished ≡ true
over_finished g p l o k = last_finished p l.finished (link_of l.server) (sym (phase_goes g p l) ∙ counted_over l.sent (phase_next g p l) k) o

pub over_has_finished : (g : Setup) (l : TraceState) → l.answers.cut ≡ None → Orderly l → next_item g l ≡ Over → l.finished ≡ true
over_has_finished g l none o k = over_finished g l.phase l o (sym (plain_next g l none) ∙ k)
