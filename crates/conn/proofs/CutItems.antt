-- How a connection finishes, and a cut at a rest, by the fields of a trace's state.
use Rattle.std.proofs.Common.{◌≡◌, ap, ◌∙◌, [], true, false, Some, None}
use Rattle.core_events.specs.declared.note.CutReason.{CutReason}
use Rattle.conn_trace.specs.Further.{choosing, longer}
use Rattle.conn_trace.specs.Gates.{TakenCounts}
use Rattle.conn_trace.specs.Item.{CutBy, Finished, Reason}
use Rattle.conn_trace.specs.Laws.{takes_cut}
use Rattle.conn_trace.specs.Host.{HostState}
use Rattle.conn_trace.specs.Places.{at as put, closed}
use Rattle.conn_trace.specs.Setup.{Setup}
use Rattle.conn_trace.specs.State.{Cut, Link, link_of, TraceState, Does}
use Rattle.conn_trace.specs.Places.{finish}
use Rattle.conn_trace.specs.Trace.{next_item}
use Rattle.conn_trace.proofs.Furthering.{cut_ends}
use Rattle.conn_trace.proofs.Given.{only_cut_is}

abbrev pub cut_by : CutReason → TakenCounts → Cut
cut_by reason took = record { reason = reason; took = took }

-- it finishes, with this host and this link
pub finish_is : (g : Setup) (reason : Reason) (h : HostState) (k : Link) (l : TraceState) → l.host ≡ h → link_of l.server ≡ k → finish g reason l ≡ Does (Finished reason) (put (closed g k h) (record l { finished = true }))
finish_is g reason h k l host link =
    ap (λ x. Does (Finished reason) (put (closed g x l.host) (record l { finished = true }))) link
    ∙ ap (λ x. Does (Finished reason) (put (closed g k x) (record l { finished = true }))) host

-- One that hasn't finished is ended by a cut that is taken.
pub rest_cut : (g : Setup) (l : TraceState) (reason : CutReason) (took : TakenCounts) → takes_cut g (cut_by reason took) l.sent (next_item g l) ≡ true → l.answers.cut ≡ None → l.finished ≡ false → next_item g (longer (choosing [] (Some (cut_by reason took))) l) ≡ finish g (CutBy reason) l
rest_cut g l reason took takes none going =
    let c = cut_by reason took in
    ap (next_item g) (only_cut_is c l none) ∙ cut_ends g l c none going takes
