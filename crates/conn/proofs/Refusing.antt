-- What a client sent can't be read: it is answered, unless its stream ended, and the connection finishes.
use Rattle.std.proofs.Common.{◌≡◌, refl, sym, ap, subst, ◌∙◌, ℕ, List, [], ◌∷◌, ◌++◌, append-nil, Bool, true, false}
use Rattle.std.specs.Option.{is_some}
use Rattle.core_events.specs.declared.note.Note.{Note}
use Rattle.core_events.specs.declared.note.Note.TheVariants as note
use Rattle.px_bytes.specs.declared.addr.Side.TheVariants.{Client}
use Rattle.px_bytes.specs.declared.fault.HttpFault.{HttpFault}
use Rattle.http_answers.specs.Refusals.{refusal}
use Rattle.conn_trace.specs.Gates.{sent_after}
use Rattle.conn_trace.specs.Http.{Heads, the_heads}
use Rattle.conn_trace.specs.Item.{Http as HttpReason, Sent, ToClient}
use Rattle.conn_trace.specs.Messages.{fault_by, fault_next}
use Rattle.conn_trace.specs.SentBodies.{is_answered}
use Rattle.conn_trace.specs.Setup.{Setup}
use Rattle.conn_trace.specs.State.{Finishing, Next, TraceState, Does}
use Rattle.conn_trace.specs.Trace.{counted, next_item}
use Rattle.conn.specs.Acts.{RefusesBy, Refuses, SendsClient}
use Rattle.conn.specs.Holds.{Around, Between, Holds, HoldsEnds, Stands}
use Rattle.conn.specs.Hosts.{seen_host}
use Rattle.conn.specs.Setups.{Serves}
use Rattle.conn.specs.Stages.{InEvent as HostIn, cause_for, fits, has_finished, is_asking}
use Rattle.conn.specs.declared.connection.Conn.{Conn}
use Rattle.conn.specs.declared.setup.Setup as code_setup
use Rattle.conn.specs.declared.stage.Finish.TheVariants as finish
use Rattle.conn.specs.declared.stage.Stage.TheVariants as stage
use Rattle.conn.specs.declared.turn.Act as step_act
use Rattle.conn.proofs.Acting.{ActGave, finishes_gave}
use Rattle.conn.proofs.Answering.{client_sent, gave_bytes}
use Rattle.conn.proofs.Giving.{quiet_queue}
use Rattle.conn.proofs.Places.{told_kept}

-- the notes of it
abbrev pub refused_by : (answered : Bool) → HttpFault → ℕ → List Note
refused_by true f c = []
refused_by false f c = note.Finish c (cause_for (finish.Http f)) ∷ []

abbrev pub refused_group : HttpFault → ℕ → List Note
refused_group f c = refused_by (is_answered Client f) f c

pub refused_noted : (s : code_setup.Setup) (c : ℕ) (f : HttpFault) (old new : Conn) (before after : List Note) (did : step_act.Act) → Refuses f s c old new before after did → after ≡ before ++ refused_group f c
refused_noted s c f old new before after did k = by_test (is_answered Client f) k
  where
    by_test : (x : Bool) → RefusesBy x f s c old new before after did → after ≡ before ++ refused_by x f c
    by_test true k = k.2 ∙ sym (append-nil before)
    by_test false k = k.1.1

module _ (s : code_setup.Setup) (g : Setup) (serves : Serves s g) (a : Around) (l : TraceState) (c : ℕ) (old new : Conn) (h : Holds g a l old) (b : Between l old) (spoken : is_some old.host.http ≡ true) (going : l.finished ≡ false) where
  -- heads are read and written as everywhere
  pub heads_are : g.heads ≡ the_heads
  heads_are = serves.heads (sym serves.http ∙ sym h.told.spoken ∙ spoken)

  module _ (f : HttpFault) (step : next_item g l ≡ counted l.sent (fault_next g l Client f)) where
    abbrev at : TraceState
    at = record l { phase = Finishing (HttpReason f); sent = sent_after (Sent ToClient (refusal f)) l.sent }

    answers : is_answered Client f ≡ true → next_item g l ≡ Does (Sent ToClient (refusal f)) at
    answers is =
        step ∙ ap (λ x. counted l.sent (fault_by g l f x)) is
        ∙ ap (λ hd. answered_at hd) heads_are
      where
        answered_at : Heads → Next
        answered_at hd = Does (Sent ToClient (hd.refusal f)) (record l { phase = Finishing (HttpReason f); sent = sent_after (Sent ToClient (hd.refusal f)) l.sent })

    holds : SendsClient (refusal f) (stage.Finishing (finish.Http f)) old new → Holds g a at new
    holds k = record {
      stage = subst (λ x. Stands g x at new) (sym k.there) (refl, record { vars = b.vars ∙ sym k.vars; host = b.host ∙ ap seen_host (sym k.host); replies = b.replies });
      finished = going ∙ sym (ap has_finished k.there);
      fits = ap (λ x. fits x new.ends.link) k.there;
      event = subst (λ x. HostIn x new.host.event) (sym k.there) tt;
      told = told_kept g old new k.host (ap (λ e. e.link) k.ends) h.told;
      ends = subst (λ e. HoldsEnds a at e) (sym k.ends) (client_sent a l at old.ends (refusal f) h.ends refl refl refl refl refl refl);
      no_choice = h.no_choice;
      no_cut = h.no_cut;
    }

    pub refuses : (before after : List Note) (did : step_act.Act) → Refuses f s c old new before after did → ActGave g a l c old new (refused_group f c) did
    refuses before after did k = by_test (is_answered Client f) refl k
      where
        by_test : (x : Bool) → is_answered Client f ≡ x → RefusesBy x f s c old new before after did → ActGave g a l c old new (refused_by x f c) did
        by_test true is (goes, k, none) = subst (λ d. ActGave g a l c old new [] d) (sym goes) (record {
          at = at;
          gave = gave_bytes g a l at c old new (Sent ToClient (refusal f)) (refusal f) h.no_cut (record { calls = refl; note = refl; client = refl; to_none = refl; opens = λ c s t. refl; along = quiet_queue; takes = (refl, λ t. refl) }) (answers is) refl (holds k) k.ends (λ e. e);
          stops = ap is_asking k.there;
        })
        by_test false is (goes, k) = subst (λ d. ActGave g a l c old new (refused_by false f c) d) (sym goes)
            (finishes_gave s g serves a l c old new h b (finish.Http f) tt k.0 (step ∙ ap (λ x. counted l.sent (fault_by g l f x)) is))
