-- Behind its finish a connection makes no choice of its own, and takes no cut.
use Rattle.std.proofs.Common.{◌≡◌, refl, sym, ap, subst, ◌∙◌, ℕ, List, [], ◌∷◌, ◌++◌, Bool, true, false, ◌||◌, Option, Some, None}
use Rattle.std.specs.Prelude.{is_some, slice_get}
use Rattle.event_order.specs.declared.event.EventName.{EventName}
use Rattle.rule_model.specs.Host as effect
use Rattle.rule_model.specs.Outcome.{Act, Did, Outcome, Ends, Waits as Stops}
use Rattle.rule_model.specs.Outcome as act
use Rattle.rule_model.specs.Laws.{state_after}
use Rattle.conn_trace.specs.Bodies.{act_item, run_body, ended_next, act_next}
use Rattle.conn_trace.specs.Further.{Coming, Further, longer, longer_server, left_for}
use Rattle.conn_trace.specs.Gates.{Counts, TakenCounts}
use Rattle.conn_trace.specs.HeardLaws.{cut_for, cut_in}
use Rattle.conn_trace.specs.Host.{HostState}
use Rattle.conn_trace.specs.Item.{Reason, Item, shown, listed, choices_in}
use Rattle.conn_trace.specs.Phases.{finishes, Orderly, OrderlyIn}
use Rattle.conn_trace.specs.Setup.{Handler, Setup}
use Rattle.conn_trace.specs.State.{Gated, Running, Failing, Phase, AtHead, Continuing, Gathering, AtReuse, GivingUp, Retiring, Heading, Forwarding, Dropping, AtResponse, Leaving, InEvent, Choosing, Selecting, Connecting, Answering, Releasing, Relaying, Collecting, Finishing, Draining, ServerSide, NoServer, Sought, There, Retired, TraceState, Next, Does, Waits, Over, link_of}
use Rattle.conn_trace.specs.Trace.{counted, phase_next, next_item, Unfolds}
use Rattle.conn_trace.proofs.Stepping.{steps}
use Rattle.proxy_core.proofs.Overs.{finished_plain}

-- no choice is made
abbrev NoChoice : Next → Type 0
NoChoice (Does i m) = (shown i).choice ≡ None
NoChoice (Waits k) = Unit {0}
NoChoice Over = Unit {0}

act_plain : (a : Act) (number : ℕ) → (shown (act_item number a)).choice ≡ None
act_plain (Did (effect.Logged text)) number = refl
act_plain (Did (effect.Sent side bytes)) number = refl
act_plain (act.Called path call) number = refl

body_plain : (g : Setup) (e : EventName) (b : Handler) (bs : List Handler) (n : ℕ) (l : TraceState) (a : Option Act) (o : Outcome HostState) → NoChoice (act_next e b bs n l a (ended_next g e b bs l o))
body_plain g e b bs n l (Some a) o = act_plain a l.sent.number
body_plain g e b bs n l None (Ends code st) = refl
body_plain g e b bs n l None (Stops path call st) = tt

phase_plain : (g : Setup) (p : Phase) (l : TraceState) → OrderlyIn p true (link_of l.server) → NoChoice (phase_next g p l)
phase_plain g (InEvent e (Gated b bs)) l o = refl
phase_plain g (InEvent e (Running b bs n)) l o = body_plain g e b bs n l (slice_get (state_after (run_body g b l)).acts n) (run_body g b l)
phase_plain g (InEvent e (Failing kind line bs)) l o = refl
phase_plain g AtHead l o = absurd (let e : true ≡ false = o in cc)
phase_plain g Continuing l o = absurd (let e : true ≡ false = o in cc)
phase_plain g (Gathering side wanted s) l o = absurd (let e : true ≡ false = o.0 in cc)
phase_plain g AtReuse l o = absurd (let e : true ≡ false = o.0 in cc)
phase_plain g (GivingUp b) l o = absurd (let e : true ≡ false = o.0 in cc)
phase_plain g (Retiring b) l o = absurd (let e : true ≡ false = o.0 in cc)
phase_plain g (Heading side) l o = absurd (let e : true ≡ false = o.0 in cc)
phase_plain g (Forwarding side s standing) l o = absurd (let e : true ≡ false = o.0 in cc)
phase_plain g (Dropping s) l o = absurd (let e : true ≡ false = o in cc)
phase_plain g AtResponse l o = absurd (let e : true ≡ false = o.0 in cc)
phase_plain g Choosing l o = absurd (let e : true ≡ false = o.0 in cc)
phase_plain g (Selecting call) l o = absurd (let e : true ≡ false = o.0 in cc)
phase_plain g (Connecting a) l o = absurd (let e : true ≡ false = o.0 in cc)
phase_plain g (Answering a) l o = absurd (let e : true ≡ false = o.0 in cc)
phase_plain g Releasing l o = absurd (let e : true ≡ false = o.0 in cc)
phase_plain g Relaying l o = absurd (let e : true ≡ false = o.0 in cc)
phase_plain g Collecting l o = absurd (let e : true ≡ false = o.0 in cc)
phase_plain g (Finishing r) l o = absurd (let e : true ≡ false = o in cc)
phase_plain g Draining l o = tt

counted_plain : (sent : Counts) (o : Next) → NoChoice o → NoChoice (counted sent o)
counted_plain sent (Does i m) k = k
counted_plain sent (Waits w) k = tt
counted_plain sent Over k = tt

step_plain : (g : Setup) (l m : TraceState) (i : Item) → Orderly l → l.finished ≡ true → next_item g l ≡ Does i m → (shown i).choice ≡ None
step_plain g l m i o done e =
    let P : Bool → Type 0 = λ b. OrderlyIn l.phase b (link_of l.server) in
    let Q : Next → Type 0 = λ n. NoChoice n in
    subst Q (sym (finished_plain g l done) ∙ e) (counted_plain l.sent (phase_next g l.phase l) (phase_plain g l.phase l (subst P done o)))

no_reason : (r : Option Reason) → is_some r ≡ false → (took : TakenCounts) → cut_for r took None ≡ None
no_reason None e took = refl
no_reason (Some r) e took = cc

-- what it gives then
pub record Plain (more : List Item) : Type 0 where
  pub choices : choices_in more ≡ []
  pub cut : (took : TakenCounts) → cut_in took more ≡ None

pub drained_items : (g : Setup) (l at : TraceState) (more : List Item) → Orderly l → l.finished ≡ true → Unfolds g l more at → Plain more
drained_items g l at [] o done u = record { choices = refl; cut = λ took. refl }
drained_items g l at (i ∷ more) o done (mid, next, rest) =
    let s = steps g l mid i o next in
    let going : finishes i ≡ false = not_twice (finishes i) (λ e. (let x : true ≡ false = sym done ∙ s.once e in cc)) in
    let r = drained_items g mid at more s.orderly (s.finished ∙ ap (λ b. finishes i || b) done ∙ or_true (finishes i)) rest in
    record {
      choices = ap (λ x. listed x ++ choices_in more) (step_plain g l mid i o done next) ∙ r.choices;
      cut = λ took. ap (λ x. cut_for (shown i).reason took x) (r.cut took) ∙ no_reason (shown i).reason going took;
    }
  where
    not_twice : (b : Bool) → (b ≡ true → ⊥) → b ≡ false
    not_twice true n = absurd (n refl)
    not_twice false n = refl

    or_true : (b : Bool) → (b || true) ≡ true
    or_true true = refl
    or_true false = refl

-- more that comes keeps the order
same_link : (c : Option Coming) (s : ServerSide) → link_of (longer_server c s) ≡ link_of s
same_link c NoServer = refl
same_link c Sought = refl
same_link c (There s) = refl
same_link c (Leaving b s) = refl
same_link c (Retired s) = refl

pub longer_orderly : (f : Further) (l : TraceState) → Orderly l → Orderly (longer f l)
longer_orderly f l o = subst (λ k. OrderlyIn l.phase l.finished k) (sym (same_link (left_for f.server l.answers.connects) l.server)) o
