-- What was given stays, whatever comes.
use Rattle.std.proofs.Common.{◌≡◌, refl, sym, ap, subst, ◌∙◌, ℕ, zero, suc, ◌+◌, List, [], ◌∷◌, append-nil, length, Bool, true, false, ◌||◌, not, true≢false, if◌then◌else◌, Option, Some, None, arith}
use Rattle.std.proofs.lemmas.List.{length-append}
use Rattle.px_bytes.specs.declared.addr.Side.TheVariants.{Client, Server}
use Rattle.px_bytes.specs.declared.fault.Reply.{Reply}
use Rattle.core_events.specs.declared.note.CutReason.{CutReason}
use Rattle.conn_trace.specs.Item.{Item, CutBy, Peer, ToClient, ToServer, Sending, Choice}
use Rattle.conn_trace.specs.Item.{shown, client_part, bytes_to_client, client_output}
use Rattle.conn_trace.specs.Gates.{Counts, may_give, renewed, sent_to, sent_part, sent_after}
use Rattle.conn_trace.specs.Gates.{sent_from, Met}
use Rattle.conn_trace.specs.Setup.{Setup}
use Rattle.conn_trace.specs.State.{Stream, ServerSide, Cut, TraceState, WaitKind, ForBytes}
use Rattle.conn_trace.specs.State.{ForConnect, ForReply, ForRelay, ForReuse, ForCut, Next}
use Rattle.conn_trace.specs.State.{Does, Waits, Over}
use Rattle.conn_trace.specs.Places.{finish}
use Rattle.conn_trace.specs.Trace.{phase_next, cut_takes, uncut, cut_open, cut_next}
use Rattle.conn_trace.specs.Trace.{counted, next_item, Unfolds, behind_from, behind}
use Rattle.conn_trace.specs.Further.{Further, nothing_comes, longer, first_cut, brings, Same}
use Rattle.conn_trace.specs.Further.{replies_only, with_cut}
use Rattle.conn_trace.proofs.Streams.{nothing_stream, nothing_server, nothing_on_last}
use Rattle.conn_trace.proofs.Fair.{FairNext, fair_of, phase_fair}
use Rattle.conn_trace.proofs.Longer.{phase_same, finish_same, plain_next, next_same}

-- without a cut none comes
no_cut_after : (g : Setup) (l m : TraceState) (i : Item) → l.answers.cut ≡ None → next_item g l ≡ Does i m → m.answers.cut ≡ None
no_cut_after g l m i none is =
    cut_of (phase_next g l.phase l) (phase_fair g l.phase l) (sym (plain_next g l none) ∙ is) ∙ none where
      cut_of : (o : Next) → FairNext l.answers.cut l.sent.number l.client o → counted l.sent o ≡ Does i m → m.answers.cut ≡ l.answers.cut
      cut_of (Does j k) fair is = let same_place : record k { sent = sent_after j l.sent } ≡ m = cc in ap (λ x. x.answers.cut) (sym same_place) ∙ fair.cut
      cut_of (Waits k) fair is = absurd (cc)
      cut_of Over fair is = absurd (cc)

pub does_same : (f : Further) (i : Item) (m : TraceState) (o o' : Next) → o ≡ Does i m → Same f o o' → o' ≡ Does i (longer f m)
does_same f i m o o' is same = subst (λ x. Same f x o') is same

pub trace_is_same : (g : Setup) (l m : TraceState) (f : Further) (items : List Item) → l.answers.cut ≡ None → f.cut ≡ None → Unfolds g l items m → Unfolds g (longer f l) items (longer f m)
trace_is_same g l m f [] none later is = ap (longer f) is
trace_is_same g l m f (i ∷ items) none later (mid, step, rest) =
    (longer f mid, does_same f i mid _ _ step (next_same g l f none later), trace_is_same g mid m f items (no_cut_after g l mid i none step) later rest)

pub no_cut_behind : (g : Setup) (l m : TraceState) (items : List Item) → l.answers.cut ≡ None → Unfolds g l items m → m.answers.cut ≡ None
no_cut_behind g l m [] none is = subst (λ x. x.answers.cut ≡ None) is none
no_cut_behind g l m (i ∷ items) none (mid, step, rest) = no_cut_behind g mid m items (no_cut_after g l mid i none step) rest

-- replies alone
takes_no_reply : (replies : List Reply) (http : Bool) (reason : CutReason) (k : WaitKind) → cut_takes http reason (Some k) ≡ true → brings (replies_only replies) k ≡ false
takes_no_reply replies http reason (ForBytes Client) is = refl
takes_no_reply replies http reason (ForBytes Server) is = refl
takes_no_reply replies http reason ForConnect is = refl
takes_no_reply replies http reason (ForReply call) is = absurd (true≢false (sym is))
takes_no_reply replies http reason (ForRelay c s) is = refl
takes_no_reply replies http reason ForReuse is = refl
takes_no_reply replies http reason ForCut is = refl

cut_same : (replies : List Reply) (g : Setup) (l : TraceState) (cut : Option Cut) (o o' : Next) → Same (replies_only replies) o o' → Same (replies_only replies) (cut_next g cut l o) (cut_next g cut (longer (replies_only replies) l) o')
cut_same replies g l None o o' same = same
cut_same replies g l (Some c) o o' same = by_end l.finished where
  f : Further
  f = replies_only replies

  by_place : (o : Next) → Same f o o' → Same f (cut_open g c l o) (cut_open g c (longer f l) o')
  by_place (Does i m) is = by_test (may_give i l.sent c.took || not (cut_takes g.http c.reason None)) refl where
    by_test : (b : Bool) → (may_give i l.sent c.took || not (cut_takes g.http c.reason None)) ≡ b
        → Same f (if b then Does i m else finish g (CutBy c.reason) (uncut l)) (cut_open g c (longer f l) o')
    by_test true test = ap (cut_open g c (longer f l)) is ∙ ap (λ b. if b then Does i (longer f m) else finish g (CutBy c.reason) (uncut (longer f l))) test
    by_test false test =
        ap (cut_open g c (longer f l)) is ∙ (ap (λ b. if b then Does i (longer f m) else finish g (CutBy c.reason) (uncut (longer f l))) test ∙ finish_same f g (CutBy c.reason) (uncut l))
  by_place (Waits k) is = by_test (cut_takes g.http c.reason (Some k)) refl where
    by_test : (b : Bool) → cut_takes g.http c.reason (Some k) ≡ b
        → Same f (if b then finish g (CutBy c.reason) (uncut l) else Waits k) (cut_open g c (longer f l) o')
    by_test true test =
        ap (cut_open g c (longer f l)) (is (takes_no_reply replies g.http c.reason k test)) ∙ (ap (λ b. if b then finish g (CutBy c.reason) (uncut (longer f l)) else Waits k) test ∙ finish_same f g (CutBy c.reason) (uncut l))
    by_test false test = λ idle. ap (cut_open g c (longer f l)) (is idle) ∙ ap (λ b. if b then finish g (CutBy c.reason) (uncut (longer f l)) else Waits k) test
  by_place Over is = ap (cut_open g c (longer f l)) is

  by_end : (b : Bool) → Same f (if b then o else cut_open g c l o) (if b then o' else cut_open g c (longer f l) o')
  by_end true = same
  by_end false = by_place o same

first_none : (c : Option Cut) → first_cut c None ≡ c
first_none None = refl
first_none (Some c) = refl

counted_same : (f : Further) (sent : Counts) (o o' : Next) → Same f o o' → Same f (counted sent o) (counted sent o')
counted_same f sent (Does i m) o' is = ap (counted sent) is
counted_same f sent (Waits k) o' is = λ idle. ap (counted sent) (is idle)
counted_same f sent Over o' is = ap (counted sent) is

pub next_same_on_replies : (g : Setup) (l : TraceState) (replies : List Reply) → Same (replies_only replies) (next_item g l) (next_item g (longer (replies_only replies) l))
unfolding next_item
next_same_on_replies g l replies =
    let f = replies_only replies in
    let o' = phase_next g l.phase (longer f l) in
    subst (λ c. Same f (next_item g l) (counted l.sent (cut_next g c (longer f l) o'))) (sym (first_none l.answers.cut))
    (counted_same f l.sent _ _ (cut_same replies g l l.answers.cut _ _ (phase_same f g l.phase l)))

-- what was sent is counted
counted_sent : (sent : Counts) (o : Next) (i : Item) (m : TraceState) → counted sent o ≡ Does i m → m.sent ≡ sent_after i sent
counted_sent sent (Does j k) i m is =
    let same_item : j ≡ i = cc in
    let same_place : record k { sent = sent_after j sent } ≡ m = cc in ap (λ x. x.sent) (sym same_place) ∙ ap (λ x. sent_after x sent) same_item
counted_sent sent (Waits k) i m is = absurd (cc)
counted_sent sent Over i m is = absurd (cc)

pub sent_step : (g : Setup) (l m : TraceState) (i : Item) → next_item g l ≡ Does i m → m.sent ≡ sent_after i l.sent
unfolding next_item
sent_step g l m i is = counted_sent l.sent _ i m is

-- a cut alone
abbrev pub only_cut : Cut → Further
only_cut c =
    record { client = nothing_comes; server = nothing_comes; replies = []; connects = []; choices = []; cut = Some c }

unfoldable pub made : Stream → ServerSide → List Reply → List (Option Stream) → List Choice → Option Cut → TraceState → TraceState
made client server replies connects choices cut l = record l { client = client; server = server; answers = record { replies = replies; connects = connects; choices = choices; cut = cut } }

pub only_cut_is : (c : Cut) (l : TraceState) → l.answers.cut ≡ None → longer (only_cut c) l ≡ with_cut c l
unfolding made
only_cut_is c l none =
    let f = only_cut c in
    let a = longer f l in
    ap (λ x. made x a.server a.answers.replies a.answers.connects a.answers.choices a.answers.cut l) (nothing_stream nothing_comes l.client refl)
    ∙ (ap (λ x. made l.client x a.answers.replies a.answers.connects a.answers.choices a.answers.cut l) (nothing_server nothing_comes l.answers.connects l.server refl)
    ∙ (ap (λ x. made l.client l.server x a.answers.connects a.answers.choices a.answers.cut l) (append-nil l.answers.replies)
    ∙ (ap (λ x. made l.client l.server l.answers.replies x a.answers.choices a.answers.cut l) (append-nil _ ∙ nothing_on_last nothing_comes l.answers.connects refl)
    ∙ (ap (λ x. made l.client l.server l.answers.replies l.answers.connects x a.answers.cut l) (append-nil l.answers.choices)
    ∙ ap (λ x. made l.client l.server l.answers.replies l.answers.connects l.answers.choices (first_cut x (Some c)) l) none))))

-- the phase gives the same with a cut recorded, and the wrapper gives it where its counts meet the gate
cut_step : (g : Setup) (l : TraceState) (c : Cut) (i : Item) (o : Next) → (m : TraceState) → phase_next g l.phase l ≡ o → l.answers.cut ≡ None → may_give i l.sent c.took ≡ true → counted l.sent o ≡ Does i m
    → next_item g (with_cut c l) ≡ Does i (with_cut c m)
unfolding next_item
cut_step g l c i (Waits k) m is none may there = absurd (cc)
cut_step g l c i Over m is none may there = absurd (cc)
cut_step g l c i (Does j k) m is none may there =
    let same_item : j ≡ i = cc in
    let same_place : record k { sent = sent_after j l.sent } ≡ m = cc in
    let kept : k.answers.cut ≡ None = (fair_of l.answers.cut l.sent.number l.client j k (subst (FairNext l.answers.cut l.sent.number l.client) is (phase_fair g l.phase l))).cut ∙ none in
    let now : phase_next g l.phase (with_cut c l) ≡ Does j (with_cut c k) =
    ap (phase_next g l.phase) (sym (only_cut_is c l none)) ∙ (does_same (only_cut c) j k _ _ is (phase_same (only_cut c) g l.phase l) ∙ ap (Does j) (only_cut_is c k kept)) in
    let open_gate : may_give j l.sent c.took ≡ true = rw same_item may in
    ap (λ o. counted l.sent (cut_next g (Some c) (with_cut c l) o)) now
    ∙ (by_end l.finished open_gate ∙ (ap (λ x. Does x (with_cut c (record k { sent = sent_after j l.sent }))) same_item ∙ ap (λ x. Does i (with_cut c x)) same_place)) where
      by_end : (b : Bool) → may_give j l.sent c.took ≡ true
          → counted l.sent (if b then Does j (with_cut c k) else cut_open g c (with_cut c l) (Does j (with_cut c k))) ≡ Does j (with_cut c (record k { sent = sent_after j l.sent }))
      by_end true may = refl
      by_end false may = ap (λ x. counted l.sent (if x || not (cut_takes g.http c.reason None) then Does j (with_cut c k) else finish g (CutBy c.reason) (uncut (with_cut c l)))) may

pub cut_keeps : (g : Setup) (l m : TraceState) (c : Cut) (items : List Item) → l.answers.cut ≡ None → Met l.sent c.took items → Unfolds g l items m → Unfolds g (with_cut c l) items (with_cut c m)
cut_keeps g l m c [] none met is = ap (with_cut c) is
cut_keeps g l m c (i ∷ items) none met (mid, step, rest) = (
  with_cut c mid,
  cut_step g l c i (phase_next g l.phase l) mid refl none met.0 (sym (plain_next g l none) ∙ step),
  cut_keeps g mid m c items (no_cut_after g l mid i none step) (subst (λ s. Met s c.took items) (sym (sent_step g l mid i step)) met.1) rest,
)

pub sent_counted : (g : Setup) (l m : TraceState) (items : List Item) → Unfolds g l items m → m.sent ≡ sent_from l.sent items
sent_counted g l m [] is = ap (λ x. x.sent) (sym is)
sent_counted g l m (i ∷ items) (mid, step, rest) = sent_counted g mid m items rest ∙ ap (λ s. sent_from s items) (sent_step g l mid i step)

renewed_client : (made : Bool) (sent : Counts) → (renewed made sent).client ≡ sent.client
renewed_client true sent = refl
renewed_client false sent = refl

to_client : (peer : Peer) (bytes : List ℕ) (sent : Counts) → (sent_to peer (length bytes) sent).client ≡ sent.client + length (bytes_to_client peer bytes)
to_client ToClient bytes sent = refl
to_client (ToServer k) bytes sent = omega arith

part_client : (s : Option Sending) (sent : Counts) → (sent_part s sent).client ≡ sent.client + length (client_part s)
part_client None sent = omega arith
part_client (Some s) sent = to_client s.peer s.bytes sent

pub sent_output : (sent : Counts) (items : List Item) → (sent_from sent items).client ≡ sent.client + length (client_output items)
sent_output sent [] = omega arith
sent_output sent (i ∷ items) =
    let more = sent_output (sent_after i sent) items in
    let one = part_client (shown i).sends (renewed (shown i).renews sent) in
    let same = renewed_client (shown i).renews sent in
    let joined = length-append (client_part (shown i).sends) (client_output items) in
    omega arith

-- where an unfolding stands
behind_step : (n k : ℕ) (g : Setup) (l m : TraceState) (i : Item) → k ≡ suc n → next_item g l ≡ Does i m → behind k g l ≡ behind n g m
behind_step n zero g l m i is step = absurd (omega arith)
behind_step n (suc k) g l m i is step =
    let e : k ≡ n = omega arith in
    ap (behind_from (suc k) g l) step ∙ ap (λ x. behind_from x g m (next_item g m)) e

pub unfolds_behind : (g : Setup) (l m : TraceState) (items : List Item) → Unfolds g l items m → behind (length items) g l ≡ m
unfolds_behind g l m [] is = is
unfolds_behind g l m (i ∷ items) (mid, step, rest) =
    behind_step (length items) (length (i ∷ items)) g l mid i (omega arith) step ∙ unfolds_behind g mid m items rest
