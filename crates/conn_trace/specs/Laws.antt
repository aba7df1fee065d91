-- What holds of every trace.
use Rattle.std.specs.Prelude.{◌≡◌, ◌≤◌, ◌⊎◌, ℕ, ◌+◌, List, ◌++◌, length, Bool, true, false}
use Rattle.std.specs.Prelude.{◌&&◌, not, Option, Some, None}
use Rattle.px_bytes.specs.declared.addr.Side.TheVariants.{Client, Server}
use Rattle.px_bytes.specs.declared.fault.Reply.{Reply}
use Rattle.core_events.specs.declared.note.CutReason.{CutReason}
use Rattle.core_events.specs.declared.note.CutReason.TheVariants.{ServerReset}
use Rattle.conn_trace.specs.State.{ForBytes}
use Rattle.conn_trace.specs.Item.{Item, CutBy, Choice}
use Rattle.conn_trace.specs.Item.{client_output, server_output}
use Rattle.conn_trace.specs.Gates.{Counts, TakenCounts, taken_of, to_take, may_give, Met}
use Rattle.conn_trace.specs.Gates.{sent_from}
use Rattle.conn_trace.specs.Setup.{Setup}
use Rattle.conn_trace.specs.State.{Stream, Cut, Answers, TraceState, client_left}
use Rattle.conn_trace.specs.State.{Next, Does, Waits, Over}
use Rattle.conn_trace.specs.Places.{finish}
use Rattle.conn_trace.specs.Trace.{cut_takes, next_item, Unfolds, trace, behind}
use Rattle.conn_trace.specs.Trace.{start, GivesNoMore}
use Rattle.conn_trace.specs.Further.{Further, longer, Same, replies_only, choosing, with_cut}
use Rattle.conn_trace.specs.Further.{CutMeets}

-- on a longer input the next item is the same, unless it waits and this may end the wait
abbrev pub NextIsSame : Type 0
NextIsSame =
    (g : Setup) (l : TraceState) (f : Further) → l.answers.cut ≡ None → f.cut ≡ None
    → Same f (next_item g l) (next_item g (longer f l))

-- replies lengthen the trace also where a cut is recorded
abbrev pub NextIsSameOnReplies : Type 0
NextIsSameOnReplies =
    (g : Setup) (l : TraceState) (replies : List Reply)
    → Same (replies_only replies) (next_item g l) (next_item g (longer (replies_only replies) l))

-- so a trace only grows
abbrev pub LongerInputKeepsTrace : Type 0
LongerInputKeepsTrace =
    (g : Setup) (l m : TraceState) (f : Further) (items : List Item)
    → l.answers.cut ≡ None → f.cut ≡ None
    → Unfolds g l items m → Unfolds g (longer f l) items (longer f m)

-- a cut whose counts meet all gates leaves what was given
abbrev pub CutKeepsGiven : Type 0
CutKeepsGiven =
    (g : Setup) (l m : TraceState) (c : Cut) (items : List Item)
    → l.answers.cut ≡ None → Met l.sent c.took items
    → Unfolds g l items m → Unfolds g (with_cut c l) items (with_cut c m)

-- what was given stays in front, whatever comes, with a cut or without
abbrev pub FurtherKeepsTrace : Type 0
FurtherKeepsTrace =
    (g : Setup) (l m : TraceState) (f : Further) (items : List Item)
    → l.answers.cut ≡ None → CutMeets f.cut l.sent items
    → Unfolds g l items m → Unfolds g (longer f l) items (longer f m)

-- and replies keep it also behind a cut
abbrev pub RepliesKeepTrace : Type 0
RepliesKeepTrace =
    (g : Setup) (l m : TraceState) (replies : List Reply) (items : List Item)
    → Unfolds g l items m
    → Unfolds g (longer (replies_only replies) l) items (longer (replies_only replies) m)

-- choices are made one after another, and perhaps a cut behind them
abbrev pub ChoicesJoin : Type 0
ChoicesJoin =
    (g : Setup) (l m n : TraceState) (first second : List Choice) (cut : Option Cut)
    (items more : List Item)
    → l.answers.cut ≡ None → CutMeets cut l.sent items
    → Unfolds g (longer (choosing first None) l) items m
    → Unfolds g (longer (choosing second cut) m) more n
    → Unfolds g (longer (choosing (first ++ second) cut) l) (items ++ more) n

-- a cut ends a wait that it takes, and a closed gate
abbrev pub takes_cut : Setup → Cut → Counts → Next → Bool
takes_cut g c sent (Does i m) =
    not (may_give i sent c.took) && cut_takes g.http c.reason None
takes_cut g c sent (Waits k) = cut_takes g.http c.reason (Some k)
takes_cut g c sent Over = false

abbrev pub CutEnds : Type 0
CutEnds =
    (g : Setup) (l : TraceState) (c : Cut) → l.answers.cut ≡ None → l.finished ≡ false
    → takes_cut g c l.sent (next_item g l) ≡ true
    → next_item g (with_cut c l) ≡ finish g (CutBy c.reason) l

-- a cut that isn't taken now is kept, and changes nothing else
abbrev pub cut_is_taken : Setup → Cut → TraceState → Bool
cut_is_taken g c l = not l.finished && takes_cut g c l.sent (next_item g l)

abbrev pub cut_kept : Cut → Next → Next
cut_kept c (Does i m) = Does i (with_cut c m)
cut_kept c (Waits k) = Waits k
cut_kept c Over = Over

abbrev pub CutWaits : Type 0
CutWaits =
    (g : Setup) (l : TraceState) (c : Cut) → l.answers.cut ≡ None → cut_is_taken g c l ≡ false
    → next_item g (with_cut c l) ≡ cut_kept c (next_item g l)

-- without HTTP: where no more may be given and no call is awaited a cut is taken, or all is over
abbrev pub RestIsCut : Type 0
RestIsCut =
    (g : Setup) (c : Cut) (sent : Counts) (o : Next) → g.http ≡ false
    → GivesNoMore false sent c.took o → (takes_cut g c sent o ≡ true) ⊎ (o ≡ Over)

-- one of two unfoldings from one state goes on from where the other one stands
abbrev pub GoesOn : Setup → List Item → TraceState → List Item → TraceState → Type 0
GoesOn g some l all m = (rest : List Item) × (all ≡ some ++ rest) × Unfolds g l rest m

abbrev pub UnfoldingsAgree : Type 0
UnfoldingsAgree =
    (g : Setup) (l m n : TraceState) (some others : List Item)
    → Unfolds g l some m → Unfolds g l others n
    → GoesOn g some m others n ⊎ GoesOn g others n some m

-- the first items of the trace are those of each unfolding, and then those from where it stands
abbrev pub TraceIsUnfolding : Type 0
TraceIsUnfolding =
    (n : ℕ) (g : Setup) (l m : TraceState) (items : List Item)
    → Unfolds g l items m → trace (length items + n) g l ≡ items ++ trace n g m

-- no item comes next
abbrev pub Stops : Next → Type 0
Stops (Does i m) = ⊥
Stops (Waits kind) = Unit {0}
Stops Over = Unit {0}

-- a cut for this reason ends each rest: with HTTP one by the server doesn't
abbrev pub ends_rests : (http : Bool) → CutReason → Bool
ends_rests true ServerReset = false
ends_rests http reason = true

-- where no more may be given and no call is awaited, such a cut is taken, unless all is over
abbrev pub RestIsCutAlso : Type 0
RestIsCutAlso =
    (g : Setup) (c : Cut) (sent : Counts) (o : Next) → ends_rests g.http c.reason ≡ true
    → GivesNoMore false sent c.took o → (takes_cut g c sent o ≡ true) ⊎ (o ≡ Over)

-- with HTTP a server's reset ends the waits for its bytes
abbrev pub ServerResetEnds : Type 0
ServerResetEnds =
    (g : Setup) (took : TakenCounts) (sent : Counts) → g.http ≡ true
    → takes_cut g (record { reason = ServerReset; took = took }) sent (Waits (ForBytes Server)) ≡ true

-- where nothing comes next the items are the whole trace
abbrev pub StoppedIsWhole : Type 0
StoppedIsWhole =
    (n : ℕ) (g : Setup) (l m : TraceState) (items : List Item)
    → Unfolds g l items m → Stops (next_item g m) → trace (length items + n) g l ≡ items

-- where an unfolding stands is a function of where it began
abbrev pub UnfoldsBehind : Type 0
UnfoldsBehind =
    (g : Setup) (l m : TraceState) (items : List Item)
    → Unfolds g l items m → behind (length items) g l ≡ m

-- Items behind which no more may be given are the longest that may: any that may are a prefix.
abbrev pub GivenIsDue : Type 0
GivenIsDue =
    (g : Setup) (l m n : TraceState) (took : TakenCounts) (asleep : Bool)
    (given others : List Item)
    → Unfolds g l given m → GivesNoMore asleep m.sent took (next_item g m)
    → Unfolds g l others n → Met l.sent took others → GoesOn g others n given m

-- what was sent is in the state
abbrev pub SentIsCounted : Type 0
SentIsCounted =
    (g : Setup) (l m : TraceState) (items : List Item) → Unfolds g l items m
    → m.sent ≡ sent_from l.sent items

-- the client's stream is what the items left of it
abbrev pub ClientIsRead : Type 0
ClientIsRead =
    (g : Setup) (l m : TraceState) (items : List Item) → Unfolds g l items m
    → m.client ≡ client_left items l.client

-- to the client as much was sent as the items send
abbrev pub SentIsOutput : Type 0
SentIsOutput =
    (sent : Counts) (items : List Item)
    → (sent_from sent items).client ≡ sent.client + length (client_output items)

-- to the present server connection as much was sent as the items send to it
abbrev pub SentToServer : Type 0
SentToServer =
    (g : Setup) (client : Stream) (answers : Answers) (m : TraceState) (items : List Item)
    → Unfolds g (start g client answers) items m
    → m.sent.server ≡ length (server_output m.sent.number items)

-- so much or more was taken; None, which a reset leaves, is above all
abbrev pub AtLeast : Option ℕ → Option ℕ → Type 0
AtLeast n None = Unit {0}
AtLeast None (Some k) = ⊥
AtLeast (Some n) (Some k) = n ≤ k

pub record TakesMore (took more : TakenCounts) : Type 0 where
  pub client : AtLeast took.client more.client
  pub servers : (k : ℕ) → AtLeast (taken_of took.servers k) (taken_of more.servers k)

-- what may be given may be given when more is taken, or a side is reset
abbrev pub MetMore : Type 0
MetMore =
    (sent : Counts) (took more : TakenCounts) (items : List Item)
    → TakesMore took more → Met sent took items → Met sent more items

-- what may be given one after another may be given
abbrev pub MetJoins : Type 0
MetJoins =
    (sent : Counts) (took : TakenCounts) (items more : List Item)
    → Met sent took items → Met (sent_from sent items) took more → Met sent took (items ++ more)

-- where all is taken every gate is open
abbrev pub TakenAllOpens : Type 0
TakenAllOpens =
    (i : Item) (sent : Counts) (took : TakenCounts)
    → to_take sent took Client ≡ 0 → to_take sent took Server ≡ 0
    → may_give i sent took ≡ true
