-- What may still come of a connection, and what it changes.
use Rattle.std.specs.Prelude.{◌≡◌, ℕ, List, [], ◌∷◌, ◌++◌, Bool, true, false, ◌||◌}
use Rattle.std.specs.Prelude.{Option, Some, None}
use Rattle.px_bytes.specs.declared.addr.Side.{Side}
use Rattle.px_bytes.specs.declared.addr.Side.TheVariants.{Client, Server}
use Rattle.px_bytes.specs.declared.fault.Reply.{Reply}
use Rattle.conn_trace.specs.Item.{Item, Choice}
use Rattle.conn_trace.specs.Gates.{Counts, Met}
use Rattle.conn_trace.specs.State.{Stream, ServerSide, NoServer, Sought, There, Leaving}
use Rattle.conn_trace.specs.State.{Retired, Cut}
use Rattle.conn_trace.specs.State.{Answers, TraceState, WaitKind, ForBytes, ForConnect}
use Rattle.conn_trace.specs.State.{ForReply, ForRelay, ForReuse, ForCut}
use Rattle.conn_trace.specs.State.{Next, Does, Waits, Over}

-- what may still come of a stream
pub record Coming : Type 0 where
  pub bytes : List ℕ
  pub ended : Bool

-- what may still come: of the client's stream, of the last server connection's, and answers
pub record Further : Type 0 where
  pub client : Coming
  pub server : Coming
  pub replies : List Reply
  pub connects : List (Option Stream)
  pub choices : List Choice
  pub cut : Option Cut

-- a stream that has ended absorbs what comes
abbrev pub longer_by : Bool → Coming → Stream → Stream
longer_by true c s = s
longer_by false c s = record { unread = s.unread ++ c.bytes; ended = c.ended }

abbrev pub longer_stream : Coming → Stream → Stream
longer_stream c s = longer_by s.ended c s

-- what comes, if it is for this one
abbrev pub longer_where : Option Coming → Stream → Stream
longer_where None s = s
longer_where (Some c) s = longer_stream c s

abbrev pub longer_server : Option Coming → ServerSide → ServerSide
longer_server c NoServer = NoServer
longer_server c Sought = Sought
longer_server c (There s) = There (longer_where c s)
longer_server c (Leaving b s) = Leaving b (longer_where c s)
longer_server c (Retired s) = Retired (longer_where c s)

-- what comes is for the server connection before these, where none of them was made
abbrev pub left_for : Coming → List (Option Stream) → Option Coming
left_for c [] = Some c
left_for c (None ∷ more) = left_for c more
left_for c (Some s ∷ more) = None

-- what comes is for the last of these that was made
abbrev pub on_last : Coming → List (Option Stream) → List (Option Stream)
on_last c [] = []
on_last c (None ∷ more) = None ∷ on_last c more
on_last c (Some s ∷ more) = Some (longer_where (left_for c more) s) ∷ on_last c more

abbrev pub first_cut : Option Cut → Option Cut → Option Cut
first_cut None c = c
first_cut (Some c) later = Some c

abbrev pub longer_answers : Further → Answers → Answers
longer_answers f a = record {
  replies = a.replies ++ f.replies;
  connects = on_last f.server a.connects ++ f.connects;
  choices = a.choices ++ f.choices;
  cut = first_cut a.cut f.cut;
}

-- the same place, with more to come
abbrev pub longer : Further → TraceState → TraceState
longer f l = record l {
  client = longer_stream f.client l.client;
  server = longer_server (left_for f.server l.answers.connects) l.server;
  answers = longer_answers f l.answers;
}

abbrev pub is_some_of : {A : Type 0} → List A → Bool
is_some_of [] = false
is_some_of (a ∷ more) = true

abbrev pub comes : Coming → Bool
comes c = is_some_of c.bytes || c.ended

-- whether it may end this wait
abbrev pub brings : Further → WaitKind → Bool
brings f (ForBytes Client) = comes f.client
brings f (ForBytes Server) = comes f.server
brings f ForConnect = is_some_of f.connects
brings f (ForReply call) = is_some_of f.replies
brings f (ForRelay c s) = comes f.client || (comes f.server || is_some_of f.choices)
brings f ForReuse = is_some_of f.choices
brings f ForCut = false

-- what comes next with this further input, by what comes next without
abbrev pub Same : Further → Next → Next → Type 0
Same f (Does i m) o = o ≡ Does i (longer f m)
Same f (Waits k) o = brings f k ≡ false → o ≡ Waits k
Same f Over o = o ≡ Over

abbrev pub nothing_comes : Coming
nothing_comes = record { bytes = []; ended = false }

abbrev pub nothing_further : Further
nothing_further = record {
  client = nothing_comes;
  server = nothing_comes;
  replies = [];
  connects = [];
  choices = [];
  cut = None;
}

-- nothing but replies
abbrev pub replies_only : List Reply → Further
replies_only replies = record nothing_further { replies = replies }

-- choices that are made, and a cut
abbrev pub choosing : List Choice → Option Cut → Further
choosing choices cut = record nothing_further { choices = choices; cut = cut }

abbrev pub with_cut : Cut → TraceState → TraceState
with_cut c l = record l { answers = record l.answers { cut = Some c } }

-- a cut that comes has counts that meet the gates of these items
abbrev pub CutMeets : Option Cut → Counts → List Item → Type 0
CutMeets None sent items = Unit {0}
CutMeets (Some c) sent items = Met sent c.took items

-- what comes of a side's stream
abbrev pub coming_from : Side → Further → Coming
coming_from Client f = f.client
coming_from Server f = f.server
