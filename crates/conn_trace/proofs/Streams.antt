-- Streams with further input.
use Rattle.std.proofs.Common.{◌≡◌, refl, sym, ap, ◌∙◌, ℕ, ◌≤◌, List, [], ◌∷◌, ◌++◌, append-nil, length, take, Bool, true, false, ◌||◌, true≢false, Option, Some, None}
use Rattle.std.proofs.lemmas.List.{take-append-le, drop-append-le}
use Rattle.px_bytes.specs.declared.addr.Side.{Side}
use Rattle.px_bytes.specs.declared.addr.Side.TheVariants.{Client, Server}
use Rattle.conn_trace.specs.State.{Stream, ServerSide, NoServer, Sought, There, Leaving, Retired}
use Rattle.conn_trace.specs.State.{link_of, TraceState, server_stream, stream_of, read}
use Rattle.conn_trace.specs.State.{read_server, read_side}
use Rattle.conn_trace.specs.Further.{Coming, nothing_comes, Further, longer_by, longer_stream}
use Rattle.conn_trace.specs.Further.{longer_where, longer_server, left_for, on_last, longer}
use Rattle.conn_trace.specs.Further.{comes, is_some_of}

abbrev pub stream : List ℕ → Bool → Stream
stream unread ended = record { unread = unread; ended = ended }

abbrev pub coming : List ℕ → Bool → Coming
coming bytes ended = record { bytes = bytes; ended = ended }

-- a stream on a longer input: more bytes, and none if it has ended
pub record Grown (s s' : Stream) : Type 0 where
  pub more : List ℕ
  pub unread : s'.unread ≡ s.unread ++ more
  pub ended : s.ended ≡ true → s' ≡ s

pub grown_same : (s : Stream) → Grown s s
grown_same s = record { more = []; unread = sym (append-nil s.unread); ended = λ e. refl }

grown_by : (b : Bool) (c : Coming) (s : Stream) → s.ended ≡ b → Grown s (longer_by b c s)
grown_by true c s is = grown_same s
grown_by false c s is = record { more = c.bytes; unread = refl; ended = λ e. absurd (true≢false (sym e ∙ is)) }

grown_where : (c : Option Coming) (s : Stream) → Grown s (longer_where c s)
grown_where None s = grown_same s
grown_where (Some c) s = grown_by s.ended c s refl

grown_server : (c : Option Coming) (v : ServerSide) → Grown (server_stream v) (server_stream (longer_server c v))
grown_server c NoServer = grown_same _
grown_server c Sought = grown_same _
grown_server c (There s) = grown_where c s
grown_server c (Leaving b s) = grown_same _
grown_server c (Retired s) = grown_same _

pub grown : (side : Side) (f : Further) (l : TraceState) → Grown (stream_of side l) (stream_of side (longer f l))
grown Client f l = grown_where (Some f.client) l.client
grown Server f l = grown_server (left_for f.server l.answers.connects) l.server

read_by : (b : Bool) (c : Coming) (s : Stream) (n : ℕ) → n ≤ length s.unread → read n (longer_by b c s) ≡ longer_by b c (read n s)
read_by true c s n within = refl
read_by false c s n within = ap (λ u. stream u c.ended) (drop-append-le n s.unread c.bytes within)

read_where : (c : Option Coming) (s : Stream) (n : ℕ) → n ≤ length s.unread → read n (longer_where c s) ≡ longer_where c (read n s)
read_where None s n within = refl
read_where (Some c) s n within = read_by s.ended c s n within

read_longer_server : (c : Option Coming) (v : ServerSide) (n : ℕ) → n ≤ length (server_stream v).unread → read_server n (longer_server c v) ≡ longer_server c (read_server n v)
read_longer_server c NoServer n within = refl
read_longer_server c Sought n within = refl
read_longer_server c (There s) n within = ap There (read_where c s n within)
read_longer_server c (Leaving b s) n within = refl
read_longer_server c (Retired s) n within = refl

-- what is read of a side is read on the longer input too
pub read_longer : (side : Side) (f : Further) (l : TraceState) (n : ℕ) → n ≤ length (stream_of side l).unread → read_side side n (longer f l) ≡ longer f (read_side side n l)
read_longer Client f l n within = ap (λ s. record (longer f l) { client = s }) (read_where (Some f.client) l.client n within)
read_longer Server f l n within = ap (λ v. record (longer f l) { server = v }) (read_longer_server (left_for f.server l.answers.connects) l.server n within)

pub take_longer : (side : Side) (f : Further) (l : TraceState) (n : ℕ) → n ≤ length (stream_of side l).unread → take n (stream_of side (longer f l)).unread ≡ take n (stream_of side l).unread
take_longer side f l n within =
    ap (take n) (grown side f l).unread ∙ take-append-le n (stream_of side l).unread (grown side f l).more within

link_where : (c : Option Coming) (v : ServerSide) → link_of (longer_server c v) ≡ link_of v
link_where c NoServer = refl
link_where c Sought = refl
link_where c (There s) = refl
link_where c (Leaving b s) = refl
link_where c (Retired s) = refl

pub link_same : (f : Further) (l : TraceState) → link_of (longer f l).server ≡ link_of l.server
link_same f l = link_where (left_for f.server l.answers.connects) l.server

-- nothing comes
pub comes_not : (bytes : List ℕ) (ended : Bool) → (is_some_of bytes || ended) ≡ false → coming bytes ended ≡ nothing_comes
comes_not [] false is = refl
comes_not [] true is = absurd (true≢false is)
comes_not (b ∷ bs) ended is = absurd (true≢false is)

nothing_by : (b : Bool) (s : Stream) → s.ended ≡ b → longer_by b nothing_comes s ≡ s
nothing_by true s is = refl
nothing_by false s is = ap (λ u. stream u false) (append-nil s.unread) ∙ ap (stream s.unread) (sym is)

pub nothing_stream : (c : Coming) (s : Stream) → comes c ≡ false → longer_stream c s ≡ s
nothing_stream c s not = ap (λ d. longer_stream d s) (comes_not c.bytes c.ended not) ∙ nothing_by s.ended s refl

nothing_where : (c : Coming) (connects : List (Option Stream)) (s : Stream) → comes c ≡ false → longer_where (left_for c connects) s ≡ s
nothing_where c [] s not = nothing_stream c s not
nothing_where c (None ∷ more) s not = nothing_where c more s not
nothing_where c (Some t ∷ more) s not = refl

pub nothing_server : (c : Coming) (connects : List (Option Stream)) (v : ServerSide) → comes c ≡ false → longer_server (left_for c connects) v ≡ v
nothing_server c connects NoServer not = refl
nothing_server c connects Sought not = refl
nothing_server c connects (There s) not = ap There (nothing_where c connects s not)
nothing_server c connects (Leaving b s) not = ap (Leaving b) (nothing_where c connects s not)
nothing_server c connects (Retired s) not = ap Retired (nothing_where c connects s not)

pub nothing_on_last : (c : Coming) (connects : List (Option Stream)) → comes c ≡ false → on_last c connects ≡ connects
nothing_on_last c [] not = refl
nothing_on_last c (None ∷ more) not = ap (λ r. None ∷ r) (nothing_on_last c more not)
nothing_on_last c (Some s ∷ more) not = ap (λ t. Some t ∷ on_last c more) (nothing_where c more s not) ∙ ap (λ r. Some s ∷ r) (nothing_on_last c more not)

pub none_of : {A : Type 0} → (xs : List A) → is_some_of xs ≡ false → xs ≡ []
none_of [] is = refl
none_of (x ∷ xs) is = absurd (true≢false is)
