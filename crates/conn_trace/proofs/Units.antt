-- A body goes byte by byte.
use Rattle.std.proofs.Common.{◌≡◌, refl, sym, ap, subst, ◌∙◌, ℕ, zero, suc, ◌+◌, ◌-◌, ◌≤◌, Bool, List, [], ◌∷◌, ◌++◌, length, map, drop, take, Option, Some, None, arith, drop-drop, lt-ltb, zero-add}
use Rattle.px_bytes.specs.declared.addr.Side.{Side}
use Rattle.px_bytes.specs.declared.addr.Side.TheVariants.{Client, Server}
use Rattle.http_frames.specs.declared.state.BodyState.{BodyState}
use Rattle.http_frames.specs.declared.state.BodyState.TheVariants as body
use Rattle.conn_trace.specs.Gates.{Counts, TakenCounts, other, untaken, taken_of, to_take}
use Rattle.conn_trace.specs.Gates.{room_limit, sent_after, sent_from, Met}
use Rattle.conn_trace.specs.Setup.{Setup}
use Rattle.conn_trace.specs.Fronts.{after_byte, in_chunk}
use Rattle.http_frames.specs.Parts.{Part, Byte, part_of}
use Rattle.conn_trace.specs.State.{ServerSide, NoServer, Sought, There, Leaving}
use Rattle.conn_trace.specs.State.{Retired, TraceState, Does, Next, read_server, read_side}
use Rattle.conn_trace.specs.State.{stream_of, server_stream}
use Rattle.conn_trace.specs.State.{Forwarding}
use Rattle.conn_trace.specs.Messages.{moves_next, sending_next}
use Rattle.conn_trace.specs.Trace.{counted, next_item, phase_next}
use Rattle.conn_trace.specs.Trace.{Unfolds}
use Rattle.conn_trace.specs.Units.{unit_item, unit_items, sending, Holds, after_bytes}
use Rattle.conn_trace.proofs.Streams.{stream}
use Rattle.conn_trace.proofs.Longer.{plain_next}

same_number : (number : ℕ) (side : Side) (b : ℕ) (sent : Counts) → (sent_after (unit_item number side b) sent).number ≡ sent.number
same_number number Client b sent = refl
same_number number Server b sent = refl

one_read : (v : ServerSide) → (server_stream (read_server 1 v)).unread ≡ drop 1 (server_stream v).unread
one_read NoServer = refl
one_read Sought = refl
one_read (There s) = refl
one_read (Leaving b s) = refl
one_read (Retired s) = refl

pub one_left : (side : Side) (l : TraceState) → (stream_of side (read_side side 1 l)).unread ≡ drop 1 (stream_of side l).unread
one_left Client l = refl
one_left Server l = one_read l.server

read_on : (n : ℕ) (v : ServerSide) → read_server n (read_server 1 v) ≡ read_server (1 + n) v
read_on n NoServer = refl
read_on n Sought = refl
read_on n (There s) = ap (λ u. There (stream u s.ended)) (drop-drop n 1 s.unread)
read_on n (Leaving b s) = refl
read_on n (Retired s) = refl

pub read_both : (side : Side) (n k : ℕ) (l : TraceState) → 1 + n ≡ k → read_side side n (read_side side 1 l) ≡ read_side side k l
read_both Client n k l is = ap (λ u. record l { client = stream u l.client.ended }) (drop-drop n 1 l.client.unread) ∙ ap (λ x. read_side Client x l) is
read_both Server n k l is = ap (λ v. record l { server = v }) (read_on n l.server) ∙ ap (λ x. read_side Server x l) is

read_none : (v : ServerSide) → read_server 0 v ≡ v
read_none NoServer = refl
read_none Sought = refl
read_none (There s) = refl
read_none (Leaving b s) = refl
read_none (Retired s) = refl

pub none_read : (side : Side) (l : TraceState) → read_side side 0 l ≡ l
none_read Client l = refl
none_read Server l = ap (λ v. record l { server = v }) (read_none l.server)

pub keeps_cut : (side : Side) (n : ℕ) (l : TraceState) → (read_side side n l).answers.cut ≡ l.answers.cut
keeps_cut Client n l = refl
keeps_cut Server n l = refl

-- a byte of the body stands in front
pub byte_here : (s : BodyState) (n b : ℕ) (bytes : List ℕ) (ended : Bool) → Holds (suc n) s → part_of s (b ∷ bytes) ended ≡ Byte
byte_here (body.Left zero) n b bytes ended holds = absurd (omega (arith, holds))
byte_here (body.Left (suc k)) n b bytes ended holds = refl
byte_here body.FirstLine n b bytes ended holds = absurd (omega (arith, holds))
byte_here (body.Chunk zero) n b bytes ended holds = absurd (omega (arith, holds))
byte_here (body.Chunk (suc k)) n b bytes ended holds = refl
byte_here body.NextLine n b bytes ended holds = absurd (omega (arith, holds))
byte_here body.ToEnd n b bytes ended holds = refl

chunk_holds : (n k : ℕ) → n ≤ k → Holds n (in_chunk k)
chunk_holds n zero less = omega (arith, less)
chunk_holds n (suc k) less = less

pub holds_on : (s : BodyState) (n : ℕ) → Holds (suc n) s → Holds n (after_byte s)
holds_on (body.Left k) n holds = omega (arith, holds)
holds_on body.FirstLine n holds = absurd (omega (arith, holds))
holds_on (body.Chunk k) n holds = chunk_holds n (k - 1) (omega (arith, holds))
holds_on body.NextLine n holds = absurd (omega (arith, holds))
holds_on body.ToEnd n holds = tt

abbrev moved_as : TraceState → Side → List ℕ → BodyState → Bool → Next
moved_as r side unread s standing = moves_next r side 1 (take 1 unread) (Forwarding side (after_byte s) standing)

unit_step : (g : Setup) (l : TraceState) (side : Side) (s : BodyState) (standing : Bool) (b : ℕ) (bytes : List ℕ) (n : ℕ) (sent : Counts) → l.answers.cut ≡ None → (stream_of side l).unread ≡ b ∷ bytes → Holds (suc n) s
    → next_item g (sending side s standing sent l) ≡ Does (unit_item sent.number side b) (sending side (after_byte s) standing (sent_after (unit_item sent.number side b) sent) (read_side side 1 l))
unit_step g l side s standing b bytes n sent none here holds =
    let r = sending side s standing sent l in
    plain_next g r none ∙ by_side side here where
      by_side : (side : Side) → (stream_of side l).unread ≡ b ∷ bytes
          → counted sent (sending_next g (sending side s standing sent l) side s standing (part_of s (stream_of side (sending side s standing sent l)).unread (stream_of side (sending side s standing sent l)).ended))
          ≡ Does (unit_item sent.number side b) (sending side (after_byte s) standing (sent_after (unit_item sent.number side b) sent) (read_side side 1 l))
      by_side Client here =
          let r = sending Client s standing sent l in
          ap (λ p. counted sent (sending_next g r Client s standing p)) (ap (λ u. part_of s u l.client.ended) here ∙ byte_here s n b bytes l.client.ended holds)
          ∙ ap (λ u. counted sent (moved_as r Client u s standing)) here
      by_side Server here =
          let r = sending Server s standing sent l in
          ap (λ p. counted sent (sending_next g r Server s standing p)) (ap (λ u. part_of s u (server_stream l.server).ended) here ∙ byte_here s n b bytes (server_stream l.server).ended holds)
          ∙ ap (λ u. counted sent (moved_as r Server u s standing)) here

pub units_unfold : (g : Setup) (l : TraceState) (side : Side) (s : BodyState) (standing : Bool) (bytes rest : List ℕ) (sent : Counts) → l.answers.cut ≡ None → (stream_of side l).unread ≡ bytes ++ rest → Holds (length bytes) s
    → Unfolds g (sending side s standing sent l) (unit_items sent.number side bytes) (sending side (after_bytes (length bytes) s) standing (sent_from sent (unit_items sent.number side bytes)) (read_side side (length bytes) l))
units_unfold g l side s standing bytes rest sent none here holds = by_number g l side s standing bytes rest sent.number sent refl none here holds where
  by_number : (g : Setup) (l : TraceState) (side : Side) (s : BodyState) (standing : Bool) (bytes rest : List ℕ) (number : ℕ) (sent : Counts) → sent.number ≡ number → l.answers.cut ≡ None → (stream_of side l).unread ≡ bytes ++ rest → Holds (length bytes) s
      → Unfolds g (sending side s standing sent l) (unit_items number side bytes) (sending side (after_bytes (length bytes) s) standing (sent_from sent (unit_items number side bytes)) (read_side side (length bytes) l))
  by_number g l side s standing [] rest number sent at_number none here holds = ap (sending side s standing sent) (sym (none_read side l))
  by_number g l side s standing (b ∷ bytes) rest number sent at_number none here holds =
      let one : 1 + length bytes ≡ length (b ∷ bytes) = omega arith in
      let sent' = sent_after (unit_item number side b) sent in
      let step = unit_step g l side s standing b (bytes ++ rest) (length bytes) sent none here holds in
      let on = by_number g (read_side side 1 l) side (after_byte s) standing bytes rest number sent' (same_number number side b sent ∙ at_number) (keeps_cut side 1 l ∙ none) (one_left side l ∙ ap (drop 1) here) (holds_on s (length bytes) holds) in (
        sending side (after_byte s) standing sent' (read_side side 1 l),
        step ∙ ap (λ k. Does (unit_item k side b) (sending side (after_byte s) standing (sent_after (unit_item k side b) sent) (read_side side 1 l))) at_number,
        subst (λ x. Unfolds g (sending side (after_byte s) standing sent' (read_side side 1 l)) (unit_items number side bytes) (sending side (after_bytes (length bytes) (after_byte s)) standing (sent_from sent' (unit_items number side bytes)) x)) (read_both side (length bytes) (length (b ∷ bytes)) l one) on,
      )

one_untaken : (sent : ℕ) (t : Option ℕ) → untaken (sent + 1) t ≤ untaken sent t + 1
one_untaken sent None = omega arith
one_untaken sent (Some n) = omega arith

one_more : (sent : Counts) (took : TakenCounts) (side : Side) (number b : ℕ) → to_take (sent_after (unit_item number side b) sent) took (other side) ≤ to_take sent took (other side) + 1
one_more sent took Client number b = one_untaken sent.server (taken_of took.servers sent.number)
one_more sent took Server number b = one_untaken sent.client took.client

pub units_met : (sent : Counts) (took : TakenCounts) (side : Side) (number : ℕ) (bytes : List ℕ) → to_take sent took (other side) + length bytes ≤ room_limit → Met sent took (unit_items number side bytes)
units_met sent took side number [] room = tt
units_met sent took side number (b ∷ bytes) room =
    let now = one_more sent took side number b in (
      lt-ltb (to_take sent took (other side)) room_limit (omega (arith, room)),
      units_met (sent_after (unit_item number side b) sent) took side number bytes (omega (arith, room, now)),
    )
