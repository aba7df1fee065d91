-- What one item does of a body that is sent on.
use Rattle.std.proofs.Common.{◌≡◌, refl, sym, ap, subst, ◌∙◌, ℕ, Bool, true, false, true≢false, ◌||◌, not, cond, List, [], ◌∷◌, take, drop, nat_eq, Option, Some, None, arith}
use Rattle.std.proofs.lemmas.Bool.Decides.{nat_tests}
use Rattle.px_bytes.proofs.Tests.{by_cases}
use Rattle.px_bytes.specs.declared.addr.Side.TheVariants.{Client}
use Rattle.px_bytes.specs.declared.fault.HttpFault.{HttpFault}
use Rattle.event_order.specs.declared.event.EventName.{EventName}
use Rattle.event_order.specs.declared.event.EventName.TheVariants.{ClientClosed, ServerClosed}
use Rattle.http_frames.specs.Parts.{Part, Byte, Chunk, End, Pending, Bad, part_of}
use Rattle.http_frames.specs.declared.state.BodyState.{BodyState}
use Rattle.http_frames.specs.declared.state.BodyState.TheVariants as state
use Rattle.conn_trace.specs.Fronts.{after_byte}
use Rattle.conn_trace.specs.Gates.{may_give}
use Rattle.conn_trace.specs.Host.{HostState}
use Rattle.conn_trace.specs.Item.{Item, Resumed, Reason, CutBy, ToServer, bytes_to_server, to_server}
use Rattle.conn_trace.specs.Messages.{body_end_next, fault_by, is_counted, sending_next}
use Rattle.conn_trace.specs.Places.{Place, begun, bodies_left, closed, closed_client, finish, place}
use Rattle.conn_trace.specs.SentBodies.{chunk_line, is_answered, last_line}
use Rattle.conn_trace.specs.Setup.{Handler, Setup}
use Rattle.conn_trace.specs.State.{Cut, Phase, Forwarding, AtResponse, Draining, TraceState, Next, Does, Waits, Over, Link, Absent, Asked, Up, Left, GivenUp, link_of}
use Rattle.conn_trace.specs.Trace.{counted, cut_next, cut_open, cut_takes, next_item, phase_next, uncut}
use Rattle.forwarded_requests.specs.Forwarded.{is_forwarding}

-- ---- what finishes goes elsewhere

-- where a request's body is sent on, or was
abbrev pub is_on : Phase → Bool
is_on AtResponse = true
is_on other = is_forwarding other

bodies_off : (e : EventName) (bs : List Handler) (h : HostState) (after : Place) → is_on after.phase ≡ false → is_on (bodies_left e bs h after).phase ≡ false
bodies_off e [] h after off = off
bodies_off e (b ∷ bs) h after off = refl

client_off : (g : Setup) (link : Link) (h : HostState) → is_on (closed_client g link h).phase ≡ false
client_off g link h =
    let begins = begun ClientClosed link h in
    bodies_off ClientClosed (g.handlers ClientClosed) begins (place Draining begins) refl

server_off : (g : Setup) (link : Link) (h : HostState) → is_on (bodies_left ServerClosed (g.handlers ServerClosed) (begun ServerClosed link h) (closed_client g link h)).phase ≡ false
server_off g link h = bodies_off ServerClosed (g.handlers ServerClosed) (begun ServerClosed link h) (closed_client g link h) (client_off g link h)

closed_off : (g : Setup) (link : Link) (h : HostState) → is_on (closed g link h).phase ≡ false
closed_off g Absent h = client_off g Absent h
closed_off g Asked h = server_off g Asked h
closed_off g Up h = server_off g Up h
closed_off g (Left b) h = client_off g (Left b) h
closed_off g GivenUp h = client_off g GivenUp h

-- ---- so it isn't cut

abbrev pub item_of : Next → Item
item_of (Does i m) = i
item_of other = Resumed

abbrev pub state_of : TraceState → Next → TraceState
state_of l (Does i m) = m
state_of l other = l

module _ (g : Setup) (l : TraceState) (i : Item) (mid : TraceState) (on : is_on mid.phase ≡ true) where
  never : (b : Bool) (o : Next) → o ≡ Does i mid → is_on (state_of l o).phase ≡ false → b ≡ true
  never b o is off = absurd (true≢false (sym on ∙ sym (ap (λ n. is_on (state_of l n).phase) is) ∙ off))

  no_finish : (r : Reason) (k : TraceState) (o : Next) → counted l.sent (finish g r k) ≡ Does i mid → counted l.sent o ≡ Does i mid
  no_finish r k o is = absurd (true≢false (sym (never false (counted l.sent (finish g r k)) is (closed_off g (link_of k.server) k.host))))

  open_on : (c : Cut) (o : Next) → counted l.sent (cut_open g c l o) ≡ Does i mid → counted l.sent o ≡ Does i mid
  open_on c (Does j m) is =
      by_cases (λ t. counted l.sent (cond t (Does j m) (finish g (CutBy c.reason) (uncut l))) ≡ Does i mid → counted l.sent (Does j m) ≡ Does i mid)
      (may_give j l.sent c.took || not (cut_takes g.http c.reason None))
      (λ gives e. e) (λ cuts e. no_finish (CutBy c.reason) (uncut l) (Does j m) e) is
  open_on c (Waits k) is =
      by_cases (λ t. counted l.sent (cond t (finish g (CutBy c.reason) (uncut l)) (Waits k)) ≡ Does i mid → counted l.sent (Waits k) ≡ Does i mid)
      (cut_takes g.http c.reason (Some k))
      (λ cuts e. no_finish (CutBy c.reason) (uncut l) (Waits k) e) (λ waits e. e) is
  open_on c Over is = is

  cut_on : (cut : Option Cut) (o : Next) → counted l.sent (cut_next g cut l o) ≡ Does i mid → counted l.sent o ≡ Does i mid
  cut_on None o is = is
  cut_on (Some c) o is =
      by_cases (λ t. counted l.sent (cond t o (cut_open g c l o)) ≡ Does i mid → counted l.sent o ≡ Does i mid) l.finished
      (λ done e. e) (λ runs e. open_on c o e) is

  pub plain_on : next_item g l ≡ Does i mid → counted l.sent (phase_next g l.phase l) ≡ Does i mid
  unfolding next_item
  plain_on is = cut_on l.answers.cut (phase_next g l.phase l) is

-- ---- what it does

-- so many bytes of the client's were read, and it stands there
pub record Reads (l mid : TraceState) (n : ℕ) (there : Phase) : Type 0 where
  pub phase : mid.phase ≡ there
  pub unread : mid.client.unread ≡ drop n l.client.unread
  pub ended : mid.client.ended ≡ l.client.ended
  pub number : mid.sent.number ≡ l.sent.number

abbrev pub end_by : (counted standing : Bool) → List ℕ
end_by true standing = []
end_by false standing = last_line standing

abbrev pub end_text : BodyState → Bool → List ℕ
end_text s standing = end_by (is_counted s) standing

pub data Went (l : TraceState) (s : BodyState) (standing : Bool) (i : Item) (mid : TraceState) : Type 0 where
  OnByte : part_of s l.client.unread l.client.ended ≡ Byte → to_server l.sent.number i ≡ take 1 l.client.unread
      → Reads l mid 1 (Forwarding Client (after_byte s) standing) → Went l s standing i mid
  OnLine : (n size : ℕ) → part_of s l.client.unread l.client.ended ≡ Chunk n size → to_server l.sent.number i ≡ chunk_line standing size
      → Reads l mid n (Forwarding Client (state.Chunk size) true) → Went l s standing i mid
  OnEnd : (n : ℕ) → part_of s l.client.unread l.client.ended ≡ End n → to_server l.sent.number i ≡ end_text s standing
      → Reads l mid n AtResponse → Went l s standing i mid

pub to_itself : (k : ℕ) (bytes : List ℕ) → bytes_to_server k (ToServer k) bytes ≡ bytes
to_itself k bytes = let same : nat_eq k k ≡ true = grind (arith, nat_tests) in ap (λ t. cond t bytes []) same

module _ (g : Setup) (l : TraceState) (s : BodyState) (standing : Bool) (i : Item) (mid : TraceState) (on : is_on mid.phase ≡ true) where
  reads : (n : ℕ) (phase : Phase) (o : Next) → o ≡ Does i mid → Reads l (state_of l o) n phase → Reads l mid n phase
  reads n phase o is kept = subst (λ k. Reads l k n phase) (ap (state_of l) is) kept

  sends : (bytes : List ℕ) (o : Next) → o ≡ Does i mid → to_server l.sent.number (item_of o) ≡ bytes → to_server l.sent.number i ≡ bytes
  sends bytes o is sent = sym (ap (λ n. to_server l.sent.number (item_of n)) is) ∙ sent

  ends : (n : ℕ) (b : Bool) → end_by b standing ≡ end_text s standing → part_of s l.client.unread l.client.ended ≡ End n
      → counted l.sent (body_end_next l Client n b standing) ≡ Does i mid → Went l s standing i mid
  ends n true told part is =
      OnEnd n part (sends [] (counted l.sent (body_end_next l Client n true standing)) is refl ∙ told)
      (reads n AtResponse (counted l.sent (body_end_next l Client n true standing)) is (record { phase = refl; unread = refl; ended = refl; number = refl }))
  ends n false told part is =
      OnEnd n part (sends (last_line standing) (counted l.sent (body_end_next l Client n false standing)) is (to_itself l.sent.number (last_line standing)) ∙ told)
      (reads n AtResponse (counted l.sent (body_end_next l Client n false standing)) is (record { phase = refl; unread = refl; ended = refl; number = refl }))

  faults : (f : HttpFault) (answered : Bool) → counted l.sent (fault_by g l f answered) ≡ Does i mid → Went l s standing i mid
  faults f true is = absurd (true≢false (sym (never g l i mid on false (counted l.sent (fault_by g l f true)) is refl)))
  faults f false is = absurd (true≢false (sym (never g l i mid on false (counted l.sent (fault_by g l f false)) is (closed_off g (link_of l.server) l.host))))

  went_by : (p : Part) → part_of s l.client.unread l.client.ended ≡ p → counted l.sent (sending_next g l Client s standing p) ≡ Does i mid → Went l s standing i mid
  went_by Byte part is =
      let o = counted l.sent (sending_next g l Client s standing Byte) in
      OnByte part (sends (take 1 l.client.unread) o is (to_itself l.sent.number (take 1 l.client.unread)))
      (reads 1 (Forwarding Client (after_byte s) standing) o is (record { phase = refl; unread = refl; ended = refl; number = refl }))
  went_by (Chunk n size) part is =
      let o = counted l.sent (sending_next g l Client s standing (Chunk n size)) in
      OnLine n size part (sends (chunk_line standing size) o is (to_itself l.sent.number (chunk_line standing size)))
      (reads n (Forwarding Client (state.Chunk size) true) o is (record { phase = refl; unread = refl; ended = refl; number = refl }))
  went_by (End n) part is = ends n (is_counted s) refl part is
  went_by Pending part is = absurd (cc)
  went_by (Bad f) part is = faults f (is_answered Client f) is

  pub went : l.phase ≡ Forwarding Client s standing → next_item g l ≡ Does i mid → Went l s standing i mid
  went at is =
      let plain = plain_on g l i mid on is in
      went_by (part_of s l.client.unread l.client.ended) refl (sym (ap (λ p. counted l.sent (phase_next g p l)) at) ∙ plain)
