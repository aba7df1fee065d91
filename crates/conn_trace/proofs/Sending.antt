-- What was read of the client's stream, and sent to the present server connection.
use Rattle.std.proofs.Common.{◌≡◌, refl, sym, ap, subst, ◌∙◌, ℕ, ◌+◌, ◌≤◌, List, [], ◌∷◌, length, nat_eq, Bool, true, false, ◌||◌, not, if◌then◌else◌, true≢false, Option, Some, None, arith, eq-eqb, ne_eqb, zero-add}
use Rattle.std.proofs.lemmas.List.{length-append}
use Rattle.conn_trace.specs.Item.{Item, Answered, CutBy, Peer, ToClient, ToServer, Sending}
use Rattle.conn_trace.specs.Item.{shown, bytes_to_server, server_part, to_server}
use Rattle.conn_trace.specs.Item.{server_output}
use Rattle.conn_trace.specs.Gates.{Counts, may_give, renewed, sent_to, sent_part, sent_after}
use Rattle.conn_trace.specs.Setup.{Setup}
use Rattle.conn_trace.specs.State.{Stream, Cut, Answers, TraceState, Next, Does, Waits, Over, read_part, client_left}
use Rattle.conn_trace.specs.Places.{finish}
use Rattle.conn_trace.specs.Trace.{uncut, phase_next, cut_takes, cut_open, cut_next}
use Rattle.conn_trace.specs.Trace.{counted, next_item, Unfolds, start}
use Rattle.conn_trace.proofs.Fair.{PeerIs, SendsTo, FairNext, phase_fair}
use Rattle.conn_trace.proofs.Given.{sent_step}

abbrev MovesNext : ℕ → Stream → Next → Type 0
MovesNext number client (Does i m) = SendsTo number (shown i).sends × (m.client ≡ read_part (shown i).reads client)
MovesNext number client (Waits k) = Unit {0}
MovesNext number client Over = Unit {0}

plain_moves : (cut : Option Cut) (number : ℕ) (client : Stream) (o : Next) → FairNext cut number client o → MovesNext number client o
plain_moves cut number client (Does i m) fair = (fair.sends, fair.reads)
plain_moves cut number client (Waits k) fair = tt
plain_moves cut number client Over fair = tt

cut_moves : (g : Setup) (l : TraceState) (cut : Option Cut) (o : Next) → MovesNext l.sent.number l.client o → MovesNext l.sent.number l.client (cut_next g cut l o)
cut_moves g l None o is = is
cut_moves g l (Some c) o is = by_end l.finished where
  by_place : (o : Next) → MovesNext l.sent.number l.client o → MovesNext l.sent.number l.client (cut_open g c l o)
  by_place (Does i m) is = by_test (may_give i l.sent c.took || not (cut_takes g.http c.reason None)) where
    by_test : (b : Bool) → MovesNext l.sent.number l.client (if b then Does i m else finish g (CutBy c.reason) (uncut l))
    by_test true = is
    by_test false = (tt, refl)
  by_place (Waits k) is = by_test (cut_takes g.http c.reason (Some k)) where
    by_test : (b : Bool) → MovesNext l.sent.number l.client (if b then finish g (CutBy c.reason) (uncut l) else Waits k)
    by_test true = (tt, refl)
    by_test false = tt
  by_place Over is = tt

  by_end : (b : Bool) → MovesNext l.sent.number l.client (if b then o else cut_open g c l o)
  by_end true = is
  by_end false = by_place o is

counted_moves : (number : ℕ) (client : Stream) (sent : Counts) (o : Next) → MovesNext number client o → MovesNext number client (counted sent o)
counted_moves number client sent (Does i m) is = is
counted_moves number client sent (Waits k) is = tt
counted_moves number client sent Over is = tt

item_moves : (g : Setup) (l m : TraceState) (i : Item) → next_item g l ≡ Does i m → MovesNext l.sent.number l.client (Does i m)
unfolding next_item
item_moves g l m i is =
    let o = phase_next g l.phase l in
    subst (MovesNext l.sent.number l.client) is (counted_moves l.sent.number l.client l.sent _ (cut_moves g l l.answers.cut o (plain_moves l.answers.cut l.sent.number l.client o (phase_fair g l.phase l))))

item_sends : (g : Setup) (l m : TraceState) (i : Item) → next_item g l ≡ Does i m → SendsTo l.sent.number (shown i).sends
item_sends g l m i is = (item_moves g l m i is).0

pub client_read : (g : Setup) (l m : TraceState) (items : List Item) → Unfolds g l items m → m.client ≡ client_left items l.client
client_read g l m [] is = ap (λ x. x.client) (sym is)
client_read g l m (i ∷ items) (mid, step, rest) = client_read g mid m items rest ∙ ap (client_left items) (item_moves g l mid i step).1

-- what counts as sent to the server connection k
abbrev given_to : Counts → ℕ → ℕ
given_to sent k = if nat_eq sent.number k then sent.server else 0

-- an item that begins a new server connection sends nothing
renews_quiet : (i : Item) → (shown i).renews ≡ true → (shown i).sends ≡ None
renews_quiet (Answered made) is = refl
renews_quiet other is = absurd (true≢false (sym is))

to_peer : (sent : Counts) (peer : Peer) (bytes : List ℕ) (k : ℕ) → PeerIs sent.number peer → given_to (sent_to peer (length bytes) sent) k ≡ given_to sent k + length (bytes_to_server k peer bytes)
to_peer sent ToClient bytes k is = omega arith
to_peer sent (ToServer j) bytes k is =
    by_test (nat_eq sent.number k) ∙ ap (λ x. given_to sent k + length (if nat_eq x k then bytes else [])) (sym is) where
      by_test : (b : Bool) → (if b then sent.server + length bytes else 0) ≡ (if b then sent.server else 0) + length (if b then bytes else [])
      by_test true = refl
      by_test false = refl

part_given : (sent : Counts) (s : Option Sending) (k : ℕ) → SendsTo sent.number s → given_to (sent_part s sent) k ≡ given_to sent k + length (server_part k s)
part_given sent None k is = omega arith
part_given sent (Some s) k is = to_peer sent s.peer s.bytes k is

part_number : (sent : Counts) (s : Option Sending) → (sent_part s sent).number ≡ sent.number
part_number sent None = refl
part_number sent (Some s) = by_peer s.peer where
  by_peer : (p : Peer) → (sent_to p (length s.bytes) sent).number ≡ sent.number
  by_peer ToClient = refl
  by_peer (ToServer j) = refl

record ItemCounts (sent : Counts) (i : Item) : Type 0 where
  number : sent.number ≤ (sent_after i sent).number
  given : (k : ℕ) → (sent_after i sent).number ≤ k → given_to (sent_after i sent) k ≡ given_to sent k + length (to_server k i)

item_counts : (sent : Counts) (i : Item) (renews : Bool) → (shown i).renews ≡ renews → SendsTo sent.number (shown i).sends → ItemCounts sent i
item_counts sent i false is sends =
    let after : sent_after i sent ≡ sent_part (shown i).sends sent = ap (λ r. sent_part (shown i).sends (renewed r sent)) is in
    record {
      number = let same = ap (λ s. s.number) after ∙ part_number sent (shown i).sends in omega (arith, same);
      given = λ k above. ap (λ s. given_to s k) after ∙ part_given sent (shown i).sends k sends;
    }
item_counts sent i true is sends =
    let quiet = renews_quiet i is in
    let after : sent_after i sent ≡ renewed true sent = ap (λ s. sent_part s (renewed (shown i).renews sent)) quiet ∙ ap (λ r. renewed r sent) is in
    let number : (sent_after i sent).number ≡ sent.number + 1 = ap (λ s. s.number) after in
    record {
      number = omega (arith, number);
      given = λ k above.
          let apart : nat_eq sent.number k ≡ false = ne_eqb sent.number k (λ e. absurd (omega (arith, above, number, e))) in
          ap (λ s. given_to s k) after ∙ (none_yet (nat_eq (sent.number + 1) k)
          ∙ sym (ap (λ s. given_to sent k + length (server_part k s)) quiet ∙ ap (λ b. (if b then sent.server else 0) + 0) apart));
    } where
      none_yet : (b : Bool) → ◌≡◌ {A = ℕ} (if b then 0 else 0) 0
      none_yet true = refl
      none_yet false = refl

record AllCount (l m : TraceState) (items : List Item) : Type 0 where
  number : l.sent.number ≤ m.sent.number
  given : m.sent.server ≡ given_to l.sent m.sent.number + length (server_output m.sent.number items)

all_count : (g : Setup) (l m : TraceState) (items : List Item) → Unfolds g l items m → AllCount l m items
all_count g l m [] is =
    let same = ap (λ x. x.sent) is in
    let own : given_to l.sent l.sent.number ≡ l.sent.server = ap (λ b. if b then l.sent.server else 0) (eq-eqb l.sent.number l.sent.number refl) in
    let there : given_to l.sent m.sent.number ≡ l.sent.server = ap (λ s. given_to l.sent s.number) (sym same) ∙ own in
    let server = ap (λ s. s.server) same in
    record {
      number = let n = ap (λ s. s.number) same in omega (arith, n);
      given = omega (arith, there, server);
    }
all_count g l m (i ∷ items) (mid, step, rest) =
    let more = all_count g mid m items rest in
    let sent = sent_step g l mid i step in
    let one = item_counts l.sent i (shown i).renews refl (item_sends g l mid i step) in
    let k = m.sent.number in
    let up : (sent_after i l.sent).number ≤ k = subst (λ s. s.number ≤ k) sent more.number in
    let at_mid : given_to mid.sent k ≡ given_to l.sent k + length (to_server k i) = ap (λ s. given_to s k) sent ∙ one.given k up in
    let joined = length-append (to_server k i) (server_output k items) in
    record {
      number = omega (arith, one.number, up);
      given = omega (arith, more.given, at_mid, joined);
    }

pub sent_to_server : (g : Setup) (client : Stream) (answers : Answers) (m : TraceState) (items : List Item) → Unfolds g (start g client answers) items m → m.sent.server ≡ length (server_output m.sent.number items)
sent_to_server g client answers m items is =
    (all_count g (start g client answers) m items is).given ∙ (ap (λ n. n + length (server_output m.sent.number items)) (none_sent (nat_eq 0 m.sent.number)) ∙ zero-add _) where
      none_sent : (b : Bool) → ◌≡◌ {A = ℕ} (if b then 0 else 0) 0
      none_sent true = refl
      none_sent false = refl
