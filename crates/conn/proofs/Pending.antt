-- What is untaken is what waits.
use Rattle.std.proofs.Common.{◌≡◌, refl, sym, ap, ◌∙◌, ℕ, ◌+◌, List, [], ◌∷◌, length, Bool, true, false, ◌&&◌, is_none, nat_eq, nat_lt, if◌then◌else◌, arith, suc, ne_eqb}
use Rattle.std.proofs.lemmas.Bool.Decides.{nat_tests}
use Rattle.seg_buffer.specs.Bytes.{is_empty}
use Rattle.px_bytes.specs.declared.addr.Side.{Side}
use Rattle.px_bytes.specs.declared.addr.Side.TheVariants.{Client, Server}
use Rattle.conn_trace.specs.Gates.{is_open, room_limit, taken_of, to_take, untaken}
use Rattle.conn_trace.specs.Heard.{taken_by}
use Rattle.conn_trace.specs.Item.{BeforeBodies, BeforeConnect}
use Rattle.conn_trace.specs.Queries.{is_reset}
use Rattle.conn_trace.specs.State.{TraceState}
use Rattle.conn.specs.Ends.{end_of, has_stream, is_taken, number_by, queue_of, sent_here, servers_by, is_up}
use Rattle.conn.specs.Holds.{Around, HoldsEnds}
use Rattle.conn.specs.declared.ends.Ends.{Ends}
use Rattle.conn.specs.declared.ends.Link.{Link}
use Rattle.conn.specs.declared.ends.Link.TheVariants as link
use Rattle.conn.proofs.Servers.{last_at}

-- of what was sent, what a side that was reset or took so much left
waits_by : (reset : Bool) (queued : List ℕ) (sent n : ℕ) → length queued + n ≡ sent → untaken sent (taken_by reset n) ≡ length (if reset then [] else queued)
waits_by true queued sent n is = refl
waits_by false queued sent n is = omega (arith, is)

reset_by : (reset : Bool) (n : ℕ) → is_none (taken_by reset n) ≡ reset
reset_by true n = refl
reset_by false n = refl

-- nothing waits for an end to which nothing was sent
none_waits : (reset : Bool) (queued : List ℕ) (n : ℕ) → length queued + n ≡ 0 → 0 ≡ length (if reset then [] else queued)
none_waits true queued n is = refl
none_waits false queued n is = omega (arith, is)

pub empty_test : (q : List ℕ) → is_empty q ≡ nat_eq (length q) 0
empty_test [] = refl
empty_test (b ∷ q) = grind (arith, nat_tests)

-- so much was sent to one that is up
pub up_untaken : (e : Ends) {n sent : ℕ} → e.link ≡ link.Up → n ≡ sent → has_stream e.link ≡ true → n ≡ sent_here e.link sent
up_untaken e {sent = sent} up is there = is ∙ sym (ap (λ k. sent_here k sent) up)

module _ (a : Around) (l : TraceState) (e : Ends) (h : HoldsEnds a l e) where
  pub client_waits : to_take l.sent a.took Client ≡ length (queue_of e.client)
  client_waits = ap (untaken l.sent.client) h.client_took ∙ waits_by e.client.reset e.client.queued l.sent.client a.counted h.client_untaken

  -- what the server connection of this end took, where the trace has taken it
  pub up_took : is_taken e.link ≡ true → taken_of a.took.servers l.sent.number ≡ taken_by e.server.reset a.counted_server
  up_took there = ap (λ ts. taken_of ts l.sent.number) h.servers_took ∙ ap (taken_of (servers_by h.earlier e.link e.server.reset a.counted_server)) h.number ∙ by_link e.link there
    where
      by_link : (k : Link) → is_taken k ≡ true → taken_of (servers_by h.earlier k e.server.reset a.counted_server) (number_by k (length h.earlier)) ≡ taken_by e.server.reset a.counted_server
      by_link link.Up t = last_at h.earlier (taken_by e.server.reset a.counted_server)
      by_link link.GivenUp t = last_at h.earlier (taken_by e.server.reset a.counted_server)
      by_link (link.Leaving w) t = last_at h.earlier (taken_by e.server.reset a.counted_server)
      by_link link.Absent t = absurd (cc)
      by_link link.Asked t = absurd (cc)
      by_link link.Refused t = absurd (cc)
      by_link link.Made t = absurd (cc)

  -- where it has none, nothing is queued
  pub none_queued : is_taken e.link ≡ false → length (queue_of e.server) ≡ 0
  none_queued down = by_stream (has_stream e.link) refl
    where
      sent_none : (k : Link) (n : ℕ) → is_taken k ≡ false → sent_here k n ≡ 0
      sent_none link.Absent n d = refl
      sent_none link.Asked n d = refl
      sent_none link.Refused n d = refl
      sent_none link.Made n d = refl
      sent_none link.Up n d = absurd (cc)
      sent_none link.GivenUp n d = absurd (cc)
      sent_none (link.Leaving w) n d = absurd (cc)

      by_stream : (b : Bool) → has_stream e.link ≡ b → length (queue_of e.server) ≡ 0
      by_stream true is = sym (none_waits e.server.reset e.server.queued a.counted_server (h.server_untaken is ∙ sent_none e.link l.sent.server down))
      by_stream false is = ap (λ x. length (queue_of x)) (h.nothing_came is)

  pub server_waits : to_take l.sent a.took Server ≡ length (queue_of e.server)
  server_waits = by_taken (is_taken e.link) refl
    where
      here : (k : Link) → is_taken k ≡ true → (has_stream k ≡ true) × ((n : ℕ) → sent_here k n ≡ n)
      here link.Up t = (refl, λ n. refl)
      here link.GivenUp t = (refl, λ n. refl)
      here (link.Leaving w) t = (refl, λ n. refl)
      here link.Absent t = absurd (cc)
      here link.Asked t = absurd (cc)
      here link.Refused t = absurd (cc)
      here link.Made t = absurd (cc)

      by_taken : (b : Bool) → is_taken e.link ≡ b → to_take l.sent a.took Server ≡ length (queue_of e.server)
      by_taken true is =
          let k = here e.link is in
          ap (untaken l.sent.server) (up_took is) ∙ waits_by e.server.reset e.server.queued l.sent.server a.counted_server (h.server_untaken k.0 ∙ k.1 l.sent.server)
      by_taken false is = h.took_all is ∙ sym (none_queued is)

  pub waits : (side : Side) → to_take l.sent a.took side ≡ length (queue_of (end_of side e))
  waits Client = client_waits
  waits Server = server_waits

  -- one that is up was made
  pub up_number : is_up e.link ≡ true → nat_eq l.sent.number 0 ≡ false
  up_number there = ap (λ n. nat_eq n 0) h.number ∙ by_link e.link there
    where
      by_link : (k : Link) → is_up k ≡ true → nat_eq (number_by k (length h.earlier)) 0 ≡ false
      by_link link.Up t = ne_eqb (suc (length h.earlier)) 0 (λ z. absurd (omega (arith, z)))
      by_link link.GivenUp t = absurd (cc)
      by_link (link.Leaving w) t = absurd (cc)
      by_link link.Absent t = absurd (cc)
      by_link link.Asked t = absurd (cc)
      by_link link.Refused t = absurd (cc)
      by_link link.Made t = absurd (cc)

  -- of one that is up
  pub here_untaken : e.link ≡ link.Up → length e.server.queued + a.counted_server ≡ l.sent.server
  here_untaken up = h.server_untaken (ap has_stream up) ∙ ap (λ k. sent_here k l.sent.server) up

  -- who was reset
  pub client_reset : is_reset l.sent a.took Client ≡ e.client.reset
  client_reset = ap is_none h.client_took ∙ reset_by e.client.reset a.counted

  pub server_reset : is_taken e.link ≡ true → is_reset l.sent a.took Server ≡ e.server.reset
  server_reset there = ap is_none (up_took there) ∙ reset_by e.server.reset a.counted_server

  -- the gate before bodies
  pub gate_is : is_open BeforeBodies l.sent a.took ≡ (nat_lt (length (queue_of e.client)) room_limit && nat_lt (length (queue_of e.server)) room_limit)
  gate_is =
      ap (λ n. nat_lt n room_limit && nat_lt (to_take l.sent a.took Server) room_limit) client_waits
      ∙ ap (λ n. nat_lt (length (queue_of e.client)) room_limit && nat_lt n room_limit) server_waits

  -- and the one before a new server connection
  pub connect_is : is_open BeforeConnect l.sent a.took ≡ is_empty (queue_of e.server)
  connect_is = ap (λ n. nat_eq n 0) server_waits ∙ sym (empty_test (queue_of e.server))

  -- what waits for a side is nothing exactly where its queue is empty
  pub took_all : (side : Side) → nat_eq (to_take l.sent a.took side) 0 ≡ is_empty (queue_of (end_of side e))
  took_all side = ap (λ n. nat_eq n 0) (waits side) ∙ sym (empty_test (queue_of (end_of side e)))
