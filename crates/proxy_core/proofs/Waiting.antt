-- What waits for the sides of a connection of the code is what was sent to them and not taken.
use Rattle.std.proofs.Common.{◌≡◌, inl, inr, refl, sym, ap, ◌∙◌, ℕ, zero, suc, ◌+◌, List, [], ◌∷◌, ◌++◌, length, drop, Bool, true, false, Option, Some, None, if◌then◌else◌, arith}
use Rattle.px_bytes.specs.declared.addr.Side.{Side}
use Rattle.px_bytes.specs.declared.addr.Side.TheVariants.{Client, Server}
use Rattle.conn_trace.specs.Gates.{no_bytes, sent_from, taken_of, to_take, untaken}
use Rattle.conn_trace.specs.Heard.{Heard, SideHeard, taken, taken_by}
use Rattle.conn_trace.specs.Item.{client_output, server_output}
use Rattle.conn_trace.proofs.Sending.{sent_to_server}
use Rattle.conn.specs.Ends.{connects_by, has_stream, is_taken, number_by, sent_here, servers_by}
use Rattle.conn.specs.Holds.{HoldsEnds}
use Rattle.conn.specs.declared.connection.Conn.{Conn}
use Rattle.conn.specs.declared.ends.Link.{Link}
use Rattle.conn.specs.declared.ends.Link.TheVariants as link
use Rattle.conn.proofs.Pending.{waits}
use Rattle.proxy_core.specs.Asked.{left_of, queue_at}
use Rattle.proxy_core.specs.Live.{pending_in}
use Rattle.proxy_core.specs.Queries.{pending_on, queue_on}
use Rattle.proxy_core.specs.Represents.{ConnectionContinues, HoldsQueues, around}
use Rattle.proxy_core.specs.Scheduler.{Seen, last_took, untaken_of}
use Rattle.record_model.specs.Setup.{setup_of, begins_at, stand_of}
use Rattle.proxy_core.specs.Sound.{Served}
use Rattle.run_config.specs.declared.config.Config.{Config}
use Rattle.proxy_core.proofs.Standing.{sent_at}
use Rattle.conn.proofs.Servers.{last_at}
use Rattle.conn_trace.specs.Setup.{Setup}
use Rattle.conn_trace.specs.State.{TraceState}
use Rattle.conn.specs.declared.ends.ConnectionEnd.{ConnectionEnd}
use Rattle.proxy_core.specs.Servers.{made}
use Rattle.proxy_core.proofs.ServerLeft.{last_is_present}
use Rattle.std.proofs.lemmas.List.{length-drop}

-- its ends and queues, whether it goes on or found no memory
ends_of : (C : Config) (z : Seen) (conn : Conn) → ConnectionContinues C z (Some conn) → HoldsEnds (around z.heard) (stand_of C z.heard z.place) conn.ends
ends_of C z conn (inl k) = k.holds.ends
ends_of C z conn (inr k) = k.ends

queues_of : (C : Config) (z : Seen) (conn : Conn) → ConnectionContinues C z (Some conn) → HoldsQueues z.heard z.place conn.ends
queues_of C z conn (inl k) = k.queues
queues_of C z conn (inr k) = k.queues

sent_is : (C : Config) (c : ℕ) (z : Seen) → Served C c z → (stand_of C z.heard z.place).sent ≡ sent_from no_bytes z.place
sent_is C c z v = sent_at (setup_of C z.heard) z.heard z.place (stand_of C z.heard z.place) v.stands

-- ---- how much it is

none_left : (o : Option ℕ) → untaken 0 o ≡ 0
none_left None = refl
none_left (Some n) = omega arith

none_untaken : (h : Heard) (side : Side) → untaken_of h [] side ≡ 0
none_untaken h Client = none_left (taken h).client
none_untaken h Server = refl

pub pending_same : (C : Config) (c : ℕ) (z : Seen) (side : Side) (o : Option Conn) → Served C c z → ConnectionContinues C z o → pending_in side o ≡ untaken_of z.heard z.place side
pending_same C c z side None v k = sym (ap (λ p. untaken_of z.heard p side) k.no_items ∙ none_untaken z.heard side)
pending_same C c z side (Some conn) v k =
    sym (waits (around z.heard) (stand_of C z.heard z.place) conn.ends (ends_of C z conn k) side)
    ∙ ap (λ s. to_take s (taken z.heard) side) (sent_is C c z v)

pub pending_is : (side : Side) (o : Option Conn) → pending_on side o ≡ pending_in side o
pending_is side None = refl
pending_is side (Some conn) = refl

-- ---- which bytes they are

-- nothing is left of no bytes
drop_none : (n : ℕ) → ◌≡◌ {A = List ℕ} (drop n []) []
drop_none zero = refl
drop_none (suc n) = refl

left_none : (o : Option ℕ) → left_of o [] ≡ []
left_none None = refl
left_none (Some n) = drop_none n

none_of_length : (xs : List ℕ) → length xs ≡ 0 → xs ≡ []
none_of_length [] e = refl
none_of_length (x ∷ xs) e = absurd (omega (arith, e))

-- of a side that was reset nothing is
left_by : (reset : Bool) (n : ℕ) (queued sent : List ℕ) → queued ≡ drop n sent → (if reset then [] else queued) ≡ left_of (taken_by reset n) sent
left_by true n queued sent e = refl
left_by false n queued sent e = e

none_by : (reset : Bool) (queued : List ℕ) → queued ≡ [] → (if reset then [] else queued) ≡ []
none_by true queued e = refl
none_by false queued e = e

-- where all was taken nothing is left
all_left : (o : Option ℕ) (out : List ℕ) → untaken (length out) o ≡ 0 → left_of o out ≡ []
all_left None out e = refl
all_left (Some n) out e = none_of_length (drop n out) (length-drop n out ∙ e)

pub queue_same : (C : Config) (c : ℕ) (z : Seen) (side : Side) (o : Option Conn) → Served C c z → ConnectionContinues C z o → queue_on side o ≡ queue_at z.heard z.place side
queue_same C c z Client None v k = sym (ap (λ p. queue_at z.heard p Client) k.no_items ∙ left_none (taken z.heard).client)
queue_same C c z Server None v k = sym (ap (λ p. queue_at z.heard p Server) k.no_items)
queue_same C c z Client (Some conn) v k =
    let e = conn.ends.client in
    left_by e.reset z.heard.client.took e.queued (client_output z.place) (queues_of C z conn k).client
    ∙ ap (λ t. left_of t (client_output z.place)) (sym (ends_of C z conn k).client_took)
queue_same C c z Server (Some conn) v k = by_link conn.ends.link refl
  where
    g : Setup
    g = setup_of C z.heard

    at : TraceState
    at = stand_of C z.heard z.place

    e : ConnectionEnd
    e = conn.ends.server

    h : HoldsEnds (around z.heard) at conn.ends
    h = ends_of C z conn k

    cs : List (Option SideHeard)
    cs = z.heard.connects

    -- what is left to the one of a number
    left : ℕ → List ℕ
    left n = left_of (taken_of (taken z.heard).servers n) (server_output n z.place)

    number : at.sent.number ≡ (sent_from no_bytes z.place).number
    number = ap (λ s. s.number) (sent_is C c z v)

    -- it is the present one
    there : at.sent.number ≡ suc (length h.earlier) → at.answers.connects ≡ [] → (taken z.heard).servers ≡ h.earlier ++ taken_by e.reset (last_took cs) ∷ [] → has_stream conn.ends.link ≡ true → (if e.reset then [] else e.queued) ≡ queue_at z.heard z.place Server
    there present none took stream =
        let last : made cs ≡ at.sent.number = last_is_present g z.heard z.place at v.stands none in
        let taken_is : taken_of (taken z.heard).servers at.sent.number ≡ taken_by e.reset (last_took cs) = ap (λ ts. taken_of ts at.sent.number) took ∙ ap (taken_of (h.earlier ++ taken_by e.reset (last_took cs) ∷ [])) present ∙ last_at h.earlier (taken_by e.reset (last_took cs)) in
        left_by e.reset (last_took cs) e.queued (server_output (made cs) z.place) ((queues_of C z conn k).server stream)
        ∙ ap (λ n. left_of (taken_by e.reset (last_took cs)) (server_output n z.place)) last ∙ ap (λ t. left_of t (server_output at.sent.number z.place)) (sym taken_is) ∙ ap left number

    -- the one before took all, and nothing was sent to this one
    free : is_taken conn.ends.link ≡ false → e.queued ≡ [] → (if e.reset then [] else e.queued) ≡ queue_at z.heard z.place Server
    free untaken_yet none =
        let sent : at.sent.server ≡ length (server_output at.sent.number z.place) = sent_to_server g (begins_at C z.heard).client (begins_at C z.heard).answers at z.place v.stands in
        none_by e.reset e.queued none
        ∙ sym (all_left (taken_of (taken z.heard).servers at.sent.number) (server_output at.sent.number z.place) (ap (λ n. untaken n (taken_of (taken z.heard).servers at.sent.number)) (sym sent) ∙ h.took_all untaken_yet)) ∙ ap left number

    nothing : has_stream conn.ends.link ≡ false → e.queued ≡ []
    nothing none = ap (λ x. x.queued) (h.nothing_came none)

    by_link : (x : Link) → conn.ends.link ≡ x → (if e.reset then [] else e.queued) ≡ queue_at z.heard z.place Server
    by_link link.Absent is = free (ap is_taken is) (nothing (ap has_stream is))
    by_link link.Asked is = free (ap is_taken is) (nothing (ap has_stream is))
    by_link link.Refused is = free (ap is_taken is) (nothing (ap has_stream is))
    by_link link.Made is = free (ap is_taken is) (none_of_length e.queued (let s = h.server_untaken (ap has_stream is) ∙ ap (λ x. sent_here x at.sent.server) is in omega (arith, s)))
    by_link link.Up is = there (h.number ∙ ap (λ x. number_by x (length h.earlier)) is) (h.connects ∙ ap (λ x. connects_by x e) is) (h.servers_took ∙ ap (λ x. servers_by h.earlier x e.reset (last_took cs)) is) (ap has_stream is)
    by_link link.GivenUp is = there (h.number ∙ ap (λ x. number_by x (length h.earlier)) is) (h.connects ∙ ap (λ x. connects_by x e) is) (h.servers_took ∙ ap (λ x. servers_by h.earlier x e.reset (last_took cs)) is) (ap has_stream is)
    by_link (link.Leaving w) is = there (h.number ∙ ap (λ x. number_by x (length h.earlier)) is) (h.connects ∙ ap (λ x. connects_by x e) is) (h.servers_took ∙ ap (λ x. servers_by h.earlier x e.reset (last_took cs)) is) (ap has_stream is)
