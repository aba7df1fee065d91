-- Something gets pending to a connection of the core in its own Run alone.
use Rattle.std.proofs.Common.{◌≡◌, ◌⊎◌, ℕ, ◌+◌, ◌-◌, ◌≤◌, ◌<◌, List, [], ◌∷◌, ◌++◌, length, drop, Bool, true, false, ◌||◌, Some, None, nat_eq, if◌then◌else◌}
use Rattle.std.proofs.Common.{inl, inr, refl, ap, sym, ◌∙◌, subst, arith, append-nil, not, true≢false, Option, None}
use Rattle.std.specs.Prelude.{slice_get}
use Rattle.std.specs.Bool.{MatchBool}
use Rattle.std.specs.List.{list_any}
use Rattle.std.proofs.lemmas.List.{length-drop}
use Rattle.std.proofs.lemmas.List.Folds.{list_any-append}
use Rattle.px_bytes.specs.declared.addr.Addr.{Addr}
use Rattle.px_bytes.specs.declared.addr.Side.{Side}
use Rattle.px_bytes.specs.declared.addr.Side.TheVariants.{Client, Server}
use Rattle.core_events.specs.declared.event.Event.{Event}
use Rattle.core_events.specs.declared.event.Event.TheVariants as event
use Rattle.core_events.specs.declared.event_kind.EventKind.{EventKind}
use Rattle.core_events.specs.declared.event_kind.EventKind.TheVariants.{Accepts, Comes, Ticks}
use Rattle.core_events.specs.declared.event_kind.EventKind.TheVariants.{Turns, Runs, Marks}
use Rattle.core_events.specs.declared.input.Input.{Input}
use Rattle.core_events.specs.declared.input.Input.TheVariants.{Bytes, Ends, Resets, Connects, Takes}
use Rattle.core_events.specs.declared.note.Note.{Note}
use Rattle.core_events.specs.declared.note.Note.TheVariants as note
use Rattle.core_events.specs.declared.note.Cause.TheVariants.{Memory}
use Rattle.core_events.specs.declared.edges.Edges.{Edges}
use Rattle.core_events.specs.Edges.{edge_of, is_connecting, may_take, no_edges}
use Rattle.core_events.specs.Face.{took_event, reset_event}
use Rattle.core_events.specs.Kinds.{kind_of}
use Rattle.conn_trace.specs.Gates.{no_bytes, sent_from, taken_of, to_take, untaken}
use Rattle.conn_trace.specs.State.{TraceState}
use Rattle.conn.specs.Ends.{is_taken}
use Rattle.conn.specs.Holds.{HoldsEnds}
use Rattle.conn.specs.declared.connection.Conn.{Conn}
use Rattle.proxy_core.specs.Live.{edges_by_conn}
use Rattle.proxy_core.specs.Refusals.{live_at}
use Rattle.proxy_core.specs.Sound.{Served}
use Rattle.proxy_core.specs.declared.live.Live.{Live}
use Rattle.conn.specs.Settling.{given_up_at, is_over, settling_at, took_all}
use Rattle.conn_trace.specs.Heard.{Heard, SideHeard, at_last, brings_in, brought_nothing, edges_met, event_brings, event_edges, event_marks, fresh_side, hears, hears_by, hears_more, marks, servers_taken, side_taken, taken}
use Rattle.conn_trace.specs.Item.{client_output, server_output}
use Rattle.conn_trace.specs.Tellings.{conn_of, finish_told, notes_about, own}
use Rattle.conn_trace.specs.Trace.{next_item}
use Rattle.proxy_core.specs.Asked.{queue_at}
use Rattle.proxy_core.specs.Face.{Stands, core_face}
use Rattle.proxy_core.specs.Headline.{OpenCounts}
use Rattle.record_model.specs.History.{store_of}
use Rattle.proxy_core.specs.Moves.{Moves, MovesBy, MovesFailed, MovesLacks, MovesOn, MovesQueue, MovesRing}
use Rattle.proxy_core.specs.Others.{about, front}
use Rattle.record_model.specs.Past.{Happened, Past, ended_in, heard, shared, without_all, with_accepted}
use Rattle.proxy_core.specs.Questions.{to_write}
use Rattle.proxy_core.specs.Ready.{is_in}
use Rattle.proxy_core.specs.Refusal.{refused}
use Rattle.proxy_core.specs.Represents.{AgreesAt, ConnectionContinues, Represents, around}
use Rattle.proxy_core.specs.Scheduler.{State, Seen, last_took, pending, seen, untaken_all, untaken_of}
use Rattle.proxy_core.specs.Servers.{last_reset, made}
use Rattle.record_model.specs.Setup.{setup_of, stand_of}
use Rattle.proxy_core.specs.Steps.{StandsAfter}
use Rattle.proxy_core.specs.declared.call.Asked.{Asked}
use Rattle.run_config.specs.declared.config.Config.{Config}
use Rattle.proxy_core.specs.declared.core_state.Core.{Core}
use Rattle.proxy_core.proofs.Framing.{only_changed, touches}
use Rattle.proxy_core.proofs.GroupNotes.{About, AreDue, IsDue, settling_due}
use Rattle.proxy_core.proofs.Fresh.{not_accepted}
use Rattle.proxy_core.proofs.Members.{eq_same, eq_self}
use Rattle.proxy_core.proofs.HeardServers.{joined_made, last_made}
use Rattle.proxy_core.proofs.Meeting.{heard_connects, taken_keeps}
use Rattle.proxy_core.proofs.Numbered.{servers_are_numbered}
use Rattle.proxy_core.proofs.SoundComes.{MayCome}
use Rattle.proxy_core.proofs.SoundPast.{may_come_at}
use Rattle.proxy_core.proofs.Promises.{every_past_matches}
use Rattle.proxy_core.proofs.Standing.{as_live, is_served, sent_at}
use Rattle.serve_loop.specs.Carrying.{action}
use Rattle.serve_loop.specs.Pending.{IsPending, IsRunOf, Moved, SendsInRuns, server_asked, servers_asked}
use Rattle.served_core.proofs.Fronts.{IsOpen, NotAnswer, all_left_in, is_pending, met_opens, met_resets, notes_open, opened, queue_length, shows_all, write_of}
use Rattle.served_core.proofs.Growing.{come_stays, heard_took, took_in}
use Rattle.served_core.proofs.Pieces.{of_last, queued}
use Rattle.served_core.proofs.Risen.{NoServer, Risen, heard_client_reset, heard_risen}
use Rattle.served_core.proofs.ServerGrowing.{last_heard}

-- an event moved the core on from one past that it stands for to the next
pub record Steps (x : Happened) (a b : Core) (C : Config) (past : Past) (s next : State) : Type 0 where
  pub before : Represents C past s a
  pub fine : refused C past s (kind_of x.event) ≡ None
  pub moves : Moves C past x s next
  pub behind : Represents C (x ∷ past) next b

-- where the side is the server's, no server is answered
abbrev Unanswered : Side → EventKind → ℕ → Type 0
Unanswered Client v c = Unit {0}
Unanswered Server v c = NoServer v c

-- ---- notes that ask for no server

or_none : (x : Bool) → (x || false) ≡ true → x ≡ true
or_none true e = refl
or_none false e = e

or_either : (x y : Bool) → (x || y) ≡ true → (x ≡ true) ⊎ (y ≡ true)
or_either true y e = inl refl
or_either false y e = inr e

one_due : (c : ℕ) (n : Note) → IsDue c n → server_asked (action n) ≡ []
one_due c (note.Connect d to) k = let clash : false ≡ true = k.asks no_edges refl in cc
one_due c (note.HalfClose d side) k = refl
one_due c (note.CloseServer d) k = refl
one_due c (note.CloseClient d) k = refl
one_due c other k = refl

due_none : (c : ℕ) (notes : List Note) → AreDue c notes → servers_asked notes ≡ []
due_none c [] k = refl
due_none c (n ∷ notes) k = ap (λ (l : List ℕ). l ++ servers_asked notes) (one_due c n k.0) ∙ due_none c notes k.1

one_about : (n : Note) (q : ℕ) → list_any (nat_eq q) (server_asked (action n)) ≡ true → q ≡ conn_of n
one_about (note.Connect d to) q e = eq_same q d (or_none (nat_eq q d) e)
one_about (note.HalfClose d side) q e = cc
one_about (note.CloseServer d) q e = cc
one_about (note.CloseClient d) q e = cc
one_about other q e = cc

-- those that notes ask for are those that they are about
about_asks : (c : ℕ) (notes : List Note) → About c notes → (q : ℕ) → list_any (nat_eq q) (servers_asked notes) ≡ true → q ≡ c
about_asks c [] a q e = cc
about_asks c (n ∷ notes) a q e =
    elim (or_either (list_any (nat_eq q) (server_asked (action n))) _ (sym (list_any-append (nat_eq q) (server_asked (action n)) (servers_asked notes)) ∙ e)) [
      | inl here ↦ one_about n q here ∙ a.0
      | inr later ↦ about_asks c notes a.1 q later
    ]

module _ (x : Happened) (a b : Core) (C : Config) (past : Past) (s next : State) (w : Steps x a b C past s next) where
  abbrev V : EventKind
  V = kind_of x.event

  abbrev Z : ℕ → Seen
  Z c = seen past s c

  abbrev Z' : ℕ → Seen
  Z' c = seen (x ∷ past) next c

  counts : (c : ℕ) → (Z c).live ≡ true → OpenCounts past s c
  counts c live =
      let k = is_served C c (Z c) (λ u. let n = ap (λ z. z.live) u in let clash : true ≡ false = sym live ∙ n in cc) (w.before.sound.each c) in
      ((every_past_matches C past s w.before.sound.leads).each_connection c k.0).open_line_counts

  counts_then : (c : ℕ) → (Z' c).live ≡ true → OpenCounts (x ∷ past) next c
  counts_then c live =
      let k = is_served C c (Z' c) (λ u. let n = ap (λ z. z.live) u in let clash : true ≡ false = sym live ∙ n in cc) (w.behind.sound.each c) in
      ((every_past_matches C (x ∷ past) next w.behind.sound.leads).each_connection c k.0).open_line_counts

  some_less : (t t' p p' n : ℕ) → t ≤ t' → t' + p' ≡ n → t + p ≡ n → 0 < p' → 0 < p
  some_less t t' p p' n le e f some = omega (arith, le, e, f, some)

  none_less : (p : ℕ) → p ≡ 0 → 0 < p → ⊥
  none_less p e some = omega (arith, e, some)

  -- where its place stays, and no server is answered, what isn't taken then wasn't taken before
  untaken_before : (c : ℕ) (side : Side) → Unanswered side V c → next.places c ≡ s.places c → (Z c).live ≡ true → (Z' c).live ≡ true
      → 0 < pending (x ∷ past) next c side → 0 < pending past s c side
  untaken_before c Client clash stays live live' some = by (heard c past).client.reset (heard c (x ∷ past)).client.reset refl refl
    where
      h : Heard
      h = heard c past

      by : (r r' : Bool) → h.client.reset ≡ r → (heard c (x ∷ past)).client.reset ≡ r' → 0 < pending past s c Client
      by r true e e' = absurd (none_less _ ((counts_then c live').reset e') some)
      by true false e e' = let clash : true ≡ false = sym e ∙ heard_client_reset c h V x.group e' in cc
      by false false e e' =
          let took = heard_took c h V x.group in
          let le : h.client.took ≤ (heard c (x ∷ past)).client.took = omega (arith, took) in
          let sum = (counts_then c live').sent e' ∙ ap (λ p. length (client_output p)) stays in
          some_less h.client.took (heard c (x ∷ past)).client.took _ _ (length (client_output (s.places c))) le sum ((counts c live).sent e) some
  untaken_before c Server clash stays live live' some = by (last_reset (heard c past).connects) (last_reset (heard c (x ∷ past)).connects) refl refl
    where
      h : Heard
      h = heard c past

      risen : Risen h.connects (heard c (x ∷ past)).connects
      risen = heard_risen c h V x.group clash

      by : (r r' : Bool) → last_reset h.connects ≡ r → last_reset (heard c (x ∷ past)).connects ≡ r' → 0 < pending past s c Server
      by r true e e' = absurd (none_less _ ((counts_then c live').server_reset e') some)
      by true false e e' = let clash : true ≡ false = sym e ∙ risen.reset e' in cc
      by false false e e' =
          let sum = (counts_then c live').server_sent e' ∙ ap (λ p. length (server_output (made (heard c (x ∷ past)).connects) p)) stays ∙ ap (λ n. length (server_output n (s.places c))) risen.same in
          some_less (last_took h.connects) (last_took (heard c (x ∷ past)).connects) _ _ (length (server_output (made h.connects) (s.places c))) risen.took sum
          ((counts c live).server_sent e) some

  -- of which the loop sees as much
  pending_sees : (c : ℕ) (side : Side) → IsOpen (Z' c).live (Z' c).heard.edges side (queue_at (Z' c).heard (Z' c).place side) → 0 < pending (x ∷ past) next c side
  pending_sees c side o = let e = queue_length C (x ∷ past) next b c side w.behind o.is_live in let some = o.some in omega (arith, e, some)

  sees_pending : (c : ℕ) (side : Side) → (Z c).live ≡ true → may_take (edge_of side (Z c).heard.edges) ≡ true → 0 < pending past s c side
      → 0 < length (to_write past s c side)
  sees_pending c side live takes some =
      let e = queue_length C past s a c side w.before live in
      let f = ap length (shows_all (Z c).live (Z c).heard.edges side (queue_at (Z c).heard (Z c).place side) live takes) in
      omega (arith, e, f, some)

  -- a connection whose place stays, and whose end no event opens
  own_before : (c : ℕ) (side : Side) → Unanswered side V c → next.places c ≡ s.places c → with_accepted V (shared past).live ≡ (shared past).live
      → (may_take (edge_of side (event_edges c V (heard c past).edges)) ≡ true → may_take (edge_of side (heard c past).edges) ≡ true)
      → 0 < length (to_write (x ∷ past) next c side) → 0 < length (to_write past s c side)
  own_before c side clash stays same opens some =
      let o = opened (Z' c).live (Z' c).heard.edges side (queue_at (Z' c).heard (Z' c).place side) some in
      let live : (Z c).live ≡ true =
      all_left_in (ended_in x.group) (shared past).live c (ap (λ (l : List ℕ). is_in (without_all (ended_in x.group) l) c) (sym same) ∙ o.is_live) in
      let takes = opens (notes_open (own c x.group) side (event_edges c V (heard c past).edges) o.takes) in
      sees_pending c side live takes (untaken_before c side clash stays live o.is_live (pending_sees c side o))

  -- ---- by the kind of the event

  kept_before : (v : EventKind) → V ≡ v → (c : ℕ) (side : Side) → Unanswered side v c → next.places c ≡ s.places c
      → with_accepted v (shared past).live ≡ (shared past).live
      → (may_take (edge_of side (event_edges c v (heard c past).edges)) ≡ true → may_take (edge_of side (heard c past).edges) ≡ true)
      → 0 < length (to_write (x ∷ past) next c side) → 0 < length (to_write past s c side)
  kept_before v e c side clash stays same opens some =
      own_before c side (subst (λ k. Unanswered side k c) (sym e) clash) stays (ap (λ k. with_accepted k (shared past).live) e ∙ same)
      (subst (λ k. may_take (edge_of side (event_edges c k (heard c past).edges)) ≡ true → may_take (edge_of side (heard c past).edges) ≡ true) (sym e) opens) some

  nothing_left : (n : ℕ) (out y : List ℕ) → out ≡ [] → y ≡ drop n out → 0 < length y → ⊥
  nothing_left n out y none is some =
      let l = ap length is ∙ length-drop n out in
      let z = ap length none in omega (arith, l, z, some)

  -- of which nothing was sent nothing is pending
  none_pending : (c : ℕ) (side : Side) → next.places c ≡ [] → 0 < length (to_write (x ∷ past) next c side) → ⊥
  none_pending c Client none some =
      nothing_left (heard c (x ∷ past)).client.took (client_output (next.places c)) (to_write (x ∷ past) next c Client) (ap client_output none)
      (queued C (x ∷ past) next b c Client (to_write (x ∷ past) next c Client) w.behind refl some) some
  none_pending c Server none some =
      let cs = (heard c (x ∷ past)).connects in
      nothing_left (last_took cs) (server_output (made cs) (next.places c)) (to_write (x ∷ past) next c Server) (ap (server_output (made cs)) none)
      (queued C (x ∷ past) next b c Server (to_write (x ∷ past) next c Server) w.behind refl some) some

  none_accepted : (d : ℕ) (vs : List ℕ) (from : Addr) → V ≡ Accepts d vs from → next.places d ≡ s.places d → (side : Side)
      → 0 < length (to_write (x ∷ past) next d side) → ⊥
  none_accepted d vs from e stays side some =
      let new = not_accepted C past d vs from s w.before.sound (ap (refused C past s) (sym e) ∙ w.fine) in
      let none : next.places d ≡ [] = stays ∙ ap (λ z. z.place) new in
      none_pending d side none some

  -- where a server is asked for nothing is pending
  asked_none : (c : ℕ) → (Z c).live ≡ true → is_connecting (Z c).heard.edges.server.state ≡ true → pending past s c Server ≡ 0
  asked_none c live connecting = by_live (live_at a.live.items c) (w.before.agrees.each c)
    where
      z : Seen
      z = Z c

      k : Served C c z
      k = as_live C c z live (w.before.sound.each c)

      at : TraceState
      at = stand_of C z.heard z.place

      by_ends : (conn : Conn) → HoldsEnds (around z.heard) at conn.ends → z.heard.edges ≡ conn.ends.edges → pending past s c Server ≡ 0
      by_ends conn held same =
          let asked = held.connecting (ap (λ e. is_connecting e.server.state) (sym same) ∙ connecting) in
          ap (λ x. to_take x (taken z.heard) Server) (sym (sent_at (setup_of C z.heard) z.heard z.place at k.stands)) ∙ held.took_all (ap is_taken asked)

      by_conn : (o : Option Conn) (edges : Edges) → ConnectionContinues C z o → z.heard.edges ≡ edges_by_conn o edges → pending past s c Server ≡ 0
      by_conn None edges m same = ap (λ p. untaken_of z.heard p Server) m.no_items
      by_conn (Some conn) edges (inl m) same = by_ends conn m.holds.ends same
      by_conn (Some conn) edges (inr m) same = by_ends conn m.ends same

      by_live : (o : Option Live) → AgreesAt C z o → pending past s c Server ≡ 0
      by_live None m = absurd (true≢false (sym live ∙ m))
      by_live (Some l) m = by_conn l.conn l.edges m.continues m.edges

  -- where a server of a connection is made nothing was sent to it
  none_made : (c d : ℕ) → V ≡ Comes d (Connects true) → nat_eq d c ≡ true → next.places c ≡ s.places c
      → 0 < length (to_write (x ∷ past) next c Server) → ⊥
  none_made c d e is stays some = by (h.finished || finish_told (notes_about c x.group)) refl
    where
      h : Heard
      h = heard c past

      now : List (Option SideHeard)
      now = (heard c (x ∷ past)).connects

      kind : V ≡ Comes c (Connects true)
      kind = e ∙ ap (λ n. Comes n (Connects true)) (eq_same d c is)

      may : MayCome C c (Connects true) (Z c)
      may = may_come_at C past s c (Connects true) (w.before.sound.each c) (ap (refused C past s) (sym kind) ∙ w.fine)

      -- what it brings, by whether it has finished
      heard_by : Bool → EventKind → List (Option SideHeard)
      heard_by f v = heard_connects (if f then brought_nothing else event_brings c v) (event_marks c v h)

      is_heard : (f : Bool) → (h.finished || finish_told (notes_about c x.group)) ≡ f → now ≡ heard_connects (if f then brought_nothing else brings_in (Connects true)) h
      is_heard f told =
          ap (λ b. heard_by b V) told ∙ ap (heard_by f) kind
          ∙ ap (λ b. heard_connects (if f then brought_nothing else (if b then brings_in (Connects true) else brought_nothing)) (if b then marks (Connects true) h else h)) (eq_self c)

      side_same : (s : SideHeard) → side_taken (hears_more brought_nothing.server s) ≡ side_taken s
      side_same s = by_end s.ended
        where
          by_end : (b : Bool) → side_taken (hears_by b brought_nothing.server s) ≡ side_taken s
          by_end true = refl
          by_end false = refl

      connecting : (b : Bool) → not b ≡ false → b ≡ true
      connecting true n = refl
      connecting false n = absurd (true≢false n)

      by : (f : Bool) → (h.finished || finish_told (notes_about c x.group)) ≡ f → ⊥
      by true told =
          let took : servers_taken now ≡ servers_taken h.connects = ap servers_taken (is_heard true told ∙ append-nil (at_last (hears_more brought_nothing.server) h.connects)) ∙ taken_keeps (hears_more brought_nothing.server) side_same h.connects in
          let same : pending (x ∷ past) next c Server ≡ pending past s c Server =
          ap (λ p. untaken_of (heard c (x ∷ past)) p Server) stays ∙ ap (λ ts. untaken (sent_from no_bytes (s.places c)).server (taken_of ts (sent_from no_bytes (s.places c)).number)) took in
          let o = opened (Z' c).live (Z' c).heard.edges Server (queue_at (Z' c).heard (Z' c).place Server) some in
          none_less (pending (x ∷ past) next c Server) (same ∙ asked_none c may.live (connecting (is_connecting h.edges.server.state) may.asked)) (pending_sees c Server o)
      by false told =
          let cs = at_last (hears_more (brings_in (Connects true)).server) h.connects in
          let joined = ap made (is_heard false told) ∙ joined_made cs (Some fresh_side ∷ []) in
          let last = last_made (hears_more (brings_in (Connects true)).server) h.connects in
          let none : server_output (made now) (s.places c) ≡ [] = (servers_are_numbered C past s w.before.sound.leads c).unsent (made now) (omega (arith, joined, last)) in
          nothing_left (last_took now) (server_output (made now) (next.places c)) (to_write (x ∷ past) next c Server) (ap (server_output (made now)) stays ∙ none)
          (queued C (x ∷ past) next b c Server (to_write (x ∷ past) next c Server) w.behind refl some) some

  -- an input answers no server, or tells that one is there
  clear : (i : Input) (side : Side) → (NotAnswer i side × ((d c : ℕ) → Unanswered side (Comes d i) c)) ⊎ ((i ≡ Connects true) × (side ≡ Server))
  clear (Bytes from bytes) Client = inl (tt, λ d c. tt)
  clear (Bytes from bytes) Server = inl (tt, λ d c. tt)
  clear (Ends from) Client = inl (tt, λ d c. tt)
  clear (Ends from) Server = inl (tt, λ d c. tt)
  clear (Resets from) Client = inl (tt, λ d c. tt)
  clear (Resets from) Server = inl (tt, λ d c. tt)
  clear (Takes from n) Client = inl (tt, λ d c. tt)
  clear (Takes from n) Server = inl (tt, λ d c. tt)
  clear (Connects false) Client = inl (tt, λ d c. tt)
  clear (Connects false) Server = inl (tt, λ d c. tt)
  clear (Connects true) Client = inl (tt, λ d c. tt)
  clear (Connects true) Server = inr (refl, refl)

  met_by : (b : Bool) (i : Input) (side : Side) (e : Edges) → NotAnswer i side → may_take (edge_of side (if b then edges_met i e else e)) ≡ true
      → may_take (edge_of side e) ≡ true
  met_by true i side e clash is = met_opens i side e clash is
  met_by false i side e clash is = is

  come_before : (d : ℕ) (i : Input) → V ≡ Comes d i → MovesBy C past (Comes d i) x.group s next → (c : ℕ) (side : Side) → nat_eq d c ≡ true
      → 0 < length (to_write (x ∷ past) next c side) → 0 < length (to_write past s c side)
  come_before d i e m c side is some =
      let h = heard d past in
      let stays = come_stays C i h (hears d h (Comes d i) x.group) d x.group s next c h.failed m in
      elim (clear i side) [
        | inl clash ↦ kept_before (Comes d i) e c side (clash.1 d c) stays refl (met_by (nat_eq d c) i side (heard c past).edges clash.0) some
        | inr told ↦ absurd (none_made c d (e ∙ ap (Comes d) told.0) is stays (subst (λ k. 0 < length (to_write (x ∷ past) next c k)) told.1 some))
      ]

  queue_places : (queue : List Asked) → MovesQueue (store_of C past) (shared past).moment queue x.group s next → (c : ℕ) → next.places c ≡ s.places c
  queue_places [] m c = ap (λ (y : State). y.places c) m.1
  queue_places (q ∷ rest) m c = ap (λ (y : State). y.places c) m.state

  abbrev IsFront : ℕ → Type 0
  IsFront c = (V ≡ Runs) × (slice_get s.ring 0 ≡ Some c)

  run_before : V ≡ Runs → (ring : List ℕ) → s.ring ≡ ring → MovesRing C past ring x.group s next → (c : ℕ) (side : Side) → nat_eq (front ring) c ≡ true
      → 0 < length (to_write (x ∷ past) next c side) → IsFront c ⊎ (0 < length (to_write past s c side))
  run_before e [] ring m c side is some = inr (kept_before Runs e c side (plain side) (ap (λ (y : State). y.places c) m.1) refl (λ t. t) some)
    where
      plain : (side : Side) → Unanswered side Runs c
      plain Client = tt
      plain Server = tt
  run_before e (d ∷ rest) ring m c side is some = inl (e, ap (λ l. slice_get l 0) ring ∙ ap Some (eq_same d c is))

  about_before : (v : EventKind) → V ≡ v → MovesBy C past v x.group s next → (c : ℕ) (side : Side) → nat_eq (about v s) c ≡ true
      → 0 < length (to_write (x ∷ past) next c side) → IsFront c ⊎ (0 < length (to_write past s c side))
  about_before (Accepts d vs from) e m c side is some =
      absurd (none_accepted d vs from e (ap (λ (y : State). y.places d) m.state) side
      (subst (λ k. 0 < length (to_write (x ∷ past) next k side)) (sym (eq_same d c is)) some))
  about_before (Comes d i) e m c side is some = inr (come_before d i e m c side is some)
  about_before (Ticks moment) e m c Client is some = inr (kept_before (Ticks moment) e c Client tt (ap (λ (y : State). y.places c) m.state) refl (λ t. t) some)
  about_before (Ticks moment) e m c Server is some = inr (kept_before (Ticks moment) e c Server tt (ap (λ (y : State). y.places c) m.state) refl (λ t. t) some)
  about_before Turns e m c Client is some = inr (kept_before Turns e c Client tt (queue_places s.queue m c) refl (λ t. t) some)
  about_before Turns e m c Server is some = inr (kept_before Turns e c Server tt (queue_places s.queue m c) refl (λ t. t) some)
  about_before Runs e m c side is some = run_before e s.ring refl m c side is some
  about_before (Marks pool member up) e m c Client is some =
      inr (kept_before (Marks pool member up) e c Client tt (ap (λ (y : State). y.places c) m.1) refl (λ t. t) some)
  about_before (Marks pool member up) e m c Server is some =
      inr (kept_before (Marks pool member up) e c Server tt (ap (λ (y : State). y.places c) m.1) refl (λ t. t) some)

  -- what is pending was pending, or its connection ran
  pub pending_before : (c : ℕ) (side : Side) → 0 < length (to_write (x ∷ past) next c side)
      → ((V ≡ Runs) × (slice_get s.ring 0 ≡ Some c)) ⊎ (0 < length (to_write past s c side))
  pending_before c side some = by (nat_eq (about V s) c) refl
    where
      by : (b : Bool) → nat_eq (about V s) c ≡ b → ((V ≡ Runs) × (slice_get s.ring 0 ≡ Some c)) ⊎ (0 < length (to_write past s c side))
      by true is = about_before V refl w.moves c side is some
      by false is =
          let k = (only_changed past V x.group s next (touches C past V x.group s next w.moves)).others c is in
          inr (subst (λ z. 0 < length (write_of side z)) k some)

  -- behind a reset nothing is
  pub none_reset : (c : ℕ) (side : Side) → V ≡ Comes c (Resets side) → 0 < length (to_write (x ∷ past) next c side) → ⊥
  none_reset c side e some =
      let o = opened (Z' c).live (Z' c).heard.edges side (queue_at (Z' c).heard (Z' c).place side) some in
      let takes = notes_open (own c x.group) side (event_edges c V (heard c past).edges) o.takes in
      met_resets side (heard c past).edges (subst (λ k. may_take (edge_of side k) ≡ true) (ap (λ k. event_edges c k (heard c past).edges) e ∙ self_met c (Resets side) (heard c past).edges) takes)
    where
      self_met : (c : ℕ) (i : Input) (e : Edges) → event_edges c (Comes c i) e ≡ edges_met i e
      self_met c i e = ap (λ b. if b then edges_met i e else e) (eq_self c)

  -- what a side took isn't
  pub took_less : (c : ℕ) (side : Side) (n : ℕ) → V ≡ Comes c (Takes side n) → length (to_write (x ∷ past) next c side) ≤ length (to_write past s c side) - n
  took_less c side n e = by (to_write (x ∷ past) next c side) refl
    where
      never : (V ≡ Runs) → ⊥
      never r = let clash : Runs ≡ Comes c (Takes side n) = sym r ∙ e in cc

      stays : next.places c ≡ s.places c
      stays =
          let h = heard c past in
          come_stays C (Takes side n) h (hears c h (Comes c (Takes side n)) x.group) c x.group s next c h.failed
          (subst (λ k. MovesBy C past k x.group s next) e w.moves)

      out : Side → List ℕ
      out Client = client_output (s.places c)
      out Server = server_output (made (heard c past).connects) (s.places c)

      -- what it took before and takes
      left : (side : Side) (n : ℕ) → V ≡ Comes c (Takes side n) → 0 < length (to_write past s c side) → 0 < length (to_write (x ∷ past) next c side)
          → length (to_write (x ∷ past) next c side) ≤ length (to_write past s c side) - n
      left Client n e was some =
          let h = heard c past in
          let one = ap length (queued C past s a c Client (to_write past s c Client) w.before refl was) ∙ length-drop h.client.took (out Client) in
          let two = ap length (queued C (x ∷ past) next b c Client (to_write (x ∷ past) next c Client) w.behind refl some) ∙ length-drop (heard c (x ∷ past)).client.took (client_output (next.places c)) in
          let same = ap (λ p. length (client_output p)) stays in
          let took = heard_took c h V x.group ∙ ap (λ k. h.client.took + k) (ap (took_in c) e ∙ ap (λ b. if b then n else 0) (eq_self c)) in
          omega (arith, one, two, same, took)
      left Server n e was some =
          let h = heard c past in
          let now = (heard c (x ∷ past)).connects in
          let there = of_last C past s a c (to_write past s c Server) w.before refl was in
          let one = ap length (queued C past s a c Server (to_write past s c Server) w.before refl was) ∙ length-drop (last_took h.connects) (out Server) in
          let two = ap length (queued C (x ∷ past) next b c Server (to_write (x ∷ past) next c Server) w.behind refl some) ∙ length-drop (last_took now) (server_output (made now) (next.places c)) in
          let risen = heard_risen c h V x.group (subst (λ v. NoServer v c) (sym e) tt) in
          let same = ap (λ p. length (server_output (made now) p)) stays ∙ ap (λ k. length (server_output k (s.places c))) risen.same in
          let took : last_took now ≡ last_took h.connects + n = ap (λ v. last_took (hears c h v x.group).connects) e ∙ last_heard c n h x.group there.made there.on_time in
          omega (arith, one, two, same, took)

      by : (y : List ℕ) → to_write (x ∷ past) next c side ≡ y → length y ≤ length (to_write past s c side) - n
      by [] is = omega arith
      by (byte ∷ more) is =
          let y = to_write (x ∷ past) next c side in
          let len : length y ≡ length (byte ∷ more) = ap length is in
          let some : 0 < length y = omega (arith, len) in
          let was : 0 < length (to_write past s c side) = elim (pending_before c side some) [ inl r ↦ absurd (never r.0) | inr before ↦ before ] in
          let less = left side n e was some in
          omega (arith, len, less)

  -- ---- servers that are asked for

  none_in : (notes : List Note) → x.group ≡ notes → servers_asked notes ≡ [] → (c : ℕ) → list_any (nat_eq c) (servers_asked x.group) ≡ true → ⊥
  none_in notes e none c is =
      let clash : list_any (nat_eq c) [] ≡ true = sym (ap (λ (l : List ℕ). list_any (nat_eq c) l) (ap servers_asked e ∙ none)) ∙ is in cc

  come_asks : (d : ℕ) (i : Input) → MovesBy C past (Comes d i) x.group s next → (c : ℕ) → list_any (nat_eq c) (servers_asked x.group) ≡ true → ⊥
  come_asks d i m c is = by (heard d past).failed m
    where
      now : Heard
      now = hears d (heard d past) (Comes d i) x.group

      by : (f : Bool) → MatchBool f (MovesFailed d x.group s next) (MovesOn C now d (edges_met i (heard d past).edges) x.group s next ⊎ MovesLacks i d x.group s next) → ⊥
      by true k = none_in [] k.notes refl c is
      by false (inl k) =
          let at = stand_of C now (s.places d) in
          let e = edges_met i (heard d past).edges in
          let left = untaken_all now (s.places d) in
          let notes = settling_at (setup_of C now) (taken now) at d e left in
          none_in notes k.notes (due_none d notes (settling_due (is_over (next_item (setup_of C now) at)) (given_up_at at) d e (took_all at (taken now) Server) (took_all at (taken now) Client) left)) c is
      by false (inr k) = none_in (note.Finish d Memory ∷ []) k.notes refl c is

  turn_asks : (queue : List Asked) → MovesQueue (store_of C past) (shared past).moment queue x.group s next → (c : ℕ)
      → list_any (nat_eq c) (servers_asked x.group) ≡ true → ⊥
  turn_asks [] m c is = none_in [] m.0 refl c is
  turn_asks (q ∷ rest) m c is = elim m.notes [
    | inl e ↦ none_in _ e refl c is
    | inr more ↦ elim more [ inl e ↦ none_in _ e refl c is | inr e ↦ none_in _ e refl c is ]
  ]

  run_asks : V ≡ Runs → (ring : List ℕ) → s.ring ≡ ring → MovesRing C past ring x.group s next → (c : ℕ) → list_any (nat_eq c) (servers_asked x.group) ≡ true
      → (V ≡ Runs) × (slice_get s.ring 0 ≡ Some c)
  run_asks e [] ring m c is = absurd (none_in [] m.0 refl c is)
  run_asks e (d ∷ rest) ring m c is =
      let touched = (touches C past V x.group s next w.moves).notes in
      let about_d : About d x.group = subst (λ k. About k x.group) (ap (λ k. about k s) e ∙ ap front ring) touched in
      (e, ap (λ l. slice_get l 0) ring ∙ ap Some (sym (about_asks d x.group about_d c is)))

  asks_by : (v : EventKind) → V ≡ v → MovesBy C past v x.group s next → (c : ℕ) → list_any (nat_eq c) (servers_asked x.group) ≡ true
      → (V ≡ Runs) × (slice_get s.ring 0 ≡ Some c)
  asks_by (Accepts d vs from) e m c is = absurd (elim m.notes [ inl k ↦ none_in [] k refl c is | inr k ↦ none_in (note.Finish d Memory ∷ []) k refl c is ])
  asks_by (Comes d i) e m c is = absurd (come_asks d i m c is)
  asks_by (Ticks moment) e m c is = absurd (none_in [] m.notes refl c is)
  asks_by Turns e m c is = absurd (turn_asks s.queue m c is)
  asks_by Runs e m c is = run_asks e s.ring refl m c is
  asks_by (Marks pool member up) e m c is = absurd (none_in [] m.0 refl c is)

  -- a server is asked for in its connection's Run
  pub asks_in_runs : (c : ℕ) → list_any (nat_eq c) (servers_asked x.group) ≡ true → (V ≡ Runs) × (slice_get s.ring 0 ≡ Some c)
  asks_in_runs c is = asks_by V refl w.moves c is

-- ---- the face

run_kind : (e : Event) → kind_of e ≡ Runs → e ≡ event.Run
run_kind (event.Accept d vs from) k = cc
run_kind (event.FromClient d bytes) k = cc
run_kind (event.ClientEnd d) k = cc
run_kind (event.ClientReset d) k = cc
run_kind (event.Connected d) k = cc
run_kind (event.Refused d) k = cc
run_kind (event.FromServer d bytes) k = cc
run_kind (event.ServerEnd d) k = cc
run_kind (event.ServerReset d) k = cc
run_kind (event.ClientTook d n) k = cc
run_kind (event.ServerTook d n) k = cc
run_kind (event.Tick moment) k = cc
run_kind event.Turn k = cc
run_kind event.Run k = refl
run_kind (event.Mark pool member up) k = cc

took_kind : (side : Side) (c n : ℕ) → kind_of (took_event side c n) ≡ Comes c (Takes side n)
took_kind Client c n = refl
took_kind Server c n = refl

reset_kind : (side : Side) (c : ℕ) → kind_of (reset_event side c) ≡ Comes c (Resets side)
reset_kind Client c = refl
reset_kind Server c = refl

module _ (a : Core) (e : Event) (group : List Note) (b : Core) (m : Moved core_face a e group b) where
  abbrev X : Happened
  X = record { event = e; group = group }

  after : StandsAfter m.stands.config m.stands.past m.stands.state X b
  after = m.moved.keeps m.stands.config m.stands.past m.stands.state m.stands.represents

  steps : Steps X a b m.stands.config m.stands.past m.stands.state after.next
  steps = record {
    before = m.stands.represents;
    fine = m.taken m.stands.config m.stands.past m.stands.state m.stands.represents;
    moves = after.moves;
    behind = after.represents;
  }

  still_stands : Stands b
  still_stands = record { config = m.stands.config; past = X ∷ m.stands.past; state = after.next; represents = after.represents }

  -- what is pending to a side then
  then_pending : (c : ℕ) (side : Side) (y : List ℕ) → core_face.queue b c side y → y ≡ to_write (X ∷ m.stands.past) after.next c side
  then_pending c side y q = q m.stands.config (X ∷ m.stands.past) after.next after.represents

  some_pending : (c : ℕ) (side : Side) → IsPending core_face b c side → 0 < length (to_write (X ∷ m.stands.past) after.next c side)
  some_pending c side p =
      let l = ap length (then_pending c side (p.byte ∷ p.more) p.queued) in
      let one : 0 < length (p.byte ∷ p.more) = omega arith in omega (arith, l, one)

  runs_front : (c : ℕ) → (kind_of e ≡ Runs) × (slice_get m.stands.state.ring 0 ≡ Some c) → IsRunOf core_face a e c
  runs_front c it = record {
    is_run = run_kind e it.0;
    ready = λ C past s r. (
        let ring = sym m.stands.represents.agrees.ring ∙ r.agrees.ring in
        sym it.1 ∙ ap (λ l. slice_get l 0) ring
        );
  }

begun_pends : (a : Core) (c : ℕ) (vs : List ℕ) (from : Addr) (group : List Note) (b : Core) (m : Moved core_face a (event.Accept c vs from) group b) (side : Side)
    → 0 < length (to_write (record { event = event.Accept c vs from; group = group } ∷ m.stands.past) (after a (event.Accept c vs from) group b m).next c side) → ⊥
begun_pends a c vs from group b m side some =
    let w = steps a (event.Accept c vs from) group b m in
    none_accepted _ a b _ _ _ _ w c vs from refl (ap (λ (y : State). y.places c) (after a (event.Accept c vs from) group b m).moves.state) side some

-- it is such a core
pub core_sends_in_runs : SendsInRuns core_face
core_sends_in_runs = record {
  stands = still_stands;
  one_queue = λ a c side x y st p q. p st.config st.past st.state st.represents ∙ sym (q st.config st.past st.state st.represents);
  one_ready = λ a x y st p q. p st.config st.past st.state st.represents ∙ sym (q st.config st.past st.state st.represents);
  one_next = λ a x y st p q. p st.config st.past st.state st.represents ∙ sym (q st.config st.past st.state st.represents);
  sends = λ a e group b m c side p. elim (pending_before _ a b _ _ _ _ (steps a e group b m) c side (some_pending a e group b m c side p)) [
    | inl run ↦ inl (runs_front a e group b m c run)
    | inr was ↦ inr (is_pending m.stands.config m.stands.past m.stands.state a c side m.stands.represents _ refl was)
  ];
  asks = λ a e group b m c is. runs_front a e group b m c (asks_in_runs _ a b _ _ _ _ (steps a e group b m) c is);
  begins = λ a c vs from group b m side p. begun_pends a c vs from group b m side (some_pending a (event.Accept c vs from) group b m c side p);
  takes = λ a c side n group b m x y qx qy. (
      let less = took_less _ a b _ _ _ _ (steps a (took_event side c n) group b m) c side n (took_kind side c n) in
      let before = ap length (qx m.stands.config m.stands.past m.stands.state m.stands.represents) in
      let behind = ap length (then_pending a (took_event side c n) group b m c side y qy) in
      omega (arith, less, before, behind)
      );
  resets = λ a c side group b m p. none_reset _ a b _ _ _ _ (steps a (reset_event side c) group b m) c side (reset_kind side c) (some_pending a (reset_event side c) group b m c side p);
}
