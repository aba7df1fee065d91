-- What is pending to a side, as the loop asks for it, by what is seen of its connection; and that nothing opens an end again.
use Rattle.std.proofs.Common.{◌≡◌, ℕ, ◌<◌, List, [], ◌∷◌, length, Bool, true, false, ◌||◌, ◌&&◌, not, Option, Some, None, nat_eq, if◌then◌else◌, refl, ap, sym, ◌∙◌, arith}
use Rattle.std.specs.Prelude.{option_map, unwrap_or}
use Rattle.px_bytes.specs.declared.addr.Side.{Side}
use Rattle.px_bytes.specs.declared.addr.Side.TheVariants.{Client, Server}
use Rattle.core_events.specs.declared.edges.Edges.{Edges}
use Rattle.core_events.specs.declared.edges.EdgeState.{EdgeState}
use Rattle.core_events.specs.declared.edges.EdgeState.TheVariants as state
use Rattle.core_events.specs.declared.input.Input.{Input}
use Rattle.core_events.specs.declared.input.Input.TheVariants.{Bytes, Ends, Resets, Connects, Takes}
use Rattle.core_events.specs.declared.note.Note.{Note}
use Rattle.core_events.specs.declared.note.Note.TheVariants as note
use Rattle.core_events.specs.Edges.{edge_of, edges_by, edges_noted, is_open, may_take}
use Rattle.conn_trace.specs.Heard.{edges_met}
use Rattle.proxy_core.specs.Asked.{edges_of, queue_at}
use Rattle.conn.specs.declared.connection.Conn.{Conn}
use Rattle.proxy_core.specs.Live.{edges_in, pending_in}
use Rattle.record_model.specs.Past.{Past, without_all}
use Rattle.proxy_core.specs.Queries.{queue_on}
use Rattle.proxy_core.specs.Questions.{on_edge, to_write}
use Rattle.proxy_core.specs.Ready.{is_in, without}
use Rattle.proxy_core.specs.Refusals.{live_at}
use Rattle.proxy_core.specs.Represents.{AgreesAt, Represents}
use Rattle.proxy_core.specs.Scheduler.{State, Seen, seen, untaken_of}
use Rattle.proxy_core.specs.Sound.{Served}
use Rattle.run_config.specs.declared.config.Config.{Config}
use Rattle.proxy_core.specs.declared.core_state.Core.{Core}
use Rattle.proxy_core.specs.declared.live.Live.{Live}
use Rattle.proxy_core.proofs.Asked.{edges_same, queue_told}
use Rattle.proxy_core.proofs.Standing.{as_live}
use Rattle.proxy_core.proofs.Waiting.{pending_same, queue_same}
use Rattle.proxy_core.specs.Face.{core_face}
use Rattle.serve_loop.specs.Pending.{IsPending}

-- ---- what is seen of it

-- what the loop may write, by whether the connection is live and where its ends stand
abbrev pub shown : (live : Bool) → Edges → Side → List ℕ → List ℕ
shown live e side queue =
    if on_edge (if live then Some e else None) side may_take then unwrap_or (if live then Some queue else None) [] else []

abbrev pub write_of : Side → Seen → List ℕ
write_of side z = shown z.live z.heard.edges side (queue_at z.heard z.place side)

-- the end is open, and the queue has a byte
pub record IsOpen (live : Bool) (e : Edges) (side : Side) (queue : List ℕ) : Type 0 where
  pub is_live : live ≡ true
  pub takes : may_take (edge_of side e) ≡ true
  pub some : 0 < length queue

pub opened : (live : Bool) (e : Edges) (side : Side) (queue : List ℕ) → 0 < length (shown live e side queue) → IsOpen live e side queue
opened false e side queue some = let none : ⊥ = omega (arith, some) in absurd none
opened true e side queue some = by (may_take (edge_of side e)) refl some
  where
    by : (b : Bool) → may_take (edge_of side e) ≡ b → 0 < length (if b then queue else []) → IsOpen true e side queue
    by true is more = record { is_live = refl; takes = is; some = more }
    by false is more = let none : ⊥ = omega (arith, more) in absurd none

pub shows_all : (live : Bool) (e : Edges) (side : Side) (queue : List ℕ) → live ≡ true → may_take (edge_of side e) ≡ true → shown live e side queue ≡ queue
shows_all true e side queue is takes = ap (λ b. if b then queue else []) takes
shows_all false e side queue is takes = cc

-- so long is what is queued
on_length : (side : Side) (o : Option Conn) → length (queue_on side o) ≡ pending_in side o
on_length side None = refl
on_length side (Some conn) = refl

-- of a live connection of the core as much is pending as wasn't taken
pub queue_length : (C : Config) (past : Past) (s : State) (core : Core) (c : ℕ) (side : Side) → Represents C past s core → (seen past s c).live ≡ true
    → length (queue_at (seen past s c).heard (seen past s c).place side) ≡ untaken_of (seen past s c).heard (seen past s c).place side
queue_length C past s core c side r live = by (live_at core.live.items c) (r.agrees.each c)
  where
    z : Seen
    z = seen past s c

    by : (o : Option Live) → AgreesAt C z o → length (queue_at z.heard z.place side) ≡ untaken_of z.heard z.place side
    by None a = let clash : true ≡ false = sym live ∙ a in cc
    by (Some l) a =
        let k : Served C c z = as_live C c z live (r.sound.each c) in
        sym (ap length (queue_same C c z side l.conn k a.continues)) ∙ on_length side l.conn ∙ pending_same C c z side l.conn k a.continues

-- ---- what the core answers

-- what a core answers is a function of it alone
core_front : Core → ℕ → Side → List ℕ
core_front core c side =
    let o = live_at core.live.items c in
    if on_edge (option_map edges_in o) side may_take then unwrap_or (option_map (λ l. queue_on side l.conn) o) [] else []

front_is : (C : Config) (past : Past) (s : State) (core : Core) (c : ℕ) (side : Side) → Represents C past s core → core_front core c side ≡ to_write past s c side
unfolding core_front
front_is C past s core c side r =
    let o = live_at core.live.items c in
    ap (λ (e : Option Edges). if on_edge e side may_take then unwrap_or (option_map (λ l. queue_on side l.conn) o) [] else [])
    (edges_same C past s core c (option_map edges_in o) refl r)
    ∙ ap (λ (q : Option (List ℕ)). if on_edge (edges_of past c) side may_take then unwrap_or q [] else [])
    (queue_told C past s core c side (option_map (λ l. queue_on side l.conn) o) refl r)

-- so where something is pending in one past it is in all that the core stands for
pub is_pending : (C : Config) (past : Past) (s : State) (core : Core) (c : ℕ) (side : Side) → Represents C past s core → (bytes : List ℕ)
    → to_write past s c side ≡ bytes → 0 < length bytes → IsPending core_face core c side
is_pending C past s core c side r [] e some = let none : ⊥ = omega (arith, some) in absurd none
is_pending C past s core c side r (byte ∷ more) e some = record {
  byte = byte;
  more = more;
  queued = λ C' past' s' r'. sym e ∙ sym (front_is C past s core c side r) ∙ front_is C' past' s' core c side r';
}

-- ---- nothing opens an end again

-- what a note leaves open was open
note_opens : (n : Note) (side : Side) (e : Edges) → may_take (edge_of side (edges_by n e)) ≡ true → may_take (edge_of side e) ≡ true
note_opens (note.Connect c to) Client e is = is
note_opens (note.Connect c to) Server e is = cc
note_opens (note.HalfClose c Client) Client e is = is
note_opens (note.HalfClose c Client) Server e is = is
note_opens (note.HalfClose c Server) Client e is = is
note_opens (note.HalfClose c Server) Server e is = is
note_opens (note.CloseServer c) Client e is = is
note_opens (note.CloseServer c) Server e is = cc
note_opens (note.CloseClient c) Client e is = cc
note_opens (note.CloseClient c) Server e is = is
note_opens other side e is = is

pub notes_open : (notes : List Note) (side : Side) (e : Edges) → may_take (edge_of side (edges_noted notes e)) ≡ true → may_take (edge_of side e) ≡ true
notes_open [] side e is = is
notes_open (n ∷ notes) side e is = note_opens n side e (notes_open notes side (edges_by n e) is)

-- what an input leaves open was open, but for the answer of a server
abbrev pub NotAnswer : Input → Side → Type 0
NotAnswer (Connects true) Server = ⊥
NotAnswer input side = Unit {0}

reset_shuts : (x : EdgeState) → (is_open x && not true) ≡ true → ⊥
reset_shuts state.Absent e = cc
reset_shuts state.Connecting e = cc
reset_shuts state.Open e = cc
reset_shuts state.Closed e = cc

pub met_opens : (i : Input) (side : Side) (e : Edges) → NotAnswer i side → may_take (edge_of side (edges_met i e)) ≡ true → may_take (edge_of side e) ≡ true
met_opens (Bytes s bytes) side e clash is = is
met_opens (Ends Client) Client e clash is = is
met_opens (Ends Client) Server e clash is = is
met_opens (Ends Server) Client e clash is = is
met_opens (Ends Server) Server e clash is = is
met_opens (Resets Client) Client e clash is = absurd (reset_shuts e.client.state is)
met_opens (Resets Client) Server e clash is = is
met_opens (Resets Server) Client e clash is = is
met_opens (Resets Server) Server e clash is = absurd (reset_shuts e.server.state is)
met_opens (Connects made) Client e clash is = is
met_opens (Connects true) Server e clash is = absurd clash
met_opens (Connects false) Server e clash is = cc
met_opens (Takes s n) side e clash is = is

-- a reset end takes nothing more
pub met_resets : (side : Side) (e : Edges) → may_take (edge_of side (edges_met (Resets side) e)) ≡ true → ⊥
met_resets Client e is = reset_shuts e.client.state is
met_resets Server e is = reset_shuts e.server.state is

-- ---- who is live

or_later : (x y : Bool) → y ≡ true → (x || y) ≡ true
or_later true y e = refl
or_later false y e = e

or_by : (x y z : Bool) → (x || y) ≡ true → (y ≡ true → z ≡ true) → (x || z) ≡ true
or_by true y z e less = refl
or_by false y z e less = less e

left_in : (n : ℕ) (live : List ℕ) (c : ℕ) → is_in (without n live) c ≡ true → is_in live c ≡ true
left_in n [] c is = is
left_in n (m ∷ live) c is = by (nat_eq n m) is (left_in n live c)
  where
    by : (b : Bool) → is_in (if b then live else m ∷ without n live) c ≡ true → (is_in (without n live) c ≡ true → is_in live c ≡ true)
        → (nat_eq c m || is_in live c) ≡ true
    by true is less = or_later (nat_eq c m) (is_in live c) is
    by false is less = or_by (nat_eq c m) (is_in (without n live) c) (is_in live c) is less

pub all_left_in : (ns live : List ℕ) (c : ℕ) → is_in (without_all ns live) c ≡ true → is_in live c ≡ true
all_left_in [] live c is = is
all_left_in (n ∷ ns) live c is = left_in n live c (all_left_in ns (without n live) c is)
