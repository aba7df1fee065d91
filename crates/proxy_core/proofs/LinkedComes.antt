-- Where the server's end stands behind something that comes of its connection, and behind notes that are due.
use Rattle.std.proofs.Common.{◌≡◌, refl, sym, ap, subst, ◌∙◌, ℕ, ◌+◌, List, [], ◌∷◌, Bool, true, false, ◌||◌, ◌&&◌, not, nat_eq, true≢false, arith, eqb-true, eq-eqb}
use Rattle.std.specs.Bool.{MatchBool}
use Rattle.std.specs.List.{list_any}
use Rattle.px_bytes.specs.declared.addr.Side.TheVariants.{Client, Server}
use Rattle.core_events.specs.declared.edges.Edges.{Edges}
use Rattle.core_events.specs.declared.edges.EdgeState.{EdgeState}
use Rattle.core_events.specs.declared.edges.EdgeState.TheVariants as state
use Rattle.core_events.specs.declared.note.Note.{Note}
use Rattle.core_events.specs.declared.note.Note.TheVariants as note
use Rattle.core_events.specs.Edges.{edges_by, edges_noted, is_connecting}
use Rattle.conn_trace.specs.Further.{Further, longer, nothing_further}
use Rattle.conn_trace.specs.Gates.{TakenCounts, to_take}
use Rattle.core_events.specs.declared.input.Input.{Input}
use Rattle.core_events.specs.declared.input.Input.TheVariants.{Bytes, Ends, Resets, Connects, Takes}
use Rattle.conn_trace.specs.Heard.{edges_met}
use Rattle.conn_trace.specs.State.{Absent, Asked, GivenUp, Left, Link, TraceState, Up, link_of}
use Rattle.conn.specs.Calls.{unless_finished}
use Rattle.conn.specs.Settling.{close_notes, closing, is_given_up, is_there, note_if, server_notes, took_all}
use Rattle.proxy_core.specs.Live.{further_in}
use Rattle.record_model.specs.Refusal.{answers_nothing}
use Rattle.proxy_core.specs.Servers.{awaits, closed_servers, draining, draining_by, is_serving, Linked, LinkedAt}
use Rattle.proxy_core.specs.Shown.{closes, shows}
use Rattle.proxy_core.proofs.Closings.{any_on, shut}
use Rattle.proxy_core.proofs.GroupNotes.{AreDue}
use Rattle.proxy_core.proofs.Linking.{answered_linked, as_true, asked, asked_then, few_wait, is_asked, linked_over, linked_then, longer_linked, none_drains, none_waits, settled}
use Rattle.proxy_core.proofs.ServerGone.{never}

pub was_true : (b : Bool) → not b ≡ false → b ≡ true
was_true true e = refl
was_true false e = absurd (true≢false e)

met_linked : (finished : Bool) (took : TakenCounts) (input : Input) (l : TraceState) (e : Edges) → answers_nothing e input ≡ false → Linked finished took l e.server.state → Linked finished took (longer (unless_finished finished (further_in input)) l) (edges_met input e).server.state
met_linked true took input l e asks k = linked_over true true took took (longer nothing_further l) e.server.state (edges_met input e).server.state refl (longer_linked true took nothing_further l e.server.state refl k)
met_linked false took (Bytes Client bytes) l e asks k = longer_linked false took (further_in (Bytes Client bytes)) l e.server.state refl k
met_linked false took (Bytes Server bytes) l e asks k = longer_linked false took (further_in (Bytes Server bytes)) l e.server.state refl k
met_linked false took (Ends Client) l e asks k = longer_linked false took (further_in (Ends Client)) l e.server.state refl k
met_linked false took (Ends Server) l e asks k = longer_linked false took (further_in (Ends Server)) l e.server.state refl k
met_linked false took (Resets Client) l e asks k = longer_linked false took nothing_further l e.server.state refl k
met_linked false took (Resets Server) l e asks k = longer_linked false took nothing_further l e.server.state refl k
met_linked false took (Takes side n) l e asks k = longer_linked false took nothing_further l e.server.state refl k
met_linked false took (Connects made) l e asks k =
    answered_linked false took made (further_in (Connects made)) l (is_asked false took l e.server.state k refl (was_true (is_connecting e.server.state) asks)) refl

-- ---- one that is given up is closed where it took all

shut_state : (b : Bool) (c : ℕ) (e : Edges) → (edges_noted (note_if b (note.CloseServer c)) e).server.state ≡ (shut b e.server).state
shut_state true c e = refl
shut_state false c e = refl

-- of one that is given up, where it took more
drained_at : (left left' : ℕ) (c : ℕ) (e : Edges) → (left ≡ 0 → left' ≡ 0) → LinkedAt false true left e.server.state → (b b' : Bool) → nat_eq left 0 ≡ b → nat_eq left' 0 ≡ b'
    → MatchBool b' ((shut (b' && is_there e.server.state) e.server).state ≡ state.Closed) ((shut (b' && is_there e.server.state) e.server).state ≡ state.Open)
drained_at left left' c e less k true true is is' = (let s = as_true (e.server.state ≡ state.Closed) (e.server.state ≡ state.Open) (nat_eq left 0) is k in ap (λ y. (shut (is_there y) (record e.server { state = y })).state) s)
drained_at left left' c e less k true false is is' = absurd (true≢false (sym (eq-eqb left' 0 (less (eqb-true left 0 is))) ∙ is'))
drained_at left left' c e less k false true is is' = (let s = open_at left e.server.state is k in ap (λ y. (shut (is_there y) (record e.server { state = y })).state) s)
  where
    open_at : (left : ℕ) (s : EdgeState) → nat_eq left 0 ≡ false → MatchBool (nat_eq left 0) (s ≡ state.Closed) (s ≡ state.Open) → s ≡ state.Open
    open_at left s e q = (let P : Bool → Type 0 = λ b. MatchBool b (s ≡ state.Closed) (s ≡ state.Open) in subst P e q)
drained_at left left' c e less k false false is is' = (let P : Bool → Type 0 = λ b. MatchBool b (e.server.state ≡ state.Closed) (e.server.state ≡ state.Open) in subst P is k)

-- the number of notes
drained_count : (left left' : ℕ) (c : ℕ) (e : Edges) → (left ≡ 0 → left' ≡ 0) → LinkedAt false true left e.server.state → (b b' : Bool) → nat_eq left 0 ≡ b → nat_eq left' 0 ≡ b'
    → closed_servers (note_if (b' && is_there e.server.state) (note.CloseServer c)) + draining_by true b' ≡ draining_by true b
drained_count left left' c e less k true true is is' = (let s = as_true (e.server.state ≡ state.Closed) (e.server.state ≡ state.Open) (nat_eq left 0) is k in ap (λ y. closed_servers (note_if (is_there y) (note.CloseServer c)) + 0) s)
drained_count left left' c e less k true false is is' = absurd (true≢false (sym (eq-eqb left' 0 (less (eqb-true left 0 is))) ∙ is'))
drained_count left left' c e less k false true is is' =
    (let P : Bool → Type 0 = λ b. MatchBool b (e.server.state ≡ state.Closed) (e.server.state ≡ state.Open) in let s : e.server.state ≡ state.Open = subst P is k in ap (λ y. closed_servers (note_if (is_there y) (note.CloseServer c)) + 0) s)
drained_count left left' c e less k false false is is' = refl

-- what is due where its trace isn't over
pub record Settles (took : TakenCounts) (l : TraceState) (before : ℕ) (c : ℕ) (e : Edges) : Type 0 where
  pub linked : Linked false took l (edges_noted (server_notes c (is_given_up (link_of l.server) && took_all l took Server) e) e).server.state
  pub drains : closed_servers (server_notes c (is_given_up (link_of l.server) && took_all l took Server) e) + draining took l ≡ before

module _ (took took' : TakenCounts) (l : TraceState) (c : ℕ) (e : Edges) (asks : awaits l.phase ≡ true → link_of l.server ≡ Asked) (less : to_take l.sent took Server ≡ 0 → to_take l.sent took' Server ≡ 0) (k : Linked false took l e.server.state) where
  abbrev notes : Bool → List Note
  notes g = server_notes c (g && took_all l took' Server) e

  quiet_at : (serving : Bool) (left left' : ℕ) → LinkedAt serving false left e.server.state → LinkedAt serving false left' e.server.state
  quiet_at true left left' q = q
  quiet_at false left left' q = q

  -- none is given up
  stays : is_given_up (link_of l.server) ≡ false → Settles took' l (draining took l) c e
  stays none =
      let same : notes (is_given_up (link_of l.server)) ≡ [] = ap notes none in
      let L : EdgeState → Type 0 = λ s. Linked false took' l s in
      record {
        linked = subst L (sym (ap (λ ns. (edges_noted ns e).server.state) same)) (by_waits (awaits l.phase) refl);
        drains = (let a = ap closed_servers same in let b = none_drains took' l (link_of l.server) refl none in let d = none_drains took l (link_of l.server) refl none in omega (arith, a, b, d));
      }
    where
      by_waits : (b : Bool) → awaits l.phase ≡ b → Linked false took' l e.server.state
      by_waits true w = asked false took' l e.server.state w (few_wait false took l e.server.state k w) (λ x. asked_then false took l e.server.state k w refl)
      by_waits false w =
          let P : Bool → Type 0 = λ b. LinkedAt (is_serving (link_of l.server)) b (to_take l.sent took Server) e.server.state in
          let Q : Bool → Type 0 = λ b. LinkedAt (is_serving (link_of l.server)) b (to_take l.sent took' Server) e.server.state in
          settled false took' l e.server.state w (none_waits false took l e.server.state k w)
          (λ x. subst Q (sym none) (quiet_at (is_serving (link_of l.server)) (to_take l.sent took Server) (to_take l.sent took' Server) (subst P none (linked_then false took l e.server.state k w refl))))

  -- the last is given up
  gone : is_given_up (link_of l.server) ≡ true → is_serving (link_of l.server) ≡ false → awaits l.phase ≡ false → Settles took' l (draining took l) c e
  gone is off w =
      let here = linked_then false took l e.server.state k w refl in
      let P : Bool → Type 0 = λ b. LinkedAt b (is_given_up (link_of l.server)) (to_take l.sent took Server) e.server.state in
      let Q : Bool → Type 0 = λ b. LinkedAt false b (to_take l.sent took Server) e.server.state in
      let at : LinkedAt false true (to_take l.sent took Server) e.server.state = subst Q is (subst P off here) in
      let b' = nat_eq (to_take l.sent took' Server) 0 in
      let same : notes (is_given_up (link_of l.server)) ≡ note_if (b' && is_there e.server.state) (note.CloseServer c) = ap notes is in
      let L : EdgeState → Type 0 = λ s. Linked false took' l s in
      let A : Bool → Type 0 = λ b. LinkedAt b (is_given_up (link_of l.server)) (to_take l.sent took' Server) (shut (b' && is_there e.server.state) e.server).state in
      let B : Bool → Type 0 = λ b. LinkedAt false b (to_take l.sent took' Server) (shut (b' && is_there e.server.state) e.server).state in
      record {
        linked = subst L (sym (ap (λ ns. (edges_noted ns e).server.state) same ∙ shut_state (b' && is_there e.server.state) c e))
            (settled false took' l _ w (none_waits false took l e.server.state k w)
            (λ x. subst A (sym off) (subst B (sym is) (drained_at (to_take l.sent took Server) (to_take l.sent took' Server) c e less at (nat_eq (to_take l.sent took Server) 0) b' refl refl))));
        drains = ap (λ ns. closed_servers ns + draining took' l) same ∙ ap (λ g. closed_servers (note_if (b' && is_there e.server.state) (note.CloseServer c)) + draining_by g b') is
            ∙ drained_count (to_take l.sent took Server) (to_take l.sent took' Server) c e less at (nat_eq (to_take l.sent took Server) 0) b' refl refl ∙ ap (λ g. draining_by g (nat_eq (to_take l.sent took Server) 0)) (sym is);
      }

  pub settles : Settles took' l (draining took l) c e
  settles = by_given (is_given_up (link_of l.server)) refl
    where
      off : (k : Link) → is_given_up k ≡ true → is_serving k ≡ false
      off Absent e = refl
      off Asked e = refl
      off Up e = never e
      off (Left b) e = never e
      off GivenUp e = refl

      calm : (b : Bool) → awaits l.phase ≡ b → is_given_up (link_of l.server) ≡ true → awaits l.phase ≡ false
      calm true w is = never (sym (ap is_given_up (asks w)) ∙ is)
      calm false w is = w

      by_given : (b : Bool) → is_given_up (link_of l.server) ≡ b → Settles took' l (draining took l) c e
      by_given true is = gone is (off (link_of l.server) is) (calm (awaits l.phase) refl is)
      by_given false is = stays is

-- what comes of it and what is due then
pub record Came (finished : Bool) (took : TakenCounts) (l : TraceState) (before : ℕ) (group : List Note) (e : Edges) : Type 0 where
  pub linked : Linked finished took l e.server.state
  pub drains : finished ≡ false → closed_servers group + draining took l ≡ before

pub come_linked : (finished now : Bool) (took took' : TakenCounts) (input : Input) (f : Further) (l : TraceState) (c : ℕ) (group : List Note) (e e' : Edges) → f ≡ unless_finished finished (further_in input) → now ≡ finished → answers_nothing e input ≡ false
    → (awaits l.phase ≡ true → link_of (longer f l).server ≡ Asked) → (to_take l.sent took Server ≡ 0 → to_take l.sent took' Server ≡ 0)
    → (finished ≡ false → group ≡ server_notes c (is_given_up (link_of (longer f l).server) && took_all (longer f l) took' Server) (edges_met input e)) → (finished ≡ false → e'.server.state ≡ (edges_noted group (edges_met input e)).server.state)
    → draining took (longer f l) ≡ draining took l → Linked finished took l e.server.state → Came now took' (longer f l) (draining took l) group e'
come_linked finished now took took' input f l c group e e' is same asks waits less noted ends drain k = by_finished finished refl
  where
    met : Linked finished took (longer f l) (edges_met input e).server.state
    met = subst (λ x. Linked finished took (longer x l) (edges_met input e).server.state) (sym is) (met_linked finished took input l e asks k)

    by_finished : (b : Bool) → finished ≡ b → Came now took' (longer f l) (draining took l) group e'
    by_finished true done = record {
      linked = linked_over finished now took took' (longer f l) (edges_met input e).server.state e'.server.state (same ∙ done) met;
      drains = λ x. absurd (true≢false (sym (same ∙ done) ∙ x));
    }
    by_finished false going =
        let L : Bool → Type 0 = λ b. Linked b took (longer f l) (edges_met input e).server.state in
        let s = settles took took' (longer f l) c (edges_met input e) waits less (subst L going met) in
        let due : List Note = server_notes c (is_given_up (link_of (longer f l).server) && took_all (longer f l) took' Server) (edges_met input e) in
        let ns : group ≡ due = noted going in
        let E : EdgeState → Type 0 = λ y. Linked now took' (longer f l) y in
        let B : Bool → Type 0 = λ b. Linked b took' (longer f l) (edges_noted due (edges_met input e)).server.state in
        record {
          linked = subst E (sym (ends going ∙ ap (λ x. (edges_noted x (edges_met input e)).server.state) ns)) (subst B (sym (same ∙ going)) s.linked);
          drains = λ x. ap (λ y. closed_servers y + draining took' (longer f l)) ns ∙ s.drains ∙ drain;
        }

-- ---- notes that close nothing leave it

hidden_state : (n : Note) → shows n ≡ false → closes n ≡ false → (e : Edges) → (edges_by n e).server.state ≡ e.server.state
hidden_state (note.Connect c to) h k e = absurd (true≢false h)
hidden_state (note.Sleep c until) h k e = refl
hidden_state (note.History c moment call reply) h k e = refl
hidden_state (note.Log c text) h k e = refl
hidden_state (note.Pass c side n) h k e = refl
hidden_state (note.Fired c side) h k e = refl
hidden_state (note.Reuse c kept) h k e = refl
hidden_state (note.Finish c why) h k e = refl
hidden_state (note.HalfClose c Client) h k e = refl
hidden_state (note.HalfClose c Server) h k e = refl
hidden_state (note.CloseServer c) h k e = absurd (true≢false k)
hidden_state (note.CloseClient c) h k e = refl
hidden_state (note.Ended c dropped) h k e = refl

or_both : (a b : Bool) → (a || b) ≡ false → (a ≡ false) × (b ≡ false)
or_both true b e = absurd (true≢false e)
or_both false b e = (refl, e)

pub due_state : (c : ℕ) (notes : List Note) → AreDue c notes → list_any closes notes ≡ false → (e : Edges) → (edges_noted notes e).server.state ≡ e.server.state
due_state c [] h k e = refl
due_state c (n ∷ notes) h k e =
    let parts = or_both (closes n) (list_any closes notes) k in
    due_state c notes h.1 parts.1 (edges_by n e) ∙ hidden_state n h.0.hidden parts.0 e

or_true : (b : Bool) → (b || true) ≡ true
or_true true = refl
or_true false = refl

pub closing_closes : (c : ℕ) (e : Edges) (d : ℕ) → list_any closes (closing c e d) ≡ true
closing_closes c e d = any_on closes (close_notes c true true e) (note.Ended c d ∷ []) ∙ or_true (list_any closes (close_notes c true true e))
