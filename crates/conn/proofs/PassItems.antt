-- What a relay passes on, by the fields of a trace's state.
use Rattle.std.proofs.Common.{◌≡◌, refl, sym, ap, ◌∙◌, ℕ, ◌+◌, ◌≤◌, ◌<◌, List, [], ◌∷◌, length, take, ◌++◌, append-nil, false, ◌&&◌, Option, None}
use Rattle.px_bytes.specs.declared.addr.Side.{Side}
use Rattle.px_bytes.specs.declared.addr.Side.TheVariants.{Client, Server}
use Rattle.px_bytes.specs.declared.fault.Reply.{Reply}
use Rattle.conn_trace.specs.Further.{choosing, first_cut, longer, nothing_comes}
use Rattle.conn_trace.specs.Item.{Choice, PassesOn, Passed, ToClient, ToServer}
use Rattle.irule_net.specs.declared.state.Asks.TheVariants.{NotAsked}
use Rattle.conn_trace.specs.Relay.{Incoming, Passing, is_done}
use Rattle.conn_trace.specs.Setup.{Setup}
use Rattle.conn_trace.specs.State.{Cut, Relaying, ServerSide, Stream, There, TraceState, Does, read, with_choices}
use Rattle.conn_trace.specs.Trace.{counted, next_item, relay_next}
use Rattle.conn_trace.proofs.Streams.{nothing_stream, nothing_server, nothing_on_last}
use Rattle.conn.proofs.RelayItems.{InRelay, relay_passes}

-- the same state with these parts
abbrev with_parts : Stream → ServerSide → List Reply → List (Option Stream) → List Choice → Option Cut → TraceState → TraceState
with_parts client server replies connects choices cut l = record l { client = client; server = server; answers = record { replies = replies; connects = connects; choices = choices; cut = cut } }

-- choices and a cut alone
choosing_parts : (choices : List Choice) (cut : Option Cut) (l : TraceState) → longer (choosing choices cut) l ≡ with_parts l.client l.server l.answers.replies l.answers.connects (l.answers.choices ++ choices) (first_cut l.answers.cut cut) l
choosing_parts choices cut l =
    let k = longer (choosing choices cut) l in
    ap (λ x. with_parts x k.server k.answers.replies k.answers.connects k.answers.choices k.answers.cut l) (nothing_stream nothing_comes l.client refl)
    ∙ ap (λ x. with_parts l.client x k.answers.replies k.answers.connects k.answers.choices k.answers.cut l) (nothing_server nothing_comes l.answers.connects l.server refl)
    ∙ ap (λ x. with_parts l.client l.server x k.answers.connects k.answers.choices k.answers.cut l) (append-nil l.answers.replies)
    ∙ ap (λ x. with_parts l.client l.server l.answers.replies x k.answers.choices k.answers.cut l) (append-nil _ ∙ nothing_on_last nothing_comes l.answers.connects refl)

-- choices alone, where none was recorded
pub longer_choices : (choices : List Choice) (l : TraceState) → l.answers.choices ≡ [] → l.answers.cut ≡ None → longer (choosing choices None) l ≡ with_choices choices l
longer_choices choices l none no_cut =
    choosing_parts choices None l
    ∙ ap (λ x. with_parts l.client l.server l.answers.replies l.answers.connects (x ++ choices) (first_cut l.answers.cut None) l) none
    ∙ ap (λ x. with_parts l.client l.server l.answers.replies l.answers.connects choices x l) (ap (λ c. first_cut c None) no_cut ∙ sym no_cut)

-- n bytes of the client were passed on, and n of the server
abbrev pub passed_client : ℕ → Stream → TraceState → TraceState
passed_client n c l = record l {
  client = read n c;
  sent = record l.sent { server = l.sent.server + length (take n c.unread) };
  answers = record l.answers { choices = [] };
}

abbrev pub passed_server : ℕ → Stream → TraceState → TraceState
passed_server n s l = record l {
  server = There (read n s);
  sent = record l.sent { client = l.sent.client + length (take n s.unread) };
  answers = record l.answers { choices = [] };
}

module _ (g : Setup) (c s : Incoming) (l : TraceState) (n : ℕ) (r : InRelay c s l) (none : l.answers.choices ≡ []) (left : (is_done c && is_done s) ≡ false) (some : 0 < n) where
  -- on this choice
  abbrev chosen : Side → TraceState
  chosen side = with_choices (PassesOn side n ∷ []) l

  relays_on : (side : Side) → InRelay c s (chosen side)
  relays_on side = record { no_cut = r.no_cut; phase = r.phase; client = r.client; server = r.server; client_asks = r.client_asks; server_asks = r.server_asks }

  pub passes_client : c.asks ≡ NotAsked → n ≤ length c.stream.unread → next_item g (longer (choosing (PassesOn Client n ∷ []) None) l) ≡ Does (Passed Client (ToServer l.sent.number) (take n c.stream.unread)) (passed_client n c.stream l)
  passes_client free within =
      ap (next_item g) (longer_choices (PassesOn Client n ∷ []) l none r.no_cut)
      ∙ relay_passes g c s (chosen Client) (relays_on Client) Client n [] refl left free some within
      ∙ ap (λ x. Does (Passed Client (ToServer l.sent.number) (take n x.unread)) (passed_client n x (record l { phase = Relaying }))) r.client
      ∙ ap (λ p. Does (Passed Client (ToServer l.sent.number) (take n c.stream.unread)) (passed_client n c.stream (record l { phase = p }))) (sym r.phase)

  pub passes_server : s.asks ≡ NotAsked → n ≤ length s.stream.unread → next_item g (longer (choosing (PassesOn Server n ∷ []) None) l) ≡ Does (Passed Server ToClient (take n s.stream.unread)) (passed_server n s.stream l)
  passes_server free within =
      ap (next_item g) (longer_choices (PassesOn Server n ∷ []) l none r.no_cut)
      ∙ relay_passes g c s (chosen Server) (relays_on Server) Server n [] refl left free some within
      ∙ ap (λ v. counted l.sent (relay_next g (record (chosen Server) { server = v }) (Passing Server n []))) r.server
      ∙ ap (λ p. Does (Passed Server ToClient (take n s.stream.unread)) (passed_server n s.stream (record l { phase = p }))) (sym r.phase)
