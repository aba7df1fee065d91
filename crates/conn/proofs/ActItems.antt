-- What the items of a body's acts send and show, with what stands behind them.
use Rattle.std.proofs.Common.{◌≡◌, refl, sym, ap, ◌∙◌, ℕ, ◌+◌, List, [], ◌∷◌, ◌++◌, append-nil, append_assoc, map, length, length-append, Bool, true, false, true≢false, arith, nat_eq, if◌then◌else◌}
use Rattle.px_bytes.specs.declared.addr.Side.TheVariants.{Client, Server}
use Rattle.rule_model.specs.Host as effect
use Rattle.rule_model.specs.Host.{Effect}
use Rattle.rule_model.specs.Outcome.{Act, Did}
use Rattle.rule_model.specs.Outcome as act
use Rattle.event_order.specs.declared.event.EventName.{EventName}
use Rattle.conn_trace.specs.Item.{Item, Ran, calls_in, client_output, choices_in, server_output}
use Rattle.core_events.specs.declared.note.Note.TheVariants as note
use Rattle.conn_trace.specs.Gates.{Counts, TakenCounts, Met, sent_after, sent_from}
use Rattle.conn_trace.specs.Bodies.{act_item}
use Rattle.frames.specs.Went.{effects_in}
use Rattle.conn.specs.Hosts.{SendsWhere, client_bytes, server_bytes, logs_of}
use Rattle.conn.specs.Servers.{ServerQueue, queue_along, run_notes}
use Rattle.conn.proofs.Giving.{quiet_queue}
use Rattle.conn.proofs.Joining.{TakesNone, TakesNoCut}

-- the calls among acts
abbrev pub calls_made : List Act → List (List (List ℕ))
calls_made [] = []
calls_made (Did e ∷ acts) = calls_made acts
calls_made (act.Called path call ∷ acts) = call ∷ calls_made acts

-- items that send, show and take nothing, and may always be given
pub record Silent (c : ℕ) (took : TakenCounts) (tail : List Item) : Type 0 where
  pub met : (sent : Counts) → Met sent took tail
  pub client : client_output tail ≡ []
  pub servers : (q : ServerQueue) → queue_along tail q ≡ q
  pub to_none : server_output 0 tail ≡ []
  pub noted : (sent : Counts) → run_notes c sent took tail ≡ []
  pub sent : (sent : Counts) → sent_from sent tail ≡ sent
  pub takes : TakesNone tail
  pub calls : calls_in tail ≡ []

pub no_tail : (c : ℕ) (took : TakenCounts) → Silent c took []
no_tail c took = record { met = λ s. tt; client = refl; servers = λ q. refl; to_none = refl; noted = λ s. refl; sent = λ s. refl; takes = (refl, λ t. refl); calls = refl }

pub end_tail : (c : ℕ) (took : TakenCounts) (e : EventName) (cost : ℕ) → Silent c took (Ran e cost ∷ [])
end_tail c took e cost = record { met = λ s. (refl, tt); client = refl; servers = λ q. quiet_queue q; to_none = refl; noted = λ s. refl; sent = λ s. refl; takes = (refl, λ t. refl); calls = refl }

module _ (c number : ℕ) (took : TakenCounts) (tail : List Item) (t : Silent c took tail) where
  abbrev items : List Act → List Item
  items xs = map (act_item number) xs ++ tail

  pub acts_met : (xs : List Act) (sent : Counts) → Met sent took (items xs)
  acts_met [] sent = t.met sent
  acts_met (Did (effect.Logged text) ∷ xs) sent = (refl, acts_met xs (sent_after (act_item number (Did (effect.Logged text))) sent))
  acts_met (Did (effect.Sent side bytes) ∷ xs) sent = (refl, acts_met xs (sent_after (act_item number (Did (effect.Sent side bytes))) sent))
  acts_met (act.Called path call ∷ xs) sent = (refl, acts_met xs sent)

  pub acts_client : (xs : List Act) → client_output (items xs) ≡ client_bytes (effects_in xs)
  acts_client [] = t.client
  acts_client (Did (effect.Logged text) ∷ xs) = acts_client xs
  acts_client (Did (effect.Sent Client bytes) ∷ xs) = ap (λ x. bytes ++ x) (acts_client xs)
  acts_client (Did (effect.Sent Server bytes) ∷ xs) = acts_client xs
  acts_client (act.Called path call ∷ xs) = acts_client xs

  pub acts_server : (xs : List Act) (q : ServerQueue) → queue_along (items xs) q ≡ record q { queued = q.queued ++ server_bytes (effects_in xs) }
  acts_server [] q = t.servers q ∙ sym (quiet_queue q)
  acts_server (Did (effect.Logged text) ∷ xs) q = acts_server xs (record q { queued = q.queued ++ [] }) ∙ ap (λ x. record q { queued = x ++ server_bytes (effects_in xs) }) (append-nil q.queued)
  acts_server (Did (effect.Sent Client bytes) ∷ xs) q = acts_server xs (record q { queued = q.queued ++ [] }) ∙ ap (λ x. record q { queued = x ++ server_bytes (effects_in xs) }) (append-nil q.queued)
  acts_server (Did (effect.Sent Server bytes) ∷ xs) q = acts_server xs (record q { queued = q.queued ++ bytes }) ∙ ap (λ x. record q { queued = x }) (append_assoc q.queued bytes (server_bytes (effects_in xs)))
  acts_server (act.Called path call ∷ xs) q = acts_server xs (record q { queued = q.queued ++ [] }) ∙ ap (λ x. record q { queued = x ++ server_bytes (effects_in xs) }) (append-nil q.queued)

  -- what is sent to a server goes to one that was made
  pub acts_to_none : (up : Bool) (xs : List Act) → SendsWhere up (effects_in xs) → (up ≡ true → nat_eq number 0 ≡ false) → server_output 0 (items xs) ≡ []
  acts_to_none up [] p k = t.to_none
  acts_to_none up (Did (effect.Logged text) ∷ xs) p k = acts_to_none up xs p k
  acts_to_none up (Did (effect.Sent Client bytes) ∷ xs) p k = acts_to_none up xs p k
  acts_to_none up (Did (effect.Sent Server bytes) ∷ xs) p k = ap (λ b. (if b then bytes else []) ++ server_output 0 (items xs)) (k p.0) ∙ acts_to_none up xs p.1 k
  acts_to_none up (act.Called path call ∷ xs) p k = acts_to_none up xs p k

  pub acts_calls : (xs : List Act) → calls_in (items xs) ≡ calls_made xs
  acts_calls [] = t.calls
  acts_calls (Did (effect.Logged text) ∷ xs) = acts_calls xs
  acts_calls (Did (effect.Sent side bytes) ∷ xs) = acts_calls xs
  acts_calls (act.Called path call ∷ xs) = ap (λ x. call ∷ x) (acts_calls xs)

  pub acts_noted : (xs : List Act) (sent : Counts) → run_notes c sent took (items xs) ≡ logs_of c (effects_in xs)
  acts_noted [] sent = t.noted sent
  acts_noted (Did (effect.Logged text) ∷ xs) sent = ap (λ x. note.Log c text ∷ x) (acts_noted xs (sent_after (act_item number (Did (effect.Logged text))) sent))
  acts_noted (Did (effect.Sent side bytes) ∷ xs) sent = acts_noted xs (sent_after (act_item number (Did (effect.Sent side bytes))) sent)
  acts_noted (act.Called path call ∷ xs) sent = acts_noted xs (sent_after (act_item number (act.Called path call)) sent)

  acts_choices : (xs : List Act) → choices_in (items xs) ≡ []
  acts_choices [] = t.takes.0
  acts_choices (Did (effect.Logged text) ∷ xs) = acts_choices xs
  acts_choices (Did (effect.Sent side bytes) ∷ xs) = acts_choices xs
  acts_choices (act.Called path call ∷ xs) = acts_choices xs

  acts_uncut : (xs : List Act) → TakesNoCut (items xs)
  acts_uncut [] k = t.takes.1 k
  acts_uncut (Did (effect.Logged text) ∷ xs) k = acts_uncut xs k
  acts_uncut (Did (effect.Sent side bytes) ∷ xs) k = acts_uncut xs k
  acts_uncut (act.Called path call ∷ xs) k = acts_uncut xs k

  pub acts_take : (xs : List Act) → TakesNone (items xs)
  acts_take xs = (acts_choices xs, acts_uncut xs)

  -- what they leave of what was sent
  pub acts_sent_client : (xs : List Act) (sent : Counts) → (sent_from sent (items xs)).client ≡ sent.client + length (client_bytes (effects_in xs))
  acts_sent_client [] sent = ap (λ s. s.client) (t.sent sent) ∙ omega arith
  acts_sent_client (Did (effect.Logged text) ∷ xs) sent = acts_sent_client xs sent
  acts_sent_client (Did (effect.Sent Client bytes) ∷ xs) sent =
      let more = acts_sent_client xs (sent_after (act_item number (Did (effect.Sent Client bytes))) sent) in
      let joined = length-append bytes (client_bytes (effects_in xs)) in omega (arith, more, joined)
  acts_sent_client (Did (effect.Sent Server bytes) ∷ xs) sent = acts_sent_client xs (sent_after (act_item number (Did (effect.Sent Server bytes))) sent)
  acts_sent_client (act.Called path call ∷ xs) sent = acts_sent_client xs sent

  pub acts_sent_server : (xs : List Act) (sent : Counts) → (sent_from sent (items xs)).server ≡ sent.server + length (server_bytes (effects_in xs))
  acts_sent_server [] sent = ap (λ s. s.server) (t.sent sent) ∙ omega arith
  acts_sent_server (Did (effect.Logged text) ∷ xs) sent = acts_sent_server xs sent
  acts_sent_server (Did (effect.Sent Server bytes) ∷ xs) sent =
      let more = acts_sent_server xs (sent_after (act_item number (Did (effect.Sent Server bytes))) sent) in
      let joined = length-append bytes (server_bytes (effects_in xs)) in omega (arith, more, joined)
  acts_sent_server (Did (effect.Sent Client bytes) ∷ xs) sent = acts_sent_server xs (sent_after (act_item number (Did (effect.Sent Client bytes))) sent)
  acts_sent_server (act.Called path call ∷ xs) sent = acts_sent_server xs sent

  pub acts_number : (xs : List Act) (sent : Counts) → (sent_from sent (items xs)).number ≡ sent.number
  acts_number [] sent = ap (λ s. s.number) (t.sent sent)
  acts_number (Did (effect.Logged text) ∷ xs) sent = acts_number xs sent
  acts_number (Did (effect.Sent Client bytes) ∷ xs) sent = acts_number xs (sent_after (act_item number (Did (effect.Sent Client bytes))) sent)
  acts_number (Did (effect.Sent Server bytes) ∷ xs) sent = acts_number xs (sent_after (act_item number (Did (effect.Sent Server bytes))) sent)
  acts_number (act.Called path call ∷ xs) sent = acts_number xs sent

-- a call is no effect
pub called_is_none : (xs : List Act) (path : List ℕ) (call : List (List ℕ)) → effects_in (xs ++ act.Called path call ∷ []) ≡ effects_in xs
called_is_none [] path call = refl
called_is_none (Did e ∷ xs) path call = ap (λ es. e ∷ es) (called_is_none xs path call)
called_is_none (act.Called p q ∷ xs) path call = called_is_none xs path call

-- where there is no server nothing is sent to one
pub sends_none : (up : Bool) (es : List Effect) → SendsWhere up es → up ≡ false → server_bytes es ≡ []
sends_none up [] p down = refl
sends_none up (effect.Logged text ∷ es) p down = sends_none up es p down
sends_none up (effect.Sent Client bytes ∷ es) p down = sends_none up es p down
sends_none up (effect.Sent Server bytes ∷ es) p down = absurd (true≢false (sym p.0 ∙ down))

-- a call is the one behind others
pub call_behind : (xs : List Act) (path : List ℕ) (call : List (List ℕ)) → calls_made (xs ++ act.Called path call ∷ []) ≡ calls_made xs ++ call ∷ []
call_behind [] path call = refl
call_behind (Did e ∷ xs) path call = call_behind xs path call
call_behind (act.Called p q ∷ xs) path call = ap (λ cs. q ∷ cs) (call_behind xs path call)

-- effects are no calls
pub effects_call_none : (es : List Effect) → calls_made (map Did es) ≡ []
effects_call_none [] = refl
effects_call_none (e ∷ es) = effects_call_none es
