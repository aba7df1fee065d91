-- What the commands that are there leave of the host's state: in an event of a side only the collect of
-- that side changes, and what they send is counted; in any other event they collect and send nothing.
use Rattle.std.proofs.Common.{◌≡◌, refl, sym, ap, subst, ◌∙◌, ℕ, ◌+◌, ◌≤◌, List, [], ◌∷◌, length, ◌==◌, ℤ, Bool, true, false, ◌&&◌, not, true≢false, if◌then◌else◌, Option, Some, None, Result, Ok, Err, arith}
use Rattle.std.specs.Prelude.{codes, nat_lt}
use Rattle.std.specs.List.{list_any}
use Rattle.std.specs.Option.{is_some}
use Rattle.std.specs.Str.{bytes_eq}
use Rattle.px_bytes.specs.FaultText.{no_command, too_long}
use Rattle.px_bytes.specs.Gives.{with_value}
use Rattle.px_bytes.specs.Host.{Effect, HostStep, Gives, Faults, Asks, Logged, Sent}
use Rattle.px_bytes.specs.Limit.{limited}
use Rattle.px_bytes.specs.WholeWord.{number_of}
use Rattle.px_bytes.specs.declared.addr.Side.{Side}
use Rattle.px_bytes.specs.declared.addr.Side.TheVariants.{Client, Server}
use Rattle.px_bytes.specs.declared.fault.TclFault.{TclFault}
use Rattle.event_order.specs.Command.{stream_events}
use Rattle.event_order.specs.declared.command.HostCommand.{HostCommand}
use Rattle.event_order.specs.declared.command.HostCommand.TheVariants as command
use Rattle.event_order.specs.declared.event.EventName.{EventName}
use Rattle.irule_net.specs.Checks.{allows, command_of, same_event, shaped}
use Rattle.irule_net.specs.Classes.{class_value}
use Rattle.irule_net.specs.Commands.{asked_by, asked_of, is_http, net_step, stepped}
use Rattle.irule_net.specs.FaultText.{not_here}
use Rattle.irule_net.specs.Forms.{class_form, clock_form, form_of, payload_form, reselect_form, server_form, without_http}
use Rattle.irule_net.specs.Laws.{Fits, left_by, made_by, sent_to}
use Rattle.session_table.specs.Requests.{checked}
use Rattle.irule_net.specs.Requests.{Asked, after_asked, class_asked, collect_asked, count_in, log_asked, members_asked, node_asked, part_asked, pool_asked, replace_asked, request_of, reselect_node_asked, reselect_pool_asked, respond_asked, table_asked}
use Rattle.irule_net.specs.State.{asked_bytes, collected, gone, holds, other, respond_limit, side_of, with_collected}
use Rattle.irule_net.specs.Steps.{Step, collects, ends, releases, replaced, replaces, reselect_limit, reselects, responds}
use Rattle.irule_net.specs.Targets.{node_target, pool_named, pool_target}
use Rattle.irule_net.specs.declared.groups.Groups.{Groups}
use Rattle.irule_net.specs.declared.groups.NamedGroup.{NamedGroup}
use Rattle.irule_net.specs.declared.state.Asks.TheVariants.{Stated}
use Rattle.irule_net.specs.declared.state.Collected.{Collected}
use Rattle.irule_net.specs.declared.state.Ending.{Ending}
use Rattle.irule_net.specs.declared.state.Ending.TheVariants.{Rejects, Closes}
use Rattle.irule_net.specs.declared.state.NetState.{NetState}
use Rattle.irule_net.specs.declared.state.Target.{Target}
use Rattle.irule_net.specs.declared.state.Target.TheVariants.{PoolOf}
use Rattle.irule_net.proofs.Holding.{holding}
use Rattle.irule_net.proofs.Moves.{moves}
use Rattle.event_order.specs.declared.event.EventName.TheVariants.{ClientClosed, ServerClosed}
use Rattle.http_answers.specs.Limits.{head_limit}
use Rattle.irule_http.specs.Laws.{HeadsWithin}
use Rattle.irule_http.specs.Payload.{payload_limit}
use Rattle.conn_trace.specs.Host.{HostState, net_command, first_word, host_step, is_there, names_one, http_of}
use Rattle.conn_trace.specs.Places.{is_closing}

-- ---- what a step leaves

-- an event in which bytes of its side are collected, released and sent
abbrev pub is_stream : EventName → Bool
is_stream event = list_any (same_event event) stream_events

-- with HTTP they do so in none
abbrev pub flows : EventName → (http : Bool) → Bool
flows event http = is_stream event && not http

not_web : (http : Bool) → not (http && true) ≡ not http
not_web true = refl
not_web false = refl

-- it collects nothing, and sends nothing
record Quiet (s : NetState) (step : Step) : Type 0 where
  client : (left_by step).client ≡ s.client
  server : (left_by step).server ≡ s.server
  loose : (left_by step).loose ≡ s.loose
  sends : (side : Side) → sent_to side (made_by step) ≡ 0

-- of the other side's collect nothing changes, and of a server's event no bytes wait for a server
record OwnSide (side : Side) (s : NetState) (step : Step) : Type 0 where
  others : collected (other side) (left_by step) ≡ collected (other side) s
  loose : side ≡ Server → (left_by step).loose ≡ s.loose

record Leaves (event : EventName) (s : NetState) (step : Step) : Type 0 where
  own : OwnSide (side_of event) s step
  outside : flows event s.http ≡ false → Quiet s step

same_side : (side : Side) (s t : NetState) → t.client ≡ s.client → t.server ≡ s.server → collected side t ≡ collected side s
same_side Client s t client server = client
same_side Server s t client server = server

quiet_leaves : (event : EventName) (s : NetState) (step : Step) → Quiet s step → Leaves event s step
quiet_leaves event s step q = record {
  own = record { others = same_side (other (side_of event)) s (left_by step) q.client q.server; loose = λ e. q.loose };
  outside = λ e. q;
}

gives_quiet : (s : NetState) (v : List ℕ) → Quiet s (Gives v s [])
gives_quiet s v = record { client = refl; server = refl; loose = refl; sends = λ side. refl }

faults_quiet : (s : NetState) (f : TclFault) → Quiet s (Faults f s [])
faults_quiet s f = record { client = refl; server = refl; loose = refl; sends = λ side. refl }

asks_quiet : (s : NetState) (call : List (List ℕ)) → Quiet s (Asks call s)
asks_quiet s call = record { client = refl; server = refl; loose = refl; sends = λ side. refl }

either_quiet : (s : NetState) (b : Bool) (x y : Step) → Quiet s x → Quiet s y → Quiet s (if b then x else y)
either_quiet s true x y p q = p
either_quiet s false x y p q = q

-- ---- what commands of a side's bytes leave

same_own : (side : Side) (s : NetState) (f : TclFault) → OwnSide side s (Faults f s [])
same_own side s f = record { others = refl; loose = λ e. refl }

either_own : (side : Side) (s : NetState) (b : Bool) (x y : Step) → OwnSide side s x → OwnSide side s y → OwnSide side s (if b then x else y)
either_own side s true x y p q = p
either_own side s false x y p q = q

changed_own : (side : Side) (c : Collected) (s : NetState) → OwnSide side s (Gives [] (with_collected side c s) [])
changed_own Client c s = record { others = refl; loose = λ e. refl }
changed_own Server c s = record { others = refl; loose = λ e. refl }

collects_own : (side : Side) (n : ℕ) (s : NetState) → OwnSide side s (collects side n s)
collects_own side n s =
    either_own side s (n == 0) _ _ (record { others = refl; loose = λ e. refl })
    (either_own side s (holds (length (collected side s).held) (gone side s) n) _ _ (changed_own side (record (collected side s) { asks = Stated n }) s) (same_own side s too_long))

releases_own : (side : Side) (s : NetState) → OwnSide side s (releases side s)
releases_own Server s = record { others = refl; loose = λ e. refl }
releases_own Client s = either_own Client s s.relays _ _ (record { others = refl; loose = λ e. refl }) (record { others = refl; loose = λ e. absurd (not_server e) })
  where
    not_server : Client ≡ Server → ⊥
    not_server e = cc

replaces_own : (side : Side) (offset count : ℕ) (text : List ℕ) (s : NetState) → OwnSide side s (replaces side offset count text s)
replaces_own side offset count text s =
    let held = replaced offset count text (collected side s).held in
    either_own side s (holds (length held) (gone side s) (asked_bytes (collected side s).asks)) _ _ (changed_own side (record (collected side s) { held = held }) s) (same_own side s too_long)

responds_own : (side : Side) (text : List ℕ) (s : NetState) → OwnSide side s (responds side text s)
responds_own side text s = either_own side s (nat_lt respond_limit (s.wishes.sent + length text)) _ _ (same_own side s too_long) (by_side side)
  where
    by_side : (to : Side) → OwnSide to s (Gives [] (record s { wishes = record s.wishes { sent = s.wishes.sent + length text } }) (Sent to text ∷ []))
    by_side Client = record { others = refl; loose = λ e. refl }
    by_side Server = record { others = refl; loose = λ e. refl }

-- ---- commands that send nothing

-- what an option holds that isn't empty
abbrev some_of : {A : Type 0} (o : Option A) → is_some o ≡ true → A
some_of (Some a) h = a
some_of None h = absurd (true≢false (sym h))

-- a value that is tested, or tested twice, and the form of a command with its number of words
one_test : {A C : Type 0} (P : Result C TclFault → Type 0) (x : Result A TclFault) (k : A → Result C TclFault) → ((a : A) → P (k a)) → ((e : TclFault) → P (Err e)) → P (with_value x k)
one_test P (Ok a) k good bad = good a
one_test P (Err e) k good bad = bad e

two_tests : {A B C : Type 0} (P : Result C TclFault → Type 0) (x : Result A TclFault) (g : A → Result B TclFault) (k : B → Result C TclFault) → ((b : B) → P (k b)) → ((e : TclFault) → P (Err e)) → P (with_value x (λ a. with_value (g a) k))
two_tests {A} {B} {C} P (Ok a) g k good bad = second (g a)
  where
    second : (y : Result B TclFault) → P (with_value y k)
    second (Ok b) = good b
    second (Err e) = bad e
two_tests P (Err e) g k good bad = bad e

fitting : {A B : Type 0} (P : Result B TclFault → Type 0) (k : A → Result B TclFault) (b c : Bool) (f : A) (x y : TclFault) → P (k f) → ((e : TclFault) → P (Err e)) → P (with_value (if b then (if c then Ok f else Err x) else Err y) k)
fitting P k true true f x y good bad = good
fitting P k true false f x y good bad = bad x
fitting P k false c f x y good bad = bad y

-- the same of a command that any number of words fits
allowing : {A B : Type 0} (P : Result B TclFault → Type 0) (k : A → Result B TclFault) (b : Bool) (f : A) (y : TclFault) → P (k f) → ((e : TclFault) → P (Err e)) → P (with_value (if b then Ok f else Err y) k)
allowing P k true f y good bad = good
allowing P k false f y good bad = bad y

unnamed : {A B : Type 0} (P : Result B TclFault → Type 0) (k : A → Result B TclFault) (b c : Bool) (x y z : TclFault) → ((e : TclFault) → P (Err e)) → P (with_value (if b then (if c then Err x else Err y) else Err z) k)
unnamed P k true true x y z bad = bad x
unnamed P k true false x y z bad = bad y
unnamed P k false c x y z bad = bad z

-- a form that is told by a word, by one test after another
three : {A : Type 0} (Q : Option A → Type 0) (a b c : Bool) (f g h : A) (y : Option A) → Q (Some f) → Q (Some g) → Q (Some h) → Q y → Q (if a then Some f else (if b then Some g else (if c then Some h else y)))
three Q true b c f g h y p q r z = p
three Q false true c f g h y p q r z = q
three Q false false true f g h y p q r z = r
three Q false false false f g h y p q r z = z

single : {A : Type 0} (Q : Option A → Type 0) (a : Bool) (f : A) (y : Option A) → Q (Some f) → Q y → Q (if a then Some f else y)
single Q true f y p q = p
single Q false f y p q = q

two : {A : Type 0} (Q : Option A → Type 0) (a b : Bool) (f g : A) (y : Option A) → Q (Some f) → Q (Some g) → Q y → Q (if a then Some f else (if b then Some g else y))
two Q true b f g y p q r = p
two Q false true f g y p q r = q
two Q false false f g y p q r = r

module _ (groups : Groups) (event : EventName) (s : NetState) (words : List (List ℕ)) where
  -- what a request does is quiet
  record P (a : Asked) : Type 0 where
    is : Quiet s (stepped event a s)

  does : {a : Asked} → Quiet s (stepped event a s) → P a
  does q = record { is = q }

  bad : (e : TclFault) → P (Err e)
  bad e = does (faults_quiet s e)

  -- it only gives a text
  gives : (v : List ℕ) → Quiet s (Gives v s [])
  gives v = gives_quiet s v

  sends_line : (text : List ℕ) (to : Side) → sent_to to (Logged text ∷ []) ≡ 0
  sends_line text Client = refl
  sends_line text Server = refl

  log_quiet : (ws : List (List ℕ)) → P (log_asked ws)
  log_quiet [] = bad _
  log_quiet (text ∷ []) = does (record { client = refl; server = refl; loose = refl; sends = sends_line text })
  log_quiet (facility ∷ (text ∷ [])) = does (record { client = refl; server = refl; loose = refl; sends = sends_line text })
  log_quiet (facility ∷ (text ∷ (more ∷ ws))) = bad _

  table_quiet : P (table_asked words)
  table_quiet = one_test {A = Unit {0}} P (checked words) _ (λ known. does (asks_quiet s _)) bad

  members_quiet : (ws : List (List ℕ)) → P (members_asked groups.pools ws)
  members_quiet [] = bad _
  members_quiet (name ∷ []) = one_test {A = Unit {0}} P (pool_named groups.pools name) _ (λ there. does (asks_quiet s _)) bad
  members_quiet (name ∷ (more ∷ ws)) = bad _

  after_quiet : (ws : List (List ℕ)) → P (after_asked ws)
  after_quiet [] = bad _
  after_quiet (word ∷ []) = two_tests {A = ℤ} {B = ℕ} P (number_of word) count_in _ (λ n. does (asks_quiet s _)) bad
  after_quiet (word ∷ (more ∷ ws)) = bad _

  -- where a server comes from
  target_quiet : (target : Target) → Quiet s (Gives [] (record s { target = target }) [])
  target_quiet target = record { client = refl; server = refl; loose = refl; sends = λ to. refl }

  ends_quiet : (ending : Ending) → Quiet s (Gives [] (ends ending s) [])
  ends_quiet ending = record { client = refl; server = refl; loose = refl; sends = λ to. refl }

  detaches_quiet : Quiet s (Gives [] (record s { wishes = record s.wishes { detaches = true } }) [])
  detaches_quiet = record { client = refl; server = refl; loose = refl; sends = λ to. refl }

  reselects_quiet : (target : Target) → Quiet s (reselects target s)
  reselects_quiet target = either_quiet s (nat_lt s.reselects reselect_limit) _ _ (record { client = refl; server = refl; loose = refl; sends = λ to. refl }) (faults_quiet s _)

  pool_quiet : P (pool_asked groups.pools s.port words)
  pool_quiet = one_test {A = Target} P (pool_target groups.pools s.port words) _ (λ target. does (target_quiet target)) bad

  node_quiet : P (node_asked s.port words)
  node_quiet = one_test {A = Target} P (node_target (codes "node") s.port words) _ (λ target. does (target_quiet target)) bad

  reselect_pool_quiet : (ws : List (List ℕ)) → P (reselect_pool_asked groups.pools ws)
  reselect_pool_quiet [] = bad _
  reselect_pool_quiet (word ∷ []) = bad _
  reselect_pool_quiet (word ∷ (name ∷ [])) = one_test {A = Unit {0}} P (pool_named groups.pools name) _ (λ there. does (reselects_quiet (PoolOf name))) bad
  reselect_pool_quiet (word ∷ (name ∷ (more ∷ ws))) = bad _

  reselect_node_quiet : (ws : List (List ℕ)) → P (reselect_node_asked s.port ws)
  reselect_node_quiet [] = bad _
  reselect_node_quiet (word ∷ ws) = one_test {A = Target} P (node_target (codes "LB::reselect") s.port ws) _ (λ target. does (reselects_quiet target)) bad

  class_asked_quiet : (classes : List NamedGroup) (f : _) (ws : List (List ℕ)) → P (class_asked classes f ws)
  class_asked_quiet classes f ws = two_tests {A = List ℕ} {B = List ℕ} P (class_value classes f ws) limited _ (λ text. does (gives text)) bad

  -- what the words of a form ask, of the forms that do that
  class_request : (f : _) → request_of groups s.port f words ≡ class_asked groups.classes f words → P (request_of groups s.port f words)
  class_request f is = subst P (sym is) (class_asked_quiet groups.classes f words)

  tell_request : (f : _) (v : List ℕ) → stepped event (request_of groups s.port f words) s ≡ Gives v s [] → P (request_of groups s.port f words)
  tell_request f v is = does (subst (Quiet s) (sym is) (gives v))

  abbrev allowed : HostCommand → Bool
  allowed c = allows c event && not (s.http && without_http c)

  class_quiet : (ws : List (List ℕ)) → P (with_value (if allowed command.Class then shaped command.Class (class_form ws) (length words) else Err (not_here (codes "class"))) (λ form. request_of groups s.port form words))
  class_quiet [] = unnamed P _ (allowed command.Class) _ _ _ _ bad
  class_quiet (word ∷ ws) =
      three (λ o. P (with_value (if allowed command.Class then shaped command.Class o (length words) else Err (not_here (codes "class"))) (λ form. request_of groups s.port form words)))
      (bytes_eq word (codes "match")) (bytes_eq word (codes "search")) (bytes_eq word (codes "lookup")) _ _ _ _
      (fitting P _ (allowed command.Class) _ _ _ _ (class_request (some_of (class_form (codes "match" ∷ [])) refl) refl) bad)
      (fitting P _ (allowed command.Class) _ _ _ _ (class_request (some_of (class_form (codes "search" ∷ [])) refl) refl) bad)
      (fitting P _ (allowed command.Class) _ _ _ _ (class_request (some_of (class_form (codes "lookup" ∷ [])) refl) refl) bad)
      (three (λ o. P (with_value (if allowed command.Class then shaped command.Class o (length words) else Err (not_here (codes "class"))) (λ form. request_of groups s.port form words)))
      (bytes_eq word (codes "exists")) (bytes_eq word (codes "size")) (bytes_eq word (codes "names")) _ _ _ _
      (fitting P _ (allowed command.Class) _ _ _ _ (class_request (some_of (class_form (codes "exists" ∷ [])) refl) refl) bad)
      (fitting P _ (allowed command.Class) _ _ _ _ (class_request (some_of (class_form (codes "size" ∷ [])) refl) refl) bad)
      (fitting P _ (allowed command.Class) _ _ _ _ (class_request (some_of (class_form (codes "names" ∷ [])) refl) refl) bad)
      (unnamed P _ (allowed command.Class) _ _ _ _ bad))

  clock_quiet : (ws : List (List ℕ)) → P (with_value (if allowed command.Clock then shaped command.Clock (clock_form ws) (length words) else Err (not_here (codes "clock"))) (λ form. request_of groups s.port form words))
  clock_quiet [] = unnamed P _ (allowed command.Clock) _ _ _ _ bad
  clock_quiet (word ∷ ws) =
      single (λ o. P (with_value (if allowed command.Clock then shaped command.Clock o (length words) else Err (not_here (codes "clock"))) (λ form. request_of groups s.port form words)))
      (bytes_eq word (codes "seconds")) _ _
      (fitting P _ (allowed command.Clock) _ _ _ _ (does (asks_quiet s _)) bad)
      (unnamed P _ (allowed command.Clock) _ _ _ _ bad)

  server_quiet : (ws : List (List ℕ)) → P (with_value (if allowed command.LbServer then shaped command.LbServer (server_form ws) (length words) else Err (not_here (codes "LB::server"))) (λ form. request_of groups s.port form words))
  server_quiet [] = unnamed P _ (allowed command.LbServer) _ _ _ _ bad
  server_quiet (word ∷ ws) =
      three (λ o. P (with_value (if allowed command.LbServer then shaped command.LbServer o (length words) else Err (not_here (codes "LB::server"))) (λ form. request_of groups s.port form words)))
      (bytes_eq word (codes "pool")) (bytes_eq word (codes "addr")) (bytes_eq word (codes "port")) _ _ _ _
      (fitting P _ (allowed command.LbServer) _ _ _ _ (tell_request (some_of (server_form (codes "pool" ∷ [])) refl) _ refl) bad)
      (fitting P _ (allowed command.LbServer) _ _ _ _ (tell_request (some_of (server_form (codes "addr" ∷ [])) refl) _ refl) bad)
      (fitting P _ (allowed command.LbServer) _ _ _ _ (tell_request (some_of (server_form (codes "port" ∷ [])) refl) _ refl) bad)
      (unnamed P _ (allowed command.LbServer) _ _ _ _ bad)

  reselect_quiet : (ws : List (List ℕ)) → P (with_value (if allowed command.LbReselect then shaped command.LbReselect (reselect_form ws) (length words) else Err (not_here (codes "LB::reselect"))) (λ form. request_of groups s.port form words))
  reselect_quiet [] = fitting P _ (allowed command.LbReselect) _ _ _ _ (does (reselects_quiet s.target)) bad
  reselect_quiet (word ∷ []) = unnamed P _ (allowed command.LbReselect) _ _ _ _ bad
  reselect_quiet (word ∷ (name ∷ [])) =
      two (λ o. P (with_value (if allowed command.LbReselect then shaped command.LbReselect o (length words) else Err (not_here (codes "LB::reselect"))) (λ form. request_of groups s.port form words))) (bytes_eq word (codes "pool")) (bytes_eq word (codes "node")) _ _ _
      (fitting P _ (allowed command.LbReselect) _ _ _ _ (reselect_pool_quiet words) bad)
      (fitting P _ (allowed command.LbReselect) _ _ _ _ (reselect_node_quiet words) bad)
      (unnamed P _ (allowed command.LbReselect) _ _ _ _ bad)
  reselect_quiet (word ∷ (addr ∷ (port ∷ []))) =
      single (λ o. P (with_value (if allowed command.LbReselect then shaped command.LbReselect o (length words) else Err (not_here (codes "LB::reselect"))) (λ form. request_of groups s.port form words))) (bytes_eq word (codes "node")) _ _
      (fitting P _ (allowed command.LbReselect) _ _ _ _ (reselect_node_quiet words) bad)
      (unnamed P _ (allowed command.LbReselect) _ _ _ _ bad)
  reselect_quiet (word ∷ (addr ∷ (port ∷ (more ∷ ws)))) = unnamed P _ (allowed command.LbReselect) _ _ _ _ bad

  -- ---- commands of a side's bytes

  -- of a request in an event of a side's bytes
  record Own (a : Asked) : Type 0 where
    is : OwnSide (side_of event) s (stepped event a s)

  owns : {a : Asked} → OwnSide (side_of event) s (stepped event a s) → Own a
  owns q = record { is = q }

  wrong : (e : TclFault) → Own (Err e)
  wrong e = owns (same_own (side_of event) s e)

  collect_own : (ws : List (List ℕ)) → Own (collect_asked ws)
  collect_own [] = wrong _
  collect_own (word ∷ []) = two_tests {A = ℤ} {B = ℕ} Own (number_of word) count_in _ (λ n. owns (collects_own (side_of event) n s)) wrong
  collect_own (word ∷ (more ∷ ws)) = wrong _

  part_own : (first second text : List ℕ) → Own (part_asked first second text)
  part_own first second text =
      one_test {A = ℤ} Own (number_of first) _ (λ n. one_test {A = ℤ} Own (number_of second) _ (λ m. one_test {A = ℕ} Own (count_in n) _ (λ offset. one_test {A = ℕ} Own (count_in m) _ (λ count. owns (replaces_own (side_of event) offset count text s)) wrong) wrong) wrong) wrong

  replace_own : (ws : List (List ℕ)) → Own (replace_asked ws)
  replace_own [] = wrong _
  replace_own (word ∷ []) = wrong _
  replace_own (word ∷ (offset ∷ [])) = wrong _
  replace_own (word ∷ (offset ∷ (count ∷ []))) = wrong _
  replace_own (word ∷ (offset ∷ (count ∷ (text ∷ [])))) = part_own offset count text
  replace_own (word ∷ (offset ∷ (count ∷ (text ∷ (more ∷ ws))))) = wrong _

  respond_own : (ws : List (List ℕ)) → Own (respond_asked ws)
  respond_own [] = wrong _
  respond_own (text ∷ []) = owns (responds_own (side_of event) text s)
  respond_own (text ∷ (more ∷ ws)) = wrong _

  -- by whether it is allowed
  record L (a : Asked) : Type 0 where
    is : Leaves event s (stepped event a s)

  silent : {a : Asked} → P a → L a
  silent q = record { is = quiet_leaves event s _ q.is }

  bad_leaves : (e : TclFault) → L (Err e)
  bad_leaves e = silent (bad e)

  stream : {A : Type 0} (k : A → Asked) (may free arity : Bool) (f : A) (x y : TclFault) → is_stream event ≡ may → free ≡ not s.http → Own (k f) → L (with_value (if may && free then (if arity then Ok f else Err x) else Err y) k)
  stream k false free arity f x y e w q = bad_leaves y
  stream k true false arity f x y e w q = bad_leaves y
  stream k true true false f x y e w q = bad_leaves x
  stream k true true true f x y e w q =
      record { is = record { own = q.is; outside = λ n. absurd (true≢false (sym (ap (λ b. b && not s.http) e ∙ sym w) ∙ n)) } }

  payload_leaves : (ws : List (List ℕ)) → L (with_value (if allowed command.TcpPayload then shaped command.TcpPayload (payload_form ws) (length words) else Err (not_here (codes "TCP::payload"))) (λ form. request_of groups s.port form words))
  payload_leaves [] = silent (fitting P _ (allowed command.TcpPayload) _ _ _ _ (tell_request (some_of (payload_form []) refl) _ refl) bad)
  payload_leaves (word ∷ []) =
      single (λ o. L (with_value (if allowed command.TcpPayload then shaped command.TcpPayload o (length words) else Err (not_here (codes "TCP::payload"))) (λ form. request_of groups s.port form words)))
      (bytes_eq word (codes "length")) _ _
      (silent (fitting P _ (allowed command.TcpPayload) _ _ _ _ (tell_request (some_of (payload_form (codes "length" ∷ [])) refl) _ refl) bad))
      (silent (unnamed P _ (allowed command.TcpPayload) _ _ _ _ bad))
  payload_leaves (word ∷ (at ∷ [])) = silent (unnamed P _ (allowed command.TcpPayload) _ _ _ _ bad)
  payload_leaves (word ∷ (at ∷ (n ∷ []))) = silent (unnamed P _ (allowed command.TcpPayload) _ _ _ _ bad)
  payload_leaves (word ∷ (at ∷ (n ∷ (text ∷ [])))) =
      single (λ o. L (with_value (if allowed command.TcpPayload then shaped command.TcpPayload o (length words) else Err (not_here (codes "TCP::payload"))) (λ form. request_of groups s.port form words)))
      (bytes_eq word (codes "replace")) _ _
      (stream _ (is_stream event) _ _ _ _ _ refl (not_web s.http) (replace_own words))
      (silent (unnamed P _ (allowed command.TcpPayload) _ _ _ _ bad))
  payload_leaves (word ∷ (at ∷ (n ∷ (text ∷ (more ∷ ws))))) = silent (unnamed P _ (allowed command.TcpPayload) _ _ _ _ bad)

  command_leaves : (c : HostCommand) → is_there c ≡ true → L (asked_by groups event s c words)
  command_leaves command.Log there = silent (fitting P _ (allowed command.Log) _ _ _ _ (log_quiet words) bad)
  command_leaves command.Class there = silent (class_quiet words)
  command_leaves command.LbServer there = silent (server_quiet words)
  command_leaves command.IpClientAddr there = silent (fitting P _ (allowed command.IpClientAddr) _ _ _ _ (tell_request (some_of (form_of command.IpClientAddr []) refl) _ refl) bad)
  command_leaves command.TcpClientPort there = silent (fitting P _ (allowed command.TcpClientPort) _ _ _ _ (tell_request (some_of (form_of command.TcpClientPort []) refl) _ refl) bad)
  command_leaves command.IpServerAddr there = silent (fitting P _ (allowed command.IpServerAddr) _ _ _ _ (tell_request (some_of (form_of command.IpServerAddr []) refl) _ refl) bad)
  command_leaves command.TcpRespond there = stream _ (is_stream event) _ _ _ _ _ refl (not_web s.http) (respond_own words)
  command_leaves command.TcpCollect there = stream _ (is_stream event) _ _ _ _ _ refl (not_web s.http) (collect_own words)
  command_leaves command.TcpRelease there = stream _ (is_stream event) _ _ _ _ _ refl (not_web s.http) (owns (releases_own (side_of event) s))
  command_leaves command.TcpPayload there = payload_leaves words
  command_leaves command.ActiveMembers there = silent (fitting P _ (allowed command.ActiveMembers) _ _ _ _ (members_quiet words) bad)
  command_leaves command.Table there = silent (allowing P _ (allowed command.Table) _ _ table_quiet bad)
  command_leaves command.Clock there = silent (clock_quiet words)
  command_leaves command.After there = silent (fitting P _ (allowed command.After) _ _ _ _ (after_quiet words) bad)
  command_leaves command.Pool there = silent (fitting P _ (allowed command.Pool) _ _ _ _ pool_quiet bad)
  command_leaves command.Node there = silent (fitting P _ (allowed command.Node) _ _ _ _ node_quiet bad)
  command_leaves command.LbReselect there = silent (reselect_quiet words)
  command_leaves command.LbDetach there = silent (fitting P _ (allowed command.LbDetach) _ _ _ _ (does detaches_quiet) bad)
  command_leaves command.Reject there = silent (fitting P _ (allowed command.Reject) _ _ _ _ (does (ends_quiet Rejects)) bad)
  command_leaves command.Drop there = silent (fitting P _ (allowed command.Drop) _ _ _ _ (does (ends_quiet Rejects)) bad)
  command_leaves command.TcpClose there = silent (fitting P _ (allowed command.TcpClose) _ _ _ _ (does (ends_quiet Closes)) bad)
  command_leaves other there = absurd (cc)

faults_leave : (event : EventName) (s : NetState) (f : TclFault) → Leaves event s (Faults f s [])
faults_leave event s f = quiet_leaves event s _ (faults_quiet s f)

name_leaves : (groups : Groups) (event : EventName) (s : NetState) (name : List ℕ) (words : List (List ℕ)) (o : Option HostCommand) → names_one o ≡ true → Leaves event s (stepped event (asked_of groups event s name words o) s)
name_leaves groups event s name words None there = absurd (true≢false (sym there))
name_leaves groups event s name words (Some c) there = (command_leaves groups event s words c there).is

net_leaves : (groups : Groups) (event : EventName) (s : NetState) (words : List (List ℕ)) → names_one (command_of (first_word words)) ≡ true → Leaves event s (net_step groups event s words)
net_leaves groups event s [] there = faults_leave event s _
net_leaves groups event s (name ∷ words) there = by_http (is_http name)
  where
    by_http : (b : Bool) → Leaves event s (stepped event (if b then Err (no_command name) else asked_of groups event s name words (command_of name)) s)
    by_http true = faults_leave event s _
    by_http false = name_leaves groups event s name words (command_of name) there

-- ---- of the host's state

abbrev pub left : HostStep HostState → HostState
left (Gives v h effects) = h
left (Faults f h effects) = h
left (Asks call h) = h

abbrev pub made : HostStep HostState → List Effect
made (Gives v h effects) = effects
made (Faults f h effects) = effects
made (Asks call h) = []

net_left : (h : HostState) (x : Step) → left (host_step h x) ≡ record h { net = left_by x }
net_left h (Gives v s effects) = refl
net_left h (Faults f s effects) = refl
net_left h (Asks call s) = refl

net_made : (h : HostState) (x : Step) → made (host_step h x) ≡ made_by x
net_made h (Gives v s effects) = refl
net_made h (Faults f s effects) = refl
net_made h (Asks call s) = refl

-- what counts as sent to a side in an event of this side: what its commands send, and what they release
abbrev pub net_credited : Side → Side → NetState → ℕ
net_credited Client Client s = s.wishes.sent
net_credited Client Server s = s.wishes.let_go
net_credited Server Client s = s.wishes.let_go
net_credited Server Server s = s.wishes.sent

-- and to the client what a rule answers
abbrev pub credited : Side → Side → HostState → ℕ
credited own Client h = net_credited own Client h.net + (http_of h).made
credited own Server h = net_credited own Server h.net

-- What a command does of the bytes of a host's state: what it sends and releases to a side is counted, and what
-- is held fits.
pub record Commands (h t : HostState) (effects : List Effect) : Type 0 where
  pub event : t.event ≡ h.event
  pub credits : (side : Side) → credited (side_of h.event) side h + sent_to side effects ≤ credited (side_of h.event) side t
  pub within : h.net.wishes.sent ≤ respond_limit → t.net.wishes.sent ≤ respond_limit
  pub answers : (http_of h).made ≤ respond_limit → (http_of t).made ≤ respond_limit
  pub fits : Fits (side_of h.event) h.net → Fits (side_of h.event) t.net
  pub others : collected (other (side_of h.event)) t.net ≡ collected (other (side_of h.event)) h.net
  pub loose : side_of h.event ≡ Server → t.net.loose ≡ h.net.loose
  pub silent : is_closing h.event ≡ true → (side : Side) → sent_to side effects ≡ 0
  pub http : t.net.http ≡ h.net.http
  pub outside : flows h.event h.net.http ≡ false → (side : Side) → collected side t.net ≡ collected side h.net
  pub payload : length (http_of h).payload ≤ payload_limit → length (http_of t).payload ≤ payload_limit
  pub heads : (most : ℕ) → head_limit ≤ most → HeadsWithin most (http_of h) → HeadsWithin most (http_of t)

-- in a closing event no bytes of a side flow
pub closing_still : (e : EventName) (http : Bool) → is_closing e ≡ true → flows e http ≡ false
closing_still ServerClosed http c = refl
closing_still ClientClosed http c = refl
closing_still e http c = absurd (true≢false (sym c))

counted : (own side : Side) (h : HostState) (t : NetState) (effects : List Effect) → t.wishes.sent ≡ h.net.wishes.sent + sent_to own effects
    → h.net.wishes.let_go + sent_to (other own) effects ≤ t.wishes.let_go → credited own side h + sent_to side effects ≤ credited own side (record h { net = t })
counted Client Client h t effects a b = omega (arith, a)
counted Client Server h t effects a b = b
counted Server Client h t effects a b = omega (arith, b)
counted Server Server h t effects a b = omega (arith, a)

net_commands : (groups : Groups) (h : HostState) (words : List (List ℕ)) → names_one (command_of (first_word words)) ≡ true
    → Commands h (record h { net = left_by (net_step groups h.event h.net words) }) (made_by (net_step groups h.event h.net words))
net_commands groups h words there =
    let x = net_step groups h.event h.net words in
    let m = moves groups h.event h.net words in
    let d = holding groups h.event h.net words in
    let l = net_leaves groups h.event h.net words there in
    record {
      event = refl;
      credits = λ side. counted (side_of h.event) side h (left_by x) (made_by x) m.sent d.passes;
      within = m.within;
      http = m.given.http;
      answers = λ f. f;
      fits = d.fits;
      others = l.own.others;
      loose = l.own.loose;
      silent = λ e. (l.outside (closing_still h.event h.net.http e)).sends;
      outside = λ e side. same_side side h.net (left_by x) (l.outside e).client (l.outside e).server;
      payload = λ f. f;
      heads = λ most m w. w;
    }

pub nothing_done : (h : HostState) → Commands h h []
nothing_done h = record {
  event = refl;
  credits = λ side. omega arith;
  within = λ f. f;
  http = refl;
  answers = λ f. f;
  fits = λ f. f;
  others = refl;
  loose = λ f. refl;
  silent = λ f side. refl;
  outside = λ f side. refl;
  payload = λ f. f;
  heads = λ most m w. w;
}

pub net_leaves_host : (groups : Groups) (h : HostState) (words : List (List ℕ)) → Commands h (left (net_command groups h words)) (made (net_command groups h words))
net_leaves_host groups h words = by_name (names_one (command_of (first_word words))) refl
  where
    by_name : (b : Bool) → names_one (command_of (first_word words)) ≡ b
        → let x = if b then host_step h (net_step groups h.event h.net words) else Faults (no_command (first_word words)) h [] in Commands h (left x) (made x)
    by_name true e =
        let x = net_step groups h.event h.net words in
        subst (λ t. Commands h t (made (host_step h x))) (sym (net_left h x)) (subst (λ es. Commands h (record h { net = left_by x }) es) (sym (net_made h x)) (net_commands groups h words e))
    by_name false e = nothing_done h

pub net_knows : (groups : Groups) (h : HostState) (words : List (List ℕ)) → (left (net_command groups h words)).http ≡ h.http
net_knows groups h words = by_name (names_one (command_of (first_word words)))
  where
    by_name : (b : Bool) → (left (if b then host_step h (net_step groups h.event h.net words) else Faults (no_command (first_word words)) h [])).http ≡ h.http
    by_name true = ap (λ (t : HostState). t.http) (net_left h (net_step groups h.event h.net words))
    by_name false = refl
