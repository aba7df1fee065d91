-- What a command of today does: it leaves each collect but that of its own side as it was, and has one effect at most; it sends to the server only where there is one; one that asks a shared call has none.
use Rattle.std.proofs.Common.{◌≡◌, inl, inr, refl, sym, ap, ◌∙◌, subst, true≢false, ℕ, List, [], ◌∷◌, length, Bool, true, false, Option, Some, None, Result, Ok, Err, ℤ, codes, not, ◌&&◌, ◌+◌, ◌++◌, ◌==◌, nat_lt, if◌then◌else◌}
use Rattle.std.specs.Option.{is_some}
use Rattle.std.specs.List.{list_any}
use Rattle.std.specs.Str.{bytes_eq}
use Rattle.std.proofs.lemmas.Bool.{and_parts}
use Rattle.px_bytes.specs.FaultText.{no_command}
use Rattle.px_bytes.specs.Gives.{with_value}
use Rattle.px_bytes.specs.Host.{Effect, HostStep, Gives, Faults, Asks, Logged, Sent}
use Rattle.px_bytes.specs.Limit.{limited}
use Rattle.px_bytes.specs.declared.addr.Side.{Side}
use Rattle.px_bytes.specs.declared.addr.Side.TheVariants.{Client, Server}
use Rattle.px_bytes.specs.declared.fault.TclFault.{TclFault}
use Rattle.event_order.specs.declared.command.HostCommand.{HostCommand}
use Rattle.event_order.specs.declared.command.HostCommand.TheVariants as command
use Rattle.event_order.specs.Command.{stream_events}
use Rattle.event_order.specs.declared.event.EventName.{EventName}
use Rattle.event_order.specs.declared.event.EventName.TheVariants as event
use Rattle.irule_net.specs.Checks.{allows, command_of, same_event, shaped}
use Rattle.irule_net.specs.FaultText.{not_here}
use Rattle.irule_net.specs.Commands.{asked_by, asked_of, is_http, net_step, stepped}
use Rattle.irule_net.specs.Forms.{class_form, clock_form, form_of, payload_form, reselect_form, server_form, without_http}
use Rattle.irule_net.specs.Classes.{class_value}
use Rattle.session_table.specs.Requests.{checked}
use Rattle.irule_net.specs.Requests.{Asked, after_asked, class_asked, collect_asked, count_in, log_asked, members_asked, node_asked, part_asked, pool_asked, replace_asked, request_of, reselect_node_asked, reselect_pool_asked, respond_asked, table_asked}
use Rattle.px_bytes.specs.WholeWord.{number_of}
use Rattle.irule_net.specs.State.{asked_bytes, collected, gone, holds, other, respond_limit, side_of, with_collected}
use Rattle.irule_net.specs.declared.state.Asks.TheVariants.{Stated}
use Rattle.irule_net.specs.declared.state.Collected.{Collected}
use Rattle.irule_net.specs.Steps.{Step, collects, ends, released, releases, replaced, replaces, reselect_limit, reselects}
use Rattle.irule_net.specs.Targets.{node_target, pool_named, pool_target}
use Rattle.irule_net.specs.declared.groups.Groups.{Groups}
use Rattle.irule_net.specs.declared.groups.NamedGroup.{NamedGroup}
use Rattle.irule_net.specs.declared.state.Ending.{Ending}
use Rattle.irule_net.specs.declared.state.Ending.TheVariants.{Rejects, Closes}
use Rattle.irule_net.specs.declared.state.NetState.{NetState}
use Rattle.irule_net.specs.declared.state.Target.{Target}
use Rattle.irule_net.specs.declared.state.Target.TheVariants.{PoolOf}
use Rattle.conn.specs.Events.{collects_in}
use Rattle.conn.specs.Hosts.{KeepsCollects}
use Rattle.conn_trace.specs.Host.{HostState, commands, commands_by, first_word, host_step, http_done, is_there, names_one, net_command}
use Rattle.irule_http.specs.Commands.{http_step}
use Rattle.irule_http.specs.Laws.{Once, made}
use Rattle.irule_http.proofs.Once.{http_once}
use Rattle.irule_http.specs.declared.state.Http.{Http}

-- in an event of this side, where there is a server or none, bytes may be sent to a side
abbrev pub MaySend : Side → (relays : Bool) → Side → Type 0
MaySend Server relays to = Unit {0}
MaySend Client relays Client = Unit {0}
MaySend Client relays Server = relays ≡ true

-- one effect at most, and what is sent may be
abbrev pub OneTo : Side → (relays : Bool) → List Effect → Type 0
OneTo side relays [] = Unit {0}
OneTo side relays (Logged text ∷ []) = Unit {0}
OneTo side relays (Sent to bytes ∷ []) = MaySend side relays to
OneTo side relays (e ∷ (f ∷ es)) = ⊥

to_own : (side : Side) (relays : Bool) → MaySend side relays side
to_own Client relays = tt
to_own Server relays = tt

to_client : (side : Side) (relays : Bool) → MaySend side relays Client
to_client Client relays = tt
to_client Server relays = tt

to_server : (side : Side) (relays : Bool) → relays ≡ true → MaySend side relays Server
to_server Client relays is = is
to_server Server relays is = tt

-- a state with the same collects
same_side : (side : Side) (s t : NetState) → t.client ≡ s.client → t.server ≡ s.server → collected side t ≡ collected side s
same_side Client s t client server = client
same_side Server s t client server = server

beside : (e : EventName) (s t : NetState) → t.from ≡ s.from → t.relays ≡ s.relays → t.client ≡ s.client → t.server ≡ s.server → KeepsCollects e s t
beside e s t from relays client server = record { from = from; relays = relays; kept = λ side free. same_side side s t client server }

pub keeps_all : (e : EventName) (s : NetState) → KeepsCollects e s s
keeps_all e s = record { from = refl; relays = refl; kept = λ side free. refl }

-- in an event in which its own side is collected, that collect alone may change
is_other : (x y : Side) → (x ≡ y → ⊥) → x ≡ other y
is_other Client Client differ = absurd (differ refl)
is_other Client Server differ = refl
is_other Server Client differ = refl
is_other Server Server differ = absurd (differ refl)

own_keeps : (e : EventName) (s t : NetState) → collects_in (side_of e) e ≡ true → t.from ≡ s.from → t.relays ≡ s.relays → collected (other (side_of e)) t ≡ collected (other (side_of e)) s → KeepsCollects e s t
own_keeps e s t own from relays same = record {
  from = from;
  relays = relays;
  kept = λ side free. (let there : side ≡ other (side_of e) = is_other side (side_of e) (λ is. true≢false (sym own ∙ ap (λ x. collects_in x e) (sym is) ∙ free)) in
      ap (λ x. collected x t) there ∙ same ∙ sym (ap (λ x. collected x s) there));
}

changed_from : (side : Side) (c : Collected) (s : NetState) → (with_collected side c s).from ≡ s.from
changed_from Client c s = refl
changed_from Server c s = refl

changed_relays : (side : Side) (c : Collected) (s : NetState) → (with_collected side c s).relays ≡ s.relays
changed_relays Client c s = refl
changed_relays Server c s = refl

changed_other : (side : Side) (c : Collected) (s : NetState) → collected (other side) (with_collected side c s) ≡ collected (other side) s
changed_other Client c s = refl
changed_other Server c s = refl

own_changed : (e : EventName) (c : Collected) (s : NetState) → collects_in (side_of e) e ≡ true → KeepsCollects e s (with_collected (side_of e) c s)
own_changed e c s own = own_keeps e s (with_collected (side_of e) c s) own (changed_from (side_of e) c s) (changed_relays (side_of e) c s) (changed_other (side_of e) c s)

-- the commands of collects are those of these events alone
stream_own : (e : EventName) → list_any (same_event e) stream_events ≡ true → collects_in (side_of e) e ≡ true
stream_own event.RuleInit is = absurd (true≢false (sym is))
stream_own event.ClientAccepted is = refl
stream_own event.ClientData is = refl
stream_own event.ClientClosed is = absurd (true≢false (sym is))
stream_own event.ServerConnected is = refl
stream_own event.ServerData is = refl
stream_own event.ServerClosed is = absurd (true≢false (sym is))
stream_own event.LbSelected is = absurd (true≢false (sym is))
stream_own event.LbFailed is = absurd (true≢false (sym is))
stream_own event.HttpRequest is = absurd (true≢false (sym is))
stream_own event.HttpRequestData is = absurd (true≢false (sym is))
stream_own event.HttpResponse is = absurd (true≢false (sym is))
stream_own event.HttpResponseData is = absurd (true≢false (sym is))

abbrev pub Quick : EventName → NetState → Step → Type 0
Quick e s (Gives v t es) = KeepsCollects e s t × OneTo (side_of e) s.relays es
Quick e s (Faults f t es) = KeepsCollects e s t × OneTo (side_of e) s.relays es
Quick e s (Asks call t) = KeepsCollects e s t

-- what an option holds that isn't empty
abbrev some_of : {A : Type 0} (o : Option A) → is_some o ≡ true → A
some_of (Some a) h = a
some_of None h = absurd (cc)

-- a value that is tested, or tested twice, and the form of a command with its number of words
one_test : {A C : Type 0} (P : Result C TclFault → Type 0) (x : Result A TclFault) (k : A → Result C TclFault) → ((a : A) → P (k a)) → ((e : TclFault) → P (Err e)) → P (with_value x k)
one_test P (Ok a) k good bad = good a
one_test P (Err e) k good bad = bad e

two_tests : {A B C : Type 0} (P : Result C TclFault → Type 0) (x : Result A TclFault) (g : A → Result B TclFault) (k : B → Result C TclFault) → ((b : B) → P (k b)) → ((e : TclFault) → P (Err e)) → P (with_value x (λ a. with_value (g a) k))
two_tests {A} {B} {C} P (Ok a) g k good bad = second (g a)
  where
    second : (y : Result B TclFault) → P (with_value y k)
    second (Ok b) = good b
    second (Err e) = bad e
two_tests P (Err e) g k good bad = bad e

fitting : {A B : Type 0} (P : Result B TclFault → Type 0) (k : A → Result B TclFault) (b c : Bool) (f : A) (x y : TclFault) → P (k f) → ((e : TclFault) → P (Err e)) → P (with_value (if b then (if c then Ok f else Err x) else Err y) k)
fitting P k true true f x y good bad = good
fitting P k true false f x y good bad = bad x
fitting P k false c f x y good bad = bad y

-- the same, where it is known that the command may stand
fitting_when : {A B : Type 0} (P : Result B TclFault → Type 0) (k : A → Result B TclFault) (b c : Bool) (f : A) (x y : TclFault) → (b ≡ true → P (k f)) → ((e : TclFault) → P (Err e)) → P (with_value (if b then (if c then Ok f else Err x) else Err y) k)
fitting_when P k true true f x y good bad = good refl
fitting_when P k true false f x y good bad = bad x
fitting_when P k false c f x y good bad = bad y

-- the same of a command that any number of words fits
allowing : {A B : Type 0} (P : Result B TclFault → Type 0) (k : A → Result B TclFault) (b : Bool) (f : A) (y : TclFault) → P (k f) → ((e : TclFault) → P (Err e)) → P (with_value (if b then Ok f else Err y) k)
allowing P k true f y good bad = good
allowing P k false f y good bad = bad y

unnamed : {A B : Type 0} (P : Result B TclFault → Type 0) (k : A → Result B TclFault) (b c : Bool) (x y z : TclFault) → ((e : TclFault) → P (Err e)) → P (with_value (if b then (if c then Err x else Err y) else Err z) k)
unnamed P k true true x y z bad = bad x
unnamed P k true false x y z bad = bad y
unnamed P k false c x y z bad = bad z

-- a form that is told by a word, by one test after another
three : {A : Type 0} (Q : Option A → Type 0) (a b c : Bool) (f g h : A) (y : Option A) → Q (Some f) → Q (Some g) → Q (Some h) → Q y → Q (if a then Some f else (if b then Some g else (if c then Some h else y)))
three Q true b c f g h y p q r z = p
three Q false true c f g h y p q r z = q
three Q false false true f g h y p q r z = r
three Q false false false f g h y p q r z = z

two : {A : Type 0} (Q : Option A → Type 0) (a b : Bool) (f g : A) (y : Option A) → Q (Some f) → Q (Some g) → Q y → Q (if a then Some f else (if b then Some g else y))
two Q true b f g y p q r = p
two Q false true f g y p q r = q
two Q false false f g y p q r = r

alone : {A : Type 0} (Q : Option A → Type 0) (a : Bool) (f : A) (y : Option A) → Q (Some f) → Q y → Q (if a then Some f else y)
alone Q true f y p q = p
alone Q false f y p q = q

either_quick : (e : EventName) (s : NetState) (b : Bool) (x y : Step) → Quick e s x → Quick e s y → Quick e s (if b then x else y)
either_quick e s true x y p q = p
either_quick e s false x y p q = q

module _ (groups : Groups) (event : EventName) (s : NetState) (words : List (List ℕ)) where
  -- what a request does is quick
  record P (a : Asked) : Type 0 where
    is : Quick event s (stepped event a s)

  does : {a : Asked} → Quick event s (stepped event a s) → P a
  does q = record { is = q }

  bad : (e : TclFault) → P (Err e)
  bad e = record { is = (keeps_all event s, tt) }

  -- it only gives a text
  quiet : (v : List ℕ) → Quick event s (Gives v s [])
  quiet v = (keeps_all event s, tt)

  log_quick : (ws : List (List ℕ)) → P (log_asked ws)
  log_quick [] = bad _
  log_quick (text ∷ []) = record { is = (keeps_all event s, tt) }
  log_quick (facility ∷ (text ∷ [])) = record { is = (keeps_all event s, tt) }
  log_quick (facility ∷ (text ∷ (other ∷ ws))) = bad _

  respond_quick : (ws : List (List ℕ)) → P (respond_asked ws)
  respond_quick [] = bad _
  respond_quick (text ∷ []) = record { is = either_quick event s (nat_lt respond_limit (s.wishes.sent + length text)) _ _ (keeps_all event s, tt) (beside event s _ refl refl refl refl, to_own (side_of event) s.relays) }
  respond_quick (text ∷ (other ∷ ws)) = bad _

  table_quick : P (table_asked words)
  table_quick = one_test {A = Unit {0}} P (checked words) _ (λ known. does (keeps_all event s)) bad

  members_quick : (ws : List (List ℕ)) → P (members_asked groups.pools ws)
  members_quick [] = bad _
  members_quick (name ∷ []) = one_test {A = Unit {0}} P (pool_named groups.pools name) _ (λ there. does (keeps_all event s)) bad
  members_quick (name ∷ (other ∷ ws)) = bad _

  after_quick : (ws : List (List ℕ)) → P (after_asked ws)
  after_quick [] = bad _
  after_quick (word ∷ []) = two_tests {A = ℤ} {B = ℕ} P (number_of word) count_in _ (λ n. does (keeps_all event s)) bad
  after_quick (word ∷ (other ∷ ws)) = bad _

  -- a collect of the event's side, its release, and what it holds
  abbrev Own : Type 0
  Own = collects_in (side_of event) event ≡ true

  collects_quick : Own → (n : ℕ) → Quick event s (collects (side_of event) n s)
  collects_quick own n =
      let side = side_of event in
      either_quick event s (n == 0) _ _ (keeps_all event s, tt)
      (either_quick event s (holds (length (collected side s).held) (gone side s) n) _ _ (own_changed event (record (collected side s) { asks = Stated n }) s own, tt) (keeps_all event s, tt))

  -- the other side's stays, whatever else of the state changes
  released_keeps : Own → (side : Side) → side_of event ≡ side → (t : NetState) → t.from ≡ s.from → t.relays ≡ s.relays → collected (other side) t ≡ collected (other side) s → KeepsCollects event s t
  released_keeps own side is t from relays same =
      own_keeps event s t own from relays (ap (λ x. collected (other x) t) is ∙ same ∙ sym (ap (λ x. collected (other x) s) is))

  releases_quick : Own → (side : Side) → side_of event ≡ side → Quick event s (releases side s)
  releases_quick own Server is = (released_keeps own Server is (released Server s) refl refl refl, to_client (side_of event) s.relays)
  releases_quick own Client is = by_server s.relays refl
    where
      by_server : (b : Bool) → s.relays ≡ b → Quick event s (if b then Gives [] (released Client s) (Sent Server s.client.held ∷ []) else Gives [] (record (released Client s) { loose = s.loose ++ s.client.held }) [])
      by_server true up = (released_keeps own Client is (released Client s) refl refl refl, to_server (side_of event) s.relays up)
      by_server false up = (released_keeps own Client is (record (released Client s) { loose = s.loose ++ s.client.held }) refl refl refl, tt)

  replaces_quick : Own → (offset count : ℕ) (text : List ℕ) → Quick event s (replaces (side_of event) offset count text s)
  replaces_quick own offset count text =
      let side = side_of event in
      let held = replaced offset count text (collected side s).held in
      either_quick event s (holds (length held) (gone side s) (asked_bytes (collected side s).asks)) _ _ (own_changed event (record (collected side s) { held = held }) s own, tt) (keeps_all event s, tt)

  collect_quick : Own → (ws : List (List ℕ)) → P (collect_asked ws)
  collect_quick own [] = bad _
  collect_quick own (word ∷ []) = two_tests {A = ℤ} {B = ℕ} P (number_of word) count_in _ (λ n. does (collects_quick own n)) bad
  collect_quick own (word ∷ (more ∷ ws)) = bad _

  part_quick : Own → (first second text : List ℕ) → P (part_asked first second text)
  part_quick own first second text =
      one_test {A = ℤ} P (number_of first) _ (λ n. one_test {A = ℤ} P (number_of second) _ (λ m. one_test {A = ℕ} P (count_in n) _ (λ offset. one_test {A = ℕ} P (count_in m) _ (λ count. does (replaces_quick own offset count text)) bad) bad) bad) bad

  replace_quick : Own → (ws : List (List ℕ)) → P (replace_asked ws)
  replace_quick own [] = bad _
  replace_quick own (word ∷ []) = bad _
  replace_quick own (word ∷ (offset ∷ [])) = bad _
  replace_quick own (word ∷ (offset ∷ (count ∷ []))) = bad _
  replace_quick own (word ∷ (offset ∷ (count ∷ (text ∷ [])))) = part_quick own offset count text
  replace_quick own (word ∷ (offset ∷ (count ∷ (text ∷ (more ∷ ws))))) = bad _

  -- where a server comes from
  target_quick : (target : Target) → Quick event s (Gives [] (record s { target = target }) [])
  target_quick target = (beside event s _ refl refl refl refl, tt)

  ends_quick : (ending : Ending) → Quick event s (Gives [] (ends ending s) [])
  ends_quick ending = (beside event s _ refl refl refl refl, tt)

  detaches_quick : Quick event s (Gives [] (record s { wishes = record s.wishes { detaches = true } }) [])
  detaches_quick = (beside event s _ refl refl refl refl, tt)

  reselects_quick : (target : Target) → Quick event s (reselects target s)
  reselects_quick target = either_quick event s (nat_lt s.reselects reselect_limit) _ _ (beside event s _ refl refl refl refl, tt) (keeps_all event s, tt)

  pool_quick : P (pool_asked groups.pools s.port words)
  pool_quick = one_test {A = Target} P (pool_target groups.pools s.port words) _ (λ target. does (target_quick target)) bad

  node_quick : P (node_asked s.port words)
  node_quick = one_test {A = Target} P (node_target (codes "node") s.port words) _ (λ target. does (target_quick target)) bad

  reselect_pool_quick : (ws : List (List ℕ)) → P (reselect_pool_asked groups.pools ws)
  reselect_pool_quick [] = bad _
  reselect_pool_quick (word ∷ []) = bad _
  reselect_pool_quick (word ∷ (name ∷ [])) = one_test {A = Unit {0}} P (pool_named groups.pools name) _ (λ there. does (reselects_quick (PoolOf name))) bad
  reselect_pool_quick (word ∷ (name ∷ (other ∷ ws))) = bad _

  reselect_node_quick : (ws : List (List ℕ)) → P (reselect_node_asked s.port ws)
  reselect_node_quick [] = bad _
  reselect_node_quick (word ∷ ws) = one_test {A = Target} P (node_target (codes "LB::reselect") s.port ws) _ (λ target. does (reselects_quick target)) bad

  class_asked_quick : (classes : List NamedGroup) (f : _) (ws : List (List ℕ)) → P (class_asked classes f ws)
  class_asked_quick classes f ws = two_tests {A = List ℕ} {B = List ℕ} P (class_value classes f ws) limited _ (λ text. does (quiet text)) bad

  -- what the words of a form ask, of the forms that do that
  class_request : (f : _) → request_of groups s.port f words ≡ class_asked groups.classes f words → P (request_of groups s.port f words)
  class_request f is = subst P (sym is) (class_asked_quick groups.classes f words)

  tell_request : (f : _) (v : List ℕ) → stepped event (request_of groups s.port f words) s ≡ Gives v s [] → P (request_of groups s.port f words)
  tell_request f v is = record { is = subst (Quick event s) (sym is) (quiet v) }

  abbrev allowed : HostCommand → Bool
  allowed c = allows c event && not (s.http && without_http c)

  -- a command of collects stands in an event of collects
  own_by : allowed command.TcpCollect ≡ true → Own
  own_by ok = stream_own event (and_parts (allows command.TcpCollect event) (not (s.http && without_http command.TcpCollect)) ok).0

  class_quick : (ws : List (List ℕ)) → P (with_value (if allowed command.Class then shaped command.Class (class_form ws) (length words) else Err (not_here (codes "class"))) (λ form. request_of groups s.port form words))
  class_quick [] = unnamed P _ (allowed command.Class) _ _ _ _ bad
  class_quick (word ∷ ws) =
      three (λ o. P (with_value (if allowed command.Class then shaped command.Class o (length words) else Err (not_here (codes "class"))) (λ form. request_of groups s.port form words)))
      (bytes_eq word (codes "match")) (bytes_eq word (codes "search")) (bytes_eq word (codes "lookup")) _ _ _ _
      (fitting P _ (allowed command.Class) _ _ _ _ (class_request (some_of (class_form (codes "match" ∷ [])) refl) refl) bad)
      (fitting P _ (allowed command.Class) _ _ _ _ (class_request (some_of (class_form (codes "search" ∷ [])) refl) refl) bad)
      (fitting P _ (allowed command.Class) _ _ _ _ (class_request (some_of (class_form (codes "lookup" ∷ [])) refl) refl) bad)
      (three (λ o. P (with_value (if allowed command.Class then shaped command.Class o (length words) else Err (not_here (codes "class"))) (λ form. request_of groups s.port form words)))
      (bytes_eq word (codes "exists")) (bytes_eq word (codes "size")) (bytes_eq word (codes "names")) _ _ _ _
      (fitting P _ (allowed command.Class) _ _ _ _ (class_request (some_of (class_form (codes "exists" ∷ [])) refl) refl) bad)
      (fitting P _ (allowed command.Class) _ _ _ _ (class_request (some_of (class_form (codes "size" ∷ [])) refl) refl) bad)
      (fitting P _ (allowed command.Class) _ _ _ _ (class_request (some_of (class_form (codes "names" ∷ [])) refl) refl) bad)
      (unnamed P _ (allowed command.Class) _ _ _ _ bad))

  clock_quick : (ws : List (List ℕ)) → P (with_value (if allowed command.Clock then shaped command.Clock (clock_form ws) (length words) else Err (not_here (codes "clock"))) (λ form. request_of groups s.port form words))
  clock_quick [] = unnamed P _ (allowed command.Clock) _ _ _ _ bad
  clock_quick (word ∷ ws) =
      alone (λ o. P (with_value (if allowed command.Clock then shaped command.Clock o (length words) else Err (not_here (codes "clock"))) (λ form. request_of groups s.port form words)))
      (bytes_eq word (codes "seconds")) _ _
      (fitting P _ (allowed command.Clock) _ _ _ _ (does (keeps_all event s)) bad)
      (unnamed P _ (allowed command.Clock) _ _ _ _ bad)

  server_quick : (ws : List (List ℕ)) → P (with_value (if allowed command.LbServer then shaped command.LbServer (server_form ws) (length words) else Err (not_here (codes "LB::server"))) (λ form. request_of groups s.port form words))
  server_quick [] = unnamed P _ (allowed command.LbServer) _ _ _ _ bad
  server_quick (word ∷ ws) =
      three (λ o. P (with_value (if allowed command.LbServer then shaped command.LbServer o (length words) else Err (not_here (codes "LB::server"))) (λ form. request_of groups s.port form words)))
      (bytes_eq word (codes "pool")) (bytes_eq word (codes "addr")) (bytes_eq word (codes "port")) _ _ _ _
      (fitting P _ (allowed command.LbServer) _ _ _ _ (tell_request (some_of (server_form (codes "pool" ∷ [])) refl) _ refl) bad)
      (fitting P _ (allowed command.LbServer) _ _ _ _ (tell_request (some_of (server_form (codes "addr" ∷ [])) refl) _ refl) bad)
      (fitting P _ (allowed command.LbServer) _ _ _ _ (tell_request (some_of (server_form (codes "port" ∷ [])) refl) _ refl) bad)
      (unnamed P _ (allowed command.LbServer) _ _ _ _ bad)

  reselect_quick : (ws : List (List ℕ)) → P (with_value (if allowed command.LbReselect then shaped command.LbReselect (reselect_form ws) (length words) else Err (not_here (codes "LB::reselect"))) (λ form. request_of groups s.port form words))
  reselect_quick [] = fitting P _ (allowed command.LbReselect) _ _ _ _ (does (reselects_quick s.target)) bad
  reselect_quick (word ∷ []) = unnamed P _ (allowed command.LbReselect) _ _ _ _ bad
  reselect_quick (word ∷ (name ∷ [])) =
      two (λ o. P (with_value (if allowed command.LbReselect then shaped command.LbReselect o (length words) else Err (not_here (codes "LB::reselect"))) (λ form. request_of groups s.port form words)))
      (bytes_eq word (codes "pool")) (bytes_eq word (codes "node")) _ _ _
      (fitting P _ (allowed command.LbReselect) _ _ _ _ (reselect_pool_quick words) bad)
      (fitting P _ (allowed command.LbReselect) _ _ _ _ (reselect_node_quick words) bad)
      (unnamed P _ (allowed command.LbReselect) _ _ _ _ bad)
  reselect_quick (word ∷ (addr ∷ (port ∷ []))) =
      alone (λ o. P (with_value (if allowed command.LbReselect then shaped command.LbReselect o (length words) else Err (not_here (codes "LB::reselect"))) (λ form. request_of groups s.port form words)))
      (bytes_eq word (codes "node")) _ _
      (fitting P _ (allowed command.LbReselect) _ _ _ _ (reselect_node_quick words) bad)
      (unnamed P _ (allowed command.LbReselect) _ _ _ _ bad)
  reselect_quick (word ∷ (addr ∷ (port ∷ (other ∷ ws)))) = unnamed P _ (allowed command.LbReselect) _ _ _ _ bad

  payload_quick : (ws : List (List ℕ)) → P (with_value (if allowed command.TcpPayload then shaped command.TcpPayload (payload_form ws) (length words) else Err (not_here (codes "TCP::payload"))) (λ form. request_of groups s.port form words))
  payload_quick [] = fitting P _ (allowed command.TcpPayload) _ _ _ _ (tell_request (some_of (payload_form []) refl) _ refl) bad
  payload_quick (word ∷ []) =
      alone (λ o. P (with_value (if allowed command.TcpPayload then shaped command.TcpPayload o (length words) else Err (not_here (codes "TCP::payload"))) (λ form. request_of groups s.port form words)))
      (bytes_eq word (codes "length")) _ _
      (fitting P _ (allowed command.TcpPayload) _ _ _ _ (tell_request (some_of (payload_form (codes "length" ∷ [])) refl) _ refl) bad)
      (unnamed P _ (allowed command.TcpPayload) _ _ _ _ bad)
  payload_quick (word ∷ (at ∷ [])) = unnamed P _ (allowed command.TcpPayload) _ _ _ _ bad
  payload_quick (word ∷ (at ∷ (n ∷ []))) = unnamed P _ (allowed command.TcpPayload) _ _ _ _ bad
  payload_quick (word ∷ (at ∷ (n ∷ (text ∷ [])))) =
      alone (λ o. P (with_value (if allowed command.TcpPayload then shaped command.TcpPayload o (length words) else Err (not_here (codes "TCP::payload"))) (λ form. request_of groups s.port form words)))
      (bytes_eq word (codes "replace")) _ _
      (fitting_when P _ (allowed command.TcpPayload) _ _ _ _ (λ ok. replace_quick (own_by ok) words) bad)
      (unnamed P _ (allowed command.TcpPayload) _ _ _ _ bad)
  payload_quick (word ∷ (at ∷ (n ∷ (text ∷ (other ∷ ws))))) = unnamed P _ (allowed command.TcpPayload) _ _ _ _ bad

  command_quick : (c : HostCommand) → is_there c ≡ true → P (asked_by groups event s c words)
  command_quick command.Log there = fitting P _ (allowed command.Log) _ _ _ _ (log_quick words) bad
  command_quick command.Class there = class_quick words
  command_quick command.LbServer there = server_quick words
  command_quick command.IpClientAddr there = fitting P _ (allowed command.IpClientAddr) _ _ _ _ (tell_request (some_of (form_of command.IpClientAddr []) refl) _ refl) bad
  command_quick command.TcpClientPort there = fitting P _ (allowed command.TcpClientPort) _ _ _ _ (tell_request (some_of (form_of command.TcpClientPort []) refl) _ refl) bad
  command_quick command.IpServerAddr there = fitting P _ (allowed command.IpServerAddr) _ _ _ _ (tell_request (some_of (form_of command.IpServerAddr []) refl) _ refl) bad
  command_quick command.TcpRespond there = fitting P _ (allowed command.TcpRespond) _ _ _ _ (respond_quick words) bad
  command_quick command.TcpCollect there = fitting_when P _ (allowed command.TcpCollect) _ _ _ _ (λ ok. collect_quick (own_by ok) words) bad
  command_quick command.TcpRelease there = fitting_when P _ (allowed command.TcpRelease) _ _ _ _ (λ ok. does (releases_quick (own_by ok) (side_of event) refl)) bad
  command_quick command.TcpPayload there = payload_quick words
  command_quick command.ActiveMembers there = fitting P _ (allowed command.ActiveMembers) _ _ _ _ (members_quick words) bad
  command_quick command.Table there = allowing P _ (allowed command.Table) _ _ table_quick bad
  command_quick command.Clock there = clock_quick words
  command_quick command.After there = fitting P _ (allowed command.After) _ _ _ _ (after_quick words) bad
  command_quick command.Pool there = fitting P _ (allowed command.Pool) _ _ _ _ pool_quick bad
  command_quick command.Node there = fitting P _ (allowed command.Node) _ _ _ _ node_quick bad
  command_quick command.LbReselect there = reselect_quick words
  command_quick command.LbDetach there = fitting P _ (allowed command.LbDetach) _ _ _ _ (does detaches_quick) bad
  command_quick command.Reject there = fitting P _ (allowed command.Reject) _ _ _ _ (does (ends_quick Rejects)) bad
  command_quick command.Drop there = fitting P _ (allowed command.Drop) _ _ _ _ (does (ends_quick Rejects)) bad
  command_quick command.TcpClose there = fitting P _ (allowed command.TcpClose) _ _ _ _ (does (ends_quick Closes)) bad
  command_quick other there = absurd (cc)

named_quick : (groups : Groups) (event : EventName) (s : NetState) (name : List ℕ) (words : List (List ℕ)) (o : Option HostCommand) → names_one o ≡ true → Quick event s (stepped event (asked_of groups event s name words o) s)
named_quick groups event s name words None there = (keeps_all event s, tt)
named_quick groups event s name words (Some c) there = (command_quick groups event s words c there).is

net_quick : (groups : Groups) (event : EventName) (s : NetState) (words : List (List ℕ)) → names_one (command_of (first_word words)) ≡ true → Quick event s (net_step groups event s words)
net_quick groups event s [] there = (keeps_all event s, tt)
net_quick groups event s (name ∷ words) there = by_http (is_http name)
  where
    by_http : (b : Bool) → Quick event s (stepped event (if b then Err (no_command name) else asked_of groups event s name words (command_of name)) s)
    by_http true = (keeps_all event s, tt)
    by_http false = named_quick groups event s name words (command_of name) there

-- the same of the host's state: it knows as much of requests as before
pub record KeepsHost (h t : HostState) : Type 0 where
  pub event : t.event ≡ h.event
  pub keeps : KeepsCollects h.event h.net t.net
  pub spoken : is_some t.http ≡ is_some h.http

abbrev pub QuickHost : HostState → HostStep HostState → Type 0
QuickHost h (Gives v t es) = KeepsHost h t × OneTo (side_of h.event) h.net.relays es
QuickHost h (Faults f t es) = KeepsHost h t × OneTo (side_of h.event) h.net.relays es
QuickHost h (Asks call t) = KeepsHost h t

step_quick : (h : HostState) (step : Step) → Quick h.event h.net step → QuickHost h (host_step h step)
step_quick h (Gives v s es) q = (record { event = refl; keeps = q.0; spoken = refl }, q.1)
step_quick h (Faults f s es) q = (record { event = refl; keeps = q.0; spoken = refl }, q.1)
step_quick h (Asks call s) q = record { event = refl; keeps = q; spoken = refl }

net_commands_quick : (groups : Groups) (h : HostState) (words : List (List ℕ)) → QuickHost h (net_command groups h words)
net_commands_quick groups h words = by_test (names_one (command_of (first_word words))) refl
  where
    by_test : (b : Bool) → names_one (command_of (first_word words)) ≡ b → QuickHost h (if b then host_step h (net_step groups h.event h.net words) else Faults (no_command (first_word words)) h [])
    by_test true is = step_quick h (net_step groups h.event h.net words) (net_quick groups h.event h.net words is)
    by_test false is = (record { event = refl; keeps = keeps_all h.event h.net; spoken = refl }, tt)

-- an HTTP command changes what is known of the request alone, and answers once
http_sends : (event : EventName) (relays : Bool) (http : Http) (step : HostStep Http) → Once http step → OneTo (side_of event) relays (made step)
http_sends event relays http step (inl quiet) = subst (OneTo (side_of event) relays) (sym quiet.sent) tt
http_sends event relays http step (inr answers) = subst (OneTo (side_of event) relays) (sym answers.sent) (to_client (side_of event) relays)

http_quick : (h : HostState) (http : Http) (step : HostStep Http) → h.http ≡ Some http → OneTo (side_of h.event) h.net.relays (made step) → QuickHost h (http_done h step)
http_quick h http (Gives v t es) is one = (record { event = refl; keeps = keeps_all h.event h.net; spoken = sym (ap is_some is) }, one)
http_quick h http (Faults f t es) is one = (record { event = refl; keeps = keeps_all h.event h.net; spoken = sym (ap is_some is) }, one)
http_quick h http (Asks call t) is one = record { event = refl; keeps = keeps_all h.event h.net; spoken = sym (ap is_some is) }

pub commands_quick : (groups : Groups) (h : HostState) (words : List (List ℕ)) → QuickHost h (commands groups h words)
unfolding commands
commands_quick groups h words = by_http h.http refl
  where
    by_name : (http : Http) → h.http ≡ Some http → (b : Bool) → QuickHost h (if b then http_done h (http_step h.event http words) else net_command groups h words)
    by_name http is true = http_quick h http (http_step h.event http words) is (http_sends h.event h.net.relays http (http_step h.event http words) (http_once h.event http words))
    by_name http is false = net_commands_quick groups h words

    by_http : (o : Option Http) → h.http ≡ o → QuickHost h (commands_by o groups h words)
    by_http None is = net_commands_quick groups h words
    by_http (Some http) is = by_name http is (is_http (first_word words))
