-- What HTTP commands leave of the host's state, and so each command of a setup.
use Rattle.std.proofs.Common.{◌≡◌, refl, sym, ap, subst, ℕ, ◌+◌, ◌≤◌, List, [], Bool, true, false, ◌&&◌, true≢false, if◌then◌else◌, Option, Some, None, Result, Ok, Err, length, arith}
use Rattle.std.specs.Option.{is_some}
use Rattle.px_bytes.specs.FaultText.{wrong_arity}
use Rattle.px_bytes.specs.Host.{Effect, Gives, Faults, Asks}
use Rattle.px_bytes.specs.declared.addr.Side.{Side}
use Rattle.px_bytes.specs.declared.addr.Side.TheVariants.{Client, Server}
use Rattle.event_order.specs.Command.{command_row}
use Rattle.event_order.specs.declared.command.HostCommand.{HostCommand}
use Rattle.event_order.specs.declared.command.HostCommand.TheVariants as command
use Rattle.event_order.specs.declared.event.EventName.{EventName}
use Rattle.event_order.specs.declared.event.EventName.TheVariants.{ClientClosed, ServerClosed}
use Rattle.irule_net.specs.Checks.{allows}
use Rattle.irule_net.specs.Commands.{is_http}
use Rattle.irule_net.specs.FaultText.{not_here}
use Rattle.irule_net.specs.Laws.{sent_to}
use Rattle.irule_net.specs.State.{side_of}
use Rattle.irule_net.specs.declared.groups.Groups.{Groups}
use Rattle.px_bytes.specs.declared.fault.TclFault.{TclFault}
use Rattle.irule_http.specs.Checks.{checked}
use Rattle.irule_http.specs.Commands.{commanded, formed, found, http_step}
use Rattle.irule_http.specs.Edits.{Step}
use Rattle.irule_http.specs.Forms.{word_at}
use Rattle.irule_http.specs.Laws.{left as http_left, made as http_made}
use Rattle.irule_http.specs.State.{is_there}
use Rattle.irule_http.specs.declared.state.Http.{Http}
use Rattle.irule_http.proofs.Moves.{any_moves}
use Rattle.http_answers.specs.Options.{behind_first}
use Rattle.conn_trace.specs.Host.{HostState, commands, commands_by, first_word, host_table, http_done, net_command}
use Rattle.conn_trace.specs.Places.{is_closing}
use Rattle.conn_trace.specs.Setup.{Setup}
use Rattle.conn_trace.proofs.HostKeeps.{Commands, credited, left, made, net_knows, net_leaves_host}

-- ---- in a closing event nothing is sent

module _ (e : EventName) (name : List ℕ) (words : List (List ℕ)) (h : Http) where
  refused : (b : Bool) (x y : TclFault) → http_made (formed e name words (if b then Err x else Err y) h) ≡ []
  refused true x y = refl
  refused false x y = refl

still_server : (name : List ℕ) (words : List (List ℕ)) (h : Http) (c : HostCommand) → http_made (formed ServerClosed name words (checked c ServerClosed h words) h) ≡ []
still_server name words h command.HttpUri = refl
still_server name words h command.HttpPath = refl
still_server name words h command.HttpQuery = refl
still_server name words h command.HttpMethod = refl
still_server name words h command.HttpHost = refl
still_server name words h command.HttpRequestNum = refl
still_server name words h command.HttpVersion = refl
still_server name words h command.HttpHeader = refl
still_server name words h command.HttpCookie = refl
still_server name words h command.HttpStatus = refl
still_server name words h command.HttpCollect = refl
still_server name words h command.HttpRelease = refl
still_server name words h command.HttpClose = refl
still_server name words h command.HttpPayload = refl
still_server name words h command.HttpRespond = refl
still_server name words h command.HttpRedirect = refl
still_server name words h c = refused ServerClosed name words h (allows c ServerClosed && is_there ServerClosed h) (wrong_arity (command_row c).name) (not_here (command_row c).name)

still_client : (name : List ℕ) (words : List (List ℕ)) (h : Http) (c : HostCommand) → http_made (formed ClientClosed name words (checked c ClientClosed h words) h) ≡ []
still_client name words h command.HttpUri = refl
still_client name words h command.HttpPath = refl
still_client name words h command.HttpQuery = refl
still_client name words h command.HttpMethod = refl
still_client name words h command.HttpHost = refl
still_client name words h command.HttpRequestNum = refl
still_client name words h command.HttpVersion = refl
still_client name words h command.HttpHeader = refl
still_client name words h command.HttpCookie = refl
still_client name words h command.HttpStatus = refl
still_client name words h command.HttpCollect = refl
still_client name words h command.HttpRelease = refl
still_client name words h command.HttpClose = refl
still_client name words h command.HttpPayload = refl
still_client name words h command.HttpRespond = refl
still_client name words h command.HttpRedirect = refl
still_client name words h c = refused ClientClosed name words h (allows c ClientClosed && is_there ClientClosed h) (wrong_arity (command_row c).name) (not_here (command_row c).name)

still_command : (e : EventName) → is_closing e ≡ true → (name : List ℕ) (words : List (List ℕ)) (c : Option HostCommand) (h : Http) → http_made (commanded e name words c h) ≡ []
still_command ServerClosed is name words None h = refl
still_command ServerClosed is name words (Some c) h = still_server (command_row c).name words h c
still_command ClientClosed is name words None h = refl
still_command ClientClosed is name words (Some c) h = still_client (command_row c).name words h c
still_command e is name words c h = absurd (true≢false (sym is))

-- ---- of the host's state

done_left : (h : HostState) (x : Step) → left (http_done h x) ≡ record h { http = Some (http_left x) }
done_left h (Gives v s effects) = refl
done_left h (Faults f s effects) = refl
done_left h (Asks call s) = refl

done_made : (h : HostState) (x : Step) → made (http_done h x) ≡ http_made x
done_made h (Gives v s effects) = refl
done_made h (Faults f s effects) = refl
done_made h (Asks call s) = refl

-- of a virtual server that speaks HTTP
module _ (groups : Groups) (old : HostState) (http : Http) (words : List (List ℕ)) where
  abbrev h : HostState
  h = record old { http = Some http }

  abbrev x : Step
  x = http_step h.event http words

  counted : (t : Http) (effects : List Effect) → t.made ≡ http.made + sent_to Client effects → sent_to Server effects ≡ 0
      → (own side : Side) → credited own side h + sent_to side effects ≤ credited own side (record h { http = Some t })
  counted t effects a b Client Client = omega (arith, a)
  counted t effects a b Client Server = omega (arith, b)
  counted t effects a b Server Client = omega (arith, a)
  counted t effects a b Server Server = omega (arith, b)

  http_commands : Commands h (record h { http = Some (http_left x) }) (http_made x)
  http_commands =
      let m = any_moves h.event http words in
      record {
        event = refl;
        credits = counted (http_left x) (http_made x) m.sent m.server (side_of h.event);
        within = λ f. f;
        http = refl;
        answers = m.within;
        fits = λ f. f;
        others = refl;
        loose = λ f. refl;
        silent = λ c side. ap (sent_to side) (still_command h.event c (word_at words 0) (behind_first words) (found (word_at words 0)) http);
        outside = λ e side. refl;
        payload = m.payload;
        heads = m.heads;
      }

  some_leaves : let s = commands_by (Some http) groups h words in Commands h (left s) (made s)
  some_leaves = by_name (is_http (first_word words))
    where
      by_name : (b : Bool) → let s = if b then http_done h x else net_command groups h words in Commands h (left s) (made s)
      by_name true =
          subst (λ t. Commands h t (made (http_done h x))) (sym (done_left h x)) (subst (λ es. Commands h (record h { http = Some (http_left x) }) es) (sym (done_made h x)) http_commands)
      by_name false = net_leaves_host groups h words

  some_knows : is_some (left (commands_by (Some http) groups h words)).http ≡ true
  some_knows = by_name (is_http (first_word words))
    where
      by_name : (b : Bool) → is_some (left (if b then http_done h x else net_command groups h words)).http ≡ true
      by_name true = ap (λ (t : HostState). is_some t.http) (done_left h x)
      by_name false = ap is_some (net_knows groups h words)

abbrev KeepsHost : Groups → List (List ℕ) → HostState → Type 0
KeepsHost groups words h = let s = commands_by h.http groups h words in Commands h (left s) (made s)

by_known : (groups : Groups) (h : HostState) (words : List (List ℕ)) (o : Option Http) → h.http ≡ o → KeepsHost groups words h
by_known groups h words None is = subst (KeepsHost groups words) (ap (λ o. record h { http = o }) (sym is)) (net_leaves_host groups (record h { http = None }) words)
by_known groups h words (Some http) is = subst (KeepsHost groups words) (ap (λ o. record h { http = o }) (sym is)) (some_leaves groups h http words)

pub table_leaves : (g : Setup) (h : HostState) (words : List (List ℕ)) → Commands h (left (host_table g h words)) (made (host_table g h words))
unfolding commands
table_leaves g h words = by_known g.groups h words h.http refl

-- whether the virtual server speaks HTTP stays known
abbrev KnowsHost : Groups → List (List ℕ) → HostState → Type 0
KnowsHost groups words h = is_some (left (commands_by h.http groups h words)).http ≡ is_some h.http

known_by : (groups : Groups) (h : HostState) (words : List (List ℕ)) (o : Option Http) → h.http ≡ o → KnowsHost groups words h
known_by groups h words None is = subst (KnowsHost groups words) (ap (λ o. record h { http = o }) (sym is)) (ap is_some (net_knows groups (record h { http = None }) words))
known_by groups h words (Some http) is = subst (KnowsHost groups words) (ap (λ o. record h { http = o }) (sym is)) (some_knows groups h http words)

pub table_knows : (g : Setup) (h : HostState) (words : List (List ℕ)) → is_some (left (host_table g h words)).http ≡ is_some h.http
unfolding commands
table_knows g h words = known_by g.groups h words h.http refl
