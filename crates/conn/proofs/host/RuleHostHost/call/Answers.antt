use Rattle.std.proofs.Common.{◌≡◌, sym, ap, subst, ◌∙◌, ◌++◌, List, true, false, ◌&&◌, Some, None, append-nil, append_assoc}
use Rattle.std.specs.Option.{is_some}
use Rattle.std.proofs.lemmas.Bool.{and_parts}
use Rattle.px_bytes.specs.Host.{Effect}
use Rattle.irule_http.specs.Commands.{http_step}
use Rattle.irule_net.specs.Commands.{is_http}
use Rattle.conn_trace.specs.Host.{HostState, first_word, net_command}
use Rattle.conn.specs.Hosts.{answer_made, seen_host}
use Rattle.conn.proofs.Calling.{did_as, http_called, net_called, none_is, not_asked}
use Rattle.conn.proofs.host.RuleHostHost.call.Goals as goal

pub returns-in-Some : goal.returns-in-Some
returns-in-Some c =
    let s = c.args.self.now in
    let h : HostState = seen_host s in
    let words = c.args.words.now in
    let after = answer_made c.request_command.new.answer in
    let before = answer_made s.answer in
    let both : (is_some s.http && is_http (first_word words)) ≡ true = sym c.asks_http.ensures ∙ c.if-asks_http.true in
    let M : List Effect → Type 0 = λ es. after ≡ before ++ es in
    let N : List Effect → Type 0 = λ es. s.made ++ after ≡ (s.made ++ before) ++ es in
    let d = rw c.name-event.ensures at c.request_command.ensures in
    http_called c.args.groups.now h c.in-Some.http c.request_command.new.http words c.request_command.result N c.in-Some.is (and_parts (is_some s.http) (is_http (first_word words)) both).1
    (did_as (http_step h.event c.in-Some.http words) c.request_command.result c.request_command.new.http M N (λ es e. ap (λ x. s.made ++ x) e ∙ sym (append_assoc s.made before es)) d)

pub returns : goal.returns
returns c =
    let s = c.args.self.now in
    let h : HostState = seen_host s in
    let words = c.args.words.now in
    let made = c.rule_command.new.made in
    let other : (is_some s.http && is_http (first_word words)) ≡ false = sym c.asks_http.ensures ∙ c.if-asks_http.false in
    let empty : s.answer ≡ None = none_is s.answer (sym c.is_some.ensures ∙ c.if-is_some.false) in
    let M : List Effect → Type 0 = λ es. made ≡ s.made ++ es in
    let N : List Effect → Type 0 = λ es. made ++ answer_made s.answer ≡ (s.made ++ answer_made s.answer) ++ es in
    let left : HostState = record h { net = c.rule_command.new.net } in
    let d = rw c.name-event.ensures at c.rule_command.ensures s.http in
    net_called c.args.groups.now h words c.rule_command.result left N (not_asked s.http (is_http (first_word words)) other)
    (did_as (net_command c.args.groups.now h words) c.rule_command.result left M N
    (λ es e. subst (λ o. made ++ answer_made o ≡ (s.made ++ answer_made o) ++ es) (sym empty) (append-nil made ∙ e ∙ ap (λ x. x ++ es) (sym (append-nil s.made)))) d)
