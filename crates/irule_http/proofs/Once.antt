-- An HTTP command sends nothing, or it is the one answer of a rule to the request at hand.
use Rattle.std.proofs.Common.{◌≡◌, ◌⊎◌, inl, inr, refl, ℕ, ◌+◌, Bool, true, false, List, [], ◌∷◌, length}
use Rattle.std.proofs.Common.{Option, Some, None, Result, Ok, Err}
use Rattle.std.specs.Prelude.{is_some, nat_le, ◌==◌, if◌then◌else◌}
use Rattle.px_bytes.specs.FaultText.{no_command, syntax_error, too_long}
use Rattle.px_bytes.specs.Host.{Gives, Faults, Sent}
use Rattle.px_bytes.specs.declared.addr.Side.TheVariants.{Client}
use Rattle.px_bytes.specs.declared.fault.TclFault.{TclFault}
use Rattle.event_order.specs.Command.{command_row}
use Rattle.event_order.specs.declared.command.HostCommand.{HostCommand}
use Rattle.event_order.specs.declared.event.EventName.{EventName}
use Rattle.http_answers.specs.Options.{behind_first}
use Rattle.http_heads.specs.Fields.{Pair, field_made}
use Rattle.http_heads.specs.declared.line.Version.{Version}
use Rattle.irule_http.specs.Answers.{answer_limit, answered, responds_by, responds_in, sends_some}
use Rattle.irule_http.specs.Checks.{checked}
use Rattle.irule_http.specs.Commands.{commanded, formed, found, http_step}
use Rattle.irule_http.specs.Edits.{Step, changes_some, changes_target, cookie_edit}
use Rattle.irule_http.specs.Edits.{edited, is_framing, puts_by, puts_cookie_by, removed}
use Rattle.irule_http.specs.Edits.{target_holds, tested, within}
use Rattle.irule_http.specs.FaultText.{already_answered}
use Rattle.irule_http.specs.Forms.{word_at}
use Rattle.irule_http.specs.Heads.{holds, left_by, left_with, without_by}
use Rattle.irule_http.specs.Laws.{Once}
use Rattle.irule_http.specs.Payload.{collecting, collects_by, count_of, has_body, part_of, payload_limit}
use Rattle.irule_http.specs.Payload.{replaces_part, replaces_there}
use Rattle.irule_http.specs.State.{fields_here, is_response}
use Rattle.irule_http.specs.Steps.{done}
use Rattle.irule_http.specs.declared.form.Form.{Form}
use Rattle.irule_http.specs.declared.form.Form.TheVariants as form
use Rattle.irule_http.specs.declared.state.Http.{Http}

faulted : (h : Http) (f : TclFault) → Once h (Faults f h [])
faulted h f = inl (record { sent = refl; same = refl })

gives : (h t : Http) (v : List ℕ) → is_some t.answer ≡ is_some h.answer → Once h (Gives v t [])
gives h t v same = inl (record { sent = refl; same = same })

either : (h : Http) (b : Bool) (x y : Step) → Once h x → Once h y → Once h (if b then x else y)
either h true x y p q = p
either h false x y p q = q

by_answer : (h t : Http) (a : Bool) (f : TclFault) → is_some t.answer ≡ is_some h.answer → Once h (tested (if a then Err f else Ok tt) h t)
by_answer h t true f same = faulted h f
by_answer h t false f same = gives h t [] same

within_once : (b : Bool) (name : List ℕ) (h t : Http) → is_some t.answer ≡ is_some h.answer → Once h (within b name h t)
within_once true name h t same = by_answer h t (is_some h.answer) (already_answered name) same
within_once false name h t same = faulted h too_long

left_same : (b : Bool) (fields : List Pair) (h : Http) → is_some (left_by b fields h).answer ≡ is_some h.answer
left_same true fields h = refl
left_same false fields h = refl

without_same : (b : Bool) (name : List ℕ) (h : Http) → is_some (without_by b name h).answer ≡ is_some h.answer
without_same true name h = refl
without_same false name h = refl

target_once : (name : List ℕ) (target : Option (List ℕ)) (h : Http) → Once h (changes_target name target h)
target_once name None h = faulted h (syntax_error name)
target_once name (Some target) h = within_once (target_holds target h.request) name h _ refl

some_once : (event : EventName) (name : List ℕ) (fields : Option (List Pair)) (h : Http) → Once h (changes_some event name fields h)
some_once event name None h = faulted h too_long
some_once event name (Some fields) h = within_once (holds event fields h) name h (left_with event fields h) (left_same (is_response event) fields h)

puts_once : (event : EventName) (f : Form) (name : List ℕ) (field : Option Pair) (h : Http) → Once h (puts_by event f name field h)
puts_once event f name None h = faulted h (syntax_error name)
puts_once event f name (Some field) h =
    either h (is_framing field.0) _ _ (within_once true name h h refl) (some_once event name (edited f field (fields_here event h)) h)

removed_by : (b response : Bool) (name : List ℕ) (h : Http) → is_some (if b then h else without_by response name h).answer ≡ is_some h.answer
removed_by true response name h = refl
removed_by false response name h = without_same response name h

cookie_once : (event : EventName) (name : List ℕ) (field : Option Pair) (h : Http) → Once h (puts_cookie_by event name field h)
cookie_once event name None h = faulted h (syntax_error name)
cookie_once event name (Some field) h = some_once event name (edited (cookie_edit (is_response event)) field (fields_here event h)) h

collecting_by : (b : Bool) (t h : Http) → is_some t.answer ≡ is_some h.answer → is_some (if b then h else t).answer ≡ is_some h.answer
collecting_by true t h same = refl
collecting_by false t h same = same

collects_once : (name : List ℕ) (n : Result ℕ TclFault) (h : Http) → Once h (collects_by name n h)
collects_once name (Err f) h = faulted h f
collects_once name (Ok n) h = within_once true name h (collecting n h) (collecting_by (n == 0) _ h refl)

there_once : (b : Bool) (name payload : List ℕ) (h : Http) → Once h (replaces_there b name payload h)
there_once true name payload h = within_once true name h _ refl
there_once false name payload h = faulted h _

part_once : (name : List ℕ) (part : Result (ℕ × ℕ) TclFault) (text : List ℕ) (h : Http) → Once h (replaces_part name part text h)
part_once name (Err f) text h = faulted h f
part_once name (Ok part) text h = either h _ _ _ (there_once (has_body h.body) name _ h) (faulted h too_long)

-- an answer
answer_once : (a : Bool) (f : TclFault) (closes : Bool) (text : List ℕ) (h : Http) → is_some h.answer ≡ a
    → Once h (if a then Faults f h [] else Gives [] (record h { answer = Some closes; made = h.made + length text }) (Sent Client text ∷ []))
answer_once true f closes text h is = faulted h f
answer_once false f closes text h is = inr (record { bytes = text; sent = refl; before = is; after = refl })

sends_once : (name : List ℕ) (closes : Bool) (text : Option (List ℕ)) (h : Http) → Once h (sends_some name closes text h)
sends_once name closes None h = faulted h too_long
sends_once name closes (Some text) h =
    either h (nat_le (h.made + length text) answer_limit) _ _ (answer_once (is_some h.answer) (already_answered name) closes text h refl) (faulted h too_long)

responds_once : (event : EventName) (name : List ℕ) (words : List (List ℕ)) (version : Version) (code : Result ℕ TclFault) (h : Http) → Once h (responds_by event name words version code h)
responds_once event name words version (Err f) h = faulted h f
responds_once event name words version (Ok code) h = sends_once name _ _ h

version_once : (event : EventName) (name : List ℕ) (words : List (List ℕ)) (version : Option Version) (h : Http) → Once h (responds_in event name words version h)
version_once event name words None h = faulted h (syntax_error name)
version_once event name words (Some version) h = either h _ _ _ (responds_once event name words version _ h) (faulted h (syntax_error name))

done_once : (event : EventName) (name : List ℕ) (words : List (List ℕ)) (f : Form) (h : Http) → Once h (done event name words f h)
done_once event name words form.SetUri h = target_once name _ h
done_once event name words form.SetPath h = target_once name _ h
done_once event name words form.FieldInsert h = puts_once event form.FieldInsert name (field_made (word_at words 1, word_at words 2)) h
done_once event name words form.FieldReplace h = puts_once event form.FieldReplace name (field_made (word_at words 1, word_at words 2)) h
done_once event name words form.FieldRemove h =
    either h _ _ _ (within_once true name h (removed event (word_at words 1) h) (removed_by (is_framing (word_at words 1)) (is_response event) (word_at words 1) h)) (faulted h (syntax_error name))
done_once event name words form.CookieInsert h = either h _ _ _ (cookie_once event name _ h) (faulted h (syntax_error name))
done_once event name words form.CookieRemove h = some_once event name _ h
done_once event name words form.CollectAll h = collects_once name (Ok payload_limit) h
done_once event name words form.Collect h = collects_once name (count_of (word_at words 0)) h
done_once event name words form.Release h = within_once true name h _ refl
done_once event name words form.Close h = gives h _ [] refl
done_once event name words form.Replace h = part_once name (part_of (word_at words 1) (word_at words 2)) (word_at words 3) h
done_once event name words form.Respond h = version_once event name words _ h
done_once event name words form.Redirect h = either h _ _ _ (sends_once name _ _ h) (faulted h (syntax_error name))
done_once event name words other h = gives h h _ refl

formed_once : (event : EventName) (name : List ℕ) (words : List (List ℕ)) (f : Result Form TclFault) (h : Http) → Once h (formed event name words f h)
formed_once event name words (Ok f) h = done_once event name words f h
formed_once event name words (Err fault) h = faulted h fault

commanded_once : (event : EventName) (name : List ℕ) (words : List (List ℕ)) (c : Option HostCommand) (h : Http) → Once h (commanded event name words c h)
commanded_once event name words None h = faulted h (no_command name)
commanded_once event name words (Some c) h = formed_once event (command_row c).name words (checked c event h words) h

pub http_once : (event : EventName) (h : Http) (words : List (List ℕ)) → Once h (http_step event h words)
http_once event h words = commanded_once event (word_at words 0) (behind_first words) (found (word_at words 0)) h
