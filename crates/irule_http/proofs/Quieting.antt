-- In an event in which no rule may answer no command sends.
use Rattle.std.proofs.Common.{◌≡◌, refl, sym, ap, ◌∙◌, ℕ, Bool, true, false, List, [], ◌∷◌, length, Option, Some, None, Result, Ok, Err, true≢false}
use Rattle.std.specs.Prelude.{◌&&◌, is_some, nat_le, ◌==◌, if◌then◌else◌, ⊤, codes}
use Rattle.std.specs.Str.{bytes_eq}
use Rattle.px_bytes.specs.FaultText.{syntax_error, too_long, wrong_arity}
use Rattle.px_bytes.specs.Gives.{with_value}
use Rattle.px_bytes.specs.Host.{Faults}
use Rattle.px_bytes.specs.declared.fault.TclFault.{TclFault}
use Rattle.event_order.specs.Command.{command_row}
use Rattle.event_order.specs.declared.command.HostCommand.{HostCommand}
use Rattle.event_order.specs.declared.command.HostCommand.TheVariants as command
use Rattle.event_order.specs.declared.event.EventName.{EventName}
use Rattle.http_answers.specs.Options.{behind_first, is_answer}
use Rattle.http_heads.specs.Fields.{Pair, field_made}
use Rattle.irule_net.specs.Checks.{allows}
use Rattle.irule_net.specs.FaultText.{not_here}
use Rattle.irule_http.specs.Checks.{checked, placed, shaped}
use Rattle.irule_http.specs.Commands.{commanded, formed, found, http_step}
use Rattle.irule_http.specs.Edits.{Step, changes_some, changes_target, cookie_edit}
use Rattle.irule_http.specs.Edits.{edited, is_framing, puts_by, puts_cookie_by, removed, tested, within}
use Rattle.irule_http.specs.FaultText.{already_answered}
use Rattle.irule_http.specs.Forms.{arity_fits, cookie_form, form_of, header_by, header_edit, header_form, header_named, payload_form, read_or_set, runs_in, some_fits, word_at}
use Rattle.irule_http.specs.Laws.{Silent, made}
use Rattle.irule_http.specs.Payload.{collects_by, count_of, has_body, part_of, payload_limit, replaces_part, replaces_there}
use Rattle.irule_http.specs.State.{fields_here, is_response, is_there}
use Rattle.irule_http.specs.Steps.{done}
use Rattle.irule_http.specs.declared.form.Form.{Form}
use Rattle.irule_http.specs.declared.form.Form.TheVariants as form
use Rattle.irule_http.specs.declared.state.Http.{Http}

record IsQuiet (step : Step) : Type 0 where
  is : made step ≡ []

faulted : (h : Http) (f : TclFault) → IsQuiet (Faults f h [])
faulted h f = record { is = refl }

either : (b : Bool) (x y : Step) → IsQuiet x → IsQuiet y → IsQuiet (if b then x else y)
either true x y p q = p
either false x y p q = q

by_answer : (a : Bool) (f : TclFault) (h t : Http) → IsQuiet (tested (if a then Err f else Ok tt) h t)
by_answer true f h t = record { is = refl }
by_answer false f h t = record { is = refl }

within_quiet : (b : Bool) (name : List ℕ) (h t : Http) → IsQuiet (within b name h t)
within_quiet true name h t = by_answer (is_some h.answer) (already_answered name) h t
within_quiet false name h t = record { is = refl }

target_quiet : (name : List ℕ) (target : Option (List ℕ)) (h : Http) → IsQuiet (changes_target name target h)
target_quiet name None h = record { is = refl }
target_quiet name (Some target) h = within_quiet _ name h _

some_quiet : (event : EventName) (name : List ℕ) (fields : Option (List Pair)) (h : Http) → IsQuiet (changes_some event name fields h)
some_quiet event name None h = record { is = refl }
some_quiet event name (Some fields) h = within_quiet _ name h _

puts_quiet : (event : EventName) (f : Form) (name : List ℕ) (field : Option Pair) (h : Http) → IsQuiet (puts_by event f name field h)
puts_quiet event f name None h = record { is = refl }
puts_quiet event f name (Some field) h =
    either (is_framing field.0) _ _ (within_quiet true name h h) (some_quiet event name (edited f field (fields_here event h)) h)

cookie_quiet : (event : EventName) (name : List ℕ) (field : Option Pair) (h : Http) → IsQuiet (puts_cookie_by event name field h)
cookie_quiet event name None h = record { is = refl }
cookie_quiet event name (Some field) h = some_quiet event name (edited (cookie_edit (is_response event)) field (fields_here event h)) h

collects_quiet : (name : List ℕ) (n : Result ℕ TclFault) (h : Http) → IsQuiet (collects_by name n h)
collects_quiet name (Err f) h = record { is = refl }
collects_quiet name (Ok n) h = within_quiet true name h _

there_quiet : (b : Bool) (name payload : List ℕ) (h : Http) → IsQuiet (replaces_there b name payload h)
there_quiet true name payload h = within_quiet true name h _
there_quiet false name payload h = record { is = refl }

part_quiet : (name : List ℕ) (part : Result (ℕ × ℕ) TclFault) (text : List ℕ) (h : Http) → IsQuiet (replaces_part name part text h)
part_quiet name (Err f) text h = record { is = refl }
part_quiet name (Ok part) text h = either _ _ _ (there_quiet (has_body h.body) name _ h) (faulted h too_long)

-- the forms that answer
abbrev answers : Form → Bool
answers form.Respond = true
answers form.Redirect = true
answers other = false

done_quiet : (event : EventName) (name : List ℕ) (words : List (List ℕ)) (f : Form) (h : Http) → answers f ≡ false → IsQuiet (done event name words f h)
done_quiet event name words form.SetUri h e = target_quiet name _ h
done_quiet event name words form.SetPath h e = target_quiet name _ h
done_quiet event name words form.FieldInsert h e = puts_quiet event form.FieldInsert name (field_made (word_at words 1, word_at words 2)) h
done_quiet event name words form.FieldReplace h e = puts_quiet event form.FieldReplace name (field_made (word_at words 1, word_at words 2)) h
done_quiet event name words form.FieldRemove h e = either _ _ _ (within_quiet true name h (removed event (word_at words 1) h)) (faulted h (syntax_error name))
done_quiet event name words form.CookieInsert h e = either _ _ _ (cookie_quiet event name _ h) (faulted h (syntax_error name))
done_quiet event name words form.CookieRemove h e = some_quiet event name _ h
done_quiet event name words form.CollectAll h e = collects_quiet name (Ok payload_limit) h
done_quiet event name words form.Collect h e = collects_quiet name (count_of (word_at words 0)) h
done_quiet event name words form.Release h e = within_quiet true name h _
done_quiet event name words form.Close h e = record { is = refl }
done_quiet event name words form.Replace h e = part_quiet name (part_of (word_at words 1) (word_at words 2)) (word_at words 3) h
done_quiet event name words form.Respond h e = absurd (true≢false e)
done_quiet event name words form.Redirect h e = absurd (true≢false e)
done_quiet event name words other h e = record { is = refl }

-- a form that doesn't answer, if there is one
abbrev IsCalm : Option Form → Type 0
IsCalm None = ⊤
IsCalm (Some f) = answers f ≡ false

calm : (b : Bool) (x y : Option Form) → IsCalm x → IsCalm y → IsCalm (if b then x else y)
calm true x y p q = p
calm false x y p q = q

header_calm : (word : List ℕ) → IsCalm (header_named word)
header_calm word =
    calm (bytes_eq word (codes "value")) _ _ refl
    (calm (bytes_eq word (codes "values")) _ _ refl
    (calm (bytes_eq word (codes "count")) _ _ refl
    (calm (bytes_eq word (codes "exists")) _ _ refl
    (calm (bytes_eq word (codes "names")) _ _ refl
    (calm (bytes_eq word (codes "insert")) _ _ refl
    (calm (bytes_eq word (codes "replace")) _ _ refl
    (calm (bytes_eq word (codes "remove")) _ _ refl tt)))))))

by_calm : (o : Option Form) (words : List (List ℕ)) → IsCalm o → IsCalm (header_by o words)
by_calm (Some f) words k = k
by_calm None [] k = refl
by_calm None (word ∷ words) k = tt

cookie_calm : (word : List ℕ) (words : List (List ℕ)) → IsCalm (cookie_form (word ∷ words))
cookie_calm word words =
    calm (bytes_eq word (codes "value")) _ _ refl
    (calm (bytes_eq word (codes "exists")) _ _ refl
    (calm (bytes_eq word (codes "names")) _ _ refl
    (calm (bytes_eq word (codes "count")) _ _ refl
    (calm (bytes_eq word (codes "insert")) _ _ refl
    (calm (bytes_eq word (codes "remove")) _ _ refl tt)))))

payload_calm : (words : List (List ℕ)) → IsCalm (payload_form words)
payload_calm [] = refl
payload_calm (word ∷ []) = calm (bytes_eq word (codes "length")) _ _ refl tt
payload_calm (word ∷ (at ∷ [])) = tt
payload_calm (word ∷ (at ∷ (n ∷ []))) = tt
payload_calm (word ∷ (at ∷ (n ∷ (text ∷ [])))) = calm (bytes_eq word (codes "replace")) _ _ refl tt
payload_calm (word ∷ (at ∷ (n ∷ (text ∷ (more ∷ words))))) = tt

set_calm : (reads sets : Form) (words : List (List ℕ)) → answers reads ≡ false → answers sets ≡ false → IsCalm (Some (read_or_set reads sets words))
set_calm reads sets [] r s = r
set_calm reads sets (word ∷ words) r s = s

header_form_calm : (words : List (List ℕ)) → IsCalm (header_form words)
header_form_calm [] = tt
header_form_calm (word ∷ words) = by_calm (header_named word) words (header_calm word)

cookie_form_calm : (words : List (List ℕ)) → IsCalm (cookie_form words)
cookie_form_calm [] = tt
cookie_form_calm (word ∷ words) = cookie_calm word words

module _ (event : EventName) (name : List ℕ) (words : List (List ℕ)) (h : Http) (c : HostCommand) where
  abbrev Quiets : Result Form TclFault → Type 0
  Quiets f = IsQuiet (formed event name words f h)

  fault_quiet : (b : Bool) (x y : TclFault) → Quiets (if b then Err x else Err y)
  fault_quiet true x y = record { is = refl }
  fault_quiet false x y = record { is = refl }

  placed_quiet : (f : Form) (b : Bool) (x : TclFault) → answers f ≡ false → Quiets (if b then Ok f else Err x)
  placed_quiet f true x e = done_quiet event name words f h e
  placed_quiet f false x e = record { is = refl }

  fitting_quiet : (f : Form) (b : Bool) (x : TclFault) → answers f ≡ false → Quiets (with_value (if b then Ok f else Err x) (placed c event))
  fitting_quiet f true x e = placed_quiet f (runs_in f event) (not_here (command_row c).name) e
  fitting_quiet f false x e = record { is = refl }

  unshaped_quiet : (b : Bool) (x y : TclFault) → Quiets (with_value (if b then Err x else Err y) (placed c event))
  unshaped_quiet true x y = record { is = refl }
  unshaped_quiet false x y = record { is = refl }

  shaped_quiet : (o : Option Form) → IsCalm o → Quiets (with_value (shaped c o (length words)) (placed c event))
  shaped_quiet None k = unshaped_quiet (some_fits c (length words)) (syntax_error (command_row c).name) (wrong_arity (command_row c).name)
  shaped_quiet (Some f) k = fitting_quiet f (arity_fits f (length words)) (wrong_arity (command_row c).name) k

  there_by : (b : Bool) (f : Result Form TclFault) (x : TclFault) → Quiets f → Quiets (if b then f else Err x)
  there_by true f x k = k
  there_by false f x k = record { is = refl }

  calm_quiet : IsCalm (form_of c words) → Quiets (checked c event h words)
  calm_quiet k = there_by (allows c event && is_there event h) _ _ (shaped_quiet (form_of c words) k)

  outside_quiet : (b : Bool) → b ≡ false → (f : Result Form TclFault) (x : TclFault) → Quiets (if b && is_there event h then f else Err x)
  outside_quiet true e f x = absurd (true≢false e)
  outside_quiet false e f x = record { is = refl }

carried_quiet : (event : EventName) → allows command.HttpRespond event ≡ false → (name : List ℕ) (words : List (List ℕ)) (h : Http) (c : HostCommand)
    → IsQuiet (formed event name words (checked c event h words) h)
carried_quiet event none name words h command.HttpUri = calm_quiet event name words h command.HttpUri (set_calm form.Uri form.SetUri words refl refl)
carried_quiet event none name words h command.HttpPath = calm_quiet event name words h command.HttpPath (set_calm form.Path form.SetPath words refl refl)
carried_quiet event none name words h command.HttpQuery = calm_quiet event name words h command.HttpQuery refl
carried_quiet event none name words h command.HttpMethod = calm_quiet event name words h command.HttpMethod refl
carried_quiet event none name words h command.HttpHost = calm_quiet event name words h command.HttpHost refl
carried_quiet event none name words h command.HttpRequestNum = calm_quiet event name words h command.HttpRequestNum refl
carried_quiet event none name words h command.HttpVersion = calm_quiet event name words h command.HttpVersion refl
carried_quiet event none name words h command.HttpStatus = calm_quiet event name words h command.HttpStatus refl
carried_quiet event none name words h command.HttpHeader = calm_quiet event name words h command.HttpHeader (header_form_calm words)
carried_quiet event none name words h command.HttpCookie = calm_quiet event name words h command.HttpCookie (cookie_form_calm words)
carried_quiet event none name words h command.HttpCollect = calm_quiet event name words h command.HttpCollect (set_calm form.CollectAll form.Collect words refl refl)
carried_quiet event none name words h command.HttpRelease = calm_quiet event name words h command.HttpRelease refl
carried_quiet event none name words h command.HttpClose = calm_quiet event name words h command.HttpClose refl
carried_quiet event none name words h command.HttpPayload = calm_quiet event name words h command.HttpPayload (payload_calm words)
carried_quiet event none name words h command.HttpRespond =
    outside_quiet event name words h command.HttpRespond (allows command.HttpRespond event) none _ (not_here (command_row command.HttpRespond).name)
carried_quiet event none name words h command.HttpRedirect =
    outside_quiet event name words h command.HttpRedirect (allows command.HttpRedirect event) none _ (not_here (command_row command.HttpRedirect).name)
carried_quiet event none name words h c = calm_quiet event name words h c tt

commanded_quiet : (event : EventName) → allows command.HttpRespond event ≡ false → (name : List ℕ) (words : List (List ℕ)) (c : Option HostCommand) (h : Http)
    → IsQuiet (commanded event name words c h)
commanded_quiet event none name words None h = record { is = refl }
commanded_quiet event none name words (Some c) h = carried_quiet event none (command_row c).name words h c

pub silent : Silent
silent event h words none = (commanded_quiet event none (word_at words 0) (behind_first words) (found (word_at words 0)) h).is
