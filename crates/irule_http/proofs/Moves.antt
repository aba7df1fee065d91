-- What each step of a command keeps.
use Rattle.std.proofs.Common.{◌≡◌, ℕ, ◌+◌, ◌≤◌, Bool, true, false, List, [], ◌∷◌, length, refl, arith}
use Rattle.std.proofs.Common.{Option, Some, None, Result, Ok, Err, ◌&&◌}
use Rattle.std.specs.Prelude.{ℤ, pos, negsuc, codes, sum_by, is_some, nat_le, ◌==◌, if◌then◌else◌}
use Rattle.std.specs.List.{list_all}
use Rattle.std.proofs.lemmas.Bool.{and_parts, leb-true}
use Rattle.std.proofs.lemmas.List.Sums.{sum_by-cons}
use Rattle.px_bytes.specs.Host.{Effect, Gives, Faults, Sent}
use Rattle.px_bytes.specs.FaultText.{no_command, out_of_range, syntax_error, too_long}
use Rattle.px_bytes.specs.Gives.{with_value}
use Rattle.px_bytes.specs.WholeWord.{number_of}
use Rattle.std.specs.Str.{bytes_eq}
use Rattle.px_bytes.specs.declared.addr.Side.TheVariants.{Client, Server}
use Rattle.px_bytes.specs.declared.fault.TclFault.{TclFault}
use Rattle.event_order.specs.Command.{command_row}
use Rattle.event_order.specs.declared.command.HostCommand.{HostCommand}
use Rattle.event_order.specs.declared.event.EventName.{EventName}
use Rattle.http_heads.specs.Fields.{Pair, field_made, is_field, without}
use Rattle.http_heads.specs.Written.{written_request, written_response}
use Rattle.http_heads.specs.declared.request.RequestHead.{RequestHead}
use Rattle.http_heads.specs.declared.response.ResponseHead.{ResponseHead}
use Rattle.http_heads.specs.declared.line.Version.{Version}
use Rattle.httparse.specs.Grammar.{is_token}
use Rattle.irule_net.specs.Laws.{sent_to}
use Rattle.irule_net.specs.FaultText.{not_here}
use Rattle.irule_net.proofs.Moves.{sent-append}
use Rattle.http_answers.specs.Answers.{Answer, composed}
use Rattle.irule_http.specs.Answers.{answer_limit, answer_of, answered, answers, code_in}
use Rattle.irule_http.specs.Answers.{code_of}
use Rattle.irule_http.specs.Answers.{location, redirect_of}
use Rattle.irule_http.specs.Answers.{redirects, responds_by, responds_in, sends_some}
use Rattle.irule_http.specs.Checks.{checked}
use Rattle.irule_http.specs.Commands.{commanded, formed, found, http_step}
use Rattle.irule_http.specs.Edits.{Step, changes_some, changes_target, cookie_edit}
use Rattle.irule_http.specs.Edits.{edited, is_cookie, is_framing, puts_by, puts_cookie_by, removed}
use Rattle.irule_http.specs.Edits.{target_holds, targeted, tested, within}
use Rattle.irule_http.specs.FaultText.{already_answered}
use Rattle.irule_http.specs.Forms.{word_at}
use Rattle.http_answers.specs.Limits.{head_limit}
use Rattle.irule_http.specs.Heads.{holds, holds_by, left_by, left_with, request_holds}
use Rattle.irule_http.specs.Heads.{request_left}
use Rattle.irule_http.specs.Heads.{request_with, request_without, response_holds, response_left, response_with}
use Rattle.irule_http.specs.Heads.{response_without, target_with, without_by}
use Rattle.irule_http.specs.Laws.{Calls, HeadsWithin, Keeps, LeavesState, OnlyCloses}
use Rattle.irule_http.specs.Laws.{RequestWithin}
use Rattle.http_answers.specs.Laws.{IsAnswer}
use Rattle.irule_http.specs.Laws.{ResponseWithin, SendsAnswers}
use Rattle.irule_http.specs.Laws.{left, made, made_behind}
use Rattle.http_answers.specs.Options.{behind_first, behind_option, content_by, content_of}
use Rattle.http_answers.specs.Options.{given_fields, option_in, version_of}
use Rattle.irule_http.specs.Payload.{collecting, collects_by, count_of, has_body, part_of, payload_limit}
use Rattle.irule_http.specs.Payload.{replaces_part, replaces_there}
use Rattle.irule_http.specs.State.{fields_here, is_response}
use Rattle.irule_http.specs.Steps.{done}
use Rattle.http_answers.specs.Laws.{Made}
use Rattle.http_answers.proofs.Answering.{is_answer}
use Rattle.http_heads.proofs.WrittenLengths.{request_length, response_length}
use Rattle.irule_http.proofs.Lengths.{fewer, shorter}
use Rattle.irule_http.specs.declared.form.Form.{Form}
use Rattle.irule_http.specs.declared.form.Form.TheVariants as form
use Rattle.irule_http.specs.declared.state.Http.{Http}

pub record Moves (size : ℕ) (h : Http) (step : Step) : Type 0 where
  pub keeps : Keeps h (left step)
  pub sent : (left step).made ≡ h.made + sent_to Client (made step)
  pub server : sent_to Server (made step) ≡ 0
  pub within : h.made ≤ answer_limit → (left step).made ≤ answer_limit
  pub payload : length h.payload ≤ payload_limit → length (left step).payload ≤ payload_limit
  pub leaves : LeavesState h step
  pub once : is_some h.answer ≡ true → OnlyCloses h step
  pub heads : (most : ℕ) → head_limit ≤ most → HeadsWithin most h → HeadsWithin most (left step)
  pub reads : size ≤ 1048576 → SendsAnswers h.request (made step)

all_kept : (h : Http) → Keeps h h
all_kept h = record {
  number = refl;
  came = refl;
  answered_by = refl;
  body = refl;
  reader = refl;
  whole = refl;
  gathered = refl;
  detaches = refl;
  serves = refl;
}

-- a change that sends nothing
record Quiet (h t : Http) : Type 0 where
  keeps : Keeps h t
  made : t.made ≡ h.made
  payload : length h.payload ≤ payload_limit → length t.payload ≤ payload_limit
  heads : (most : ℕ) → head_limit ≤ most → HeadsWithin most h → HeadsWithin most t

same : (h : Http) → Quiet h h
same h = record { keeps = all_kept h; made = refl; payload = λ e. e; heads = λ most m w. w }

faulted : (size : ℕ) (h : Http) (f : TclFault) → Moves size h (Faults f h [])
faulted size h f = record {
  keeps = all_kept h;
  sent = omega arith;
  server = refl;
  within = λ e. e;
  payload = λ e. e;
  leaves = (refl, refl);
  once = λ e. record { sent = refl; left = refl };
  heads = λ most m w. w;
  reads = λ e. tt;
}

-- a value, and a change that is allowed behind an answer
gives : (size : ℕ) (h t : Http) (v : List ℕ) → Quiet h t → (is_some h.answer ≡ true → t ≡ record h { closes = t.closes })
    → Moves size h (Gives v t [])
gives size h t v q once = record {
  keeps = q.keeps;
  sent = omega (arith, q.made);
  server = refl;
  within = λ e. omega (arith, e, q.made);
  payload = q.payload;
  leaves = tt;
  once = λ e. record { sent = refl; left = once e };
  heads = q.heads;
  reads = λ e. tt;
}

either : (size : ℕ) (h : Http) (b : Bool) (x y : Step) → Moves size h x → Moves size h y → Moves size h (if b then x else y)
either size h true x y p q = p
either size h false x y p q = q

-- a change that an answer forbids
by_answer : (size : ℕ) (h t : Http) (a : Bool) (f : TclFault) → is_some h.answer ≡ a → Quiet h t
    → Moves size h (tested (if a then Err f else Ok tt) h t)
by_answer size h t true f is q = faulted size h f
by_answer size h t false f is q = gives size h t [] q (λ e. cc)

within_moves : (size : ℕ) (b : Bool) (name : List ℕ) (h t : Http) → (b ≡ true → Quiet h t) → Moves size h (within b name h t)
within_moves size true name h t q = by_answer size h t (is_some h.answer) (already_answered name) refl (q refl)
within_moves size false name h t q = faulted size h too_long

-- what a change of heads keeps
abbrev heads_changed : Http → Option RequestHead → Option ResponseHead → Http
heads_changed h request response = record h { request = request; response = response }

changed : (h : Http) (request : Option RequestHead) (response : Option ResponseHead)
    → ((most : ℕ) → head_limit ≤ most → HeadsWithin most h → HeadsWithin most (heads_changed h request response))
    → Quiet h (heads_changed h request response)
changed h request response heads = record {
  keeps = record { number = refl; came = refl; answered_by = refl; body = refl; reader = refl; whole = refl; gathered = refl; detaches = refl; serves = refl };
  made = refl;
  payload = λ e. e;
  heads = heads;
}

-- a head that is within its limits is within all that are greater
request_within : (most : ℕ) (fields : List Pair) (o : Option RequestHead) → head_limit ≤ most → request_holds fields o ≡ true
    → RequestWithin most (request_left fields o)
request_within most fields None m e = tt
request_within most fields (Some head) m e =
    let parts = and_parts _ _ e in
    (leb-true _ _ parts.0, omega (arith, m, leb-true (length (written_request (request_with fields head))) 65536 parts.1))

response_within : (most : ℕ) (fields : List Pair) (o : Option ResponseHead) → head_limit ≤ most → response_holds fields o ≡ true
    → ResponseWithin most (response_left fields o)
response_within most fields None m e = tt
response_within most fields (Some head) m e =
    let parts = and_parts _ _ e in
    (leb-true _ _ parts.0, omega (arith, m, leb-true (length (written_response (response_with fields head))) 65536 parts.1))

left_quiet : (b : Bool) (fields : List Pair) (h : Http) → holds_by b fields h ≡ true → Quiet h (left_by b fields h)
left_quiet true fields h e = changed h h.request (response_left fields h.response) (λ most m w.
    record { request = w.request; response = response_within most fields h.response m e })
left_quiet false fields h e = changed h (request_left fields h.request) h.response (λ most m w.
    record { request = request_within most fields h.request m e; response = w.response })

target_within : (most : ℕ) (target : List ℕ) (o : Option RequestHead) → head_limit ≤ most → target_holds target o ≡ true
    → RequestWithin most (targeted target o)
target_within most target None m e = tt
target_within most target (Some head) m e =
    let parts = and_parts _ _ e in
    (leb-true _ _ parts.0, omega (arith, m, leb-true (length (written_request (target_with target head))) 65536 parts.1))

request_fewer : (most : ℕ) (name : List ℕ) (o : Option RequestHead) → RequestWithin most o
    → RequestWithin most (request_without name o)
request_fewer most name None w = tt
request_fewer most name (Some head) w = (
  omega (arith, w.0, fewer name head.fields),
  omega (arith, w.1, request_length head, request_length (request_with (without name head.fields) head), shorter name head.fields),
)

response_fewer : (most : ℕ) (name : List ℕ) (o : Option ResponseHead) → ResponseWithin most o
    → ResponseWithin most (response_without name o)
response_fewer most name None w = tt
response_fewer most name (Some head) w = (
  omega (arith, w.0, fewer name head.fields),
  omega (arith, w.1, response_length head, response_length (response_with (without name head.fields) head), shorter name head.fields),
)

without_quiet : (b : Bool) (name : List ℕ) (h : Http) → Quiet h (without_by b name h)
without_quiet true name h = changed h h.request (response_without name h.response) (λ most m w.
    record { request = w.request; response = response_fewer most name h.response w.response })
without_quiet false name h = changed h (request_without name h.request) h.response (λ most m w.
    record { request = request_fewer most name h.request w.request; response = w.response })

target_moves : (size : ℕ) (name : List ℕ) (target : Option (List ℕ)) (h : Http) → Moves size h (changes_target name target h)
target_moves size name None h = faulted size h (syntax_error name)
target_moves size name (Some target) h = within_moves size (target_holds target h.request) name h _ (λ e.
    changed h (targeted target h.request) h.response (λ most m w.
    record { request = target_within most target h.request m e; response = w.response }))

some_moves : (size : ℕ) (event : EventName) (name : List ℕ) (fields : Option (List Pair)) (h : Http)
    → Moves size h (changes_some event name fields h)
some_moves size event name None h = faulted size h too_long
some_moves size event name (Some fields) h =
    within_moves size (holds event fields h) name h (left_with event fields h)
    (λ e. left_quiet (is_response event) fields h e)

puts_moves : (size : ℕ) (event : EventName) (f : Form) (name : List ℕ) (field : Option Pair) (h : Http)
    → Moves size h (puts_by event f name field h)
puts_moves size event f name None h = faulted size h (syntax_error name)
puts_moves size event f name (Some field) h =
    either size h (is_framing field.0) _ _ (within_moves size true name h h (λ e. same h))
    (some_moves size event name (edited f field (fields_here event h)) h)

removed_quiet : (event : EventName) (name : List ℕ) (b : Bool) (h : Http) → is_framing name ≡ b → Quiet h (removed event name h)
removed_quiet event name true h is = rw is (same h)
removed_quiet event name false h is = rw is (without_quiet (is_response event) name h)

cookie_moves : (size : ℕ) (event : EventName) (name : List ℕ) (field : Option Pair) (h : Http)
    → Moves size h (puts_cookie_by event name field h)
cookie_moves size event name None h = faulted size h (syntax_error name)
cookie_moves size event name (Some field) h =
    some_moves size event name (edited (cookie_edit (is_response event)) field (fields_here event h)) h

zero_or_not : (n : ℕ) (b : Bool) (h : Http) → (n == 0) ≡ b → Quiet h (collecting n h)
zero_or_not n true h is = rw is (same h)
zero_or_not n false h is = rw is (record {
  keeps = record { number = refl; came = refl; answered_by = refl; body = refl; reader = refl; whole = refl; gathered = refl; detaches = refl; serves = refl };
  made = refl;
  payload = λ e. e;
  heads = λ most m w. record { request = w.request; response = w.response };
})

collects_moves : (size : ℕ) (name : List ℕ) (n : Result ℕ TclFault) (h : Http) → Moves size h (collects_by name n h)
collects_moves size name (Err f) h = faulted size h f
collects_moves size name (Ok n) h = within_moves size true name h (collecting n h) (λ e. zero_or_not n (n == 0) h refl)

there_moves : (size : ℕ) (b : Bool) (name payload : List ℕ) (h : Http) → length payload ≤ payload_limit
    → Moves size h (replaces_there b name payload h)
there_moves size true name payload h short = within_moves size true name h _ (λ e. record {
  keeps = record { number = refl; came = refl; answered_by = refl; body = refl; reader = refl; whole = refl; gathered = refl; detaches = refl; serves = refl };
  made = refl;
  payload = λ e. short;
  heads = λ most m w. record { request = w.request; response = w.response };
})
there_moves size false name payload h short = faulted size h (not_here name)

replaced_moves : (size : ℕ) (b : Bool) (name payload : List ℕ) (h : Http) → nat_le (length payload) payload_limit ≡ b
    → Moves size h (if b then replaces_there (has_body h.body) name payload h else Faults too_long h [])
replaced_moves size true name payload h short = there_moves size (has_body h.body) name payload h (leb-true _ _ short)
replaced_moves size false name payload h short = faulted size h too_long

part_moves : (size : ℕ) (name : List ℕ) (part : Result (ℕ × ℕ) TclFault) (text : List ℕ) (h : Http)
    → Moves size h (replaces_part name part text h)
part_moves size name (Err f) text h = faulted size h f
part_moves size name (Ok part) text h = replaced_moves size _ name _ h refl

-- an answer
abbrev Reads : ℕ → Http → List ℕ → Type 0
Reads size h text = size ≤ 1048576 → IsAnswer h.request text

answer_moves : (size : ℕ) (a : Bool) (f : TclFault) (closes : Bool) (text : List ℕ) (h : Http) → is_some h.answer ≡ a
    → h.made + length text ≤ answer_limit → Reads size h text
    → Moves size h (if a then Faults f h [] else Gives [] (record h { answer = Some closes; made = h.made + length text })
    (Sent Client text ∷ []))
answer_moves size true f closes text h is few reads = faulted size h f
answer_moves size false f closes text h is few reads = record {
  keeps = record { number = refl; came = refl; answered_by = refl; body = refl; reader = refl; whole = refl; gathered = refl; detaches = refl; serves = refl };
  sent = omega arith;
  server = refl;
  within = λ e. few;
  payload = λ e. e;
  leaves = tt;
  once = λ e. cc;
  heads = λ most m w. record { request = w.request; response = w.response };
  reads = λ e. (reads e, tt);
}

bounded_moves : (size : ℕ) (b : Bool) (name : List ℕ) (closes : Bool) (text : List ℕ) (h : Http)
    → nat_le (h.made + length text) answer_limit ≡ b → Reads size h text
    → Moves size h (if b then answered name closes text h else Faults too_long h [])
bounded_moves size true name closes text h few reads =
    answer_moves size (is_some h.answer) (already_answered name) closes text h refl (leb-true _ _ few) reads
bounded_moves size false name closes text h few reads = faulted size h too_long

sends_moves : (size : ℕ) (name : List ℕ) (closes : Bool) (text : Option (List ℕ)) (h : Http)
    → ((t : List ℕ) → text ≡ Some t → Reads size h t) → Moves size h (sends_some name closes text h)
sends_moves size name closes None h reads = faulted size h too_long
sends_moves size name closes (Some text) h reads =
    bounded_moves size (nat_le (h.made + length text) answer_limit) name closes text h refl (reads text refl)

made_moves : (size : ℕ) (name : List ℕ) (a : Answer) (h : Http) → (size ≤ 1048576 → Made a)
    → Moves size h (answers name a h)
made_moves size name a h made =
    sends_moves size name a.closes (composed h.request a) h (λ t is e. is_answer h.request a (made e) t is)

-- a code is from 200 to 599
code_by : (b : Bool) (n code : ℕ) → (nat_le 200 n && nat_le n 599) ≡ b → (if b then Ok n else Err out_of_range) ≡ Ok code
    → (200 ≤ code) × (code ≤ 599)
code_by true n code e is =
    let parts = and_parts (nat_le 200 n) (nat_le n 599) e in
    let same : n ≡ code = cc in
    (omega (arith, same, leb-true 200 n parts.0), omega (arith, same, leb-true n 599 parts.1))
code_by false n code e is = cc

code_in_range : (number : Result ℤ TclFault) (code : ℕ) → with_value number code_in ≡ Ok code → (200 ≤ code) × (code ≤ 599)
code_in_range (Err f) code is = cc
code_in_range (Ok (pos n)) code is = code_by (nat_le 200 n && nat_le n 599) n code refl is
code_in_range (Ok (negsuc n)) code is = cc

-- the content is one of the words
option_by : (b : Bool) (v : List ℕ) (rest : ℕ) → length (content_by (if b then Some v else None)) ≤ length v + rest
option_by true v rest = omega arith
option_by false v rest = omega arith

option_short : (option : List ℕ) (words : List (List ℕ)) → length (content_by (option_in option words)) ≤ sum_by length words
option_short option [] = omega arith
option_short option (w ∷ []) = omega arith
option_short option (w ∷ v ∷ words) =
    omega (arith, sum_by-cons length w (v ∷ words), sum_by-cons length v words, option_by (bytes_eq w option) v (sum_by length words))

behind_by : (b : Bool) (w v : List ℕ) (words : List (List ℕ))
    → sum_by length (if b then words else w ∷ v ∷ words) ≤ length w + (length v + sum_by length words)
behind_by true w v words = omega arith
behind_by false w v words =
    omega (arith, sum_by-cons length w (v ∷ words), sum_by-cons length v words)

behind_short : (option : List ℕ) (words : List (List ℕ)) → sum_by length (behind_option option words) ≤ sum_by length words
behind_short option [] = omega arith
behind_short option (w ∷ []) = omega arith
behind_short option (w ∷ v ∷ words) =
    omega (arith, sum_by-cons length w (v ∷ words), sum_by-cons length v words, behind_by (bytes_eq w option) w v words)

first_short : (words : List (List ℕ)) → sum_by length (behind_first words) ≤ sum_by length words
first_short [] = omega arith
first_short (w ∷ words) =
    omega (arith, sum_by-cons length w words)

content_short : (words : List (List ℕ)) → length (content_of words) ≤ sum_by length words
content_short words =
    let behind = behind_first words in
    omega (
      arith,
      first_short words,
      behind_short (codes "-version") behind,
      option_short (codes "content") (behind_option (codes "-version") behind),
    )

responds_moves : (size : ℕ) (event : EventName) (name : List ℕ) (words : List (List ℕ)) (version : Version)
    (code : Result ℕ TclFault) (h : Http) → sum_by length words ≤ size → list_all is_field (given_fields words) ≡ true
    → code_of words ≡ code → Moves size h (responds_by event name words version code h)
responds_moves size event name words version (Err f) h brief given is = faulted size h f
responds_moves size event name words version (Ok code) h brief given is =
    let range = code_in_range (number_of (word_at words 0)) code is in
    made_moves size name (answer_of event h words version code) h (λ e. record {
      given = given;
      least = range.0;
      most = range.1;
      few = omega (arith, content_short words, brief, e);
    })

given_moves : (size : ℕ) (event : EventName) (name : List ℕ) (words : List (List ℕ)) (version : Version) (b : Bool) (h : Http)
    → sum_by length words ≤ size → list_all is_field (given_fields words) ≡ b
    → Moves size h (if b then responds_by event name words version (code_of words) h else Faults (syntax_error name) h [])
given_moves size event name words version true h brief given =
    responds_moves size event name words version (code_of words) h brief given refl
given_moves size event name words version false h brief given = faulted size h (syntax_error name)

version_moves : (size : ℕ) (event : EventName) (name : List ℕ) (words : List (List ℕ)) (version : Option Version) (h : Http)
    → sum_by length words ≤ size → Moves size h (responds_in event name words version h)
version_moves size event name words None h brief = faulted size h (syntax_error name)
version_moves size event name words (Some version) h brief =
    given_moves size event name words version (list_all is_field (given_fields words)) h brief refl

redirect_by : (size : ℕ) (event : EventName) (name : List ℕ) (given : List Pair) (b : Bool) (h : Http)
    → list_all is_field given ≡ b
    → Moves size h (if b then answers name (redirect_of event h given) h else Faults (syntax_error name) h [])
redirect_by size event name given true h is = made_moves size name (redirect_of event h given) h (λ e. record {
  given = is;
  least = omega arith;
  most = omega arith;
  few = omega arith;
})
redirect_by size event name given false h is = faulted size h (syntax_error name)

redirect_moves : (size : ℕ) (event : EventName) (name : List ℕ) (words : List (List ℕ)) (h : Http)
    → Moves size h (redirects event name words h)
redirect_moves size event name words h =
    let given = location (word_at words 0) in redirect_by size event name given (list_all is_field given) h refl

told_moves : (size : ℕ) (h : Http) (v : List ℕ) → Moves size h (Gives v h [])
told_moves size h v = gives size h h v (same h) (λ e. refl)

done_moves : (size : ℕ) (event : EventName) (name : List ℕ) (words : List (List ℕ)) (f : Form) (h : Http)
    → sum_by length words ≤ size → Moves size h (done event name words f h)
done_moves size event name words form.SetUri h brief = target_moves size name _ h
done_moves size event name words form.SetPath h brief = target_moves size name _ h
done_moves size event name words form.FieldInsert h brief = puts_moves size event form.FieldInsert name (field_made (word_at words 1, word_at words 2)) h
done_moves size event name words form.FieldReplace h brief = puts_moves size event form.FieldReplace name (field_made (word_at words 1, word_at words 2)) h
done_moves size event name words form.FieldRemove h brief =
    either size h (is_token (word_at words 1)) _ _
    (within_moves size true name h _ (λ e. removed_quiet event (word_at words 1) (is_framing (word_at words 1)) h refl))
    (faulted size h (syntax_error name))
done_moves size event name words form.CookieInsert h brief =
    either size h (is_cookie words) _ _ (cookie_moves size event name _ h) (faulted size h (syntax_error name))
done_moves size event name words form.CookieRemove h brief = some_moves size event name _ h
done_moves size event name words form.CollectAll h brief = collects_moves size name (Ok payload_limit) h
done_moves size event name words form.Collect h brief = collects_moves size name (count_of (word_at words 0)) h
done_moves size event name words form.Release h brief = within_moves size true name h _ (λ e. record {
  keeps = record { number = refl; came = refl; answered_by = refl; body = refl; reader = refl; whole = refl; gathered = refl; detaches = refl; serves = refl };
  made = refl;
  payload = λ e. e;
  heads = λ most m w. record { request = w.request; response = w.response };
})
done_moves size event name words form.Close h brief = gives size h _ [] (record {
  keeps = record { number = refl; came = refl; answered_by = refl; body = refl; reader = refl; whole = refl; gathered = refl; detaches = refl; serves = refl };
  made = refl;
  payload = λ e. e;
  heads = λ most m w. record { request = w.request; response = w.response };
}) (λ e. refl)
done_moves size event name words form.Replace h brief =
    part_moves size name (part_of (word_at words 1) (word_at words 2)) (word_at words 3) h
done_moves size event name words form.Respond h brief = version_moves size event name words (version_of words) h brief
done_moves size event name words form.Redirect h brief = redirect_moves size event name words h
done_moves size event name words other h brief = told_moves size h _

formed_moves : (size : ℕ) (event : EventName) (name : List ℕ) (words : List (List ℕ)) (f : Result Form TclFault) (h : Http)
    → sum_by length words ≤ size → Moves size h (formed event name words f h)
formed_moves size event name words (Ok f) h brief = done_moves size event name words f h brief
formed_moves size event name words (Err fault) h brief = faulted size h fault

commanded_moves : (size : ℕ) (event : EventName) (name : List ℕ) (words : List (List ℕ)) (c : Option HostCommand) (h : Http)
    → sum_by length words ≤ size → Moves size h (commanded event name words c h)
commanded_moves size event name words None h brief = faulted size h (no_command name)
commanded_moves size event name words (Some c) h brief =
    formed_moves size event (command_row c).name words (checked c event h words) h brief

pub moves : (size : ℕ) (event : EventName) (h : Http) (words : List (List ℕ)) → sum_by length words ≤ size
    → Moves size h (http_step event h words)
moves size event h words brief =
    commanded_moves size event (word_at words 0) (behind_first words) (found (word_at words 0)) h
    (omega (arith, brief, first_short words))

-- what a command keeps, however long its words are
pub any_moves : (event : EventName) (h : Http) (words : List (List ℕ)) → Moves (sum_by length words) h (http_step event h words)
any_moves event h words = moves (sum_by length words) event h words (omega arith)

-- what was sent and what is still sent
pub record Bounded (h : Http) (effects : List Effect) : Type 0 where
  pub client : h.made + sent_to Client effects ≤ answer_limit
  pub server : sent_to Server effects ≡ 0

pub bounded : (event : EventName) (h : Http) (calls : Calls) → h.made ≤ answer_limit
    → Bounded h (made_behind event h calls)
bounded event h [] few = record { client = omega (arith, few); server = refl }
bounded event h (words ∷ calls) few =
    let step = http_step event h words in
    let m = any_moves event h words in
    let rest = bounded event (left step) calls (m.within few) in
    let more = made_behind event (left step) calls in
    record {
      client = omega (arith, m.sent, rest.client, sent-append Client (made step) more);
      server = omega (arith, m.server, rest.server, sent-append Server (made step) more);
    }
