-- No command of a rule changes how long a request's head says that its body is.
use Rattle.std.proofs.Common.{leb-true, ◌≤◌, not, ◌≡◌, refl, sym, ap, subst, ◌∙◌, ℕ, ◌+◌, Bool, true, false, true≢false, ◌&&◌, ◌||◌, cond, List, [], ◌∷◌, ◌++◌, length, codes, Option, Some, None, Result, Ok, Err}
use Rattle.std.specs.Prelude.{is_some, min, nat_le, ◌==◌}
use Rattle.std.specs.List.{list_all}
use Rattle.px_bytes.proofs.Tests.{by_cases}
use Rattle.px_bytes.specs.FaultText.{syntax_error, too_long}
use Rattle.px_bytes.specs.Host.{Gives, Faults, Sent}
use Rattle.px_bytes.specs.declared.addr.Side.TheVariants.{Client}
use Rattle.px_bytes.specs.declared.fault.TclFault.{TclFault}
use Rattle.event_order.specs.Command.{command_row}
use Rattle.event_order.specs.declared.command.HostCommand.{HostCommand}
use Rattle.event_order.specs.declared.event.EventName.{EventName}
use Rattle.irule_net.specs.Steps.{replaced}
use Rattle.httparse.specs.Grammar.{is_token}
use Rattle.http_heads.specs.Lines.{IsTarget, is_visible_target, target_made}
use Rattle.http_heads.specs.Written.{written_request}
use Rattle.http_heads.proofs.FilterFields.{fields_left}
use Rattle.http_heads.proofs.Targets.{is_target}
use Rattle.http_answers.specs.Limits.{head_limit}
use Rattle.std.proofs.lemmas.Bool.{and_parts}
use Rattle.http_heads.specs.Fields.{AreFields, Pair, field_made, is_field, is_named, last_field, last_place, named}
use Rattle.http_heads.specs.declared.line.Version.{Version}
use Rattle.http_heads.specs.declared.request.RequestHead.{RequestHead}
use Rattle.http_cookies.specs.MessageCookies.{cookie_field, cookie_text, extended, without_cookie}
use Rattle.http_answers.specs.Answers.{Answer, composed}
use Rattle.http_answers.specs.Options.{behind_first, given_fields, version_of}
use Rattle.irule_http.specs.Answers.{answer_limit, answer_of, answers, code_of, redirect_of, redirects_by, responds_by, responds_in, sends_some, answered, location}
use Rattle.irule_http.specs.Checks.{checked}
use Rattle.irule_http.specs.Commands.{commanded, formed, found}
use Rattle.irule_http.specs.Edits.{Step, changes_some, changes_target, cookie_edit, cookie_made, cookies_gone, edited, from_question, is_cookie, is_framing, may_change, puts_by, puts_cookie_by, removed, target_holds, target_of, targeted, tested, unless_answered, with_field, within}
use Rattle.irule_http.specs.FaultText.{already_answered}
use Rattle.irule_http.specs.Forms.{word_at}
use Rattle.irule_http.specs.Heads.{holds, holds_by, left_by, left_with, request_holds, request_left, request_with, request_without, without_by}
use Rattle.irule_http.specs.Laws.{left}
use Rattle.irule_http.specs.Payload.{collecting, collects_by, count_of, has_body, part_of, payload_limit, replaces_part, replaces_there}
use Rattle.irule_http.specs.State.{fields_here, fields_of, is_response, request_fields}
use Rattle.irule_http.specs.Steps.{done}
use Rattle.irule_http.specs.declared.form.Form.{Form}
use Rattle.irule_http.specs.declared.form.Form.TheVariants as form
use Rattle.irule_http.specs.declared.state.Http.{Http}
use Rattle.irule_http.specs.Framing.{FramingIsKept, FramingStays, HeadSays}
use Rattle.irule_http.proofs.KeptFields.{all_more, all_placed, coding, last_named, named_behind, named_replaced, named_uncooked, named_without, not_named, size}

-- ---- what stays

head_same : (o : Option RequestHead) → HeadSays o o
head_same None = tt
head_same (Some a) = record { is = λ k. k; version = refl; codings = refl; sizes = refl }

kept : (h : Http) → FramingStays h h
kept h = record { head = head_same h.request; payload = λ e. refl }

tested_kept : (may : Result (Unit {0}) TclFault) (h t : Http) → FramingStays h t → FramingStays h (left (tested may h t))
tested_kept (Ok u) h t k = k
tested_kept (Err f) h t k = kept h

within_kept : (b : Bool) (name : List ℕ) (h t : Http) → FramingStays h t → FramingStays h (left (within b name h t))
within_kept b name h t k = tested_kept (may_change b name h) h t k

-- a change that is made only where the head is within its limits with it
fitting_kept : (b : Bool) (name : List ℕ) (h t : Http) → (b ≡ true → FramingStays h t) → FramingStays h (left (within b name h t))
fitting_kept true name h t k = within_kept true name h t (k refl)
fitting_kept false name h t k = kept h

either_kept : (h : Http) (b : Bool) (x y : Step) → FramingStays h (left x) → FramingStays h (left y) → FramingStays h (left (cond b x y))
either_kept h true x y p q = p
either_kept h false x y p q = q

-- ---- targets

visible : (text target : List ℕ) (b : Bool) → is_visible_target text ≡ b → cond b (Some text) None ≡ Some target → IsTarget target
visible text target true is made = let same : text ≡ target = cc in subst IsTarget same (is_target text is)
visible text target false is made = absurd (cc)

target_says : (target : List ℕ) (o : Option RequestHead) → IsTarget target → HeadSays o (targeted target o)
target_says target None is = tt
target_says target (Some a) is = record { is = λ k. record { method = k.method; target = is; fields = k.fields }; version = refl; codings = refl; sizes = refl }

target_kept : (name text : List ℕ) (target : Option (List ℕ)) (h : Http) → target_made text ≡ target → FramingStays h (left (changes_target name target h))
target_kept name text None h made = kept h
target_kept name text (Some target) h made =
    within_kept (target_holds target h.request) name h (record h { request = targeted target h.request })
    (record { head = target_says target h.request (visible text target (is_visible_target text) refl made); payload = λ e. refl })

-- ---- fields

-- a field that doesn't tell how long a body is
record Other (f : Pair) : Type 0 where
  coding : is_named coding f ≡ false
  size : is_named size f ≡ false

neither : (a b : Bool) → (a || b) ≡ false → (a ≡ false) × (b ≡ false)
neither true b is = absurd (true≢false is)
neither false b is = (refl, is)

no_framing : (f : Pair) → is_framing f.0 ≡ false → Other f
no_framing f is = let both = neither (is_named size f) (is_named coding f) is in record { coding = both.1; size = both.0 }

-- an edit of fields that keeps those of any name that it isn't of
Keeps : (List Pair → List Pair) → Pair → Type 0
Keeps g f = (name : List ℕ) (fs : List Pair) → is_named name f ≡ false → named name (g fs) ≡ named name fs

edit_says : (f : Pair) (g : List Pair → List Pair) (fields : List Pair) (o : Option RequestHead) → Keeps g f → Other f
    → ((head : RequestHead) → o ≡ Some head → (fields ≡ g head.fields) × (AreFields head.fields → AreFields fields)) → HeadSays o (request_left fields o)
unfolding Keeps
edit_says f g fields None keeps other is = tt
edit_says f g fields (Some head) keeps other is = record {
  is = λ k. record { method = k.method; target = k.target; fields = (is head refl).1 k.fields };
  version = refl;
  codings = ap (named coding) (is head refl).0 ∙ keeps coding head.fields other.coding;
  sizes = ap (named size) (is head refl).0 ∙ keeps size head.fields other.size;
}

left_kept : (b : Bool) (fields : List Pair) (h : Http) → (b ≡ false → HeadSays h.request (request_left fields h.request)) → FramingStays h (left_by b fields h)
left_kept true fields h says = record { head = head_same h.request; payload = λ e. refl }
left_kept false fields h says = record { head = says refl; payload = λ e. refl }

-- fields with which the request is within its limits
request_few : (fields : List Pair) (h : Http) (o : Option RequestHead) → request_holds fields o ≡ true → length fields ≤ 100
request_few fields h None is = absurd (true≢false (sym is))
request_few fields h (Some head) is = leb-true _ _ (and_parts (nat_le (length fields) 100) (nat_le (length (written_request (request_with fields head))) head_limit) is).0

few_by : (b : Bool) (fields : List Pair) (h : Http) → holds_by b fields h ≡ true → b ≡ false → length fields ≤ 100
few_by true fields h holds is = absurd (true≢false is)
few_by false fields h holds is = request_few fields h h.request holds

some_kept : (event : EventName) (name : List ℕ) (o : Option (List Pair)) (h : Http)
    → ((fields : List Pair) → o ≡ Some fields → is_response event ≡ false → length fields ≤ 100 → HeadSays h.request (request_left fields h.request))
    → FramingStays h (left (changes_some event name o h))
some_kept event name None h says = kept h
some_kept event name (Some fields) h says =
    fitting_kept (holds event fields h) name h (left_with event fields h)
    (λ fits. left_kept (is_response event) fields h (λ request. says fields refl request (few_by (is_response event) fields h fits request)))

-- the fields that an edit of the request's makes
edited_fields : (f : Form) (field : Pair) (b : Bool) (h : Http) (fields : List Pair) (head : RequestHead) → b ≡ false → h.request ≡ Some head
    → edited f field (fields_of b h) ≡ Some fields → fields ≡ with_field f field head.fields
edited_fields f field b h fields head request there is =
    let e : Some (with_field f field head.fields) ≡ Some fields =
    sym (ap (λ t. edited f field (fields_of t h)) request ∙ ap (λ o. edited f field (request_fields o)) there) ∙ is in
    cc

-- an edit by a field that a head may hold leaves such fields
Adds : (List Pair → List Pair) → Type 0
Adds g = (fs : List Pair) → list_all is_field fs ≡ true → list_all is_field (g fs) ≡ true

all_so : (g : List Pair → List Pair) (old fields : List Pair) → Adds g → fields ≡ g old → length fields ≤ 100 → AreFields old → AreFields fields
unfolding Adds
all_so g old fields adds is few were = record { are = ap (list_all is_field) is ∙ adds old were.are; few = few }

edit_kept : (event : EventName) (f : Form) (name : List ℕ) (field : Pair) (h : Http) → Keeps (with_field f field) field → Adds (with_field f field) → Other field
    → FramingStays h (left (changes_some event name (edited f field (fields_here event h)) h))
edit_kept event f name field h keeps adds other =
    some_kept event name (edited f field (fields_here event h)) h
    (λ fields is request few. edit_says field (with_field f field) fields h.request keeps other
    (λ head there. let same = edited_fields f field (is_response event) h fields head request there is in
    (same, all_so (with_field f field) head.fields fields adds same few)))

insert_keeps : (field : Pair) → Keeps (with_field form.FieldInsert field) field
unfolding Keeps
insert_keeps field name fs other = named_behind name fs field other

replace_keeps : (field : Pair) → Keeps (with_field form.FieldReplace field) field
unfolding Keeps
replace_keeps field name fs other = named_replaced name fs field other

made_field : (text field : Pair) → field_made text ≡ Some field → is_field field ≡ true
made_field text field is =
    by_cases (λ t. is_field text ≡ t → cond t (Some text) None ≡ Some field → is_field field ≡ true) (is_field text)
    (λ yes so e. let same : text ≡ field = cc in ap is_field (sym same) ∙ so) (λ none so e. absurd (cc)) refl is

insert_adds : (field : Pair) → is_field field ≡ true → Adds (with_field form.FieldInsert field)
unfolding Adds
insert_adds field is fs all = all_more fs field all is

replace_adds : (field : Pair) → is_field field ≡ true → Adds (with_field form.FieldReplace field)
unfolding Adds
replace_adds field is fs all = all_placed fs field (last_place field.0 fs) all is

puts_kept : (event : EventName) (f : Form) (name : List ℕ) (text : Pair) (field : Option Pair) (h : Http) → field_made text ≡ field
    → ((g : Pair) → Keeps (with_field f g) g) → ((g : Pair) → is_field g ≡ true → Adds (with_field f g)) → FramingStays h (left (puts_by event f name field h))
puts_kept event f name text None h made keeps adds = kept h
puts_kept event f name text (Some field) h made keeps adds =
    by_cases (λ t. is_framing field.0 ≡ t → FramingStays h (left (cond t (unless_answered name h h) (changes_some event name (edited f field (fields_here event h)) h)))) (is_framing field.0)
    (λ yes is. within_kept true name h h (kept h)) (λ other is. edit_kept event f name field h (keeps field) (adds field (made_field text field made)) (no_framing field is)) refl

-- ---- fields that go

without_says : (name : List ℕ) (o : Option RequestHead) → is_framing name ≡ false → HeadSays o (request_without name o)
without_says name None is = tt
without_says name (Some head) is =
    let other = no_framing (name, []) is in
    record {
      is = λ k. record { method = k.method; target = k.target; fields = fields_left (λ f. not (is_named name f)) head.fields k.fields };
      version = refl;
      codings = named_without coding name head.fields other.coding;
      sizes = named_without size name head.fields other.size;
    }

gone_kept : (b : Bool) (name : List ℕ) (h : Http) → is_framing name ≡ false → FramingStays h (without_by b name h)
gone_kept true name h is = record { head = head_same h.request; payload = λ e. refl }
gone_kept false name h is = record { head = without_says name h.request is; payload = λ e. refl }

removed_kept : (event : EventName) (name : List ℕ) (h : Http) → FramingStays h (removed event name h)
removed_kept event name h =
    by_cases (λ t. is_framing name ≡ t → FramingStays h (cond t h (without_by (is_response event) name h))) (is_framing name)
    (λ yes is. kept h) (λ other is. gone_kept (is_response event) name h is) refl

-- ---- cookies

cookie_other : (f : Pair) → is_named (codes "cookie") f ≡ true → Other f
cookie_other f is = record { coding = not_named coding (codes "cookie") f is refl; size = not_named size (codes "cookie") f is refl }

extended_other : (fields : List Pair) (last : Option Pair) (text : List ℕ) → last_field (codes "cookie") fields ≡ last → Other (extended last text)
extended_other fields None text is = record { coding = refl; size = refl }
extended_other fields (Some f) text is =
    let other = cookie_other f (last_named (codes "cookie") fields f is) in
    record { coding = other.coding; size = other.size }

made_other : (field f : Pair) → field_made f ≡ Some field → Other f → Other field
made_other field f is other =
    by_cases (λ t. cond t (Some f) None ≡ Some field → Other field) (is_field f)
    (λ yes e. subst Other (let same : f ≡ field = cc in same) other) (λ none e. absurd (cc)) is

cookie_says : (b : Bool) (text : List ℕ) (h : Http) (field : Pair) (fields : List Pair) (o : Option RequestHead) → h.request ≡ o → b ≡ false → length fields ≤ 100
    → cookie_made b text (fields_of b h) ≡ Some field → edited (cookie_edit b) field (fields_of b h) ≡ Some fields → HeadSays o (request_left fields o)
cookie_says true text h field fields o there request few made is = absurd (true≢false request)
cookie_says false text h field fields None there request few made is = tt
cookie_says false text h field fields (Some head) there request few made is =
    let one : field_made (cookie_field false text head.fields) ≡ Some field = sym (ap (λ r. cookie_made false text (request_fields r)) there) ∙ made in
    let other = made_other field (cookie_field false text head.fields) one (extended_other head.fields (last_field (codes "cookie") head.fields) text refl) in
    let e : Some (with_field form.FieldReplace field head.fields) ≡ Some fields = sym (ap (λ r. edited form.FieldReplace field (request_fields r)) there) ∙ is in
    let same : fields ≡ with_field form.FieldReplace field head.fields = cc in
    edit_says field (with_field form.FieldReplace field) fields (Some head) (replace_keeps field) other
    (λ k so. let it : head ≡ k = cc in let now = same ∙ ap (λ (r : RequestHead). with_field form.FieldReplace field r.fields) it in
    (now, all_so (with_field form.FieldReplace field) k.fields fields (replace_adds field (made_field (cookie_field false text head.fields) field one)) now few))

cookie_kept : (event : EventName) (name text : List ℕ) (field : Option Pair) (h : Http) → cookie_made (is_response event) text (fields_here event h) ≡ field
    → FramingStays h (left (puts_cookie_by event name field h))
cookie_kept event name text None h made = kept h
cookie_kept event name text (Some field) h made =
    some_kept event name (edited (cookie_edit (is_response event)) field (fields_here event h)) h
    (λ fields is request few. cookie_says (is_response event) text h field fields h.request refl request few made is)

are_made : (fields : List Pair) → (nat_le (length fields) 100 && list_all is_field fields) ≡ true → AreFields fields
are_made fields is = let both = and_parts (nat_le (length fields) 100) (list_all is_field fields) is in record { are = both.1; few = leb-true _ _ both.0 }

-- the fields without a cookie
gone_says : (b : Bool) (cookie : List ℕ) (h : Http) (fields : List Pair) (o : Option RequestHead) → h.request ≡ o → b ≡ false
    → cookies_gone b cookie (fields_of b h) ≡ Some fields → HeadSays o (request_left fields o)
gone_says true cookie h fields o there request is = absurd (true≢false request)
gone_says false cookie h fields None there request is = tt
gone_says false cookie h fields (Some head) there request is =
    let left = without_cookie false cookie head.fields in
    let e : cond (nat_le (length left) 100 && list_all is_field left) (Some left) None ≡ Some fields = sym (ap (λ r. cookies_gone false cookie (request_fields r)) there) ∙ is in
    let fits = nat_le (length left) 100 && list_all is_field left in
    let both = by_cases (λ t. fits ≡ t → cond t (Some left) None ≡ Some fields → (fields ≡ left) × AreFields fields) fits
    (λ yes holds so. let same : left ≡ fields = cc in (sym same, subst AreFields same (are_made left holds))) (λ none holds so. absurd (cc)) refl e in
    let same = both.0 in
    record {
      is = λ k. record { method = k.method; target = k.target; fields = both.1 };
      version = refl;
      codings = ap (named coding) same ∙ named_uncooked coding cookie head.fields refl;
      sizes = ap (named size) same ∙ named_uncooked size cookie head.fields refl;
    }

-- ---- bodies

counted_kept : (name : List ℕ) (n : Result ℕ TclFault) (h : Http) → FramingStays h (left (collects_by name n h))
counted_kept name (Err f) h = kept h
counted_kept name (Ok n) h = within_kept true name h (collecting n h) (zero_kept (n == 0))
  where
    zero_kept : (b : Bool) → FramingStays h (cond b h (record h { collect = min n payload_limit }))
    zero_kept true = kept h
    zero_kept false = record { head = head_same h.request; payload = λ e. refl }

there_kept : (b : Bool) (name payload : List ℕ) (h : Http) → has_body h.body ≡ b → FramingStays h (left (replaces_there b name payload h))
there_kept true name payload h is =
    within_kept true name h (record h { payload = payload })
    (record { head = head_same h.request; payload = λ none. absurd (true≢false (sym is ∙ ap has_body none)) })
there_kept false name payload h is = kept h

part_kept : (name : List ℕ) (part : Result (ℕ × ℕ) TclFault) (text : List ℕ) (h : Http) → FramingStays h (left (replaces_part name part text h))
part_kept name (Err f) text h = kept h
part_kept name (Ok part) text h =
    let payload = replaced part.0 part.1 text h.payload in
    either_kept h (nat_le (length payload) payload_limit) (replaces_there (has_body h.body) name payload h) (Faults too_long h [])
    (there_kept (has_body h.body) name payload h refl) (kept h)

-- ---- answers

answered_kept : (name : List ℕ) (closes : Bool) (text : List ℕ) (h : Http) → FramingStays h (left (answered name closes text h))
answered_kept name closes text h =
    either_kept h (is_some h.answer) (Faults (already_answered name) h []) (Gives [] (record h { answer = Some closes; made = h.made + length text }) (Sent Client text ∷ []))
    (kept h) (record { head = head_same h.request; payload = λ e. refl })

sends_kept : (name : List ℕ) (closes : Bool) (text : Option (List ℕ)) (h : Http) → FramingStays h (left (sends_some name closes text h))
sends_kept name closes None h = kept h
sends_kept name closes (Some text) h =
    either_kept h (nat_le (h.made + length text) answer_limit) (answered name closes text h) (Faults too_long h []) (answered_kept name closes text h) (kept h)

answers_kept : (name : List ℕ) (a : Answer) (h : Http) → FramingStays h (left (answers name a h))
answers_kept name a h = sends_kept name a.closes (composed h.request a) h

responds_kept : (event : EventName) (name : List ℕ) (words : List (List ℕ)) (version : Version) (code : Result ℕ TclFault) (h : Http)
    → FramingStays h (left (responds_by event name words version code h))
responds_kept event name words version (Err f) h = kept h
responds_kept event name words version (Ok code) h = answers_kept name (answer_of event h words version code) h

version_kept : (event : EventName) (name : List ℕ) (words : List (List ℕ)) (version : Option Version) (h : Http) → FramingStays h (left (responds_in event name words version h))
version_kept event name words None h = kept h
version_kept event name words (Some version) h =
    either_kept h (list_all is_field (given_fields words)) (responds_by event name words version (code_of words) h) (Faults (syntax_error name) h [])
    (responds_kept event name words version (code_of words) h) (kept h)

redirects_kept : (event : EventName) (name : List ℕ) (given : List Pair) (h : Http) → FramingStays h (left (redirects_by event name given h))
redirects_kept event name given h =
    either_kept h (list_all is_field given) (answers name (redirect_of event h given) h) (Faults (syntax_error name) h []) (answers_kept name (redirect_of event h given) h) (kept h)

-- ---- each form

done_kept : (event : EventName) (name : List ℕ) (words : List (List ℕ)) (f : Form) (h : Http) → FramingStays h (left (done event name words f h))
done_kept event name words form.SetUri h = target_kept name (word_at words 0) (target_made (word_at words 0)) h refl
done_kept event name words form.SetPath h =
    let path = word_at words 0 ++ from_question (target_of h.request) in
    target_kept name path (target_made path) h refl
done_kept event name words form.FieldInsert h =
    let text : Pair = (word_at words 1, word_at words 2) in
    puts_kept event form.FieldInsert name text (field_made text) h refl insert_keeps insert_adds
done_kept event name words form.FieldReplace h =
    let text : Pair = (word_at words 1, word_at words 2) in
    puts_kept event form.FieldReplace name text (field_made text) h refl replace_keeps replace_adds
done_kept event name words form.FieldRemove h =
    either_kept h (is_token (word_at words 1)) (unless_answered name h (removed event (word_at words 1) h)) (Faults (syntax_error name) h [])
    (within_kept true name h (removed event (word_at words 1) h) (removed_kept event (word_at words 1) h)) (kept h)
done_kept event name words form.CookieInsert h =
    let text = cookie_text (word_at words 2, word_at words 4) in
    let field = cookie_made (is_response event) text (fields_here event h) in
    either_kept h (is_cookie words) (puts_cookie_by event name field h) (Faults (syntax_error name) h []) (cookie_kept event name text field h refl) (kept h)
done_kept event name words form.CookieRemove h =
    some_kept event name (cookies_gone (is_response event) (word_at words 1) (fields_here event h)) h
    (λ fields is request few. gone_says (is_response event) (word_at words 1) h fields h.request refl request is)
done_kept event name words form.CollectAll h = counted_kept name (Ok payload_limit) h
done_kept event name words form.Collect h = counted_kept name (count_of (word_at words 0)) h
done_kept event name words form.Release h = within_kept true name h (record h { collect = 0 }) (record { head = head_same h.request; payload = λ e. refl })
done_kept event name words form.Close h = record { head = head_same h.request; payload = λ e. refl }
done_kept event name words form.Replace h = part_kept name (part_of (word_at words 1) (word_at words 2)) (word_at words 3) h
done_kept event name words form.Respond h = version_kept event name words (version_of words) h
done_kept event name words form.Redirect h = redirects_kept event name (location (word_at words 0)) h
done_kept event name words other h = kept h

formed_kept : (event : EventName) (name : List ℕ) (words : List (List ℕ)) (f : Result Form TclFault) (h : Http) → FramingStays h (left (formed event name words f h))
formed_kept event name words (Ok f) h = done_kept event name words f h
formed_kept event name words (Err fault) h = kept h

commanded_kept : (event : EventName) (name : List ℕ) (words : List (List ℕ)) (c : Option HostCommand) (h : Http) → FramingStays h (left (commanded event name words c h))
commanded_kept event name words None h = kept h
commanded_kept event name words (Some c) h = formed_kept event (command_row c).name words (checked c event h words) h

pub framing_kept : FramingIsKept
framing_kept event h words = commanded_kept event (word_at words 0) (behind_first words) (found (word_at words 0)) h
