use Rattle.std.proofs.Common.{◌≡◌, inl, inr, refl, sym, ap, subst, ◌∙◌, [], ◌∷◌, ◌++◌, List, ℕ, false, true, not, Option, None}
use Rattle.std.specs.Option.{is_some}
use Rattle.px_bytes.specs.Answered.{DidStep}
use Rattle.px_bytes.specs.Host.{Sent}
use Rattle.px_bytes.specs.declared.addr.Side.TheVariants.{Client}
use Rattle.irule_http.specs.Commands.{http_step}
use Rattle.irule_http.proofs.Once.{http_once}
use Rattle.conn.specs.Hosts.{answer_made}
use Rattle.conn.proofs.Calling.{answered_did, memory_did, none_is, quiet_did}
use Rattle.conn.proofs.host.request_command.Goals as goal

pub returns-then-answered : goal.returns-then-answered
returns-then-answered c =
    let h = c.args.http.now in
    let left = c.http_command-said.new.state in
    let made = answer_made c.args.answer.now in
    let before : is_some h.answer ≡ true = sym c.is_some-answered.ensures ∙ c.if-answered.true in
    quiet_did h left made made c.http_command-said.new.sent (http_step c.args.event h c.args.words.now) c.http_command-said.result (inl before) (http_once c.args.event h c.args.words.now) refl
    (rw c.empty-sent.ensures at c.http_command-said.ensures)

pub returns-then-is_none : goal.returns-then-is_none
returns-then-is_none c =
    let h = c.args.http.now in
    let left = c.http_command-said.new.state in
    let made = answer_made c.args.answer.now in
    let after : is_some left.answer ≡ false = c.is_none.ensures ∙ ap not c.if-is_none.true in
    quiet_did h left made made c.http_command-said.new.sent (http_step c.args.event h c.args.words.now) c.http_command-said.result (inr after) (http_once c.args.event h c.args.words.now) refl
    (rw c.empty-sent.ensures at c.http_command-said.ensures)

pub returns-then-is_some : goal.returns-then-is_some
returns-then-is_some c = memory_did (http_step c.args.event c.args.http.now c.args.words.now) c.http_command-said.new.state (λ es. answer_made c.args.answer.now ≡ answer_made c.args.answer.now ++ es)

pub returns : goal.returns
returns c =
    let h = c.args.http.now in
    let left = c.http_command-said.new.state in
    let sent = c.http_command-said.new.sent in
    let step = http_step c.args.event h c.args.words.now in
    let none : is_some h.answer ≡ false = sym c.is_some-answered.ensures ∙ c.if-answered.false in
    let some : is_some left.answer ≡ true = c.is_none.ensures ∙ ap not c.if-is_none.false in
    let empty : c.args.answer.now ≡ None = none_is c.args.answer.now (sym c.is_some.ensures ∙ c.if-is_some.false) in
    let d = answered_did h left [] (Sent Client sent ∷ []) sent step c.http_command-said.result (none, some) (http_once c.args.event h c.args.words.now) refl (rw c.empty-sent.ensures at c.http_command-said.ensures) in
    let P : Option (List ℕ) → Type 0 = λ o. DidStep step c.http_command-said.result left (λ es. Sent Client sent ∷ [] ≡ answer_made o ++ es) in
    subst P (sym empty) d
