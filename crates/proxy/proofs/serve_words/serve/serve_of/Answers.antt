use Rattle.std.proofs.Common.{◌≡◌, List, true, All, IfOk, Ok, Err, sym, subst, rules}
use Rattle.std.specs.Prelude.{Result, IsUtf8}
use Rattle.std.specs.List.{list_all}
use Rattle.clap.specs.Walk.{Text}
use Rattle.proxy.specs.ServeWords.{AreServeWords, Fields, IsServe, Says, begins_serve, fields_of, fields_view, is_plain}
use Rattle.proxy.specs.declared.serve_words.serve.Serve.{Serve}
use Rattle.proxy.specs.declared.serve_words.serve.UsageFault.{UsageFault}
use Rattle.proxy.proofs.serve_words.serve.serve_of.Goals as goal

said_of : (words : List Text) (f : Fields) → begins_serve words ≡ true → list_all is_plain words ≡ true → All IsUtf8 words
    → AreServeWords words → f ≡ fields_of words → (r : Result Serve UsageFault) → IfOk r (Says f) → IfOk r (IsServe words)
said_of words f first plain utf8 faultless is (Ok s) says =
    record { first = first; plain = plain; utf8 = utf8; faultless = faultless; says = subst (λ (x : Fields). Says x s) is says }
said_of words f first plain utf8 faultless is (Err e) says = tt

pub returns-in_default-clause-usage : goal.returns-in_default-clause-usage
returns-in_default-clause-usage c same s is =
    c.in_ok-texts.ensures.none (search rules) (subst (λ (l : List Text). All IsUtf8 l) (sym c.as_slice-words.ensures) is.utf8)

pub returns-clause-serve : goal.returns-clause-serve
returns-clause-serve c =
    let first : begins_serve c.args.words.now ≡ true = search rules in
    let plain : list_all is_plain c.args.words.now ≡ true = search rules in
    let utf8 : All IsUtf8 c.args.words.now = subst (λ (l : List Text). All IsUtf8 l) c.as_slice-words.ensures (rw c.in-Some.is at c.in_ok-texts.ensures.utf8) in
    let faultless : AreServeWords c.args.words.now = search rules in
    let is : fields_view c.in_ok-given.given ≡ fields_of c.args.words.now = search rules in
    said_of c.args.words.now (fields_view c.in_ok-given.given) first plain utf8 faultless is c.said.result c.said.ensures.says
