use Rattle.std.proofs.Common.{rules, arith, ◌≡◌, ◌<◌, [], ◌∷◌, ◌++◌, All, length, List, ℕ, map, take, subst, sym, ap, ◌∙◌, slice_index_or}
use Rattle.std.specs.Prelude.{IsUtf8}
use Rattle.std.proofs.lemmas.List.Elements.{All-get_or, All-push}
use Rattle.std.proofs.lemmas.List.{map_push, take_all, take_more}
use Rattle.proxy.proofs.serve_words.text.as_text.Goals as goal

pub loop-word-init : goal.loop-word-init
loop-word-init c = (search rules, λ k d less. absurd (omega (arith, less)))

pub loop-word-preserved : goal.loop-word-preserved
loop-word-preserved c =
    let words = c.args.words.now in
    let i = c.loop-word.word-index in
    let less : i < length words = omega (arith, c.loop-word-test.true) in
    let at : slice_index_or words i c.word-item.result ≡ c.word-item.result = search (rules, c.word-item.is) in
    let more = take_more words i c.word-item.result less ∙ ap (λ (w : List ℕ). take i words ++ w ∷ []) at in
    let is : IsUtf8 c.word-item.result = search rules in
    let first = c.loop-word.invariant.0 in
    let word : c.in-Ok.text.now ≡ c.word-item.result = search rules in
    let texts = ap (map (λ t. t.now)) c.in_ok-push.ensures.items ∙ map_push (λ t. t.now) c.loop-word.texts.items c.in-Ok.text
    ∙ ap (λ (l : List (List ℕ)). l ++ c.in-Ok.text.now ∷ []) first ∙ ap (λ (w : List ℕ). take i words ++ w ∷ []) word in
    (texts ∙ sym more, subst (λ (l : List (List ℕ)). All IsUtf8 l) (sym more) (All-push IsUtf8 (take i words) c.word-item.result c.loop-word.invariant.1 is))

pub returns-in_default-clause-none : goal.returns-in_default-clause-none
returns-in_default-clause-none c is all =
    let here = All-get_or IsUtf8 c.args.words.now c.loop-word.word-index c.word-item.result (omega (arith, c.loop-word-test.true)) all in
    search (rules, here, c.word-item.is, c.in_default.ensures)

pub returns-clause-some : goal.returns-clause-some
returns-clause-some c =
    c.loop-word.invariant.0 ∙ take_all c.loop-word.word-index c.args.words.now (omega (arith, c.loop-word-test.false))

pub returns-clause-utf8 : goal.returns-clause-utf8
returns-clause-utf8 c =
    subst (λ (l : List (List ℕ)). All IsUtf8 l) (take_all c.loop-word.word-index c.args.words.now (omega (arith, c.loop-word-test.false))) c.loop-word.invariant.1
