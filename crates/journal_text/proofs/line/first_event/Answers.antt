use Rattle.std.proofs.Common.{rules, ap, ◌∷◌, map, ◌≡◌}
use Rattle.journal_text.specs.Verb.{verb_text}
use Rattle.journal_text.specs.Line.{NoneEmpty}
use Rattle.journal_text.proofs.FirstWord.{by_first}
use Rattle.journal_text.proofs.line.first_event.Goals as goal

pub returns-in-Some-clause-event : goal.returns-in-Some-clause-event
returns-in-Some-clause-event c =
    let rest = map (λ w. w.now) c.args.rest.now in
    let some : NoneEmpty (c.args.first.now ∷ rest) = search rules in
    let are : c.args.first.now ∷ rest ≡ verb_text c.in-Some.verb ∷ rest = ap (λ t. t ∷ rest) ((c.read_verb.ensures c.in-Some.verb).0 c.in-Some.is) in
    (by_first _ c.in-Some.verb rest c.verb_event.result some are c.verb_event.ensures.verb_is c.verb_event.ensures.answered).0

pub returns-in-Some-clause-fault : goal.returns-in-Some-clause-fault
returns-in-Some-clause-fault c =
    let rest = map (λ w. w.now) c.args.rest.now in
    let some : NoneEmpty (c.args.first.now ∷ rest) = search rules in
    let are : c.args.first.now ∷ rest ≡ verb_text c.in-Some.verb ∷ rest = ap (λ t. t ∷ rest) ((c.read_verb.ensures c.in-Some.verb).0 c.in-Some.is) in
    (by_first _ c.in-Some.verb rest c.verb_event.result some are c.verb_event.ensures.verb_is c.verb_event.ensures.answered).1
