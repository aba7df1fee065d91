use Rattle.std.proofs.Common.{Some, None, subst}
use Rattle.std.proofs.lemmas.List.{take_rest}
use Rattle.memchr.specs.Find.{FindsNeedle}
use Rattle.seg_buffer.specs.Bytes.{crlf2}
use Rattle.seg_buffer.proofs.Places.{found_on, nowhere_on}
use Rattle.seg_buffer.proofs.crlf2.find_crlf2.Goals as goal

pub returns-in-Some-clause-place : goal.returns-in-Some-clause-place
returns-in-Some-clause-place c =
    let text = c.args.text.now in
    let from = c.args.from in
    let place = c.in-Some.place in
    found_on text from place c.requires.none
    (subst (λ t. FindsNeedle t crlf2 0 (Some place)) (take_rest text from) c.in-Some.ensures)

pub returns-in-None-clause-place : goal.returns-in-None-clause-place
returns-in-None-clause-place c =
    let text = c.args.text.now in
    let from = c.args.from in
    nowhere_on text from c.requires.inside c.requires.none
    (subst (λ t. FindsNeedle t crlf2 0 None) (take_rest text from) c.in-None.ensures)
