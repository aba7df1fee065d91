use Rattle.std.proofs.Common.{◌≡◌, ◌+◌, ◌-◌, ◌≤◌, Some, None, drop, take, length, sym, ap, subst, ◌∙◌}
use Rattle.std.proofs.lemmas.List.{take_rest}
use Rattle.memchr.specs.Find.{FindsNeedle, Nowhere, OccursAt}
use Rattle.seg_buffer.specs.Bytes.{crlf2}
use Rattle.http_heads.specs.Fronts.{blank_length, head_limit}
use Rattle.http_heads.proofs.LookedHeads.{blank_goes_on, blank_inside, found_is, looks_all, none_is, none_seen, seen_inside}
use Rattle.http_heads.proofs.front.Looked.head_part.Goals as goal

pub blank_length-blank-requires-clause-inside : goal.blank_length-blank-requires-clause-inside
blank_length-blank-requires-clause-inside c =
    subst (λ t. c.args.self.now.blank ≤ length t) (sym c.front_of-front.ensures)
    (blank_inside c.args.self.now c.args.unread.now c.requires)

pub blank_length-blank-requires-clause-blank : goal.blank_length-blank-requires-clause-blank
blank_length-blank-requires-clause-blank c =
    let blank = c.args.self.now.blank in
    subst (λ t. blank_length t ≡ blank + blank_length (drop blank t)) (sym c.front_of-front.ensures)
    (blank_goes_on c.args.self.now c.args.unread.now c.requires)

pub find_crlf2-requires-clause-inside : goal.find_crlf2-requires-clause-inside
find_crlf2-requires-clause-inside c =
    let blank = c.blank_length-blank.result in
    let text = take_rest c.front_of-front.result.now blank ∙ ap (drop blank) c.front_of-front.ensures in
    subst (λ t. c.saturating_sub.result ≤ length t) (sym text)
    (subst (λ n. n ≤ length (drop blank (take head_limit c.args.unread.now))) (sym c.saturating_sub.ensures)
    (seen_inside c.args.self.now c.args.unread.now c.requires blank))

pub find_crlf2-requires-clause-none : goal.find_crlf2-requires-clause-none
find_crlf2-requires-clause-none c =
    let blank = c.blank_length-blank.result in
    let text = take_rest c.front_of-front.result.now blank ∙ ap (drop blank) c.front_of-front.ensures in
    let is = c.blank_length-blank.ensures.value ∙ ap blank_length c.front_of-front.ensures in
    subst (λ t. Nowhere (OccursAt t crlf2) 0 c.saturating_sub.result) (sym text)
    (subst (λ n. Nowhere (OccursAt (drop blank (take head_limit c.args.unread.now)) crlf2) 0 n) (sym c.saturating_sub.ensures)
    (none_seen c.args.self.now c.args.unread.now c.requires blank is))

pub returns-in-Some-clause-part : goal.returns-in-Some-clause-part
returns-in-Some-clause-part c =
    let blank = c.blank_length-blank.result in
    let text = take_rest c.front_of-front.result.now blank ∙ ap (drop blank) c.front_of-front.ensures in
    let is = c.blank_length-blank.ensures.value ∙ ap blank_length c.front_of-front.ensures in
    found_is c.args.unread.now c.args.ended blank is c.in-Some.place
    (subst (λ t. FindsNeedle t crlf2 0 (Some c.in-Some.place)) text c.in-Some.ensures.place)

pub returns-in-None-clause-part : goal.returns-in-None-clause-part
returns-in-None-clause-part c =
    let blank = c.blank_length-blank.result in
    let text = take_rest c.front_of-front.result.now blank ∙ ap (drop blank) c.front_of-front.ensures in
    let is = c.blank_length-blank.ensures.value ∙ ap blank_length c.front_of-front.ensures in
    c.no_end.ensures.part
    ∙ none_is c.args.unread.now c.args.ended blank is (subst (λ t. FindsNeedle t crlf2 0 None) text c.in-None.ensures.place)

pub returns-in-None-clause-looks : goal.returns-in-None-clause-looks
returns-in-None-clause-looks c =
    let is = c.blank_length-blank.ensures.value ∙ ap blank_length c.front_of-front.ensures in
    looks_all c.args.unread.now c.args.ended c.blank_length-blank.result is c.no_end.result c.args.self.now c.no_end.new.self
    (returns-in-None-clause-part c) c.no_end.ensures.looks
