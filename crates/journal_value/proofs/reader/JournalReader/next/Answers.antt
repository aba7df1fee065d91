use Rattle.std.proofs.Common.{◌≡◌, ◌+◌, [], sym, ap, subst, ◌∙◌, arith}
use Rattle.journal_value.specs.Journal.{FirstFault, unended_kind}
use Rattle.journal_value.proofs.Reading.{line_fails, none_left, read_all, read_line, rest_fails, some_left}
use Rattle.journal_value.proofs.reader.JournalReader.next.Goals as goal

pub loop-line-preserved : goal.loop-line-preserved
loop-line-preserved c =
    let next = c.in-Some.ensures.some in
    let told = c.in-Ok-None.ensures in (
      λ text past read. rw c.in-Ok-None.field-0-is at (read_line text c.loop-line.self past (c.loop-line.invariant.0 text past read) c.in-Some.line.now c.next_line.new.self next c.in-Ok-None.field-0 told.told told.only_told),
      omega (arith, next.shorter, c.loop-line.invariant.1),
    )

pub returns-in-Ok-Some-clause-told : goal.returns-in-Ok-Some-clause-told
returns-in-Ok-Some-clause-told c = λ text past read.
    let told = c.in-Ok-Some.ensures in
    rw c.in-Ok-Some.field-0-is at (read_line text c.loop-line.self past (c.loop-line.invariant.0 text past read) c.in-Some.line.now c.next_line.new.self c.in-Some.ensures.some c.in-Ok-Some.field-0 told.told told.only_told)

pub returns-in-Ok-Some-clause-shorter : goal.returns-in-Ok-Some-clause-shorter
returns-in-Ok-Some-clause-shorter c = omega (arith, c.in-Some.ensures.some.shorter, c.loop-line.invariant.1)

pub returns-in-Err-clause-fault : goal.returns-in-Err-clause-fault
returns-in-Err-clause-fault c = λ text past read.
    let old = c.loop-line.self in
    rw (← c.self.view_is) at (line_fails text old past (c.loop-line.invariant.0 text past read) c.in-Some.line.now c.next_line.new.self c.in-Some.ensures.some c.in-Err.kind c.in-Err.ensures.fault)

pub returns-then-is_empty-clause-told : goal.returns-then-is_empty-clause-told
returns-then-is_empty-clause-told c = λ text past read.
    let stays = sym c.in_default.ensures.none.0 ∙ sym c.self-2.view_is in
    let none = ap (λ reader. reader.0) stays ∙ none_left c.self-2.inside.rest.now c.if-is_empty.ensures in
    read_all text c.loop-line.self past (c.loop-line.invariant.0 text past read) none

pub returns-clause-fault : goal.returns-clause-fault
returns-clause-fault c = λ text past read.
    let old = c.loop-line.self in
    let rest = c.self-2.inside.rest.now in
    let stays = sym c.in_default.ensures.none.0 ∙ sym c.self-2.view_is in
    let some : ¬ (old.0 ≡ []) = λ none. some_left rest c.if-is_empty.ensures (sym (ap (λ reader. reader.0) stays) ∙ none) in
    let fails = rest_fails text old past (c.loop-line.invariant.0 text past read) c.in_default.ensures.none.1 some in
    subst (λ k. FirstFault text (record { line = c.self-2.inside.line + 1; kind = k })) (sym c.unended.ensures)
    (subst (λ reader. FirstFault text (record { line = reader.1 + 1; kind = unended_kind reader.0 })) stays fails)
