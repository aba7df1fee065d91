use Rattle.std.proofs.lemmas.List.{append_assoc}
use Rattle.httparse.proofs.GrammarLemmas.{cons-append}
use Rattle.http_answers.proofs.answer.put_status_line.Goals as goal

pub returns : goal.returns
returns c = simp (
  c.in_ok-extend_from_slice-4.ensures.items,
  c.in_ok-extend_from_slice-3.ensures.items,
  c.in_ok-extend_from_slice-2.ensures.items,
  c.in_ok-put_status.ensures.text,
  c.in_ok-extend_from_slice.ensures.items,
  c.in_ok-put_version.ensures,
  c.new-status.ensures,
  c.reason_of.ensures,
  append_assoc,
  cons-append,
)
