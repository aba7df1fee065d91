use Rattle.std.proofs.Common.{sym, ap, ◌∙◌}
use Rattle.tcl_words.specs.Reading.{reading, limit, judged, unless}
use Rattle.tcl_words.specs.View.{script_view}
use Rattle.tcl_words.proofs.Joined.{read_is_spelled, spelled_is_read}
use Rattle.tcl_words.proofs.parser.parse.Goals as goal

pub returns-in-None : goal.returns-in-None
unfolding reading limit
returns-in-None c =
    let text = c.args.text.now in
    let read = ap judged c.in_ok-script.ensures.value
    ∙ ap (λ f. unless f (script_view c.in_ok-script.script)) c.in-None.is in
    record {
      reads = read;
      spelled = read_is_spelled text _ read;
      every = λ tree is. sym (spelled_is_read text tree is) ∙ read;
    }

pub returns-in-Some : goal.returns-in-Some
unfolding reading limit
returns-in-Some c =
    let read = ap judged c.in_ok-script.ensures.value
    ∙ ap (λ f. unless f (script_view c.in_ok-script.script)) c.in-Some.is in
    record {
      reads = read;
      spelled = tt;
      every = λ tree is. sym (spelled_is_read c.args.text.now tree is) ∙ read;
    }
