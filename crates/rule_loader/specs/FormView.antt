-- Handlers and procedures as the code holds their words.
use Rattle.std.specs.Prelude.{option_map}
use Rattle.rule_loader.specs.Forms as forms
use Rattle.rule_loader.specs.declared.forms.When.{When}
use Rattle.rule_loader.specs.declared.forms.Definition.{Definition}
use Rattle.tcl_words.specs.View.{word_view}

abbrev pub when_view : When → forms.When
when_view w = record {
  event = word_view w.event.now;
  priority = option_map (λ p. word_view p.now) w.priority;
  body = word_view w.body.now;
}

abbrev pub definition_view : Definition → forms.Definition
definition_view d = record {
  place = d.place;
  name = d.name;
  parameters = d.parameters.items;
  body = word_view d.body.now;
}
