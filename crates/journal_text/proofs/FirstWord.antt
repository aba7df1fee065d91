-- The first word of a line is that of one verb at most, and tells what is asked of the others.
use Rattle.std.proofs.Common.{◌≡◌, ℕ, List, ◌∷◌, Result, Ok, Err, IfOk, IfErr, refl, sym}
use Rattle.std.proofs.Common.{ap, subst, ◌∙◌}
use Rattle.journal_text.specs.Verb.{verb_text}
use Rattle.journal_text.specs.Form.{forms, fields, verb_of}
use Rattle.journal_text.specs.Reading.{Answered, ReadAs, Fails}
use Rattle.journal_text.specs.Line.{NoneEmpty, WordsSpell, WordsFail}
use Rattle.journal_text.specs.declared.verb.EventVerb.{EventVerb}
use Rattle.core_events.specs.declared.event.Event.{Event}
use Rattle.journal_text.specs.declared.line_kind.LineKind.{LineKind}
use Rattle.journal_text.specs.declared.line_kind.LineKind.TheVariants.{LongLine, NoNewline, NotEvent, NotNote}
use Rattle.journal_text.specs.declared.line_kind.LineKind.TheVariants.{BadNumber, BadHex, Memory}
use Rattle.journal_text.proofs.ByText.{verb_by_text}
use Rattle.journal_text.proofs.Found.{some_same}

pub same_verb : (v w : EventVerb) → verb_text v ≡ verb_text w → v ≡ w
same_verb v w e = some_same v w (sym ((verb_by_text (verb_text v) v).1 refl) ∙ (verb_by_text (verb_text v) w).1 e)

spelled : (words : List (List ℕ)) (verb : EventVerb) (rest : List (List ℕ)) (event : Event) → NoneEmpty words → words ≡ verb_text verb ∷ rest → verb_of event ≡ verb → ReadAs (forms verb) rest (fields event) → WordsSpell words event
spelled words verb rest event some are is read = record { none_empty = some; rest = rest; words_are = are ∙ ap (λ v. verb_text v ∷ rest) (sym is); read = subst (λ v. ReadAs (forms v) rest (fields event)) (sym is) read }

failed : (words : List (List ℕ)) (verb : EventVerb) (rest : List (List ℕ)) (kind : LineKind) → NoneEmpty words → words ≡ verb_text verb ∷ rest → Fails (forms verb) rest kind → WordsFail words kind
failed words verb rest NotEvent some are fails = λ none v more e. subst (λ w. Fails (forms w) more NotEvent) (same_verb verb v (cc (are, e))) (subst (λ r. Fails (forms verb) r NotEvent) (cc (are, e)) fails)
failed words verb rest BadNumber some are fails = record { none_empty = some; verb = verb; rest = rest; words_are = are; fails = fails }
failed words verb rest BadHex some are fails = record { none_empty = some; verb = verb; rest = rest; words_are = are; fails = fails }
failed words verb rest Memory some are fails = tt
failed words verb rest LongLine some are fails = fails
failed words verb rest NoNewline some are fails = fails
failed words verb rest NotNote some are fails = fails

pub by_first : (words : List (List ℕ)) (verb : EventVerb) (rest : List (List ℕ)) (r : Result Event LineKind) → NoneEmpty words → words ≡ verb_text verb ∷ rest → IfOk r (λ e. verb_of e ≡ verb) → Answered fields (forms verb) rest r → IfOk r (WordsSpell words) × IfErr r (WordsFail words)
by_first words verb rest (Ok event) some are is read = (spelled words verb rest event some are is read, tt)
by_first words verb rest (Err kind) some are is fails = (tt, failed words verb rest kind some are fails)
