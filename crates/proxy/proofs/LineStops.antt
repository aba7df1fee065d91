-- One line: it is skipped, its event is given, or the replay stops there.
use Rattle.std.proofs.Common.{◌≡◌, ◌↔◌, sym, ap, subst, ◌∙◌, ℕ, ◌+◌, List, [], ◌∷◌, ◌++◌}
use Rattle.std.proofs.Common.{length, Option, Some, None, Result, Ok, Err}
use Rattle.std.proofs.Common.{IfOk, IfErr, OnOk, IfSome, arith, inl}
use Rattle.run_config.specs.declared.config.Config.{Config}
use Rattle.proxy_core.specs.declared.core_state.Core.{Core}
use Rattle.core_events.specs.declared.event.Event.{Event}
use Rattle.proxy.specs.declared.replay.Stop.{Stop}
use Rattle.proxy.specs.declared.replay.Stop.TheVariants as stop
use Rattle.journal_text.specs.declared.line_kind.LineKind.{LineKind}
use Rattle.proxy.specs.declared.taken.Taken.{Taken}
use Rattle.proxy.specs.Lines.{IsLine, Gives, events_of, Reads}
use Rattle.journal_text.specs.Line.{IsSkipped}
use Rattle.journal_text.specs.Line.{SpellsEvent}
use Rattle.proxy.specs.Stops.{with_line, StoppedAtEvent, StoppedAtLine}
use Rattle.proxy.specs.Written.{Stands}

-- a line that is skipped
skipped_lines : (text line : List ℕ) (number : ℕ) (events : List Event) → Reads text number events → IsLine line → IsSkipped line → Reads (with_line text line) (number + 1) events
skipped_lines text line number events r is skipped = record {
  lines = line ∷ r.lines;
  text_is = ap (λ x. x ++ (line ++ 10 ∷ [])) r.text_is;
  all_lines = (is, r.all_lines);
  number_is = (let e : length (line ∷ r.lines) ≡ length r.lines + 1 = omega arith in ap (λ n. n + 1) r.number_is ∙ sym e);
  spell = inl (skipped, r.spell);
}

pub skips : (C : Config) (text line : List ℕ) (number : ℕ) (core : Core) (taken : List Taken) (events : ℕ) (told now : Option (List ℕ)) → Stands C text number core taken events told now → IsLine line → IsSkipped line → Stands C (with_line text line) (number + 1) core taken events told now
skips C text line number core taken events told now s is skipped = record {
  past = s.past;
  state = s.state;
  represents = s.represents;
  reads = skipped_lines text line number (events_of s.past) s.reads is skipped;
  count = s.count;
  taken_is = s.taken_is;
  written = s.written;
}

-- a stop at the event of a line is one at the line
pub at_line : (C : Config) (text line : List ℕ) (number at : ℕ) (event : Event) (core : Core) (taken : List Taken) (events : ℕ) (old new : Option (List ℕ)) (why : Stop) → StoppedAtEvent C text line number at event core taken events old new why → StoppedAtLine C text line number at core taken events old new why
at_line C text line number at event core taken events old new (stop.Text l kind) k = absurd k
at_line C text line number at event core taken events old new (stop.Event l why) k = (k.0, (k.1.0, event, k.1.1, k.1.2))
at_line C text line number at event core taken events old new stop.WriteFault k = k
at_line C text line number at event core taken events old new stop.Memory k = k

-- what the reader of a line says of it
pub event_gives : (line : List ℕ) (res : Result (Option Event) LineKind) (event : Event) → res ≡ Ok (Some event) → ((res ≡ Ok None) ↔ IsSkipped line) → IfOk res (λ found. IfSome found (SpellsEvent line)) → Gives line event
event_gives line res event is skipped spells = record {
  not_skipped = λ k. (let e : res ≡ Ok None = skipped.1 k in cc);
  spells = (let P : Result (Option Event) LineKind → Type 0 = λ r. IfOk r (λ found. IfSome found (SpellsEvent line)) in subst P is spells);
}

pub goes_behind : {T E : Type 0} (r : Result T E) (P Q : Type 0) → (P → Q) → OnOk r P → OnOk r Q
goes_behind (Ok x) P Q f h = f h
goes_behind (Err x) P Q f h = tt

pub stops_behind : {T : Type 0} (r : Result T Stop) (P Q : Stop → Type 0) → ((why : Stop) → P why → Q why) → IfErr r P → IfErr r Q
stops_behind (Ok x) P Q f h = tt
stops_behind (Err x) P Q f h = f x h
