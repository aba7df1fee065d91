-- A schedule: what stands behind its lines, and where the replay stops.
use Rattle.std.proofs.Common.{◌≡◌, refl, sym, ap, subst, ◌∙◌, ℕ, ◌+◌, ◌-◌, ◌<◌, arith}
use Rattle.std.proofs.Common.{List, [], ◌++◌, length, take, drop, Option, Some, None}
use Rattle.std.specs.List.{position_from}
use Rattle.std.proofs.lemmas.List.{length-drop, take-append-drop, take_rest}
use Rattle.run_config.specs.declared.config.Config.{Config}
use Rattle.proxy_core.specs.declared.core_state.Core.{Core}
use Rattle.proxy.specs.declared.replay.Stop.{Stop}
use Rattle.proxy.specs.declared.replay.Stop.TheVariants as stop
use Rattle.proxy.specs.declared.taken.Taken.{Taken}
use Rattle.journal_text.specs.Line.{IsSkipped}
use Rattle.journal_text.specs.declared.line_kind.LineKind.{LineKind}
use Rattle.journal_text.specs.declared.line_kind.LineKind.TheVariants.{NoNewline}
use Rattle.proxy.specs.Lines.{Faulty, Unended, NoEvent, unended_kind}
use Rattle.proxy.specs.Stops.{with_line, StoppedAtLine, Stopped}
use Rattle.proxy.specs.Written.{Stands}
use Rattle.proxy.proofs.LineCuts.{is_lf, cut, no_lf, next_line}
use Rattle.proxy.proofs.Stopping.{front_longer}

split : (at : ℕ) (s : List ℕ) → s ≡ take at s ++ drop at s
split at s = sym (take-append-drop at s)

-- the rest of a slice
pub placed : (at : ℕ) (s : List ℕ) (o x : Option ℕ) → o ≡ position_from is_lf 0 (take (length s - at) (drop at s)) → o ≡ x → position_from is_lf 0 (drop at s) ≡ x
placed at s o x e f = ap (position_from is_lf 0) (sym (take_rest s at)) ∙ sym e ∙ f

pub within_rest : (at len : ℕ) (s : List ℕ) → len < length (take (length s - at) (drop at s)) → len < length (drop at s)
within_rest at len s h = let P : List ℕ → Type 0 = λ t. len < length t in subst P (take_rest s at) h

-- what stands behind one more line
pub behind_line : (C : Config) (s : List ℕ) (at len line : ℕ) (core : Core) (taken : List Taken) (events : ℕ) (told now : Option (List ℕ)) → position_from is_lf 0 (drop at s) ≡ Some len → len < length (drop at s)
    → Stands C (with_line (take at s) (take len (drop at s))) (line + 1) core taken events told now → Stands C (take (at + (len + 1)) s) (line + 1) core taken events told now
behind_line C s at len line core taken events told now e h st = let P : List ℕ → Type 0 = λ t. Stands C t (line + 1) core taken events told now in subst P (next_line at len s e h) st

-- a stop at a line is one of the schedule
pub stops_there : (C : Config) (s : List ℕ) (at len line : ℕ) (core : Core) (taken : List Taken) (events : ℕ) (told now : Option (List ℕ)) (why : Stop) → position_from is_lf 0 (drop at s) ≡ Some len → len < length (drop at s)
    → StoppedAtLine C (take at s) (take len (drop at s)) line (line + 1) core taken events told now why → Stopped C s core taken events told now why
stops_there C s at len line core taken events told now (stop.Text l kind) e h k =
    let c = cut len (drop at s) e in
    record {
      text = take at s;
      rest = drop at s;
      schedule_is = split at s;
      number = line;
      line_is = k.0;
      stands = k.1.0;
      faulty = (let P : List ℕ → Type 0 = λ t. Faulty t kind in subst P (sym c.whole) (NoEvent (take len (drop at s)) (drop (len + 1) (drop at s)) kind c.is_line k.1.1));
    }
stops_there C s at len line core taken events told now (stop.Event l why) e h k =
    let c = cut len (drop at s) e in
    record {
      text = take at s;
      rest = drop at s;
      schedule_is = split at s;
      number = line;
      line_is = k.0;
      stands = k.1.0;
      refuses = record { line = take len (drop at s); rest = drop (len + 1) (drop at s); text_is = c.whole; is_line = c.is_line; event = k.1.1; gives = k.1.2; refused_for = k.1.3 };
    }
stops_there C s at len line core taken events told now stop.WriteFault e h k =
    front_longer C (with_line (take at s) (take len (drop at s))) (drop (at + (len + 1)) s) s told now (split (at + (len + 1)) s ∙ ap (λ t. t ++ drop (at + (len + 1)) s) (sym (next_line at len s e h))) k
stops_there C s at len line core taken events told now stop.Memory e h k =
    front_longer C (with_line (take at s) (take len (drop at s))) (drop (at + (len + 1)) s) s told now (split (at + (len + 1)) s ∙ ap (λ t. t ++ drop (at + (len + 1)) s) (sym (next_line at len s e h))) k

-- what begins below a text's end isn't empty
not_empty : (at : ℕ) (s : List ℕ) → at < length s → drop at s ≡ [] → ⊥
not_empty at s below none =
    let k = length-drop at s in
    let z : length (drop at s) ≡ 0 = ap length none in
    omega (arith, below, k, z)

-- a last line without LF, skipped or not, where what stands before it is known of whatever came before
pub stops_unended : (s : List ℕ) (at line : ℕ) (core : Core) (taken : List Taken) (events : ℕ) (now : Option (List ℕ)) (Before : Config → Option (List ℕ) → Type 0) (kind : LineKind) → at < length s → position_from is_lf 0 (drop at s) ≡ None
    → (IsSkipped (take (length s - at) (drop at s)) → kind ≡ NoNewline) → ((IsSkipped (take (length s - at) (drop at s)) → ⊥) → kind ≡ unended_kind (take (length s - at) (drop at s)))
    → ((C : Config) (told : Option (List ℕ)) → Before C told → Stands C (take at s) line core taken events told now)
    → (C : Config) (told : Option (List ℕ)) → Before C told → Stopped C s core taken events told now (stop.Text (line + 1) kind)
stops_unended s at line core taken events now Before kind below e skipped bare st C told h =
    let whole = take_rest s at in
    record {
      text = take at s;
      rest = drop at s;
      schedule_is = split at s;
      number = line;
      line_is = refl;
      stands = st C told h;
      faulty = Unended (drop at s) kind (no_lf (drop at s) e) (λ none. not_empty at s below none) (record {
        skipped = subst (λ t. IsSkipped t → kind ≡ NoNewline) whole skipped;
        not_skipped = subst (λ t. (IsSkipped t → ⊥) → kind ≡ unended_kind t) whole bare;
      });
    }
