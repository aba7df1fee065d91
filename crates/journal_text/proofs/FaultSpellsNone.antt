-- A line that has a fault spells no event.
use Rattle.std.proofs.Common.{◌≡◌, ℕ, Bool, true, false, List, [], ◌∷◌, refl, sym, subst, ◌∙◌, arith}
use Rattle.journal_text.specs.Form.{Form, Field, forms, fields, verb_of}
use Rattle.journal_text.specs.Reading.{ReadAs, Where, AllRead, Fails, at_first, but_bytes, every_form}
use Rattle.journal_text.specs.Line.{FailsBehind, WordsSpell}
use Rattle.journal_text.specs.Laws.{FaultSpellsNone}
use Rattle.core_events.specs.declared.event.Event.{Event}
use Rattle.journal_text.specs.declared.line_kind.LineKind.{LineKind}
use Rattle.journal_text.specs.declared.line_kind.LineKind.TheVariants as kind
use Rattle.journal_text.proofs.FirstWord.{same_verb}

asked_for : (b : Bool) (t : Type 0) → t → Where b t
asked_for true t x = x
asked_for false t x = tt

-- words that were read stand for something each
read_all : (asked : Form → Bool) (fs : List Form) (words : List (List ℕ)) (read : List Field) → ReadAs fs words read → AllRead asked fs words
read_all asked [] [] [] r = tt
read_all asked [] [] (x ∷ read) r = absurd r
read_all asked [] (word ∷ words) read r = absurd r
read_all asked (form ∷ fs) [] read r = absurd r
read_all asked (form ∷ fs) (word ∷ words) [] r = absurd r
read_all asked (form ∷ fs) (word ∷ words) (x ∷ read) r = (asked_for (asked form) _ (x, r.0), read_all asked fs words read r.1)

never_fails : (fs : List Form) (words : List (List ℕ)) (read : List Field) (k : LineKind) → ¬ (k ≡ kind.Memory) → ReadAs fs words read → Fails fs words k → ⊥
never_fails fs words read kind.NotEvent other r f = f (read_all at_first fs words read r)
never_fails fs words read kind.BadNumber other r f = f.1 (read_all but_bytes fs words read r)
never_fails fs words read kind.BadHex other r f = f.1 (read_all every_form fs words read r)
never_fails fs words read kind.Memory other r f = other refl
never_fails fs words read kind.LongLine other r f = f
never_fails fs words read kind.NoNewline other r f = f
never_fails fs words read kind.NotNote other r f = f

behind : (words : List (List ℕ)) (k : LineKind) (e : Event) → ¬ (k ≡ kind.Memory) → FailsBehind words k → WordsSpell words e → ⊥
behind words k e other f s =
    let same = sym f.words_are ∙ s.words_are in
    let v : f.verb ≡ verb_of e = same_verb f.verb (verb_of e) (cc same) in
    let r : f.rest ≡ s.rest = cc same in
    let there : Fails (forms (verb_of e)) s.rest k = subst (λ w. Fails (forms w) s.rest k) v (subst (λ ws. Fails (forms f.verb) ws k) r f.fails) in
    never_fails (forms (verb_of e)) s.rest (fields e) k other s.read there

pub fault_spells_none : FaultSpellsNone
fault_spells_none line kind.LongLine other f e s = let long = f in let within = s.within in absurd (omega (arith, long, within))
fault_spells_none line kind.NoNewline other f e s = f.1
fault_spells_none line kind.NotNote other f e s = f.1
fault_spells_none line kind.NotEvent other f e s =
    let w = s.spelled in
    never_fails (forms (verb_of e)) w.rest (fields e) kind.NotEvent other w.read (f.1 w.none_empty (verb_of e) w.rest w.words_are)
fault_spells_none line kind.BadNumber other f e s = behind _ kind.BadNumber e other f.1 s.spelled
fault_spells_none line kind.BadHex other f e s = behind _ kind.BadHex e other f.1 s.spelled
fault_spells_none line kind.Memory other f e s = other refl
