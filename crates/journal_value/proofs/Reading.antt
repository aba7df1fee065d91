-- Lines that were read one by one.
use Rattle.std.proofs.Common.{◌≡◌, ℕ, ◌+◌, ◌==◌, true, false, List, [], ◌∷◌, ◌++◌, length, length-append, Option, None, refl, sym, ap, subst, ◌∙◌, append_assoc, arith}
use Rattle.std.proofs.lemmas.Bool.{eqb-true}
use Rattle.std.proofs.lemmas.List.{append_cancel_right}
use Rattle.std.proofs.lemmas.List.Splits.{length-slice_split}
use Rattle.journal_text.specs.declared.line_kind.LineKind.{LineKind}
use Rattle.journal_value.specs.Journal.{AllFit, Fails, FailsBefore, FirstFault, FitsLine, IsJournal, Tell, Tells, behind, is_lf, parts_of, unended_kind}
use Rattle.journal_value.specs.Reading.{HasNext, HasRead, IsNextLine}
use Rattle.journal_value.specs.declared.journal.JournalLine.{JournalLine}
use Rattle.journal_value.proofs.Told.{tell_last, tell_more}

pub read_none : (text : List ℕ) → HasRead text (text, 0) []
read_none text = record { lines = []; text_is = refl; number = refl; tell = refl; only_told = λ other fit tell. sym tell }

module _ (text : List ℕ) (old : List ℕ × ℕ) (past : List JournalLine) (read : HasRead text old past) where
  module _ (line : List ℕ) (new : List ℕ × ℕ) (next : IsNextLine old line new) where
    -- one more line that tells something
    pub read_line : (first : Option JournalLine) → Tells line first → ((told : Option JournalLine) → FitsLine told → Tells line told → first ≡ told)
        → HasRead text new (behind past first)
    read_line first tells only = record {
      lines = read.lines ++ line ∷ [];
      text_is = read.text_is ∙ ap (λ l. read.lines ++ l) next.parts ∙ sym (append_assoc read.lines (line ∷ []) (parts_of new.0));
      number = next.number ∙ ap (λ k. k + 1) read.number ∙ sym (length-append read.lines (line ∷ []));
      tell = tell_more read.lines past line first read.tell tells;
      only_told = λ other fit tell.
          let l = tell_last read.lines line other tell in
          let fits = l.fits fit in
          ap (λ x. behind past x) (only l.last fits.1 l.tells) ∙ ap (λ front. behind front l.last) (read.only_told l.front fits.0 l.tell) ∙ sym l.told_is;
    }

    -- or is faulty
    pub line_fails : (k : LineKind) → Fails line k → FirstFault text (record { line = new.1; kind = k })
    line_fails k fails other = record {
      front = read.lines;
      line = line;
      behind = parts_of new.0;
      parts_are = read.text_is ∙ ap (λ l. read.lines ++ l) next.parts;
      number = next.number ∙ ap (λ m. m + 1) read.number;
      told = past;
      tell = read.tell;
      fails = among (parts_of new.0) refl;
    }
      where
        among : (parts : List (List ℕ)) → parts_of new.0 ≡ parts → FailsBefore parts line k
        among [] none = absurd (omega (arith, length-slice_split is_lf new.0, ap length none))
        among (part ∷ parts) some = fails

  -- all was read
  pub read_all : old.0 ≡ [] → HasNext text old past None
  read_all none = (record { lines = read.lines; text_is = whole; tell = read.tell }, only)
    where
      whole : parts_of text ≡ read.lines ++ [] ∷ []
      whole = read.text_is ∙ ap (λ r. read.lines ++ parts_of r) none

      only : (other : List JournalLine) → AllFit other → IsJournal text other → past ≡ other
      only other fit j =
          let same = append_cancel_right read.lines j.lines ([] ∷ []) (sym whole ∙ j.text_is) in
          read.only_told other fit (subst (λ ls. Tell ls other) (sym same) j.tell)

  -- or what is left has no LF
  pub rest_fails : parts_of old.0 ≡ old.0 ∷ [] → ¬ (old.0 ≡ []) → FirstFault text (record { line = old.1 + 1; kind = unended_kind old.0 })
  rest_fails is some other = record {
    front = read.lines;
    line = old.0;
    behind = [];
    parts_are = read.text_is ∙ ap (λ l. read.lines ++ l) is;
    number = ap (λ m. m + 1) read.number;
    told = past;
    tell = read.tell;
    fails = (some, refl);
  }

pub none_left : (rest : List ℕ) → true ≡ (length rest == 0) → rest ≡ []
none_left [] is = refl
none_left (x ∷ rest) is = absurd (omega (arith, eqb-true (length (x ∷ rest)) 0 (sym is)))

pub some_left : (rest : List ℕ) → false ≡ (length rest == 0) → ¬ (rest ≡ [])
some_left rest is none = let both : false ≡ true = is ∙ ap (λ r. length r == 0) none in cc
