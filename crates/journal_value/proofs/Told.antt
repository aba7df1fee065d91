-- What lines tell, one line after another.
use Rattle.std.proofs.Common.{◌≡◌, ℕ, List, [], ◌∷◌, ◌++◌, Option, Some, None, refl, sym, ap, subst, ◌∙◌}
use Rattle.journal_value.specs.Journal.{AllFit, FitsLine, Tell, Tells, before, behind}
use Rattle.journal_value.specs.declared.journal.JournalLine.{JournalLine}

behind_before : (first last : Option JournalLine) (rest : List JournalLine) → behind (before first rest) last ≡ before first (behind rest last)
behind_before None last rest = refl
behind_before (Some x) None rest = refl
behind_before (Some x) (Some y) rest = refl

behind_nothing : (last : Option JournalLine) → behind [] last ≡ before last []
behind_nothing None = refl
behind_nothing (Some x) = refl

pub tell_more : (lines : List (List ℕ)) (told : List JournalLine) (text : List ℕ) (last : Option JournalLine) → Tell lines told → Tells text last → Tell (lines ++ text ∷ []) (behind told last)
tell_more [] told text last t s = (last, [], s, refl, ap (λ l. behind l last) t ∙ behind_nothing last)
tell_more (l ∷ lines) told text last t s =
    (t.0, behind t.1 last, t.2, tell_more lines t.1 text last t.3 s, ap (λ l. behind l last) t.4 ∙ behind_before t.0 last t.1)

-- and back: the last line tells something, and those before it the rest
pub record Last (lines : List (List ℕ)) (text : List ℕ) (told : List JournalLine) : Type 0 where
  pub front : List JournalLine
  pub last : Option JournalLine
  pub tell : Tell lines front
  pub tells : Tells text last
  pub told_is : told ≡ behind front last
  pub fits : AllFit told → AllFit front × FitsLine last

fits_before : (first : Option JournalLine) (rest : List JournalLine) → AllFit (before first rest) → FitsLine first × AllFit rest
fits_before None rest h = (tt, h)
fits_before (Some x) rest h = h

before_fits : (first : Option JournalLine) (rest : List JournalLine) → FitsLine first → AllFit rest → AllFit (before first rest)
before_fits None rest h k = k
before_fits (Some x) rest h k = (h, k)

pub tell_last : (lines : List (List ℕ)) (text : List ℕ) (told : List JournalLine) → Tell (lines ++ text ∷ []) told → Last lines text told
tell_last [] text told t = record {
  front = [];
  last = t.0;
  tell = refl;
  tells = t.2;
  told_is = t.4 ∙ ap (before t.0) t.3 ∙ sym (behind_nothing t.0);
  fits = λ h. (tt, (fits_before t.0 t.1 (subst AllFit t.4 h)).0);
}
tell_last (l ∷ lines) text told t =
    let more = tell_last lines text t.1 t.3 in
    record {
      front = before t.0 more.front;
      last = more.last;
      tell = (t.0, more.front, t.2, more.tell, refl);
      tells = more.tells;
      told_is = t.4 ∙ ap (before t.0) more.told_is ∙ sym (behind_before t.0 more.last more.front);
      fits = λ h.
          let parts = fits_before t.0 t.1 (subst AllFit t.4 h) in
          let inner = more.fits parts.1 in
          (before_fits t.0 more.front parts.0 inner.0, inner.1);
    }

-- a line among them tells something that fits
pub record Told (text : List ℕ) : Type 0 where
  pub line : Option JournalLine
  pub tells : Tells text line
  pub fits : FitsLine line

pub tell_among : (front : List (List ℕ)) (text : List ℕ) (more : List (List ℕ)) (told : List JournalLine) → Tell (front ++ text ∷ more) told → AllFit told → Told text
tell_among [] text more told t fit = record { line = t.0; tells = t.2; fits = (fits_before t.0 t.1 (subst AllFit t.4 fit)).0 }
tell_among (l ∷ front) text more told t fit = tell_among front text more t.1 t.3 ((fits_before t.0 t.1 (subst AllFit t.4 fit)).1)
