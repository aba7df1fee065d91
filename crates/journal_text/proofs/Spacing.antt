-- The words of an event are found again between their blanks.
use Rattle.std.proofs.Common.{◌≡◌, ℕ, List, [], ◌∷◌, ◌++◌, sym, ap, refl, ◌∙◌}
use Rattle.std.proofs.Common.{append_assoc}
use Rattle.std.specs.List.{slice_split}
use Rattle.std.proofs.lemmas.List.{append-nil}
use Rattle.std.proofs.lemmas.List.Splits.{slice_split_at, slice_split_none}
use Rattle.journal_text.specs.Line.{is_blank, spaced, words_of}
use Rattle.journal_text.proofs.Addresses.{Without, as_all}

-- words, each behind a blank
abbrev pub tail : List (List ℕ) → List ℕ
tail [] = []
tail (word ∷ words) = 32 ∷ (word ++ tail words)

pub spaced_tail : (text : List ℕ) (words : List (List ℕ)) → spaced text words ≡ text ++ tail words
spaced_tail text [] = sym (append-nil text)
spaced_tail text (word ∷ words) = spaced_tail (text ++ 32 ∷ word) words ∙ append_assoc text (32 ∷ word) (tail words)

abbrev pub AllWithout : List (List ℕ) → Type 0
AllWithout [] = Unit {0}
AllWithout (word ∷ words) = Without is_blank word × AllWithout words

split_tail : (text : List ℕ) (words : List (List ℕ)) → Without is_blank text → AllWithout words → slice_split is_blank (text ++ tail words) ≡ text ∷ words
split_tail text [] clean all = ap (slice_split is_blank) (append-nil text) ∙ slice_split_none is_blank text (as_all is_blank text clean)
split_tail text (word ∷ words) clean all =
    slice_split_at is_blank text 32 (word ++ tail words) (as_all is_blank text clean) refl ∙ ap (λ l. text ∷ l) (split_tail word words all.0 all.1)

pub words_spaced : (text : List ℕ) (words : List (List ℕ)) → Without is_blank text → AllWithout words → words_of (spaced text words) ≡ text ∷ words
words_spaced text words clean all = ap (slice_split is_blank) (spaced_tail text words) ∙ split_tail text words clean all
