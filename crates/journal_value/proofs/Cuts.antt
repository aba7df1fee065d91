-- A text cut at its first blank, and its words.
use Rattle.std.proofs.Common.{◌≡◌, ℕ, ◌+◌, ◌-◌, ◌<◌, ◌≤◌, false, List, [], ◌∷◌, ◌++◌, length, take, drop, refl, sym, ap, subst, ◌∙◌, arith}
use Rattle.std.specs.List.{position_or_len, join_with_byte}
use Rattle.std.proofs.lemmas.List.Splits.{slice_split_at, slice_split_none, slice_split_first, length-slice_split}
use Rattle.std.proofs.lemmas.List.{take_rest}
use Rattle.std.proofs.lemmas.List.Elements.{All-from_get_or}
use Rattle.std.proofs.lemmas.List.Sums.{fails_before_first}
use Rattle.journal_text.proofs.Addresses.{Without, as_all}
use Rattle.journal_value.specs.Words.{is_space, words_of}

-- a word before a blank
pub split_clean : (word rest : List ℕ) → Without is_space word → words_of (word ++ 32 ∷ rest) ≡ word ∷ words_of rest
split_clean word rest clean = slice_split_at is_space word 32 rest (as_all is_space word clean) refl

pub split_one : (word : List ℕ) → Without is_space word → words_of word ≡ word ∷ []
split_one word clean = slice_split_none is_space word (as_all is_space word clean)

abbrev pub AllClean : List (List ℕ) → Type 0
AllClean [] = Unit {0}
AllClean (word ∷ words) = Without is_space word × AllClean words

pub split_joined : (word : List ℕ) (words : List (List ℕ)) → AllClean (word ∷ words) → words_of (join_with_byte 32 (word ∷ words)) ≡ word ∷ words
split_joined word [] clean = split_one word clean.0
split_joined word (next ∷ words) clean = split_clean word (join_with_byte 32 (next ∷ words)) clean.0 ∙ ap (λ l. word ∷ l) (split_joined next words clean.1)

-- there is a word at least
some_word : (words : List (List ℕ)) (n : ℕ) → length words ≡ n + 1 → (word : List ℕ) × (more : List (List ℕ)) × (words ≡ word ∷ more)
some_word [] n e = absurd (let no : 0 ≡ n + 1 = e in omega (arith, no))
some_word (word ∷ more) n e = (word, more, refl)

pub begins_words : (text : List ℕ) → (word : List ℕ) × (more : List (List ℕ)) × (words_of text ≡ word ∷ more)
begins_words text = some_word (words_of text) _ (length-slice_split is_space text)

pub join_before : (first word : List ℕ) (more words : List (List ℕ)) → words ≡ word ∷ more → join_with_byte 32 (first ∷ words) ≡ first ++ 32 ∷ join_with_byte 32 words
join_before first word more words e = subst (λ ws. join_with_byte 32 (first ∷ ws) ≡ first ++ 32 ∷ join_with_byte 32 ws) (sym e) refl

-- ---- cut at its first blank

pub cut_some : (text : List ℕ) (at : ℕ) → at ≡ position_or_len is_space text → at < length text → words_of text ≡ take at text ∷ words_of (take (length text - (at + 1)) (drop (at + 1) text))
cut_some text at is within =
    let within_first : position_or_len is_space text < length text = subst (λ n. n < length text) is within in
    let first : words_of text ≡ take (position_or_len is_space text) text ∷ words_of (drop (position_or_len is_space text + 1) text) = slice_split_first is_space text 0 within_first in
    first ∙ ap (λ n. take n text ∷ words_of (drop (n + 1) text)) (sym is) ∙ ap (λ t. take at text ∷ words_of t) (sym (take_rest text (at + 1)))

pub cut_none : (text : List ℕ) (at : ℕ) → at ≡ position_or_len is_space text → length text ≤ at → words_of text ≡ text ∷ []
cut_none text at is over =
    slice_split_none is_space text (All-from_get_or (λ x. is_space x ≡ false) text 0 (λ i within. fails_before_first is_space text i 0 (let first : at ≡ position_or_len is_space text = is in omega arith)))
