-- Where the lines of a text stand, by the search for LF.
use Rattle.std.proofs.Common.{◌≡◌, ◌<◌, ◌+◌, ◌-◌, ℕ, suc, Bool, true, false, List, [], ◌∷◌, ◌++◌, length, length-drop, take, drop, slice_index, Some, None, refl, sym, ap, ◌∙◌, arith}
use Rattle.std.proofs.Math.Seq.{drop-cons}
use Rattle.std.proofs.lemmas.List.{get_or-take, length-take-le, take-append-drop}
use Rattle.std.proofs.lemmas.List.Elements.{All-from_get_or}
use Rattle.std.proofs.lemmas.List.Splits.{slice_split_at, slice_split_none}
use Rattle.memchr.specs.Find.{IsFirstByte, is_byte}
use Rattle.journal_value.specs.Journal.{is_lf, parts_of}

no_lf : (b : Bool) → (b ≡ true → ⊥) → b ≡ false
no_lf true not = absurd (not refl)
no_lf false not = refl

cut_at : (text : List ℕ) (at : ℕ) → at < length text → text ≡ take at text ++ slice_index text at ∷ drop (suc at) text
cut_at text at within = sym (ap (λ l. take at text ++ l) (sym (drop-cons text at 0 within)) ∙ take-append-drop at text)

-- up to the first LF stands the first line
pub line_at : (text : List ℕ) (at : ℕ) → IsFirstByte (is_byte 10) text (Some at) → parts_of text ≡ take at text ∷ parts_of (drop (at + 1) text)
line_at text at first =
    let within = first.0.high in
    let long : length (take at text) ≡ at = length-take-le at text (omega (arith, within)) in
    let more : suc at ≡ at + 1 = omega arith in
    let none = All-from_get_or (λ x. is_lf x ≡ false) (take at text) 0
    (λ k l. let below : k < at = omega (arith, long, l) in
    ap is_lf (get_or-take at text k 0 below) ∙ no_lf _ (first.0.before k (omega arith) below)) in
    ap parts_of (cut_at text at within) ∙ slice_split_at is_lf (take at text) (slice_index text at) (drop (suc at) text) none first.1 ∙ ap (λ n. take at text ∷ parts_of (drop n text)) more

-- without any all of it is the last part
pub no_line : (text : List ℕ) → IsFirstByte (is_byte 10) text None → parts_of text ≡ text ∷ []
no_line text none =
    slice_split_none is_lf text (All-from_get_or (λ x. is_lf x ≡ false) text 0 (λ k l. no_lf _ (none k (omega arith) l)))

-- behind it stands less
pub shorter : (text : List ℕ) (at : ℕ) → IsFirstByte (is_byte 10) text (Some at) → length (take (length text - (at + 1)) (drop (at + 1) text)) < length text
shorter text at first =
    let long = length-take-le (length text - (at + 1)) (drop (at + 1) text) (omega (arith, length-drop (at + 1) text)) in
    omega (arith, long, first.0.high)
