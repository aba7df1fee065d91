-- Words, and commands one after another (Tcl 8.4, Tcl(n): commands in order, each word evaluated
-- once, from the left).
use Rattle.std.specs.Prelude.{ℕ, List, [], ◌∷◌, ◌++◌, length, drop, nat_lt, if◌then◌else◌, sum_by}
use Rattle.px_bytes.specs.FaultText.{too_long}
use Rattle.px_bytes.specs.Limit.{text_limit}
use Rattle.rule_model.specs.Outcome.{State, Outcome, Ends, Meaning, then_value, spend}
use Rattle.rule_model.specs.declared.code.Code.TheVariants.{Value, Raised}

-- After a piece of a word: it stands behind the text so far. A text that is longer with it than a
-- text may be is a fault, before the next piece is evaluated.
abbrev pub after_piece : {H : Type 0} → (List ℕ → Meaning H) → (text : List ℕ) → (path : List ℕ)
    → (piece : List ℕ) → State H → Outcome H
after_piece go text path piece st =
    if nat_lt text_limit (length (text ++ piece)) then Ends (Raised too_long) st
    else go (text ++ piece) path st

-- the pieces of a word behind this text, and then what is done with the whole text
abbrev pub in_word : {H : Type 0} → (List ℕ → Meaning H) → List (Meaning H) → List ℕ → Meaning H
in_word finish [] text path st = finish text path st
in_word finish (m ∷ ms) text path st =
    then_value (m path st) (after_piece (in_word finish ms) text path)

-- the text is the value
abbrev pub told : {H : Type 0} → List ℕ → Meaning H
told text path st = Ends (Value text) st

-- the word of this number, which has these pieces
abbrev pub word_at : {H : Type 0} → ℕ → List (Meaning H) → Meaning H
word_at k pieces path st = in_word told pieces [] (path ++ k ∷ []) st

-- After a word: it stands behind those before it. Words that are longer together with it than a text
-- may be are a fault, before the next word is evaluated.
abbrev pub after_word : {H : Type 0} → (List (List ℕ) → Meaning H) → (done : List (List ℕ))
    → (path : List ℕ) → (word : List ℕ) → State H → Outcome H
after_word go done path word st =
    if nat_lt text_limit (sum_by length (done ++ word ∷ [])) then Ends (Raised too_long) st
    else go (done ++ word ∷ []) path st

-- words in order behind those that are done, and then what is done with all of them
abbrev pub in_order : {H : Type 0} → (List (List ℕ) → Meaning H) → List (Meaning H)
    → List (List ℕ) → Meaning H
in_order finish [] done path st = finish done path st
in_order finish (m ∷ ms) done path st =
    then_value (m path st) (after_word (in_order finish ms) done path)

-- what is done with the words behind a command's name
abbrev pub behind_name : {H : Type 0} → (List (List ℕ) → Meaning H) → List (List ℕ) → Meaning H
behind_name finish words = finish (drop 1 words)

-- commands one after another, each with a unit of budget before its words; v is the last value
abbrev pub commands : {H : Type 0} → List (Meaning H) → List ℕ → Meaning H
commands [] v path st = Ends (Value v) st
commands (m ∷ ms) v path st = spend st (λ s. then_value (m path s) (λ w t. commands ms w path t))
