-- White space between tokens: a place that lies in no token, and what white space changes there.
use Rattle.std.specs.Prelude.{◌≡◌, ◌⊎◌, ℕ, zero, suc, ◌+◌, ◌<◌, ◌≤◌, List, [], ◌∷◌, ◌++◌, length}
use Rattle.std.specs.Prelude.{true, false, Option}
use mathlib.Core.Logic.{inl, inr}
use Rattle.tcl_words.specs.Places.{stands}
use Rattle.tcl_expr.specs.Expression.{Expression}
use Rattle.tcl_expr.specs.Expression.{More, no_more, more, Cases, no_cases, case}
use Rattle.tcl_expr.specs.Grammar.{Spelling, SpellsOperand, SpellsPrefixes, SpellsMore, SpellsRow}
use Rattle.tcl_expr.specs.Grammar.{SpellsRows, SpellsCases, SpellsWhole, SpellsInside, SpellsWithin}
use Rattle.tcl_expr.specs.Moved.{moved}
use Rattle.tcl_expr.specs.Tokens.{white_end, reads_word, before_row, inside_row}
use Rattle.tcl_expr.specs.declared.operator.Op1.{Op1}

-- the place lies outside what stands from one place to another
abbrev pub OutOf : ℕ → ℕ → ℕ → Type 0
OutOf place at last = (last ≤ place) ⊎ (place ≤ at)

-- and outside each word of a row of operators that stands where one is looked for
abbrev pub OutOfWords : {A : Type 0} → ℕ → List ℕ → ℕ → List (List ℕ × Option A) → Type 0
OutOfWords place text at [] = Unit {0}
OutOfWords place text at (w ∷ ws) =
    (reads_word text at w.0 ≡ true → OutOf place at (at + length w.0))
    × OutOfWords place text at ws

-- A place beside the tokens of an expression, by how the expression is spelled.
abbrev pub Beside : Spelling → Type 1
Beside Spells = (at : ℕ) (e : Expression) (end : ℕ) → Spells at e end → Type 0

abbrev pub BesideOperand : ℕ → (room : ℕ) (Inside : Spelling) → Beside Inside → (text : List ℕ)
    → Beside (SpellsOperand room Inside text)
BesideOperand place room Inside beside text at e end (inl is) = beside at e is.1.mid is.1.inside
BesideOperand place room Inside beside text at e end (inr is) = OutOf place at is.0

abbrev pub BesidePrefixes : ℕ → (k : ℕ) (text : List ℕ) (at : ℕ) (ops : List Op1) (end : ℕ)
    → SpellsPrefixes k text at ops end → Type 0
BesidePrefixes place k text at [] end is = OutOfWords place text at (before_row k)
BesidePrefixes place k text at (op ∷ ops) end is = OutOfWords place text at (before_row k)
    × BesidePrefixes place k text (white_end text is.0) ops end is.2

abbrev pub BesideMore : ℕ → (k : ℕ) (Tighter : Spelling) → Beside Tighter → (text : List ℕ)
    (at : ℕ) (m : More) (end : ℕ) → SpellsMore k Tighter text at m end → Type 0
BesideMore place k Tighter beside text at no_more end is = OutOfWords place text at (inside_row k)
BesideMore place k Tighter beside text at (more joint e rest) end is =
    OutOfWords place text at (inside_row k) × beside (white_end text is.0) e is.1 is.3
    × BesideMore place k Tighter beside text is.1 rest end is.4

abbrev pub BesideRow : ℕ → (k : ℕ) (Tighter : Spelling) → Beside Tighter → (text : List ℕ)
    → Beside (SpellsRow k Tighter text)
BesideRow place k Tighter beside text at e end is =
    BesidePrefixes place k text at is.before is.start is.prefixes
    × beside is.start is.first is.mid is.operand
    × BesideMore place k Tighter beside text is.mid is.rest end is.joints

abbrev pub BesideRows : ℕ → (k : ℕ) (Operand : Spelling) → Beside Operand → (text : List ℕ)
    → Beside (SpellsRows k Operand text)
BesideRows place zero Operand beside text = beside
BesideRows place (suc k) Operand beside text =
    BesideRow place (suc k) (SpellsRows k Operand text) (BesideRows place k Operand beside text) text

abbrev pub BesideCases : (Inside : Spelling) → Beside Inside → (Condition : Spelling)
    → Beside Condition → (text : List ℕ) (at : ℕ) (cs : Cases) (last : Expression) (end : ℕ)
    → SpellsCases Inside Condition text at cs last end → Type 0
BesideCases Inside inside Condition beside text at no_cases last end is = beside at last end is.0
BesideCases Inside inside Condition beside text at (case c v cases) last end is =
    beside at c is.0 is.2 × inside is.0 v is.4.mid is.4.inside
    × BesideCases Inside inside Condition beside text is.1 cases last end is.5

abbrev pub BesideWhole : ℕ → (room : ℕ) (Inside : Spelling) → Beside Inside → (text : List ℕ)
    → Beside (SpellsWhole room Inside text)
BesideWhole place room Inside beside text at e end is =
    BesideCases Inside beside (SpellsRows 13 (SpellsOperand room Inside text) text)
    (BesideRows place 13 (SpellsOperand room Inside text)
    (BesideOperand place room Inside beside text) text) text at is.cases is.last end is.chosen

abbrev pub BesideInside : ℕ → (room : ℕ) (text : List ℕ) → Beside (SpellsInside room text)
BesideInside place zero text opener e end is = ⊥
BesideInside place (suc room) text opener e end is =
    BesideWhole place room (SpellsInside room text) (BesideInside place room text) text
    (white_end text (opener + 1)) e end is

-- a place between tokens: in none of them, and not right behind a backslash, as that of a
-- backslash-newline
pub record Between (place room : ℕ) (text : List ℕ) (e : Expression)
    (is : SpellsWithin room text e) : Type 0 where
  pub beside : BesideWhole place room (SpellsInside room text) (BesideInside place room text) text
      (white_end text 0) e (length text) is
  pub unescaped : (k : ℕ) → suc k ≡ place → stands text k 92 ≡ false

-- "White space may be used between the operands and operators and parentheses; it is ignored": where
-- some is put in anywhere between the tokens, the text is the same expression, in which what stands
-- behind it is moved on
abbrev pub BlanksChangeOnlyPlaces : Type 0
BlanksChangeOnlyPlaces = (room : ℕ) (before blanks behind : List ℕ) (e : Expression)
    → white_end blanks 0 ≡ length blanks → 0 < length blanks
    → (is : SpellsWithin room (before ++ behind) e)
    → Between (length before) room (before ++ behind) e is
    → SpellsWithin room (before ++ (blanks ++ behind))
    (moved (length before) (length blanks) e)
