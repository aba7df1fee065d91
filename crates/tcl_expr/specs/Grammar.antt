-- Which expression a text is: a rule for each shape of an expression, with the sentence of the
-- Tcl 8.4 manual, expr(n), that it states. All places are places in the whole text. A token stands at
-- its place, and the next one behind the white space that follows it: "white space may be used
-- between the operands and operators and parentheses; it is ignored". `room` is how many constructs
-- more may be open.
use Rattle.std.specs.Prelude.{◌≡◌, ◌⊎◌, ℕ, zero, suc, ◌+◌, List, [], ◌∷◌, length, slice_range, codes}
use Rattle.std.specs.Prelude.{true, false, ◌||◌, Some, None}
use Rattle.tcl_words.specs.Grammar.{Enclosed, empty_part, SpellsBraces, SpellsPart, SpellsParts}
use Rattle.tcl_words.specs.Places.{stands, starts_variable, closes}
use Rattle.tcl_words.specs.Tree.{Part, plain, Parts, no_parts, and_part, from_to}
use Rattle.tcl_words.specs.declared.places.Closer.TheVariants.{Quote}
use Rattle.tcl_expr.specs.Expression.{Expression, literal, joined, prefixed, row, choice}
use Rattle.tcl_expr.specs.Expression.{More, no_more, more, Cases, no_cases, case}
use Rattle.tcl_expr.specs.ExpressionReading.{prefixed_by, row_of, choice_of}
use Rattle.tcl_expr.specs.Tokens.{white_end, reads_word, digit_stands, number_end, prefix_at, joint_at}
use Rattle.tcl_expr.specs.declared.operator.Op1.{Op1}

-- "As a numeric value": a decimal, octal or hexadecimal number, with all its digits; `true`; `false`
abbrev pub SpellsLiteral : List ℕ → ℕ → ℕ → Type 0
SpellsLiteral text at last =
    (reads_word text at (codes "true") ≡ true) × (last ≡ at + 4)
    ⊎ (reads_word text at (codes "false") ≡ true) × (last ≡ at + 5)
    ⊎ (digit_stands 10 text at ≡ true) × (last ≡ number_end text at)

-- "As a string enclosed in double-quotes": its parts, and an empty one has one empty plain part
abbrev pub SpellsQuoted : ℕ → List ℕ → ℕ → Parts → ℕ → Type 0
SpellsQuoted room text at ps last = (stands text at 34 ≡ true)
    × Enclosed room (λ below close.
    (closes Quote text (at + 1) ≡ true) × (at + 1 ≡ close) × (ps ≡ empty_part (at + 1))
    ⊎ (closes Quote text (at + 1) ≡ false) × SpellsParts below Quote text (at + 1) ps close)
    text 34 last

-- "As a string enclosed in braces": "the characters between the open brace and matching close brace
-- will be used as the operand without any substitutions"
abbrev pub SpellsBraced : ℕ → List ℕ → ℕ → Parts → ℕ → Type 0
SpellsBraced room text at ps last = (stands text at 123 ≡ true)
    × Enclosed room (λ below close.
    (n : ℕ) × (bytes : List ℕ) × SpellsBraces n below text 0 (at + 1) bytes close
    × (ps ≡ and_part (plain (from_to (at + 1) close) bytes) no_parts)) text 125 last

-- "As a Tcl variable, using standard $ notation", and "as a Tcl command enclosed in brackets"
abbrev pub SpellsSubstituted : ℕ → List ℕ → ℕ → Parts → ℕ → Type 0
SpellsSubstituted room text at (and_part p no_parts) last =
    ((stands text at 91 || starts_variable text at) ≡ true) × SpellsPart room Quote text at p last
SpellsSubstituted room text at ps last = ⊥

-- an operand that is one token
abbrev pub SpellsToken : ℕ → List ℕ → ℕ → Expression → ℕ → Type 0
SpellsToken room text at (literal bytes) last =
    SpellsLiteral text at last × (bytes ≡ slice_range text at last)
SpellsToken room text at (joined ps) last =
    SpellsQuoted room text at ps last
    ⊎ SpellsBraced room text at ps last
    ⊎ SpellsSubstituted room text at ps last
SpellsToken room text at e last = ⊥

-- an expression from the place of its first token to that of the token behind it
abbrev pub Spelling : Type 1
Spelling = ℕ → Expression → ℕ → Type 0

-- what an opener at the place encloses, and the byte that closes it
pub record SpellsClosed (Inside : Spelling) (close : ℕ) (text : List ℕ) (at : ℕ) (e : Expression)
    (end : ℕ) : Type 0 where
  pub mid : ℕ
  pub inside : Inside at e mid
  pub is_closed : stands text mid close ≡ true
  pub end_is : end ≡ white_end text (mid + 1)

-- an operand: "parentheses may be used for grouping", or one token
abbrev pub SpellsOperand : ℕ → Spelling → List ℕ → Spelling
SpellsOperand room Inside text at e end =
    (stands text at 40 ≡ true) × SpellsClosed Inside 41 text at e end
    ⊎ ((last : ℕ) × SpellsToken room text at e last × (end ≡ white_end text last))

-- all operators of a row that stand before an operand, the outermost first
abbrev pub SpellsPrefixes : ℕ → List ℕ → ℕ → List Op1 → ℕ → Type 0
SpellsPrefixes k text at [] end = (prefix_at k text at ≡ None) × (at ≡ end)
SpellsPrefixes k text at (op ∷ ops) end =
    (last : ℕ) × (prefix_at k text at ≡ Some (op, last))
    × SpellsPrefixes k text (white_end text last) ops end

-- all operators of a row that follow an operand, each with its right operand: "operators with the same
-- precedence are grouped from left to right"
abbrev pub SpellsMore : ℕ → Spelling → List ℕ → ℕ → More → ℕ → Type 0
SpellsMore k Tighter text at no_more end = (joint_at k text at ≡ None) × (at ≡ end)
SpellsMore k Tighter text at (more joint e rest) end =
    (last mid : ℕ) × (joint_at k text at ≡ Some (joint, last))
    × Tighter (white_end text last) e mid × SpellsMore k Tighter text mid rest end

-- "The valid operators are listed below, grouped in decreasing order of precedence": the operands of a
-- row are those of the tighter row before it. Row 0 is a single operand.
pub record SpellsRow (k : ℕ) (Tighter : Spelling) (text : List ℕ) (at : ℕ) (e : Expression)
    (end : ℕ) : Type 0 where
  pub before : List Op1
  pub start : ℕ
  pub prefixes : SpellsPrefixes k text at before start
  pub first : Expression
  pub mid : ℕ
  pub operand : Tighter start first mid
  pub rest : More
  pub joints : SpellsMore k Tighter text mid rest end
  pub whole : e ≡ row_of (prefixed_by before first) rest

abbrev pub SpellsRows : ℕ → Spelling → List ℕ → Spelling
SpellsRows zero Operand text = Operand
SpellsRows (suc k) Operand text = SpellsRow (suc k) (SpellsRows k Operand text) text

-- "If-then-else, as in C. If x evaluates to non-zero, then the result is the value of y. Otherwise the
-- result is the value of z": what stands between `?` and `:` is enclosed by them, and the last value
-- may be such a choice again.
abbrev pub SpellsCases : Spelling → Spelling → List ℕ → ℕ → Cases → Expression → ℕ → Type 0
SpellsCases Inside Condition text at no_cases last end =
    Condition at last end × (stands text end 63 ≡ false)
SpellsCases Inside Condition text at (case c v cases) last end =
    (ask next : ℕ) × Condition at c ask × (stands text ask 63 ≡ true)
    × SpellsClosed Inside 58 text ask v next × SpellsCases Inside Condition text next cases last end

-- a whole expression, or one that is enclosed
pub record SpellsWhole (room : ℕ) (Inside : Spelling) (text : List ℕ) (at : ℕ) (e : Expression)
    (end : ℕ) : Type 0 where
  pub cases : Cases
  pub last : Expression
  pub chosen : SpellsCases Inside (SpellsRows 13 (SpellsOperand room Inside text) text) text at cases
      last end
  pub whole : e ≡ choice_of cases last

-- behind an opener at the place, which takes one place of the room
abbrev pub SpellsInside : ℕ → List ℕ → Spelling
SpellsInside zero text opener e end = ⊥
SpellsInside (suc room) text opener e end =
    SpellsWhole room (SpellsInside room text) text (white_end text (opener + 1)) e end

-- the text is this expression, in which no more constructs are open at any place than there is room for
abbrev pub SpellsWithin : ℕ → List ℕ → Expression → Type 0
SpellsWithin room text e =
    SpellsWhole room (SpellsInside room text) text (white_end text 0) e (length text)
