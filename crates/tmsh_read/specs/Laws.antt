-- Laws of the grammar: a text is read in one way, and the place that is told is that of the first
-- token with which no text of the grammar goes on.
use Rattle.std.specs.Prelude.{◌≡◌, ◌⊎◌, ℕ, ◌+◌, true, List, [], ◌∷◌, ◌++◌, drop, Option, Some, None, Result, Ok, Err}
use Rattle.std.specs.Prelude.{option_and_then}
use Rattle.toml.specs.Data.{Members}
use Rattle.tmsh_read.specs.Grammar.{step}
use Rattle.tmsh_read.specs.Reading.{IsFault, Means, Reads, blank, may_end, wants_text}
use Rattle.tmsh_read.specs.Sketch.{Sketch}
use Rattle.tmsh_read.specs.Tokens.{found_in}
use Rattle.tmsh_read.specs.declared.fault.ReadFault.TheVariants.{Form}
use Rattle.tmsh_read.specs.declared.gap.Gap.{Gap}
use Rattle.tmsh_read.specs.declared.token.Found.{Found}
use Rattle.tmsh_read.specs.declared.token.Token.{Token}

-- what was read behind some tokens; none where one of them may not stand where it does
abbrev pub behind : Sketch → List Token → Option Sketch
behind s [] = Some s
behind s (t ∷ ts) = option_and_then (λ next. behind next ts) (step s t)

-- the tokens are a text of the grammar
pub record IsText (tokens : List Token) : Type 0 where
  pub last : Sketch
  pub led : behind blank tokens ≡ Some last
  pub ends : may_end last.next ≡ true

-- some text of the grammar begins with these tokens
abbrev pub GoesOn : List Token → Type 0
GoesOn tokens = (more : List Token) × IsText (tokens ++ more)

-- The token at this place of a text, before which it has these tokens. A token of no bytes is
-- none.
pub record IsTokenAt (text : List ℕ) (place : ℕ) (front : List Token) (token : Token) : Type 0 where
  pub last : Sketch
  pub led : behind blank front ≡ Some last
  pub gap : Gap
  pub from : ℕ
  pub found : Found
  pub found_is : found ≡ found_in (wants_text last.next) gap (drop from text)
  pub place_is : place ≡ from + found.start
  pub token_is : token ≡ found.token

pub record FirstFaulty (text : List ℕ) (place : ℕ) : Type 0 where
  pub front : List Token
  pub token : Token
  pub stands : IsTokenAt text place front token
  pub goes_on : GoesOn front
  pub stops : ¬ (GoesOn (front ++ (token ∷ [])))

-- a text means one table
abbrev pub OneMeaning : Type 0
OneMeaning = (text : List ℕ) (a b : Members) → Means text a → Means text b → a ≡ b

-- a text that means a table has no faulty token
abbrev pub NoFault : Type 0
NoFault = (text : List ℕ) (table : Members) (place : ℕ) → Means text table → ¬ (IsFault text (Form place))
