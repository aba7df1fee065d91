-- What a script is, apart from where it lies in memory.
use Rattle.std.specs.Prelude.{ℕ, List, Option}
use Rattle.tcl_words.specs.declared.script.Form.{Form}
use Rattle.tcl_words.specs.declared.script.Span.{Span}

-- the bytes from one place up to, and not with, another
abbrev pub from_to : ℕ → ℕ → Span
from_to start end = record { start = start; end = end }

mutual
  -- a piece of a word
  pub data Part : Type 0 where
    plain : Span → List ℕ → Part
    variable : Span → List ℕ → Part
    element : Span → List ℕ → Parts → Part
    bracket : Span → Commands → Part

  pub data Parts : Type 0 where
    no_parts : Parts
    and_part : Part → Parts → Parts

  -- its span, its form, its inner span, its raw bytes and its parts
  pub data Word : Type 0 where
    word : Span → Form → Span → Option (List ℕ) → Parts → Word

  pub data Words : Type 0 where
    no_words : Words
    and_word : Word → Words → Words

  pub data Command : Type 0 where
    command : Span → Words → Command

  pub data Commands : Type 0 where
    no_commands : Commands
    and_command : Command → Commands → Commands
