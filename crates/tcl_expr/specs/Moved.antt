-- An expression that is the same but for its places: those at a place and behind it are moved on.
use Rattle.std.specs.Prelude.{ℕ, ◌+◌, nat_lt, if◌then◌else◌}
use Rattle.tcl_words.specs.Tree.{Part, plain, variable, element, bracket, Parts, no_parts, and_part}
use Rattle.tcl_words.specs.Tree.{Word, word, Words, no_words, and_word, Command, command, Commands}
use Rattle.tcl_words.specs.Tree.{no_commands, and_command, from_to}
use Rattle.tcl_words.specs.declared.script.Span.{Span}
use Rattle.tcl_expr.specs.Expression.{Expression, literal, joined, prefixed, row, choice}
use Rattle.tcl_expr.specs.Expression.{More, no_more, more, Cases, no_cases, case}

-- one that begins at the place or behind it is moved on by so many bytes
abbrev pub moved_span : ℕ → ℕ → Span → Span
moved_span place n span =
    if nat_lt span.start place then span else from_to (n + span.start) (n + span.end)

abbrev mutual
  pub moved_part : ℕ → ℕ → Part → Part
  moved_part place n (plain span bytes) = plain (moved_span place n span) bytes
  moved_part place n (variable span name) = variable (moved_span place n span) name
  moved_part place n (element span name index) =
      element (moved_span place n span) name (moved_parts place n index)
  moved_part place n (bracket span script) =
      bracket (moved_span place n span) (moved_commands place n script)

  pub moved_parts : ℕ → ℕ → Parts → Parts
  moved_parts place n no_parts = no_parts
  moved_parts place n (and_part p ps) = and_part (moved_part place n p) (moved_parts place n ps)

  pub moved_word : ℕ → ℕ → Word → Word
  moved_word place n (word span form inner raw ps) =
      word (moved_span place n span) form (moved_span place n inner) raw (moved_parts place n ps)

  pub moved_words : ℕ → ℕ → Words → Words
  moved_words place n no_words = no_words
  moved_words place n (and_word w ws) = and_word (moved_word place n w) (moved_words place n ws)

  pub moved_command : ℕ → ℕ → Command → Command
  moved_command place n (command span ws) =
      command (moved_span place n span) (moved_words place n ws)

  pub moved_commands : ℕ → ℕ → Commands → Commands
  moved_commands place n no_commands = no_commands
  moved_commands place n (and_command c cs) =
      and_command (moved_command place n c) (moved_commands place n cs)

abbrev mutual
  pub moved : ℕ → ℕ → Expression → Expression
  moved place n (literal bytes) = literal bytes
  moved place n (joined ps) = joined (moved_parts place n ps)
  moved place n (prefixed ops e) = prefixed ops (moved place n e)
  moved place n (row e m) = row (moved place n e) (moved_more place n m)
  moved place n (choice cs e) = choice (moved_cases place n cs) (moved place n e)

  pub moved_more : ℕ → ℕ → More → More
  moved_more place n no_more = no_more
  moved_more place n (more joint e m) = more joint (moved place n e) (moved_more place n m)

  pub moved_cases : ℕ → ℕ → Cases → Cases
  moved_cases place n no_cases = no_cases
  moved_cases place n (case c v cs) =
      case (moved place n c) (moved place n v) (moved_cases place n cs)
