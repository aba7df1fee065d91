-- Where a construct ends that stands too deep to be read: a byte, a variable or an escape at a
-- time, with the list of what is open.
use Rattle.std.specs.Prelude.{ℕ, zero, suc, ◌+◌, List, [], ◌∷◌, length, nat_lt, nat_le}
use Rattle.std.specs.Prelude.{Option, Some, None, if◌then◌else◌}
use Rattle.tcl_words.specs.Escapes.{unit}
use Rattle.tcl_words.specs.Places.{stands, opens_name, starts_variable, is_blank, after_blank}
use Rattle.tcl_words.specs.Places.{separates}
use Rattle.tcl_words.specs.Skips.{turns, name_end, brace_end, comment_end}
use Rattle.tcl_words.specs.declared.deep.Inside.{Inside}
use Rattle.tcl_words.specs.declared.deep.Inside.TheVariants.{Gap, Blank, Bare, Quote, Brace, Paren}
use Rattle.tcl_words.specs.declared.deep.Effect.{Effect}
use Rattle.tcl_words.specs.declared.deep.Effect.TheVariants.{On, Opens, Ends}

unfoldable pub past_brace : List ℕ → ℕ → ℕ
past_brace text at = if nat_lt at (length text) then at + 1 else at

-- where a name has ended
unfoldable pub turn_at_variable : List ℕ → Inside → ℕ → Effect × ℕ
turn_at_variable text inside end =
    if stands text end 40 then (Opens inside Paren, end + 1) else (On inside, end)

unfoldable pub turn_at_dollar : List ℕ → Inside → ℕ → Effect × ℕ
turn_at_dollar text inside at =
    if opens_name text at then (On inside, past_brace text (brace_end text (at + 2)))
    else turn_at_variable text inside (name_end text (at + 1))

-- in a word, quoted or bare
unfoldable pub turn_in_word : List ℕ → Inside → ℕ → Effect × ℕ
turn_in_word text inside at =
    if stands text at 91 then (Opens inside Gap, at + 1)
    else (if starts_variable text at then turn_at_dollar text inside at
    else (On inside, (unit text at).1))

-- in a bare word, which a blank, a command's end or the bracket's end ends
unfoldable pub turn_bare : List ℕ → Inside → ℕ → Effect × ℕ
turn_bare text blank at =
    if stands text at 93 then (Ends, at + 1)
    else (if is_blank text at then (On blank, after_blank text at)
    else (if separates text at then (On Gap, at + 1) else turn_in_word text Bare at))

-- where a word may begin
unfoldable pub turn_between : List ℕ → Inside → ℕ → Effect × ℕ
turn_between text blank at =
    if stands text at 34 then (Opens Bare Quote, at + 1)
    else (if stands text at 123 then (Opens Bare Brace, at + 1) else turn_bare text blank at)

-- in braces only braces and backslashes count
unfoldable pub turn_in_braces : List ℕ → ℕ → Effect × ℕ
turn_in_braces text at =
    if stands text at 125 then (Ends, at + 1)
    else (if stands text at 123 then (Opens Brace Brace, at + 1)
    else (On Brace, (unit text at).1))

unfoldable pub turn : List ℕ → Inside → ℕ → Effect × ℕ
turn text Gap at =
    if stands text at 35 then (On Gap, comment_end text (at + 1)) else turn_between text Gap at
turn text Blank at = turn_between text Blank at
turn text Bare at = turn_bare text Blank at
turn text Brace at = turn_in_braces text at
turn text Paren at = if stands text at 41 then (Ends, at + 1) else turn_in_word text Paren at
turn text Quote at = if stands text at 34 then (Ends, at + 1) else turn_in_word text Quote at

-- what is open after a turn, the innermost first
abbrev pub open_after : Effect → List Inside → List Inside
open_after (On inside) outer = inside ∷ outer
open_after (Opens under inside) outer = inside ∷ (under ∷ outer)
open_after Ends outer = outer

-- the place where all that is open has ended, and none where the text ends before that; n is enough
-- turns
unfoldable pub all_end : List ℕ → ℕ → List Inside → ℕ → Option ℕ
all_end text zero all at = None
all_end text (suc n) [] at = Some at
all_end text (suc n) (inside ∷ outer) at =
    if nat_le (length text) at then None
    else all_end text n (open_after (turn text inside at).0 outer) (turn text inside at).1

unfoldable pub deep_end : List ℕ → Inside → ℕ → Option ℕ
deep_end text inside at = all_end text (turns text) (inside ∷ []) at
